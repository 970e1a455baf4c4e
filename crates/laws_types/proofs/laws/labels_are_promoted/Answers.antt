use Rattle.std.specs.Prelude.{refl}
use Rattle.laws_types.proofs.laws.labels_are_promoted.Goals as goal

pub returns : goal.returns
returns c = refl
