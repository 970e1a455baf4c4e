use Rattle.std.specs.Prelude.{refl}
use Rattle.laws_types.proofs.laws.one_is_promoted.Goals as goal

pub returns : goal.returns
returns c = refl
