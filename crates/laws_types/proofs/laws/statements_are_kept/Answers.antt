use Rattle.std.specs.Prelude.{refl}
use Rattle.laws_types.proofs.laws.statements_are_kept.Goals as goal

pub returns : goal.returns
returns c = refl
