use Rattle.std.specs.Prelude.{refl}
use Rattle.laws_types.proofs.laws.whole_effects_use_no_value.Goals as goal

pub returns : goal.returns
returns c = refl
