use Rattle.std.proofs.Common.{refl}
use Rattle.laws_cases.proofs.stores.activations_are_unset.Goals as goal

pub returns : goal.returns
returns c p activation object path = refl
