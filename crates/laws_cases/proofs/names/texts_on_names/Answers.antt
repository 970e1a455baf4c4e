use Rattle.std.proofs.Common.{refl}
use Rattle.laws_cases.proofs.names.texts_on_names.Goals as goal

pub returns : goal.returns
returns c = refl
