use Rattle.std.proofs.Common.{refl}
use Rattle.reread_put_back.proofs.laws.function_with_probes.Goals as goal

pub returns : goal.returns
returns c = refl
