use Rattle.mc_value.proofs.Results.{unsigned_wraps}
use Rattle.mc_value.proofs.laws.unsigned_results_wrap.Goals as goal

pub returns : goal.returns
returns c = unsigned_wraps
