use Rattle.mc_cond.proofs.Completions.{completion_outcome}
use Rattle.mc_cond.proofs.laws.completion_has_outcome.Goals as goal

pub returns : goal.returns
returns c = λ t v row n. completion_outcome t v row n.in_order
