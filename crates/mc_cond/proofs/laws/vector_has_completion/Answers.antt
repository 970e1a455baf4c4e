use Rattle.mc_cond.proofs.Completions.{own_completion}
use Rattle.mc_cond.proofs.laws.vector_has_completion.Goals as goal

pub returns : goal.returns
returns c = λ t row n. own_completion t row n.in_order
