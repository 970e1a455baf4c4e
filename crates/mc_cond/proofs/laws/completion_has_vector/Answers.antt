use Rattle.mc_cond.proofs.Completions.{completion_vector}
use Rattle.mc_cond.proofs.laws.completion_has_vector.Goals as goal

pub returns : goal.returns
returns c = λ t v row n. completion_vector t v row n.in_order
