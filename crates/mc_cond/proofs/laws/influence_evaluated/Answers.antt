use Rattle.mc_cond.proofs.Flips.{evaluated_with}
use Rattle.mc_cond.proofs.laws.influence_evaluated.Goals as goal

pub returns : goal.returns
returns c = λ t k v n is h. evaluated_with t k v h.row n is h.completion h.changes
