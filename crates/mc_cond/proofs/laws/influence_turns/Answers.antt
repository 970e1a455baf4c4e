use Rattle.std.proofs.Common.{false}
use Rattle.mc_cond.proofs.Turning.{outcome_turns}
use Rattle.mc_cond.proofs.laws.influence_turns.Goals as goal

pub returns : goal.returns
returns c = λ t k v w short n is_v is_w on off. outcome_turns t k v w short n is_v is_w false on off
