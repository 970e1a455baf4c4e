use Rattle.mc_masking.proofs.Chosen.{chosen_by, least_first, least_second, none_before}
use Rattle.mc_masking.proofs.laws.chosen_least.Goals as goal

pub returns : goal.returns
returns c = λ t seen k first second n. (
  λ c. (c.paired.v.outcome, least_first t k n seen first second c, least_second t k n seen first second c, none_before t k n seen first second c),
  λ h. chosen_by t k n seen first second h.0 h.1 h.2 h.3,
)
