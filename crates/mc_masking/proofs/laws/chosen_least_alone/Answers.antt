use Rattle.mc_masking.proofs.Chosen.{chosen_alone, first_alone, second_alone}
use Rattle.mc_masking.proofs.laws.chosen_least_alone.Goals as goal

pub returns : goal.returns
returns c = λ t seen k first second short n. (
  λ c. (first_alone t k n seen first second short c, second_alone t k n seen first second short c),
  λ h. chosen_alone t k n seen first second short h.0 h.1,
)
