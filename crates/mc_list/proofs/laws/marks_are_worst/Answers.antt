use Rattle.mc_list.proofs.Worst.{is_worst}
use Rattle.mc_list.proofs.laws.marks_are_worst.Goals as goal

pub returns : goal.returns
returns c = λ os vs line. is_worst os vs line
