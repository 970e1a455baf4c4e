use Rattle.mc_cond.proofs.Rows.{takes_either}
use Rattle.mc_cond.proofs.laws.operand_takes_either.Goals as goal

pub returns : goal.returns
returns c = λ first t outcome n. takes_either t first n outcome
