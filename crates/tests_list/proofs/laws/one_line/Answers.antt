use Rattle.tests_list.proofs.Worked.{one_line}
use Rattle.tests_list.proofs.laws.one_line.Goals as goal

pub returns : goal.returns
returns c = one_line
