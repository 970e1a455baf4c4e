use Rattle.tests_list.proofs.Worked.{line_ends}
use Rattle.tests_list.proofs.laws.line_ends.Goals as goal

pub returns : goal.returns
returns c = line_ends
