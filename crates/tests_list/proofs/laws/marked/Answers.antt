use Rattle.tests_list.proofs.Worked.{marked}
use Rattle.tests_list.proofs.laws.marked.Goals as goal

pub returns : goal.returns
returns c = marked
