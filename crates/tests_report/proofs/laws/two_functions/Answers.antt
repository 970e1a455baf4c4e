use Rattle.tests_report.proofs.Worked.{two_functions}
use Rattle.tests_report.proofs.laws.two_functions.Goals as goal

pub returns : goal.returns
returns c = two_functions
