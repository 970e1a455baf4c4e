use Rattle.tests_report.proofs.Worked.{two_ors}
use Rattle.tests_report.proofs.laws.two_ors.Goals as goal

pub returns : goal.returns
returns c = two_ors
