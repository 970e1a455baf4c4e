use Rattle.tests_report.proofs.Worked.{two_ands}
use Rattle.tests_report.proofs.laws.two_ands.Goals as goal

pub returns : goal.returns
returns c = two_ands
