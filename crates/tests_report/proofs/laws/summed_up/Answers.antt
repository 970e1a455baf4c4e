use Rattle.tests_report.proofs.Worked.{summed_up}
use Rattle.tests_report.proofs.laws.summed_up.Goals as goal

pub returns : goal.returns
returns c = summed_up
