use Rattle.tests_report.proofs.Worked.{all_met}
use Rattle.tests_report.proofs.laws.all_met.Goals as goal

pub returns : goal.returns
returns c = all_met
