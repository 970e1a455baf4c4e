use Rattle.tests_report.proofs.Worked.{failed}
use Rattle.tests_report.proofs.laws.failed.Goals as goal

pub returns : goal.returns
returns c = failed
