use Rattle.tests_report.proofs.Worked.{reasons}
use Rattle.tests_report.proofs.laws.reasons.Goals as goal

pub returns : goal.returns
returns c = reasons
