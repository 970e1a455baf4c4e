use Rattle.tests_report.proofs.Worked.{limits}
use Rattle.tests_report.proofs.laws.limits.Goals as goal

pub returns : goal.returns
returns c = limits
