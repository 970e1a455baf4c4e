use Rattle.tests_report.proofs.Worked.{escaped_reason}
use Rattle.tests_report.proofs.laws.escaped.Goals as goal

pub returns : goal.returns
returns c = escaped_reason
