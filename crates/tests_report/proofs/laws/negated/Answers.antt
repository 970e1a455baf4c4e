use Rattle.tests_report.proofs.Worked.{negated}
use Rattle.tests_report.proofs.laws.negated.Goals as goal

pub returns : goal.returns
returns c = negated
