use Rattle.tests_report.proofs.Worked.{statements_that_count}
use Rattle.tests_report.proofs.laws.statements_that_count.Goals as goal

pub returns : goal.returns
returns c = statements_that_count
