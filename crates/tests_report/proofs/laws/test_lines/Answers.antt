use Rattle.tests_report.proofs.Worked.{test_lines}
use Rattle.tests_report.proofs.laws.test_lines.Goals as goal

pub returns : goal.returns
returns c = test_lines
