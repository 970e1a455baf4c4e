use Rattle.tests_report.proofs.Worked.{ids}
use Rattle.tests_report.proofs.laws.ids.Goals as goal

pub returns : goal.returns
returns c = ids
