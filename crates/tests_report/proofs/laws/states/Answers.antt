use Rattle.tests_report.proofs.Worked.{states}
use Rattle.tests_report.proofs.laws.states.Goals as goal

pub returns : goal.returns
returns c = states
