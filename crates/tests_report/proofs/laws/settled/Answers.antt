use Rattle.tests_report.proofs.Worked.{settled}
use Rattle.tests_report.proofs.laws.settled.Goals as goal

pub returns : goal.returns
returns c = settled
