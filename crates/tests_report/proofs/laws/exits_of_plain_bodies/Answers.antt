use Rattle.tests_report.proofs.Worked.{plain_bodies}
use Rattle.tests_report.proofs.laws.exits_of_plain_bodies.Goals as goal

pub returns : goal.returns
returns c = plain_bodies
