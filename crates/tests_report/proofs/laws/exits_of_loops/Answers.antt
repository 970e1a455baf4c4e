use Rattle.tests_report.proofs.Worked.{loop_bodies}
use Rattle.tests_report.proofs.laws.exits_of_loops.Goals as goal

pub returns : goal.returns
returns c = loop_bodies
