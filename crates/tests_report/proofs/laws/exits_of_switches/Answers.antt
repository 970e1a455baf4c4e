use Rattle.tests_report.proofs.Worked.{switch_bodies}
use Rattle.tests_report.proofs.laws.exits_of_switches.Goals as goal

pub returns : goal.returns
returns c = switch_bodies
