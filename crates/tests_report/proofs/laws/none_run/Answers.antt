use Rattle.tests_report.proofs.Worked.{none_run}
use Rattle.tests_report.proofs.laws.none_run.Goals as goal

pub returns : goal.returns
returns c = none_run
