use Rattle.mc_report.proofs.Judging.{reported}
use Rattle.mc_report.proofs.laws.verdicts_are_reported.Goals as goal

pub returns : goal.returns
returns c = reported
