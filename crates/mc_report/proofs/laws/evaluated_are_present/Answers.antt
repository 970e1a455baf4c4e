use Rattle.mc_report.proofs.Present.{present}
use Rattle.mc_report.proofs.laws.evaluated_are_present.Goals as goal

pub returns : goal.returns
returns c = present
