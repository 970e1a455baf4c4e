use Rattle.mc_report.proofs.Floats.{no_float}
use Rattle.mc_report.proofs.laws.reports_have_no_float.Goals as goal

pub returns : goal.returns
returns c = no_float
