use Rattle.std.proofs.Common.{◌∙◌}
use Rattle.mc_functions.proofs.Adding.{added_up}
use Rattle.laws_functions.specs.Reports.{measured}
use Rattle.laws_functions.proofs.Same.{same_count}
use Rattle.laws_functions.proofs.laws.functions_are_reports.Goals as goal

pub returns : goal.returns
returns c = λ r kind reported state same some. added_up (measured r) kind state some ∙ same_count kind reported state same r.obligations r.verdicts
