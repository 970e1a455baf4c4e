use Rattle.laws_functions.proofs.Same.{same_status}
use Rattle.laws_functions.proofs.laws.status_is_reports.Goals as goal

pub returns : goal.returns
returns c = λ r same. same_status r same
