use Rattle.tests_list.proofs.Worked.{flap_listed}
use Rattle.tests_list.proofs.laws.flap.Goals as goal

pub returns : goal.returns
returns c = flap_listed
