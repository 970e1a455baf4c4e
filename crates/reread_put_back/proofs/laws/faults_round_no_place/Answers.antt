use Rattle.std.proofs.Common.{refl}
use Rattle.reread_put_back.proofs.laws.faults_round_no_place.Goals as goal

pub returns-clause-path : goal.returns-clause-path
returns-clause-path c = refl

pub returns-clause-place : goal.returns-clause-place
returns-clause-place c = refl
