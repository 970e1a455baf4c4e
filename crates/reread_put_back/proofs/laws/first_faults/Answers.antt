use Rattle.std.proofs.Common.{refl}
use Rattle.reread_put_back.proofs.laws.first_faults.Goals as goal

pub returns-clause-register : goal.returns-clause-register
returns-clause-register c = refl

pub returns-clause-place : goal.returns-clause-place
returns-clause-place c = refl
