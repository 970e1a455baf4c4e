use Rattle.std.proofs.Common.{refl}
use Rattle.std.specs.Fmt.{digits}
use Rattle.mc_gen.proofs.worked.tests_of_one.Goals as goal

pub returns : goal.returns
unfolding digits
returns c = refl
