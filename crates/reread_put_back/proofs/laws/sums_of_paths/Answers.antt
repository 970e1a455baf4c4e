use Rattle.std.proofs.Common.{refl}
use Rattle.reread_put_back.proofs.laws.sums_of_paths.Goals as goal

pub returns-clause-conjunction : goal.returns-clause-conjunction
returns-clause-conjunction c = refl

pub returns-clause-difference : goal.returns-clause-difference
returns-clause-difference c = refl
