use Rattle.std.proofs.Common.{refl}
use Rattle.types_scopes.proofs.laws.blocks_end_as_defined.Goals as goal

pub returns-clause-blocks : goal.returns-clause-blocks
returns-clause-blocks c = λ outer inner. refl

pub returns-clause-functions : goal.returns-clause-functions
returns-clause-functions c = λ file inner. refl
