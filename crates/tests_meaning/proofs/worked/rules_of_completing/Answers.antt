use Rattle.std.specs.Prelude.{refl}
use Rattle.tests_meaning.proofs.worked.rules_of_completing.Goals as goal

pub returns-clause-branches : goal.returns-clause-branches
returns-clause-branches c = refl

pub returns-clause-loops : goal.returns-clause-loops
returns-clause-loops c = refl

pub returns-clause-tests : goal.returns-clause-tests
returns-clause-tests c = refl

pub returns-clause-cases : goal.returns-clause-cases
returns-clause-cases c = refl
