use Rattle.std.specs.Prelude.{refl}
use Rattle.tests_meaning.proofs.worked.rules_of_endings.Goals as goal

pub returns-clause-rows : goal.returns-clause-rows
returns-clause-rows c = refl

pub returns-clause-large : goal.returns-clause-large
returns-clause-large c = refl

pub returns-clause-unit : goal.returns-clause-unit
returns-clause-unit c = refl

pub returns-clause-first : goal.returns-clause-first
returns-clause-first c = refl
