use Rattle.std.proofs.Common.{refl}
use Rattle.laws_cases.proofs.type_tables.tables_are_told.Goals as goal

pub returns-clause-promoted : goal.returns-clause-promoted
returns-clause-promoted c = refl

pub returns-clause-labels : goal.returns-clause-labels
returns-clause-labels c = refl

pub returns-clause-names : goal.returns-clause-names
returns-clause-names c = refl

pub returns-clause-calls : goal.returns-clause-calls
returns-clause-calls c = refl

pub returns-clause-statements : goal.returns-clause-statements
returns-clause-statements c = refl

pub returns-clause-effects : goal.returns-clause-effects
returns-clause-effects c = refl
