use Rattle.std.proofs.Common.{refl, arith}
use Rattle.laws_cases.proofs.Tables.{and_is_not_or, long_constant}
use Rattle.laws_cases.proofs.types.tables_are_whole.Goals as goal

pub returns-clause-pairs : goal.returns-clause-pairs
returns-clause-pairs c = (refl, (81, omega arith, refl), (114, omega arith, refl))

pub returns-clause-operators : goal.returns-clause-operators
returns-clause-operators c = and_is_not_or

pub returns-clause-constants : goal.returns-clause-constants
returns-clause-constants c = long_constant

pub returns-clause-levels : goal.returns-clause-levels
returns-clause-levels c = (refl, refl)
