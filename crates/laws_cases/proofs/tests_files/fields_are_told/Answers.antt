use Rattle.std.proofs.Common.{refl}
use Rattle.laws_cases.proofs.tests_files.fields_are_told.Goals as goal

pub returns-clause-header : goal.returns-clause-header
returns-clause-header c = (refl, refl)

pub returns-clause-expect : goal.returns-clause-expect
returns-clause-expect c value = refl
