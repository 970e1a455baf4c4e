use Rattle.types_declarations.proofs.Growth.{prototype_left, names_before, uncalled_cut}
use Rattle.types_declarations.proofs.laws.parameters_leave_nothing.Goals as goal

pub returns-clause-left : goal.returns-clause-left
returns-clause-left c = prototype_left

pub returns-clause-names : goal.returns-clause-names
returns-clause-names c = names_before

pub returns-clause-objects : goal.returns-clause-objects
returns-clause-objects c = uncalled_cut
