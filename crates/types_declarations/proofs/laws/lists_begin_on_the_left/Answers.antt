use Rattle.types_declarations.proofs.DeclarationNodes.{specifiers_step, lengths_step, parameters_step}
use Rattle.types_declarations.proofs.laws.lists_begin_on_the_left.Goals as goal

pub returns-clause-specifiers : goal.returns-clause-specifiers
returns-clause-specifiers c = specifiers_step

pub returns-clause-lengths : goal.returns-clause-lengths
returns-clause-lengths c = lengths_step

pub returns-clause-parameters : goal.returns-clause-parameters
returns-clause-parameters c = λ x y z. parameters_step x y z
