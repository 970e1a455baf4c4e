use Rattle.types_declarations.proofs.Halves.{automatic_halves, static_halves}
use Rattle.types_declarations.proofs.BodyHalves.{definition_halves}
use Rattle.types_declarations.proofs.laws.declarations_come_in_halves.Goals as goal

pub returns-clause-automatic : goal.returns-clause-automatic
returns-clause-automatic c = automatic_halves

pub returns-clause-stored : goal.returns-clause-stored
returns-clause-stored c = static_halves

pub returns-clause-definition : goal.returns-clause-definition
returns-clause-definition c = definition_halves
