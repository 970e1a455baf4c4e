use Rattle.laws_types.proofs.InTheText.{programs_stand_in_their_text, decisions_are_in_order}
use Rattle.laws_types.proofs.laws.programs_stand_in_their_text.Goals as goal

pub returns-clause-nodes : goal.returns-clause-nodes
returns-clause-nodes c = programs_stand_in_their_text

pub returns-clause-decisions : goal.returns-clause-decisions
returns-clause-decisions c = decisions_are_in_order
