use Rattle.laws_reread_cases.proofs.probes.operand_of_a_decision.Goals as goal

pub returns : goal.returns
returns c = c.decision_is_no_assignment.ensures.1
