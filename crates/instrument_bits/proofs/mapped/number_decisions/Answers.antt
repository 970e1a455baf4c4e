use Rattle.std.proofs.Common.{rules}
use Rattle.std.proofs.lemmas.List.{nil_from_length}
use Rattle.instrument_bits.proofs.Numbering.{all_based, all_bits, all_few, begins, is_ready, numbers, refuses}
use Rattle.instrument_bits.proofs.mapped.number_decisions.Goals as goal

pub loop-decision-init : goal.loop-decision-init
loop-decision-init c = begins _ _ _ _ (search rules) (search rules) c.requires (search rules)

pub add-requires : goal.add-requires
add-requires c = is_ready _ _ _ _ _ _ _ c.in-Some.ensures.items c.loop-decision.invariant

pub loop-decision-preserved : goal.loop-decision-preserved
loop-decision-preserved c =
    numbers _ _ _ _ _ _ _ _ _ c.in-Some.ensures.items c.in-Ok.ensures.few c.in-Ok.ensures.bits c.in-Ok.ensures.based c.loop-decision.invariant

pub returns-in-Err-clause-refused : goal.returns-in-Err-clause-refused
returns-in-Err-clause-refused c =
    refuses _ _ _ _ _ _ _ _ c.in-Some.ensures.items c.in-Err.ensures.refused c.loop-decision.invariant

pub returns-clause-few : goal.returns-clause-few
returns-clause-few c = all_few _ _ _ _ _ (search (rules, nil_from_length)) c.loop-decision.invariant

pub returns-clause-bits : goal.returns-clause-bits
returns-clause-bits c = all_bits _ _ _ _ _ (search (rules, nil_from_length)) c.loop-decision.invariant

pub returns-clause-based : goal.returns-clause-based
returns-clause-based c = all_based _ _ _ _ _ (search (rules, nil_from_length)) c.loop-decision.invariant
