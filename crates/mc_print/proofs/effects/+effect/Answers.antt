use Rattle.mc_print.proofs.Held.{by}
use Rattle.mc_print.proofs.Wholes.{effect_assign, effect_call, effect_choice, effect_copy, effect_discard, effect_number, effect_output, effect_structure, effect_update}
use Rattle.mc_print.proofs.effects.+effect.Goals as goal

pub returns-in-Assign : goal.returns-in-Assign
returns-in-Assign g t c = λ start first p h.
    by _ _ (effect_assign _ _ _ _ _ c.in-Assign.is) start first p _ _ _
    (c.expression.ensures start first _ (c.place.ensures start first p h))

pub returns-in-Update : goal.returns-in-Update
returns-in-Update g t c = λ start first p h.
    by _ _ (effect_update _ _ _ _ _ _ _ c.in-Update.is) start first p _ _ _
    (c.expression-in-Update.ensures start first _ (c.place-in-Update.ensures start first p h))

pub returns-in-Copy : goal.returns-in-Copy
returns-in-Copy g t c = λ start first p h.
    by _ _ (effect_copy _ _ _ _ _ c.in-Copy.is) start first p _ _ _
    (c.structure.ensures start first _ (c.place-in-Copy.ensures start first p h))

pub returns-in-Number : goal.returns-in-Number
returns-in-Number g t c = λ start first p h.
    by _ _ (effect_number _ _ _ c.in-Number.is) start first p _ _ _
    (c.expression-in-Number.ensures start first p h)

pub returns-in-Structure : goal.returns-in-Structure
returns-in-Structure g t c = λ start first p h.
    by _ _ (effect_structure _ _ _ c.in-Structure.is) start first p _ _ _
    (c.structure-in-Structure.ensures start first p h)

pub returns-in-Call : goal.returns-in-Call
returns-in-Call g t c = λ start first p h.
    by _ _ (effect_call _ _ c.in-Call.is) start first p _ _ _
    (c.call.ensures start first p h)

pub returns-in-Output : goal.returns-in-Output
returns-in-Output g t c = λ start first p h.
    by _ _ (effect_output _ _ _ c.in-Output.is) start first p _ _ _
    (c.expression-in-Output.ensures start first p h)

pub returns-in-Choice : goal.returns-in-Choice
returns-in-Choice g t c = λ start first p h.
    by _ _ (effect_choice _ _ _ _ _ _ _ c.in-Choice.is c.deref.ensures c.deref-in-Choice.ensures) start first p _ _ _
    (c.effect-in-Choice.ensures start first _ (c.effect.ensures start first _ (c.expression-in-Choice.ensures start first p h)))

pub returns-in-Discard : goal.returns-in-Discard
returns-in-Discard g t c = λ start first p h.
    by _ _ (effect_discard _ _ _ _ c.in-Discard.is c.deref-in-Discard.ensures) start first p _ _ _
    (c.effect-in-Discard.ensures start first p h)
