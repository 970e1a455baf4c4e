use Rattle.mc_print.proofs.Held.{by}
use Rattle.mc_print.proofs.Lists.{argument_act, all_arguments, begin, next, finish}
use Rattle.mc_print.proofs.Shapes.{argument_again, argument_array, argument_number, argument_structure, expression_binary, expression_call, expression_choice, expression_constant, expression_convert, expression_input, expression_logic, expression_not, expression_probe, expression_read, expression_unary, place_item, place_local, place_member, place_parameter, place_static, structure_returned, structure_stored}
use Rattle.mc_print.proofs.expressions.+write.Goals as goal

pub place-returns-in-Parameter : goal.place-returns-in-Parameter
place-returns-in-Parameter g t c = λ start first p h.
    by _ _ (place_parameter _ _ _ _ _ _ c.in-Parameter.is c.deref.ensures) start first p _ _ _
    (c.expression.ensures start first p h)

pub place-returns-in-Item : goal.place-returns-in-Item
place-returns-in-Item g t c = λ start first p h.
    by _ _ (place_item _ _ _ _ _ _ _ _ c.in-Item.is c.deref-in-Item.ensures c.deref-in-Item-2.ensures) start first p _ _ _
    (c.expression-in-Item.ensures start first _ (c.place.ensures start first p h))

pub place-returns-in-Member : goal.place-returns-in-Member
place-returns-in-Member g t c = λ start first p h.
    by _ _ (place_member _ _ _ _ _ _ c.in-Member.is c.deref-in-Member.ensures) start first p _ _ _
    (c.place-in-Member.ensures start first p h)

pub expression-returns-in-Read : goal.expression-returns-in-Read
expression-returns-in-Read g t c = λ start first p h.
    by _ _ (expression_read _ _ _ c.in-Read.is) start first p _ _ _
    (c.place.ensures start first p h)

pub expression-returns-in-Unary : goal.expression-returns-in-Unary
expression-returns-in-Unary g t c = λ start first p h.
    by _ _ (expression_unary _ _ _ _ _ _ c.in-Unary.is c.deref.ensures) start first p _ _ _
    (c.expression.ensures start first p h)

pub expression-returns-in-Convert : goal.expression-returns-in-Convert
expression-returns-in-Convert g t c = λ start first p h.
    by _ _ (expression_convert _ _ _ _ _ _ c.in-Convert.is c.deref-in-Convert.ensures) start first p _ _ _
    (c.expression-in-Convert.ensures start first p h)

pub expression-returns-in-Not : goal.expression-returns-in-Not
expression-returns-in-Not g t c = λ start first p h.
    by _ _ (expression_not _ _ _ _ c.in-Not.is c.deref-in-Not.ensures) start first p _ _ _
    (c.expression-in-Not.ensures start first p h)

pub expression-returns-in-Binary : goal.expression-returns-in-Binary
expression-returns-in-Binary g t c = λ start first p h.
    by _ _ (expression_binary _ _ _ _ _ _ _ _ c.in-Binary.is c.deref-in-Binary.ensures c.deref-in-Binary-2.ensures) start first p _ _ _
    (c.expression-in-Binary-2.ensures start first _ (c.expression-in-Binary.ensures start first p h))

pub expression-returns-in-Logic : goal.expression-returns-in-Logic
expression-returns-in-Logic g t c = λ start first p h.
    by _ _ (expression_logic _ _ _ _ _ _ _ c.in-Logic.is c.deref-in-Logic.ensures c.deref-in-Logic-2.ensures) start first p _ _ _
    (c.expression-in-Logic-2.ensures start first _ (c.expression-in-Logic.ensures start first p h))

pub expression-returns-in-Choice : goal.expression-returns-in-Choice
expression-returns-in-Choice g t c = λ start first p h.
    by _ _ (expression_choice _ _ _ _ _ _ _ _ _ c.in-Choice.is c.deref-in-Choice.ensures c.deref-in-Choice-2.ensures c.deref-in-Choice-3.ensures) start first p _ _ _
    (c.expression-in-Choice-3.ensures start first _ (c.expression-in-Choice-2.ensures start first _ (c.expression-in-Choice.ensures start first p h)))

pub expression-returns-in-Call : goal.expression-returns-in-Call
expression-returns-in-Call g t c = λ start first p h.
    by _ _ (expression_call _ _ _ c.in-Call.is) start first p _ _ _
    (c.call.ensures start first p h)

pub expression-returns-in-Probe : goal.expression-returns-in-Probe
expression-returns-in-Probe g t c = λ start first p h.
    by _ _ (expression_probe _ _ _ _ c.in-Probe.is c.deref-inner.ensures) start first p _ _ _
    (c.close.ensures start first _ (c.expression-in-Probe.ensures start first _ (c.«open».ensures start first p h)))

pub structure-returns-in-Stored : goal.structure-returns-in-Stored
structure-returns-in-Stored g t c = λ start first p h.
    by _ _ (structure_stored _ _ c.in-Stored.is) start first p _ _ _
    (c.place.ensures start first p h)

pub structure-returns-in-Returned : goal.structure-returns-in-Returned
structure-returns-in-Returned g t c = λ start first p h.
    by _ _ (structure_returned _ _ c.in-Returned.is) start first p _ _ _
    (c.call.ensures start first p h)

pub argument-returns-in-Number : goal.argument-returns-in-Number
argument-returns-in-Number g t c = λ start first p h.
    by _ _ (argument_number _ _ c.in-Number.is) start first p _ _ _
    (c.expression.ensures start first p h)

pub argument-returns-in-Structure : goal.argument-returns-in-Structure
argument-returns-in-Structure g t c = λ start first p h.
    by _ _ (argument_structure _ _ _ c.in-Structure.is) start first p _ _ _
    (c.structure.ensures start first p h)

pub argument-returns-in-Array : goal.argument-returns-in-Array
argument-returns-in-Array g t c = λ start first p h.
    by _ _ (argument_array _ _ _ c.in-Array.is) start first p _ _ _
    (c.place.ensures start first p h)

pub place-returns-in-Local : goal.place-returns-in-Local
place-returns-in-Local g t c = λ start first p h. by _ _ (place_local _ _ _ c.in-Local.is) start first p _ _ _ h

pub place-returns-in-Static : goal.place-returns-in-Static
place-returns-in-Static g t c = λ start first p h. by _ _ (place_static _ _ _ c.in-Static.is) start first p _ _ _ h

pub expression-returns-in-Constant : goal.expression-returns-in-Constant
expression-returns-in-Constant g t c = λ start first p h. by _ _ (expression_constant _ _ _ _ c.in-Constant.is) start first p _ _ _ h

pub expression-returns-in-Input : goal.expression-returns-in-Input
expression-returns-in-Input g t c = λ start first p h. by _ _ (expression_input _ _ c.in-Input.is) start first p _ _ _ h

pub argument-returns-in-Again : goal.argument-returns-in-Again
argument-returns-in-Again g t c = λ start first p h. by _ _ (argument_again _ _ _ c.in-Again.is) start first p _ _ _ h

pub arguments-loop-tree-init : goal.arguments-loop-tree-init
arguments-loop-tree-init g t c = begin argument_act c.args.trees.now _ _ _

pub arguments-loop-tree-preserved : goal.arguments-loop-tree-preserved
arguments-loop-tree-preserved g t c =
    next argument_act c.args.trees.now c.loop-tree.tree-index c.tree-item.result _ _ _ _ _ _ _ _ _ c.loop-tree-test.true c.tree-item.is c.argument.ensures c.loop-tree.invariant

pub arguments-returns : goal.arguments-returns
arguments-returns g t c =
    finish argument_act c.args.trees.now c.loop-tree.tree-index _ _ _ _ _ _ _ c.loop-tree-test.false (all_arguments c.args.trees.now) c.loop-tree.invariant
