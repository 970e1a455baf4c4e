use Rattle.std.proofs.Common.{◌≡◌, ◌∙◌, ap, sym, subst, IfOk}
use Rattle.mc_typed.specs.declared.expressions.Expression.{Expression}
use Rattle.mc_typed.specs.declared.expressions.Place.{Place}
use Rattle.mc_typed.specs.Views.{expression_of}
use Rattle.decide_rules.specs.declared.role.Role.TheVariants.{Controlling, Inner, Plain}
use Rattle.decide_rules.specs.Nodes as n
use Rattle.decide_rules.specs.Roots.{is_constant}
use Rattle.decide_walk.specs.steps.Gathering.{gathered_of, inside, role_under, visited}
use Rattle.decide_walk.proofs.Shapes.{node, constant_node, input_node, read_node, call_node}
use Rattle.mc_decide.proofs.Gathers.{settles}
use Rattle.mc_decide.proofs.Steps.{if_as, then_found, one_constant, both_constant, three_constant}
use Rattle.mc_decide.proofs.Operands.{is_not, is_binary, same_full, both_walked, both_settled, is_logic, is_choice, is_probe, carried_found, carried_constant}
use Rattle.mc_decide.proofs.Places.{place, structure, argument, parameter_place, item_place, member_place, stored_structure, returned_structure, number_argument, structure_argument, array_argument, again_argument}
use Rattle.mc_decide.proofs.roots.expressions.+walk.Goals as goal

pub expression-returns-clause-found : goal.expression-returns-clause-found
expression-returns-clause-found t c =
    settles (gathered_of c.args.found.now) (gathered_of c.operands.new.found) (gathered_of c.settle.new.found) c.args.role
    (n.expression (expression_of c.args.tree.now)) c.mark_of-before.result.count c.mark_of-before.result.fault c.in_ok-constant.constant
    c.mark_of-before.ensures.count c.mark_of-before.ensures.fault
    (c.in_ok-constant.ensures.found ∙ ap (inside (n.expression (expression_of c.args.tree.now))) c.in_ok-enter.ensures)
    c.in_ok-constant.ensures.constant c.settle.ensures

pub operands-returns-in-Not-clause-found : goal.operands-returns-in-Not-clause-found
operands-returns-in-Not-clause-found t c =
    let e = is_not c.args.tree.now c.deref.result.now c.in-Not.operand c.in-Not.span c.in-Not.is c.deref.ensures in
    subst (λ (a : n.Node). IfOk c.expression.result (λ _. gathered_of c.expression.new.found ≡ inside a (gathered_of c.args.found.now))) (sym e)
    (c.expression.ensures.found)

pub operands-returns-in-Not-clause-constant : goal.operands-returns-in-Not-clause-constant
operands-returns-in-Not-clause-constant t c =
    let e = is_not c.args.tree.now c.deref.result.now c.in-Not.operand c.in-Not.span c.in-Not.is c.deref.ensures in
    subst (λ (a : n.Node). IfOk c.expression.result (λ b. b ≡ is_constant a)) (sym e)
    (c.expression.ensures.constant)

pub operands-returns-in_ok-constant-in-Binary-clause-found : goal.operands-returns-in_ok-constant-in-Binary-clause-found
operands-returns-in_ok-constant-in-Binary-clause-found t c =
    both_walked c.further.result (n.full_operator c.in-Binary.operator (expression_of c.deref-in-Binary-3.result.now) (expression_of c.deref-in-Binary-4.result.now)) c.operand_role-role.result c.in-Binary.operator
    (node c.args.tree.now) (node c.deref-in-Binary-3.result.now) (node c.deref-in-Binary-4.result.now) c.in-Binary.span
    (gathered_of c.args.found.now) (gathered_of c.expression-in-Binary.new.found) (gathered_of c.further.new.found)
    (is_binary c.args.tree.now c.deref-in-Binary-3.result.now c.deref-in-Binary-4.result.now c.in-Binary.operator c.in-Binary.of c.in-Binary.left c.in-Binary.right c.in-Binary.span c.in-Binary.is c.deref-in-Binary-3.ensures c.deref-in-Binary-4.ensures)
    (c.operand_role-role.ensures ∙ ap role_under
    (c.full_operator.ensures
    ∙ same_full c.in-Binary.operator c.deref-in-Binary.result.now c.deref-in-Binary-2.result.now c.deref-in-Binary-3.result.now c.deref-in-Binary-4.result.now
    (c.deref-in-Binary.ensures ∙ sym c.deref-in-Binary-3.ensures) (c.deref-in-Binary-2.ensures ∙ sym c.deref-in-Binary-4.ensures)))
    c.in_ok-constant-in-Binary.ensures.found c.further.ensures.found

pub operands-returns-in_ok-constant-in-Binary-clause-constant : goal.operands-returns-in_ok-constant-in-Binary-clause-constant
operands-returns-in_ok-constant-in-Binary-clause-constant t c =
    both_settled c.further.result (n.full_operator c.in-Binary.operator (expression_of c.deref-in-Binary-3.result.now) (expression_of c.deref-in-Binary-4.result.now)) c.in-Binary.operator
    (node c.args.tree.now) (node c.deref-in-Binary-3.result.now) (node c.deref-in-Binary-4.result.now) c.in-Binary.span c.in_ok-constant-in-Binary.constant
    (is_binary c.args.tree.now c.deref-in-Binary-3.result.now c.deref-in-Binary-4.result.now c.in-Binary.operator c.in-Binary.of c.in-Binary.left c.in-Binary.right c.in-Binary.span c.in-Binary.is c.deref-in-Binary-3.ensures c.deref-in-Binary-4.ensures)
    c.in_ok-constant-in-Binary.ensures.constant c.further.ensures.constant

pub operands-returns-in_ok-constant-in-Logic-clause-found : goal.operands-returns-in_ok-constant-in-Logic-clause-found
operands-returns-in_ok-constant-in-Logic-clause-found t c =
    let e = is_logic c.args.tree.now c.deref-in-Logic.result.now c.deref-in-Logic-2.result.now c.in-Logic.operator c.in-Logic.left c.in-Logic.right c.in-Logic.span c.in-Logic.is c.deref-in-Logic.ensures c.deref-in-Logic-2.ensures in
    subst (λ (a : n.Node). IfOk c.further-in-Logic.result (λ _. gathered_of c.further-in-Logic.new.found ≡ inside a (gathered_of c.args.found.now))) (sym e)
    (then_found c.further-in-Logic.result Inner (node c.deref-in-Logic-2.result.now) (gathered_of c.expression-in-Logic.new.found) (gathered_of c.further-in-Logic.new.found)
    (visited Inner (node c.deref-in-Logic.result.now) (gathered_of c.args.found.now))
    c.in_ok-constant-in-Logic.ensures.found c.further-in-Logic.ensures.found)

pub operands-returns-in_ok-constant-in-Logic-clause-constant : goal.operands-returns-in_ok-constant-in-Logic-clause-constant
operands-returns-in_ok-constant-in-Logic-clause-constant t c =
    let e = is_logic c.args.tree.now c.deref-in-Logic.result.now c.deref-in-Logic-2.result.now c.in-Logic.operator c.in-Logic.left c.in-Logic.right c.in-Logic.span c.in-Logic.is c.deref-in-Logic.ensures c.deref-in-Logic-2.ensures in
    subst (λ (a : n.Node). IfOk c.further-in-Logic.result (λ b. b ≡ is_constant a)) (sym e)
    (both_constant c.further-in-Logic.result c.in_ok-constant-in-Logic.constant (is_constant (node c.deref-in-Logic.result.now)) (is_constant (node c.deref-in-Logic-2.result.now))
    c.in_ok-constant-in-Logic.ensures.constant c.further-in-Logic.ensures.constant)

pub operands-returns-in_ok-constant-in-Choice-2-clause-found : goal.operands-returns-in_ok-constant-in-Choice-2-clause-found
operands-returns-in_ok-constant-in-Choice-2-clause-found t c =
    let e = is_choice c.args.tree.now c.deref-in-Choice.result.now c.deref-in-Choice-2.result.now c.deref-in-Choice-3.result.now c.in-Choice.test c.in-Choice.chosen c.in-Choice.other c.in-Choice.of c.in-Choice.span c.in-Choice.is c.deref-in-Choice.ensures c.deref-in-Choice-2.ensures c.deref-in-Choice-3.ensures in
    subst (λ (a : n.Node). IfOk c.further-in-Choice-2.result (λ _. gathered_of c.further-in-Choice-2.new.found ≡ inside a (gathered_of c.args.found.now))) (sym e)
    (then_found c.further-in-Choice-2.result Plain (node c.deref-in-Choice-3.result.now) (gathered_of c.further-in-Choice.new.found) (gathered_of c.further-in-Choice-2.new.found)
    (visited Plain (node c.deref-in-Choice-2.result.now) (visited Controlling (node c.deref-in-Choice.result.now) (gathered_of c.args.found.now)))
    (c.in_ok-constant-in-Choice-2.ensures.found ∙ ap (visited Plain (node c.deref-in-Choice-2.result.now)) c.in_ok-constant-in-Choice.ensures.found) c.further-in-Choice-2.ensures.found)

pub operands-returns-in_ok-constant-in-Choice-2-clause-constant : goal.operands-returns-in_ok-constant-in-Choice-2-clause-constant
operands-returns-in_ok-constant-in-Choice-2-clause-constant t c =
    let e = is_choice c.args.tree.now c.deref-in-Choice.result.now c.deref-in-Choice-2.result.now c.deref-in-Choice-3.result.now c.in-Choice.test c.in-Choice.chosen c.in-Choice.other c.in-Choice.of c.in-Choice.span c.in-Choice.is c.deref-in-Choice.ensures c.deref-in-Choice-2.ensures c.deref-in-Choice-3.ensures in
    subst (λ (a : n.Node). IfOk c.further-in-Choice-2.result (λ b. b ≡ is_constant a)) (sym e)
    (three_constant c.further-in-Choice-2.result c.in_ok-constant-in-Choice.constant c.in_ok-constant-in-Choice-2.constant
    (is_constant (node c.deref-in-Choice.result.now)) (is_constant (node c.deref-in-Choice-2.result.now)) (is_constant (node c.deref-in-Choice-3.result.now))
    c.in_ok-constant-in-Choice.ensures.constant c.in_ok-constant-in-Choice-2.ensures.constant c.further-in-Choice-2.ensures.constant)

pub operands-returns-in-Probe-clause-found : goal.operands-returns-in-Probe-clause-found
operands-returns-in-Probe-clause-found t c =
    let e = is_probe c.args.tree.now c.deref-in-Probe.result.now c.in-Probe.probe c.in-Probe.operand c.in-Probe.is c.deref-in-Probe.ensures in
    subst (λ (a : n.Node). IfOk c.operands.result (λ _. gathered_of c.operands.new.found ≡ inside a (gathered_of c.args.found.now))) (sym e)
    (c.operands.ensures.found)

pub operands-returns-in-Probe-clause-constant : goal.operands-returns-in-Probe-clause-constant
operands-returns-in-Probe-clause-constant t c =
    let e = is_probe c.args.tree.now c.deref-in-Probe.result.now c.in-Probe.probe c.in-Probe.operand c.in-Probe.is c.deref-in-Probe.ensures in
    subst (λ (a : n.Node). IfOk c.operands.result (λ b. b ≡ is_constant a)) (sym e)
    (c.operands.ensures.constant)

pub operands-returns-in-Unary-clause-found : goal.operands-returns-in-Unary-clause-found
operands-returns-in-Unary-clause-found t c =
    if_as c.expression-in-Unary.result (gathered_of c.expression-in-Unary.new.found) (visited Plain (node c.deref-in-Unary.result.now) (gathered_of c.args.found.now)) (inside (node c.args.tree.now) (gathered_of c.args.found.now))
    (carried_found c.args.tree.now c.deref-in-Unary.result.now c.in-Unary.operand (gathered_of c.args.found.now) c.in-Unary.is c.deref-in-Unary.ensures)
    c.expression-in-Unary.ensures.found

pub operands-returns-in-Unary-clause-constant : goal.operands-returns-in-Unary-clause-constant
operands-returns-in-Unary-clause-constant t c =
    one_constant c.expression-in-Unary.result (is_constant (node c.deref-in-Unary.result.now)) (is_constant (node c.args.tree.now))
    (carried_constant c.args.tree.now c.deref-in-Unary.result.now c.in-Unary.operand c.in-Unary.is c.deref-in-Unary.ensures)
    c.expression-in-Unary.ensures.constant

pub operands-returns-in_ok-place-in-Read-clause-found : goal.operands-returns-in_ok-place-in-Read-clause-found
operands-returns-in_ok-place-in-Read-clause-found t c =
    let e = ap node c.in-Read.is ∙ read_node c.in-Read.object c.in-Read.of in
    c.in_ok-place-in-Read.ensures ∙ sym (ap (λ (a : n.Node). inside a (gathered_of c.args.found.now)) e)

pub operands-returns-in_ok-place-in-Read-clause-constant : goal.operands-returns-in_ok-place-in-Read-clause-constant
operands-returns-in_ok-place-in-Read-clause-constant t c =
    sym (ap is_constant (ap node c.in-Read.is ∙ read_node c.in-Read.object c.in-Read.of))

pub operands-returns-in_ok-call-in-Call-clause-found : goal.operands-returns-in_ok-call-in-Call-clause-found
operands-returns-in_ok-call-in-Call-clause-found t c =
    let e = ap node c.in-Call.is ∙ call_node c.in-Call.made c.in-Call.of in
    c.in_ok-call-in-Call.ensures ∙ sym (ap (λ (a : n.Node). inside a (gathered_of c.args.found.now)) e)

pub operands-returns-in_ok-call-in-Call-clause-constant : goal.operands-returns-in_ok-call-in-Call-clause-constant
operands-returns-in_ok-call-in-Call-clause-constant t c =
    sym (ap is_constant (ap node c.in-Call.is ∙ call_node c.in-Call.made c.in-Call.of))

pub operands-returns-in-Constant-clause-found : goal.operands-returns-in-Constant-clause-found
operands-returns-in-Constant-clause-found t c =
    sym (ap (λ (a : n.Node). inside a (gathered_of c.args.found.now)) (ap node c.in-Constant.is ∙ constant_node c.in-Constant.value c.in-Constant.of c.in-Constant.span))

pub operands-returns-in-Constant-clause-constant : goal.operands-returns-in-Constant-clause-constant
operands-returns-in-Constant-clause-constant t c =
    sym (ap is_constant (ap node c.in-Constant.is ∙ constant_node c.in-Constant.value c.in-Constant.of c.in-Constant.span))

pub operands-returns-in-Input-clause-found : goal.operands-returns-in-Input-clause-found
operands-returns-in-Input-clause-found t c =
    sym (ap (λ (a : n.Node). inside a (gathered_of c.args.found.now)) (ap node c.in-Input.is ∙ input_node c.in-Input.span))

pub operands-returns-in-Input-clause-constant : goal.operands-returns-in-Input-clause-constant
operands-returns-in-Input-clause-constant t c =
    sym (ap is_constant (ap node c.in-Input.is ∙ input_node c.in-Input.span))

pub place-returns-in-Parameter : goal.place-returns-in-Parameter
place-returns-in-Parameter t c =
    let e = ap place c.in-Parameter.is ∙ (parameter_place c.in-Parameter.array c.in-Parameter.stride c.in-Parameter.index c.in-Parameter.span
    ∙ ap (λ (f : Expression). n.Expression n.Other (n.part (node f) n.no_parts) c.in-Parameter.span) (sym c.deref.ensures)) in
    subst (λ (a : n.Node). IfOk c.value.result (λ _. gathered_of c.value.new.found ≡ visited Plain a (gathered_of c.args.found.now))) (sym e)
    (c.value.ensures)

pub place-returns-in_ok-place-in-Item : goal.place-returns-in_ok-place-in-Item
place-returns-in_ok-place-in-Item t c =
    let e = ap place c.in-Item.is ∙ (item_place c.in-Item.array c.in-Item.length c.in-Item.stride c.in-Item.index c.in-Item.span
    ∙ (ap (λ (p : Place). n.Expression n.Other (n.part (place p) (n.part (node c.in-Item.index.value) n.no_parts)) c.in-Item.span) (sym c.deref-in-Item.ensures)
    ∙ ap (λ (f : Expression). n.Expression n.Other (n.part (place c.deref-in-Item.result.now) (n.part (node f) n.no_parts)) c.in-Item.span) (sym c.deref-in-Item-2.ensures))) in
    subst (λ (a : n.Node). IfOk c.value-in-Item.result (λ _. gathered_of c.value-in-Item.new.found ≡ visited Plain a (gathered_of c.args.found.now))) (sym e)
    (then_found c.value-in-Item.result Plain (node c.deref-in-Item-2.result.now) (gathered_of c.place.new.found) (gathered_of c.value-in-Item.new.found)
    (visited Plain (place c.deref-in-Item.result.now) (gathered_of c.args.found.now)) c.in_ok-place-in-Item.ensures c.value-in-Item.ensures)

pub place-returns-in-Member : goal.place-returns-in-Member
place-returns-in-Member t c =
    let e = ap place c.in-Member.is ∙ (member_place c.in-Member.whole c.in-Member.member c.in-Member.offset c.in-Member.span
    ∙ ap (λ (p : Place). n.Expression n.Other (n.part (place p) n.no_parts) c.in-Member.span) (sym c.deref-in-Member.ensures)) in
    subst (λ (a : n.Node). IfOk c.place-in-Member.result (λ _. gathered_of c.place-in-Member.new.found ≡ visited Plain a (gathered_of c.args.found.now))) (sym e)
    (c.place-in-Member.ensures)

pub structure-returns-in-Stored : goal.structure-returns-in-Stored
structure-returns-in-Stored t c =
    let e = ap structure c.in-Stored.is ∙ stored_structure c.in-Stored.object in
    subst (λ (a : n.Node). IfOk c.place.result (λ _. gathered_of c.place.new.found ≡ visited Plain a (gathered_of c.args.found.now))) (sym e)
    (c.place.ensures)

pub structure-returns-in-Returned : goal.structure-returns-in-Returned
structure-returns-in-Returned t c =
    let e = ap structure c.in-Returned.is ∙ returned_structure c.in-Returned.made in
    subst (λ (a : n.Node). IfOk c.call.result (λ _. gathered_of c.call.new.found ≡ visited Plain a (gathered_of c.args.found.now))) (sym e)
    (c.call.ensures)

pub argument-returns-in-Number : goal.argument-returns-in-Number
argument-returns-in-Number t c =
    let e = ap argument c.in-Number.is ∙ number_argument c.in-Number.number in
    subst (λ (a : n.Node). IfOk c.value.result (λ _. gathered_of c.value.new.found ≡ visited Plain a (gathered_of c.args.found.now))) (sym e)
    (c.value.ensures)

pub argument-returns-in-Structure : goal.argument-returns-in-Structure
argument-returns-in-Structure t c =
    let e = ap argument c.in-Structure.is ∙ structure_argument c.in-Structure.value c.in-Structure.copy in
    subst (λ (a : n.Node). IfOk c.structure.result (λ _. gathered_of c.structure.new.found ≡ visited Plain a (gathered_of c.args.found.now))) (sym e)
    (c.structure.ensures)

pub argument-returns-in-Array : goal.argument-returns-in-Array
argument-returns-in-Array t c =
    let e = ap argument c.in-Array.is ∙ array_argument c.in-Array.object c.in-Array.length in
    subst (λ (a : n.Node). IfOk c.place.result (λ _. gathered_of c.place.new.found ≡ visited Plain a (gathered_of c.args.found.now))) (sym e)
    (c.place.ensures)

pub argument-returns-in-Again : goal.argument-returns-in-Again
argument-returns-in-Again t c =
    sym (ap (λ (a : n.Node). visited Plain a (gathered_of c.args.found.now)) (ap argument c.in-Again.is ∙ again_argument c.in-Again.array c.in-Again.span))
