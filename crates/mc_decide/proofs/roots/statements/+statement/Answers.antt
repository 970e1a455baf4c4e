use Rattle.std.proofs.Common.{◌≡◌, ◌∙◌, ap, sym, subst, IfOk}
use Rattle.mc_typed.specs.declared.statements.Statement.{Statement}
use Rattle.decide_rules.specs.declared.role.Role.TheVariants.{Controlling, Plain}
use Rattle.decide_rules.specs.Nodes as n
use Rattle.decide_walk.specs.steps.Gathering.{gathered_of, visited}
use Rattle.decide_walk.proofs.Shapes.{node}
use Rattle.mc_decide.proofs.Steps.{then_found}
use Rattle.mc_decide.proofs.Statements.{stands, effect_node, if_node, if_else_node, do_while_node, return_node}
use Rattle.mc_decide.proofs.roots.statements.+statement.Goals as goal

pub statement-returns-in-Effect : goal.statement-returns-in-Effect
statement-returns-in-Effect t c =
    let e = ap stands c.in-Effect.is ∙ effect_node c.in-Effect.whole c.in-Effect.span c.in-Effect.bit in
    subst (λ (a : n.Node). IfOk c.effect.result (λ _. gathered_of c.effect.new.found ≡ visited Plain a (gathered_of c.args.found.now))) (sym e)
    (c.effect.ensures)

pub statement-returns-in-Return : goal.statement-returns-in-Return
statement-returns-in-Return t c =
    let e = ap stands c.in-Return.is ∙ return_node c.in-Return.what c.in-Return.span c.in-Return.bit c.in-Return.exit in
    subst (λ (a : n.Node). IfOk c.return_value.result (λ _. gathered_of c.return_value.new.found ≡ visited Plain a (gathered_of c.args.found.now))) (sym e)
    (c.return_value.ensures)

pub statement-returns-in_ok-value-in-If : goal.statement-returns-in_ok-value-in-If
statement-returns-in_ok-value-in-If t c =
    let e = ap stands c.in-If.is ∙ (if_node c.in-If.test c.in-If.chosen c.in-If.keyword c.in-If.span c.in-If.bit
    ∙ ap (λ (s : Statement). n.Whole (n.controlling (node c.in-If.test) (n.part (stands s) n.no_parts))) (sym c.deref-in-If.ensures)) in
    subst (λ (a : n.Node). IfOk c.statement.result (λ _. gathered_of c.statement.new.found ≡ visited Plain a (gathered_of c.args.found.now))) (sym e)
    (then_found c.statement.result Plain (stands c.deref-in-If.result.now) (gathered_of c.value.new.found) (gathered_of c.statement.new.found)
    (visited Controlling (node c.in-If.test) (gathered_of c.args.found.now)) c.in_ok-value-in-If.ensures c.statement.ensures)

pub statement-returns-in_ok-statement-in-IfElse : goal.statement-returns-in_ok-statement-in-IfElse
statement-returns-in_ok-statement-in-IfElse t c =
    let e = ap stands c.in-IfElse.is ∙ (if_else_node c.in-IfElse.test c.in-IfElse.chosen c.in-IfElse.other c.in-IfElse.keyword c.in-IfElse.span c.in-IfElse.bit
    ∙ (ap (λ (s : Statement). n.Whole (n.controlling (node c.in-IfElse.test) (n.part (stands s) (n.part (stands c.in-IfElse.other.value) n.no_parts)))) (sym c.deref-in-IfElse.ensures)
    ∙ ap (λ (s : Statement). n.Whole (n.controlling (node c.in-IfElse.test) (n.part (stands c.deref-in-IfElse.result.now) (n.part (stands s) n.no_parts)))) (sym c.deref-in-IfElse-2.ensures))) in
    subst (λ (a : n.Node). IfOk c.statement-in-IfElse-2.result (λ _. gathered_of c.statement-in-IfElse-2.new.found ≡ visited Plain a (gathered_of c.args.found.now))) (sym e)
    (then_found c.statement-in-IfElse-2.result Plain (stands c.deref-in-IfElse-2.result.now) (gathered_of c.statement-in-IfElse.new.found) (gathered_of c.statement-in-IfElse-2.new.found)
    (visited Plain (stands c.deref-in-IfElse.result.now) (visited Controlling (node c.in-IfElse.test) (gathered_of c.args.found.now)))
    (c.in_ok-statement-in-IfElse.ensures ∙ ap (visited Plain (stands c.deref-in-IfElse.result.now)) c.in_ok-value-in-IfElse.ensures) c.statement-in-IfElse-2.ensures)

pub statement-returns-in_ok-statement-in-DoWhile : goal.statement-returns-in_ok-statement-in-DoWhile
statement-returns-in_ok-statement-in-DoWhile t c =
    let e = ap stands c.in-DoWhile.is ∙ (do_while_node c.in-DoWhile.body c.in-DoWhile.test c.in-DoWhile.keyword c.in-DoWhile.span c.in-DoWhile.bit
    ∙ ap (λ (s : Statement). n.Whole (n.part (stands s) (n.controlling (node c.in-DoWhile.test) n.no_parts))) (sym c.deref-in-DoWhile.ensures)) in
    subst (λ (a : n.Node). IfOk c.value-in-DoWhile.result (λ _. gathered_of c.value-in-DoWhile.new.found ≡ visited Plain a (gathered_of c.args.found.now))) (sym e)
    (then_found c.value-in-DoWhile.result Controlling (node c.in-DoWhile.test) (gathered_of c.statement-in-DoWhile.new.found) (gathered_of c.value-in-DoWhile.new.found)
    (visited Plain (stands c.deref-in-DoWhile.result.now) (gathered_of c.args.found.now)) c.in_ok-statement-in-DoWhile.ensures c.value-in-DoWhile.ensures)
