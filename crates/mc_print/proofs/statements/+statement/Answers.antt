use Rattle.mc_print.proofs.Falls.{to_items}
use Rattle.mc_print.proofs.Held.{by}
use Rattle.mc_print.proofs.Lists.{statement_act, all_statements, begin, next, finish}
use Rattle.mc_print.proofs.Wholes.{statement_break, statement_compound, statement_continue, statement_declaration, statement_dowhile, statement_effect, statement_for, statement_if, statement_ifelse, statement_label, statement_null, statement_return, statement_switch}
use Rattle.mc_print.proofs.statements.+statement.Goals as goal

pub statement-returns-in-Compound : goal.statement-returns-in-Compound
statement-returns-in-Compound g t c = λ start first p h.
    by _ _ (statement_compound _ _ _ _ c.in-Compound.is c.deref.ensures.value) start first p _ _ _
    (c.statements.ensures start first p h)

pub statement-returns-in-Label : goal.statement-returns-in-Label
statement-returns-in-Label g t c = λ start first p h.
    by _ _ (statement_label _ _ _ _ c.in-Label.is) start first p _ _ _
    (c.label_after.ensures start first p h)

pub statement-returns-in-Declaration : goal.statement-returns-in-Declaration
statement-returns-in-Declaration g t c = λ start first p h.
    by _ _ (statement_declaration _ _ _ _ _ c.in-Declaration.is c.deref-in-Declaration.ensures.value) start first p _ _ _
    (c.declarators.ensures start first _ (c.hit_at.ensures start first p h))

pub statement-returns-in-Null : goal.statement-returns-in-Null
statement-returns-in-Null g t c = λ start first p h.
    by _ _ (statement_null _ _ _ c.in-Null.is) start first p _ _ _
    (c.after_counted.ensures start first _ (c.before_counted.ensures start first p h))

pub statement-returns-in-Effect : goal.statement-returns-in-Effect
statement-returns-in-Effect g t c = λ start first p h.
    by _ _ (statement_effect _ _ _ _ c.in-Effect.is) start first p _ _ _
    (c.after_counted-in-Effect.ensures start first _ (c.effect.ensures start first _ (c.before_counted-in-Effect.ensures start first p h)))

pub statement-returns-in-If : goal.statement-returns-in-If
statement-returns-in-If g t c = λ start first p h.
    by _ _ (statement_if _ _ _ _ _ _ _ c.in-If.is c.deref-in-If.ensures) start first p _ _ _
    (c.after_counted-in-If.ensures start first _ (c.statement.ensures start first _ (c.begin_with.ensures start first p h)))

pub statement-returns-in-IfElse : goal.statement-returns-in-IfElse
statement-returns-in-IfElse g t c = λ start first p h.
    by _ _ (statement_ifelse _ _ _ _ _ _ _ _ _ c.in-IfElse.is c.deref-in-IfElse.ensures c.deref-in-IfElse-2.ensures) start first p _ _ _
    (c.after_counted-in-IfElse.ensures start first _ (c.statement-in-IfElse-2.ensures start first _ (c.statement-in-IfElse.ensures start first _ (c.begin_with-in-IfElse.ensures start first p h))))

pub statement-returns-in-Switch : goal.statement-returns-in-Switch
statement-returns-in-Switch g t c = λ start first p h.
    by _ _ (statement_switch _ _ _ _ _ _ _ _ c.in-Switch.is c.deref-in-Switch.ensures.value) start first p _ _ _
    (c.close_switch.ensures start first _ (c.statements-in-Switch.ensures start first _ (c.begin_with-in-Switch.ensures start first p h)))

pub statement-statements-requires-in-Switch : goal.statement-statements-requires-in-Switch
statement-statements-requires-in-Switch g t c κs within =
    (to_items _ _ t _ _ _ _ _ _ c.in-Switch.is c.deref-in-Switch.ensures.value c.decreases, within)

pub statement-returns-in-For : goal.statement-returns-in-For
statement-returns-in-For g t c = λ start first p h.
    by _ _ (statement_for _ _ _ _ _ _ _ _ _ _ c.in-For.is c.deref-in-For.ensures.value c.deref-in-For-2.ensures) start first p _ _ _
    (c.after_counted-in-For.ensures start first _ (c.statement-in-For.ensures start first _ (c.effects.ensures start first _ (c.optional.ensures start first _ (c.start.ensures start first _ (c.before_counted-in-For.ensures start first p h))))))

pub statement-returns-in-DoWhile : goal.statement-returns-in-DoWhile
statement-returns-in-DoWhile g t c = λ start first p h.
    by _ _ (statement_dowhile _ _ _ _ _ _ _ c.in-DoWhile.is c.deref-in-DoWhile.ensures) start first p _ _ _
    (c.after_counted-in-DoWhile.ensures start first _ (c.expression.ensures start first _ (c.statement-in-DoWhile.ensures start first _ (c.before_counted-in-DoWhile.ensures start first p h))))

pub statement-returns-in-Break : goal.statement-returns-in-Break
statement-returns-in-Break g t c = λ start first p h.
    by _ _ (statement_break _ _ _ c.in-Break.is) start first p _ _ _
    (c.after_counted-in-Break.ensures start first _ (c.before_counted-in-Break.ensures start first p h))

pub statement-returns-in-Continue : goal.statement-returns-in-Continue
statement-returns-in-Continue g t c = λ start first p h.
    by _ _ (statement_continue _ _ _ c.in-Continue.is) start first p _ _ _
    (c.after_counted-in-Continue.ensures start first _ (c.before_counted-in-Continue.ensures start first p h))

pub statement-returns-in-Return : goal.statement-returns-in-Return
statement-returns-in-Return g t c = λ start first p h.
    by _ _ (statement_return _ _ _ _ _ c.in-Return.is) start first p _ _ _
    (c.after_counted-in-Return.ensures start first _ (c.leave.ensures start first _ (c.before_counted-in-Return.ensures start first p h)))

pub statements-loop-tree-init : goal.statements-loop-tree-init
statements-loop-tree-init g t c = begin statement_act c.args.trees.now _ _ _

pub statements-loop-tree-preserved : goal.statements-loop-tree-preserved
statements-loop-tree-preserved g t c =
    next statement_act c.args.trees.now c.loop-tree.tree-index c.tree-item.result _ _ _ _ _ _ _ _ _ c.loop-tree-test.true c.tree-item.is c.statement.ensures c.loop-tree.invariant

pub statements-returns : goal.statements-returns
statements-returns g t c =
    finish statement_act c.args.trees.now c.loop-tree.tree-index _ _ _ _ _ _ _ c.loop-tree-test.false (all_statements c.args.trees.now) c.loop-tree.invariant
