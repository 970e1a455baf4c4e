-- The nodes of statements.
use Rattle.std.proofs.Common.{◌≡◌, ◌∙◌, sym, ap, ℕ, Option, Box}
use Rattle.std.specs.Global.{Global}
use Rattle.mc_span.specs.declared.span.Span.{Span}
use Rattle.mc_typed.specs.declared.expressions.Expression.{Expression}
use Rattle.mc_typed.specs.declared.effects.Effect.{Effect}
use Rattle.mc_typed.specs.declared.statements.ReturnValue.{ReturnValue}
use Rattle.mc_typed.specs.declared.statements.Statement.{Statement}
use Rattle.mc_typed.specs.declared.statements.Statement.TheVariants as code
use Rattle.mc_typed.specs.declared.statements.Statement.TheOpen.{Statement-F}
use Rattle.mc_typed.specs.declared.statements.Statement.TheFolds.{fold-roll-Statement}
use Rattle.mc_typed.specs.Tree as t
use Rattle.mc_typed.specs.Views.{effect_of, node_statement, return_value_of, statement_of}
use Rattle.decide_rules.specs.Nodes as n
use Rattle.decide_walk.proofs.Shapes.{node}

abbrev pub stands : Statement → n.Node
stands s = n.statement (statement_of s)

pub effect_node : (whole : Effect) (span : Span) (bit : Option ℕ) → stands (code.Effect whole span bit) ≡ n.Whole (n.part (n.effect (effect_of whole)) n.no_parts)
effect_node whole span bit =
    ap stands (sym (code.rolls-Effect whole span bit))
    ∙ ap n.statement (fold-roll-Statement t.Statement node_statement (Statement-F.Effect whole span bit))

pub if_node : (e : Expression) (s : Box Statement Global) (keyword span : Span) (bit : Option ℕ) → stands (code.If e s keyword span bit) ≡ n.Whole (n.controlling (node e) (n.part (stands s.value) n.no_parts))
if_node e s keyword span bit =
    ap stands (sym (code.rolls-If e s keyword span bit))
    ∙ ap n.statement (fold-roll-Statement t.Statement node_statement (Statement-F.If e s keyword span bit))

pub if_else_node : (e : Expression) (s u : Box Statement Global) (keyword span : Span) (bit : Option ℕ) → stands (code.IfElse e s u keyword span bit) ≡ n.Whole (n.controlling (node e) (n.part (stands s.value) (n.part (stands u.value) n.no_parts)))
if_else_node e s u keyword span bit =
    ap stands (sym (code.rolls-IfElse e s u keyword span bit))
    ∙ ap n.statement (fold-roll-Statement t.Statement node_statement (Statement-F.IfElse e s u keyword span bit))

pub do_while_node : (s : Box Statement Global) (e : Expression) (keyword span : Span) (bit : Option ℕ) → stands (code.DoWhile s e keyword span bit) ≡ n.Whole (n.part (stands s.value) (n.controlling (node e) n.no_parts))
do_while_node s e keyword span bit =
    ap stands (sym (code.rolls-DoWhile s e keyword span bit))
    ∙ ap n.statement (fold-roll-Statement t.Statement node_statement (Statement-F.DoWhile s e keyword span bit))

pub return_node : (value : ReturnValue) (span : Span) (bit exit : Option ℕ) → stands (code.Return value span bit exit) ≡ n.Whole (n.part (n.return_value (return_value_of value)) n.no_parts)
return_node value span bit exit =
    ap stands (sym (code.rolls-Return value span bit exit))
    ∙ ap n.statement (fold-roll-Statement t.Statement node_statement (Statement-F.Return value span bit exit))
