-- Prepared statements, seen as those of the definitions.
use denote.Ref.{Bor}
use Rattle.std.proofs.Common.{◌≡◌, ℕ, List, Option, Vec, Box, Global, map, option_map, sym, ap, ◌∙◌}
use Rattle.mc_span.specs.declared.span.Span.{Span}
use Rattle.mc_typed.specs.declared.expressions.Expression.{Expression}
use Rattle.mc_typed.specs.declared.probes.Mark.{Mark}
use Rattle.mc_typed.specs.declared.statements.Declarator.{Declarator}
use Rattle.mc_typed.specs.declared.statements.ForStart.{ForStart}
use Rattle.mc_typed.specs.declared.statements.ReturnValue.{ReturnValue}
use Rattle.mc_probe.specs.Views as view
use Rattle.mc_probe.specs.Tree as p
use Rattle.mc_interp.specs.declared.prepared.controls.Test.{Test}
use Rattle.mc_interp.specs.declared.prepared.steps.Step.{Step}
use Rattle.mc_interp.specs.declared.prepared.statements.Prepared.{Prepared}
use Rattle.mc_interp.specs.declared.prepared.statements.Prepared.TheVariants as statement
use Rattle.mc_interp.specs.declared.prepared.statements.Prepared.TheOpen.{Prepared-F}
use Rattle.mc_interp.specs.declared.prepared.statements.Prepared.TheFolds.{fold-roll-Prepared}
use Rattle.mc_interp.specs.Views as prepared

pub view_declaration : (declarators : Bor (List Declarator)) (span : Span) (bit : Option ℕ) →
    prepared.statement_of (statement.Declaration declarators span bit) ≡ p.Declaration (map view.declarator_of declarators.now) span bit
view_declaration declarators span bit =
    ap prepared.statement_of (sym (statement.rolls-Declaration declarators span bit)) ∙ fold-roll-Prepared p.Statement prepared.node_statement (Prepared-F.Declaration declarators span bit)

pub view_effect : (step : Step) (span : Span) (bit : Option ℕ) →
    prepared.statement_of (statement.Effect step span bit) ≡ p.EffectStatement (prepared.effect_of step) span bit
view_effect step span bit =
    ap prepared.statement_of (sym (statement.rolls-Effect step span bit)) ∙ fold-roll-Prepared p.Statement prepared.node_statement (Prepared-F.Effect step span bit)

pub view_if : (e : Test) (u : Box Prepared Global) (keyword : Span) (span : Span) (bit : Option ℕ) →
    prepared.statement_of (statement.If e u keyword span bit) ≡ p.If (prepared.test_of e) (prepared.statement_of u.value) keyword span bit
view_if e u keyword span bit =
    ap prepared.statement_of (sym (statement.rolls-If e u keyword span bit)) ∙ fold-roll-Prepared p.Statement prepared.node_statement (Prepared-F.If e u keyword span bit)

pub view_if_else : (e : Test) (u : Box Prepared Global) (v : Box Prepared Global) (keyword : Span) (span : Span) (bit : Option ℕ) →
    prepared.statement_of (statement.IfElse e u v keyword span bit) ≡ p.IfElse (prepared.test_of e) (prepared.statement_of u.value) (prepared.statement_of v.value) keyword span bit
view_if_else e u v keyword span bit =
    ap prepared.statement_of (sym (statement.rolls-IfElse e u v keyword span bit)) ∙ fold-roll-Prepared p.Statement prepared.node_statement (Prepared-F.IfElse e u v keyword span bit)

pub view_switch : (e : Bor Expression) (items : Vec Prepared Global) (keyword : Span) (span : Span) (bit : Option ℕ) (absent : Option Mark) →
    prepared.statement_of (statement.Switch e items keyword span bit absent) ≡ p.Switch (view.expression_of e.now) (view.statements_from (map prepared.statement_of items.items)) keyword span bit absent
view_switch e items keyword span bit absent =
    ap prepared.statement_of (sym (statement.rolls-Switch e items keyword span bit absent)) ∙ fold-roll-Prepared p.Statement prepared.node_statement (Prepared-F.Switch e items keyword span bit absent)

pub view_for : (start : Bor ForStart) (test : Option Test) (step : Vec Step Global) (u : Box Prepared Global) (keyword : Span) (span : Span) (bit : Option ℕ) →
    prepared.statement_of (statement.For start test step u keyword span bit) ≡ p.For (view.start_of start.now) (option_map prepared.test_of test) (map prepared.effect_of step.items) (prepared.statement_of u.value) keyword span bit
view_for start test step u keyword span bit =
    ap prepared.statement_of (sym (statement.rolls-For start test step u keyword span bit)) ∙ fold-roll-Prepared p.Statement prepared.node_statement (Prepared-F.For start test step u keyword span bit)

pub view_do : (u : Box Prepared Global) (e : Test) (keyword : Span) (span : Span) (bit : Option ℕ) →
    prepared.statement_of (statement.DoWhile u e keyword span bit) ≡ p.DoWhile (prepared.statement_of u.value) (prepared.test_of e) keyword span bit
view_do u e keyword span bit =
    ap prepared.statement_of (sym (statement.rolls-DoWhile u e keyword span bit)) ∙ fold-roll-Prepared p.Statement prepared.node_statement (Prepared-F.DoWhile u e keyword span bit)

pub view_return : (value : Bor ReturnValue) (span : Span) (bit : Option ℕ) (exit : Option ℕ) →
    prepared.statement_of (statement.Return value span bit exit) ≡ p.Return (view.return_value_of value.now) span bit exit
view_return value span bit exit =
    ap prepared.statement_of (sym (statement.rolls-Return value span bit exit)) ∙ fold-roll-Prepared p.Statement prepared.node_statement (Prepared-F.Return value span bit exit)
