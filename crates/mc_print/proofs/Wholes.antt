-- What is written of each effect, initializer and statement.
use Rattle.std.proofs.Common.{◌≡◌, ◌∙◌, sym, ap, ℕ, ℤ, Bool, List, map, Box, Vec, Option}
use Rattle.std.specs.Prelude.{option_map}
use Rattle.std.specs.Global.{Global}
use Rattle.mc_span.specs.declared.span.Span.{Span}
use Rattle.mc_value.specs.declared.int_type.IntType.{IntType}
use Rattle.mc_typed.specs.declared.operators.Operator.{Operator}
use Rattle.mc_typed.specs.declared.probes.Mark.{Mark}
use Rattle.mc_typed.specs.declared.expressions.Expression.{Expression}
use Rattle.mc_typed.specs.declared.expressions.Place.{Place}
use Rattle.mc_typed.specs.declared.expressions.Structure.{Structure}
use Rattle.mc_typed.specs.declared.expressions.FunctionCall.{FunctionCall}
use Rattle.mc_typed.specs.declared.effects.Effect.{Effect}
use Rattle.mc_typed.specs.declared.effects.Effect.TheVariants as effect
use Rattle.mc_typed.specs.declared.effects.Effect.TheOpen.{Effect-F}
use Rattle.mc_typed.specs.declared.effects.Effect.TheFolds.{fold-roll-Effect}
use Rattle.mc_typed.specs.declared.initializers.Initializer.{Initializer}
use Rattle.mc_typed.specs.declared.initializers.Initializer.TheVariants as initializer
use Rattle.mc_typed.specs.declared.initializers.Initializer.TheOpen.{Initializer-F}
use Rattle.mc_typed.specs.declared.initializers.Initializer.TheFolds.{fold-roll-Initializer}
use Rattle.mc_typed.specs.declared.statements.Statement.{Statement}
use Rattle.mc_typed.specs.declared.statements.Statement.TheVariants as statement
use Rattle.mc_typed.specs.declared.statements.Statement.TheOpen.{Statement-F}
use Rattle.mc_typed.specs.declared.statements.Statement.TheFolds.{fold-roll-Statement}
use Rattle.mc_typed.specs.declared.statements.Declarator.{Declarator}
use Rattle.mc_typed.specs.declared.statements.ForStart.{ForStart}
use Rattle.mc_typed.specs.declared.statements.ReturnValue.{ReturnValue}
use Rattle.mc_probe.specs.Views.{declarator_of, effect_of, expression_of, initializer_of, initializers_from, node_effect, node_initializer, node_statement, return_value_of, start_of, statement_of, statements_from}
use Rattle.mc_probe.specs.Tree as p
use Rattle.mc_print.specs.Pens.{Pen, ◌▸◌}
use Rattle.mc_print.specs.Insertions.{after_counted, before_counted, hit_at, label_after}
use Rattle.mc_print.specs.Texts.{write_declarators, write_effect, write_effects, write_initializer, write_initializers, write_optional, write_return, write_start, write_statement, write_statements}
use Rattle.mc_print.proofs.Shapes.{place_written, expression_written, structure_written, call_written}

abbrev pub initializers_written : List Initializer → Pen → Pen
initializers_written items = write_initializers (initializers_from (map initializer_of items))

abbrev pub declarators_written : List Declarator → Pen → Pen
declarators_written ds = write_declarators (map declarator_of ds)

abbrev pub statements_written : List Statement → Pen → Pen
statements_written items = write_statements (statements_from (map statement_of items))

abbrev pub effect_written : Effect → Pen → Pen
effect_written t = write_effect (effect_of t)

abbrev pub initializer_written : Initializer → Pen → Pen
initializer_written t = write_initializer (initializer_of t)

abbrev pub statement_written : Statement → Pen → Pen
statement_written t = write_statement (statement_of t)

pub effect_assign : (tree : Effect) (q : Place) (a : IntType) (e : Expression) (span : Span) → tree ≡ effect.Assign q a e span → effect_written tree ≡ (place_written q ▸ expression_written e)
effect_assign tree q a e span is =
    ap effect_written is ∙ (ap effect_written (sym (effect.rolls-Assign q a e span))
    ∙ ap write_effect (fold-roll-Effect p.Effect node_effect (Effect-F.Assign q a e span)))

pub effect_update : (tree : Effect) (q : Place) (a : IntType) (operator : Operator) (common : IntType) (e : Expression) (span : Span) → tree ≡ effect.Update q a operator common e span → effect_written tree ≡ (place_written q ▸ expression_written e)
effect_update tree q a operator common e span is =
    ap effect_written is ∙ (ap effect_written (sym (effect.rolls-Update q a operator common e span))
    ∙ ap write_effect (fold-roll-Effect p.Effect node_effect (Effect-F.Update q a operator common e span)))

pub effect_copy : (tree : Effect) (q : Place) (s : Structure) (n : ℕ) (span : Span) → tree ≡ effect.Copy q s n span → effect_written tree ≡ (place_written q ▸ structure_written s)
effect_copy tree q s n span is =
    ap effect_written is ∙ (ap effect_written (sym (effect.rolls-Copy q s n span))
    ∙ ap write_effect (fold-roll-Effect p.Effect node_effect (Effect-F.Copy q s n span)))

pub effect_number : (tree : Effect) (e : Expression) (whole : Bool) → tree ≡ effect.Number e whole → effect_written tree ≡ (expression_written e)
effect_number tree e whole is =
    ap effect_written is ∙ (ap effect_written (sym (effect.rolls-Number e whole))
    ∙ ap write_effect (fold-roll-Effect p.Effect node_effect (Effect-F.Number e whole)))

pub effect_structure : (tree : Effect) (s : Structure) (whole : Bool) → tree ≡ effect.Structure s whole → effect_written tree ≡ (structure_written s)
effect_structure tree s whole is =
    ap effect_written is ∙ (ap effect_written (sym (effect.rolls-Structure s whole))
    ∙ ap write_effect (fold-roll-Effect p.Effect node_effect (Effect-F.Structure s whole)))

pub effect_call : (tree : Effect) (k : FunctionCall) → tree ≡ effect.Call k → effect_written tree ≡ (call_written k)
effect_call tree k is =
    ap effect_written is ∙ (ap effect_written (sym (effect.rolls-Call k))
    ∙ ap write_effect (fold-roll-Effect p.Effect node_effect (Effect-F.Call k)))

pub effect_output : (tree : Effect) (e : Expression) (span : Span) → tree ≡ effect.Output e span → effect_written tree ≡ (expression_written e)
effect_output tree e span is =
    ap effect_written is ∙ (ap effect_written (sym (effect.rolls-Output e span))
    ∙ ap write_effect (fold-roll-Effect p.Effect node_effect (Effect-F.Output e span)))

pub effect_choice : (tree : Effect) (a : Effect) (b : Effect) (e : Expression) (x : Box Effect Global) (y : Box Effect Global) (span : Span) → tree ≡ effect.Choice e x y span → a ≡ x.value → b ≡ y.value → effect_written tree ≡ (expression_written e ▸ effect_written a ▸ effect_written b)
effect_choice tree a b e x y span is is_a is_b =
    (ap effect_written is ∙ (ap effect_written (sym (effect.rolls-Choice e x y span))
    ∙ ap write_effect (fold-roll-Effect p.Effect node_effect (Effect-F.Choice e x y span))))
    ∙ (ap (λ (z : Effect). expression_written e ▸ effect_written z ▸ effect_written y.value) (sym is_a)
    ∙ ap (λ (z : Effect). expression_written e ▸ effect_written a ▸ effect_written z) (sym is_b))

pub effect_discard : (tree : Effect) (a : Effect) (x : Box Effect Global) (span : Span) → tree ≡ effect.Discard x span → a ≡ x.value → effect_written tree ≡ (effect_written a)
effect_discard tree a x span is is_a =
    (ap effect_written is ∙ (ap effect_written (sym (effect.rolls-Discard x span))
    ∙ ap write_effect (fold-roll-Effect p.Effect node_effect (Effect-F.Discard x span))))
    ∙ ap (λ (z : Effect). effect_written z) (sym is_a)

pub initializer_number : (tree : Initializer) (e : Expression) → tree ≡ initializer.Number e → initializer_written tree ≡ (expression_written e)
initializer_number tree e is =
    ap initializer_written is ∙ (ap initializer_written (sym (initializer.rolls-Number e))
    ∙ ap write_initializer (fold-roll-Initializer p.Initializer node_initializer (Initializer-F.Number e)))

pub initializer_structure : (tree : Initializer) (s : Structure) (n : ℕ) → tree ≡ initializer.Structure s n → initializer_written tree ≡ (structure_written s)
initializer_structure tree s n is =
    ap initializer_written is ∙ (ap initializer_written (sym (initializer.rolls-Structure s n))
    ∙ ap write_initializer (fold-roll-Initializer p.Initializer node_initializer (Initializer-F.Structure s n)))

pub initializer_list : (tree : Initializer) (xs : List Initializer) (items : Vec Initializer Global) (n : ℕ) → tree ≡ initializer.List items n → xs ≡ items.items → initializer_written tree ≡ (initializers_written xs)
initializer_list tree xs items n is is_xs =
    (ap initializer_written is ∙ (ap initializer_written (sym (initializer.rolls-List items n))
    ∙ ap write_initializer (fold-roll-Initializer p.Initializer node_initializer (Initializer-F.List items n))))
    ∙ ap (λ (z : List Initializer). initializers_written z) (sym is_xs)

pub initializer_zero : (tree : Initializer) (e : Expression) (n : ℕ) → tree ≡ initializer.Zero e n → initializer_written tree ≡ (expression_written e)
initializer_zero tree e n is =
    ap initializer_written is ∙ (ap initializer_written (sym (initializer.rolls-Zero e n))
    ∙ ap write_initializer (fold-roll-Initializer p.Initializer node_initializer (Initializer-F.Zero e n)))

pub statement_compound : (tree : Statement) (xs : List Statement) (items : Vec Statement Global) (span : Span) → tree ≡ statement.Compound items span → xs ≡ items.items → statement_written tree ≡ (statements_written xs)
statement_compound tree xs items span is is_xs =
    (ap statement_written is ∙ (ap statement_written (sym (statement.rolls-Compound items span))
    ∙ ap write_statement (fold-roll-Statement p.Statement node_statement (Statement-F.Compound items span))))
    ∙ ap (λ (z : List Statement). statements_written z) (sym is_xs)

pub statement_label : (tree : Statement) (v : Option ℤ) (span : Span) (mark : Option Mark) → tree ≡ statement.Label v span mark → statement_written tree ≡ (label_after mark span)
statement_label tree v span mark is =
    ap statement_written is ∙ (ap statement_written (sym (statement.rolls-Label v span mark))
    ∙ ap write_statement (fold-roll-Statement p.Statement node_statement (Statement-F.Label v span mark)))

pub statement_declaration : (tree : Statement) (xs : List Declarator) (ds : Vec Declarator Global) (span : Span) (bit : Option ℕ) → tree ≡ statement.Declaration ds span bit → xs ≡ ds.items → statement_written tree ≡ (hit_at bit span.start ▸ declarators_written xs)
statement_declaration tree xs ds span bit is is_xs =
    (ap statement_written is ∙ (ap statement_written (sym (statement.rolls-Declaration ds span bit))
    ∙ ap write_statement (fold-roll-Statement p.Statement node_statement (Statement-F.Declaration ds span bit))))
    ∙ ap (λ (z : List Declarator). hit_at bit span.start ▸ declarators_written z) (sym is_xs)

pub statement_null : (tree : Statement) (span : Span) (bit : Option ℕ) → tree ≡ statement.Null span bit → statement_written tree ≡ (before_counted bit span ▸ after_counted bit span)
statement_null tree span bit is =
    ap statement_written is ∙ (ap statement_written (sym (statement.rolls-Null span bit))
    ∙ ap write_statement (fold-roll-Statement p.Statement node_statement (Statement-F.Null span bit)))

pub statement_effect : (tree : Statement) (a : Effect) (span : Span) (bit : Option ℕ) → tree ≡ statement.Effect a span bit → statement_written tree ≡ (before_counted bit span ▸ effect_written a ▸ after_counted bit span)
statement_effect tree a span bit is =
    ap statement_written is ∙ (ap statement_written (sym (statement.rolls-Effect a span bit))
    ∙ ap write_statement (fold-roll-Statement p.Statement node_statement (Statement-F.Effect a span bit)))

pub statement_if : (tree : Statement) (s : Statement) (e : Expression) (x : Box Statement Global) (keyword : Span) (span : Span) (bit : Option ℕ) → tree ≡ statement.If e x keyword span bit → s ≡ x.value → statement_written tree ≡ (before_counted bit span ▸ expression_written e ▸ statement_written s ▸ after_counted bit span)
statement_if tree s e x keyword span bit is is_s =
    (ap statement_written is ∙ (ap statement_written (sym (statement.rolls-If e x keyword span bit))
    ∙ ap write_statement (fold-roll-Statement p.Statement node_statement (Statement-F.If e x keyword span bit))))
    ∙ ap (λ (z : Statement). before_counted bit span ▸ expression_written e ▸ statement_written z ▸ after_counted bit span) (sym is_s)

pub statement_ifelse : (tree : Statement) (s : Statement) (u : Statement) (e : Expression) (x : Box Statement Global) (y : Box Statement Global) (keyword : Span) (span : Span) (bit : Option ℕ) → tree ≡ statement.IfElse e x y keyword span bit → s ≡ x.value → u ≡ y.value → statement_written tree ≡ (before_counted bit span ▸ expression_written e ▸ statement_written s ▸ statement_written u ▸ after_counted bit span)
statement_ifelse tree s u e x y keyword span bit is is_s is_u =
    (ap statement_written is ∙ (ap statement_written (sym (statement.rolls-IfElse e x y keyword span bit))
    ∙ ap write_statement (fold-roll-Statement p.Statement node_statement (Statement-F.IfElse e x y keyword span bit))))
    ∙ (ap (λ (z : Statement). before_counted bit span ▸ expression_written e ▸ statement_written z ▸ statement_written y.value ▸ after_counted bit span) (sym is_s)
    ∙ ap (λ (z : Statement). before_counted bit span ▸ expression_written e ▸ statement_written s ▸ statement_written z ▸ after_counted bit span) (sym is_u))

pub statement_switch : (tree : Statement) (xs : List Statement) (e : Expression) (items : Vec Statement Global) (keyword : Span) (span : Span) (bit : Option ℕ) (absent : Option Mark) → tree ≡ statement.Switch e items keyword span bit absent → xs ≡ items.items → statement_written tree ≡ (before_counted bit span ▸ expression_written e ▸ statements_written xs ▸ label_after absent span ▸ after_counted bit span)
statement_switch tree xs e items keyword span bit absent is is_xs =
    (ap statement_written is ∙ (ap statement_written (sym (statement.rolls-Switch e items keyword span bit absent))
    ∙ ap write_statement (fold-roll-Statement p.Statement node_statement (Statement-F.Switch e items keyword span bit absent))))
    ∙ ap (λ (z : List Statement). before_counted bit span ▸ expression_written e ▸ statements_written z ▸ label_after absent span ▸ after_counted bit span) (sym is_xs)

pub statement_for : (tree : Statement) (xs : List Effect) (s : Statement) (start : ForStart) (test : Option Expression) (step : Vec Effect Global) (x : Box Statement Global) (keyword : Span) (span : Span) (bit : Option ℕ) → tree ≡ statement.For start test step x keyword span bit → xs ≡ step.items → s ≡ x.value → statement_written tree ≡ (before_counted bit span ▸ write_start (start_of start) ▸ write_optional (option_map expression_of test) ▸ write_effects (map effect_of xs) ▸ statement_written s ▸ after_counted bit span)
statement_for tree xs s start test step x keyword span bit is is_xs is_s =
    (ap statement_written is ∙ (ap statement_written (sym (statement.rolls-For start test step x keyword span bit))
    ∙ ap write_statement (fold-roll-Statement p.Statement node_statement (Statement-F.For start test step x keyword span bit))))
    ∙ (ap (λ (z : List Effect). before_counted bit span ▸ write_start (start_of start) ▸ write_optional (option_map expression_of test) ▸ write_effects (map effect_of z) ▸ statement_written x.value ▸ after_counted bit span) (sym is_xs)
    ∙ ap (λ (z : Statement). before_counted bit span ▸ write_start (start_of start) ▸ write_optional (option_map expression_of test) ▸ write_effects (map effect_of xs) ▸ statement_written z ▸ after_counted bit span) (sym is_s))

pub statement_dowhile : (tree : Statement) (s : Statement) (x : Box Statement Global) (e : Expression) (keyword : Span) (span : Span) (bit : Option ℕ) → tree ≡ statement.DoWhile x e keyword span bit → s ≡ x.value → statement_written tree ≡ (before_counted bit span ▸ statement_written s ▸ expression_written e ▸ after_counted bit span)
statement_dowhile tree s x e keyword span bit is is_s =
    (ap statement_written is ∙ (ap statement_written (sym (statement.rolls-DoWhile x e keyword span bit))
    ∙ ap write_statement (fold-roll-Statement p.Statement node_statement (Statement-F.DoWhile x e keyword span bit))))
    ∙ ap (λ (z : Statement). before_counted bit span ▸ statement_written z ▸ expression_written e ▸ after_counted bit span) (sym is_s)

pub statement_break : (tree : Statement) (span : Span) (bit : Option ℕ) → tree ≡ statement.Break span bit → statement_written tree ≡ (before_counted bit span ▸ after_counted bit span)
statement_break tree span bit is =
    ap statement_written is ∙ (ap statement_written (sym (statement.rolls-Break span bit))
    ∙ ap write_statement (fold-roll-Statement p.Statement node_statement (Statement-F.Break span bit)))

pub statement_continue : (tree : Statement) (span : Span) (bit : Option ℕ) → tree ≡ statement.Continue span bit → statement_written tree ≡ (before_counted bit span ▸ after_counted bit span)
statement_continue tree span bit is =
    ap statement_written is ∙ (ap statement_written (sym (statement.rolls-Continue span bit))
    ∙ ap write_statement (fold-roll-Statement p.Statement node_statement (Statement-F.Continue span bit)))

pub statement_return : (tree : Statement) (value : ReturnValue) (span : Span) (bit : Option ℕ) (exit : Option ℕ) → tree ≡ statement.Return value span bit exit → statement_written tree ≡ (before_counted bit span ▸ write_return exit span (return_value_of value) ▸ after_counted bit span)
statement_return tree value span bit exit is =
    ap statement_written is ∙ (ap statement_written (sym (statement.rolls-Return value span bit exit))
    ∙ ap write_statement (fold-roll-Statement p.Statement node_statement (Statement-F.Return value span bit exit)))
