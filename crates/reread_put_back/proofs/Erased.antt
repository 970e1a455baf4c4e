-- A program with probes that were put back is the program without them.
use Rattle.std.proofs.Common.{◌≡◌, ◌∙◌, refl, ℕ, List, [], ◌∷◌, map, option_map, Option, Some, None}
use Rattle.mc_span.specs.declared.span.Span.{Span}
use Rattle.mc_steps.specs.Points.{initializes}
use Rattle.reread_pieces.specs.declared.piece.What.{What}
use Rattle.reread_pieces.specs.declared.piece.What.TheVariants as what
use Rattle.reread_pieces.specs.declared.placed.Placed.{Placed}
use Rattle.mc_typed.specs.Tree as t
use Rattle.mc_probe.specs.Tree as tree
use Rattle.mc_probe.specs.Erase.{erase_place, erase_expression, erase_structure, erase_call, erase_argument, erase_arguments, erase_effect, erase_initializer, erase_initializers, erase_declarator, erase_start, erase_return, erase_statement, erase_statements, erase_function}
use Rattle.mc_probe.proofs.Backs.{expression_back}
use Rattle.reread_put_back.specs.Pens.{Pen, Walk, each, put}
use Rattle.reread_put_back.specs.Rows.{entry_bit, register_count, statement_bit}
use Rattle.reread_put_back.specs.Back.{round, leading, surrounded, around, back_place, back, back_structure, back_call, back_argument, back_arguments, back_effect, back_initializer, back_initializers, back_initial, back_declarator, back_declared, back_head, back_start, back_test, back_return, back_statement, back_statements, back_function}
use Rattle.std.proofs.Common.{take, drop, unwrap_or}
use Rattle.reread_put_back.specs.steps.Inside.{inside}

pub round_away : (w : What) (x : tree.Expression) → erase_expression (round w x) ≡ erase_expression x
round_away what.Source x = refl
round_away (what.Opening b) x = refl
round_away what.Closing x = refl
round_away (what.Registers n) x = refl
round_away (what.Entry b) x = refl
round_away (what.Exit b) x = refl
round_away (what.Declaration b) x = refl
round_away (what.Label r b) x = refl
round_away (what.Default r b) x = refl
round_away (what.Statement b) x = refl
round_away what.StatementEnd x = refl
round_away what.Value x = refl
round_away (what.ValueEnd b) x = refl
round_away (what.Return b) x = refl
round_away what.ReturnEnd x = refl
round_away (what.Decision r b) x = refl
round_away (what.Condition r b c) x = refl
round_away (what.Switch r) x = refl
round_away what.OperandEnd x = refl

-- the items of a list
pub each_away : {T Q : Type 0} (walk : T → Walk Q) (erased : Q → T) → ((x : T) (s : Pen) → erased (walk x s).0 ≡ x) → (xs : List T) (s : Pen) → map erased (each walk xs s).0 ≡ xs
each_away walk erased one [] s = refl
each_away walk erased one (x ∷ xs) s = λ i. one x s i ∷ each_away walk erased one xs (walk x s).1 i

module _ (r : ℕ) where
  surrounded_away : (qs : List Placed) (done : tree.Expression × Pen) → erase_expression (surrounded r qs done).0 ≡ erase_expression done.0
  surrounded_away [] done = refl
  surrounded_away (q ∷ qs) done = round_away q.what (surrounded r qs done).0 ∙ surrounded_away qs done

  around_away : (x : t.Expression) (s : Pen) → ((q : Pen) → erase_expression (inside r x q).0 ≡ x) → erase_expression (around r x (inside r x) s).0 ≡ x
  around_away x s one =
      let from : Pen = record s { left = drop (leading x s.left) s.left } in
      surrounded_away (take (leading x s.left) s.left) (inside r x from) ∙ one from

  mutual
    pub place_away : (x : t.Place) (s : Pen) → erase_place (back_place r x s).0 ≡ x
    place_away (t.Local slot span) s = refl
    place_away (t.Static slot span) s = refl
    place_away (t.Parameter array stride index span) s = λ i. t.Parameter array stride (expression_away index s i) span
    place_away (t.Item array n stride index span) s =
        λ i. t.Item (place_away array s i) n stride (expression_away index (back_place r array s).1 i) span
    place_away (t.Member structure k offset span) s = λ i. t.Member (place_away structure s i) k offset span

    pub expression_away : (x : t.Expression) (s : Pen) → erase_expression (back r x s).0 ≡ x
    expression_away (t.Constant v a span) s = around_away (t.Constant v a span) s (λ q. refl)
    expression_away (t.Read place a) s = around_away (t.Read place a) s (λ q i. t.Read (place_away place q i) a)
    expression_away (t.Unary operator a e span) s = around_away (t.Unary operator a e span) s (λ q i. t.Unary operator a (expression_away e q i) span)
    expression_away (t.Convert a written e span) s = around_away (t.Convert a written e span) s (λ q i. t.Convert a written (expression_away e q i) span)
    expression_away (t.Not e span) s = around_away (t.Not e span) s (λ q i. t.Not (expression_away e q i) span)
    expression_away (t.Binary operator a e f span) s = around_away (t.Binary operator a e f span) s (λ q i. t.Binary operator a (expression_away e q i) (expression_away f (back r e q).1 i) span)
    expression_away (t.Logic operator e f span) s = around_away (t.Logic operator e f span) s (λ q i. t.Logic operator (expression_away e q i) (expression_away f (back r e q).1 i) span)
    expression_away (t.Choice e f g a span) s = around_away (t.Choice e f g a span) s (λ q i. t.Choice (expression_away e q i) (expression_away f (back r e q).1 i) (expression_away g (back r f (back r e q).1).1 i) a span)
    expression_away (t.Call k a) s = around_away (t.Call k a) s (λ q i. t.Call (call_away k q i) a)
    expression_away (t.Input span) s = around_away (t.Input span) s (λ q. refl)

    pub structure_away : (x : t.StructureValue) (s : Pen) → erase_structure (back_structure r x s).0 ≡ x
    structure_away (t.Stored place) s = λ i. t.Stored (place_away place s i)
    structure_away (t.Returned k) s = λ i. t.Returned (call_away k s i)

    pub call_away : (x : t.FunctionCall) (s : Pen) → erase_call (back_call r x s).0 ≡ x
    call_away (t.call f given result span) s = λ i. t.call f (arguments_away given s i) result span

    argument_away : (x : t.Argument) (s : Pen) → erase_argument (back_argument r x s).0 ≡ x
    argument_away (t.NumberArgument e) s = λ i. t.NumberArgument (expression_away e s i)
    argument_away (t.StructureArgument value copy) s = λ i. t.StructureArgument (structure_away value s i) copy
    argument_away (t.ArrayArgument place n) s = λ i. t.ArrayArgument (place_away place s i) n
    argument_away (t.AgainArgument array span) s = refl

    arguments_away : (x : t.Arguments) (s : Pen) → erase_arguments (back_arguments r x s).0 ≡ x
    arguments_away t.no_arguments s = refl
    arguments_away (t.arguments a rest) s =
        λ i. t.arguments (argument_away a s i) (arguments_away rest (back_argument r a s).1 i)

  pub effect_away : (x : t.Effect) (s : Pen) → erase_effect (back_effect r x s).0 ≡ x
  effect_away (t.Assign target a e span) s =
      λ i. t.Assign (place_away target s i) a (expression_away e (back_place r target s).1 i) span
  effect_away (t.Update target a operator common e span) s =
      λ i. t.Update (place_away target s i) a operator common (expression_away e (back_place r target s).1 i) span
  effect_away (t.Copy target value n span) s =
      λ i. t.Copy (place_away target s i) (structure_away value (back_place r target s).1 i) n span
  effect_away (t.NumberEffect e whole) s = λ i. t.NumberEffect (expression_away e s i) whole
  effect_away (t.StructureEffect value whole) s = λ i. t.StructureEffect (structure_away value s i) whole
  effect_away (t.CallEffect k) s = λ i. t.CallEffect (call_away k s i)
  effect_away (t.Output e span) s = λ i. t.Output (expression_away e s i) span
  effect_away (t.ChoiceEffect e a b span) s =
      λ i. t.ChoiceEffect (expression_away e s i) (effect_away a (back r e s).1 i) (effect_away b (back_effect r a (back r e s).1).1 i) span
  effect_away (t.Discard a span) s = λ i. t.Discard (effect_away a s i) span

  mutual
    initializer_away : (x : t.Initializer) (s : Pen) → erase_initializer (back_initializer r x s).0 ≡ x
    initializer_away (t.NumberInitializer e) s = λ i. t.NumberInitializer (expression_away e s i)
    initializer_away (t.StructureInitializer value n) s = λ i. t.StructureInitializer (structure_away value s i) n
    initializer_away (t.ListInitializer items n) s = λ i. t.ListInitializer (initializers_away items s i) n
    initializer_away (t.ZeroInitializer e n) s = λ i. t.ZeroInitializer (expression_back e i) n

    initializers_away : (x : t.Initializers) (s : Pen) → erase_initializers (back_initializers r x s).0 ≡ x
    initializers_away t.no_initializers s = refl
    initializers_away (t.initializers x rest) s =
        λ i. t.initializers (initializer_away x s i) (initializers_away rest (back_initializer r x s).1 i)

  initial_away : (x : Option t.Initializer) (s : Pen) → option_map erase_initializer (back_initial r x s).0 ≡ x
  initial_away None s = refl
  initial_away (Some x) s = λ i. Some (initializer_away x s i)

  declarator_away : (x : t.Declarator) (s : Pen) → erase_declarator (back_declarator r x s).0 ≡ x
  declarator_away x s = λ i. record { slot = x.slot; cells = x.cells; value = initial_away x.value s i }

  pub effects_away : (xs : List t.Effect) (s : Pen) → map erase_effect (each (back_effect r) xs s).0 ≡ xs
  effects_away = each_away (back_effect r) erase_effect effect_away

  pub declarators_away : (xs : List t.Declarator) (s : Pen) → map erase_declarator (each (back_declarator r) xs s).0 ≡ xs
  declarators_away = each_away (back_declarator r) erase_declarator declarator_away

  start_away : (x : t.ForStart) (s : Pen) → erase_start (back_start r x s).0 ≡ x
  start_away (t.StartEffects effects) s = λ i. t.StartEffects (effects_away effects s i)
  start_away (t.StartDeclaration declarators) s = λ i. t.StartDeclaration (declarators_away declarators s i)

  test_away : (x : Option t.Expression) (s : Pen) → option_map erase_expression (back_test r x s).0 ≡ x
  test_away None s = refl
  test_away (Some x) s = λ i. Some (expression_away x s i)

  return_away : (x : t.ReturnValue) (s : Pen) → erase_return (back_return r x s).0 ≡ x
  return_away t.ReturnNothing s = refl
  return_away (t.ReturnNumber e) s = λ i. t.ReturnNumber (expression_away e s i)
  return_away (t.ReturnStructure value n) s = λ i. t.ReturnStructure (structure_away value s i) n

  -- the pen after the probe of a counted statement
  abbrev pub after : Span → Pen → Pen
  after span s = (put r statement_bit span s).1

  mutual
    pub statement_away : (x : t.Statement) (s : Pen) → erase_statement (back_statement r x s).0 ≡ x
    statement_away (t.Compound items span) s = λ i. t.Compound (statements_away items s i) span
    statement_away (t.Label v span) s = refl
    statement_away (t.Declaration declarators span) s =
        λ i. t.Declaration (declarators_away declarators (back_declared r (initializes declarators) span s).1 i) span
    statement_away (t.Null span) s = refl
    statement_away (t.EffectStatement effect span) s = λ i. t.EffectStatement (effect_away effect (after span s) i) span
    statement_away (t.If e x keyword span) s =
        λ i. t.If (expression_away e (after span s) i) (statement_away x (back r e (after span s)).1 i) keyword span
    statement_away (t.IfElse e x y keyword span) s =
        λ i. t.IfElse (expression_away e (after span s) i) (statement_away x (back r e (after span s)).1 i) (statement_away y (back_statement r x (back r e (after span s)).1).1 i) keyword span
    statement_away (t.Switch e items keyword span) s =
        λ i. t.Switch (expression_away e (after span s) i) (statements_away items (back r e (after span s)).1 i) keyword span
    statement_away (t.For start test step x keyword span) s =
        let first : Pen = (back_start r start (after span s)).1 in
        λ i. t.For (start_away start (after span s) i) (test_away test first i) (effects_away step (back_test r test first).1 i) (statement_away x (back_head r start test step (after span s)).1 i) keyword span
    statement_away (t.DoWhile x e keyword span) s =
        λ i. t.DoWhile (statement_away x (after span s) i) (expression_away e (back_statement r x (after span s)).1 i) keyword span
    statement_away (t.Break span) s = refl
    statement_away (t.Continue span) s = refl
    statement_away (t.Return value span) s = λ i. t.Return (return_away value (after span s) i) span

    pub statements_away : (x : t.Statements) (s : Pen) → erase_statements (back_statements r x s).0 ≡ x
    statements_away t.no_statements s = refl
    statements_away (t.statements x rest) s =
        λ i. t.statements (statement_away x s i) (statements_away rest (back_statement r x s).1 i)

-- after the number of registers and the entry of a function
abbrev pub entered : Span → Pen → Pen
entered span s = (put 0 entry_bit span (put 0 register_count span s).1).1

abbrev pub registers_of : Span → Pen → ℕ
registers_of span s = unwrap_or (put 0 register_count span s).0 0

function_away : (f : t.Function) (s : Pen) → erase_function (back_function f s).0 ≡ f
function_away f s = λ i. record {
  name = f.name;
  name_span = f.name_span;
  parameters = f.parameters;
  result = f.result;
  objects = f.objects;
  body = statements_away (registers_of f.name_span s) f.body (entered f.name_span s) i;
  closing = f.closing;
}

pub functions_away : (fs : List t.Function) (s : Pen) → map erase_function (each back_function fs s).0 ≡ fs
functions_away = each_away back_function erase_function function_away
