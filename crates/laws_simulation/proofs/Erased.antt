-- The probes taken away, an instrumented program is the program.
use Rattle.std.proofs.Common.{◌≡◌, ℕ, ◌+◌, Bool, true, false, if◌then◌else◌, List, [], ◌∷◌, map, option_map, Option, Some, None, refl}
use Rattle.mc_typed.specs.declared.probes.Probe.TheVariants as probe
use Rattle.mc_typed.specs.Tree as t
use Rattle.decide_rules.specs.declared.role.Role.TheVariants.{Controlling, Plain}
use Rattle.decide_rules.specs.Nodes.{Node}
use Rattle.decide_rules.specs.Nodes as n
use Rattle.decide_rules.specs.Roots.{is_root}
use Rattle.decide_rules.specs.Conditions.{width, is_operator}
use Rattle.decide_rules.specs.Counts.{roots, roots_in}
use Rattle.mc_steps.specs.Points.{Points, no_points, ◌⊕◌, points_of_function, has_default}
use Rattle.mc_probe.specs.Tree as p
use Rattle.mc_probe.specs.Erase.{erase_place, erase_expression, erase_structure, erase_call, erase_argument, erase_arguments, erase_effect, erase_initializer, erase_initializers, erase_declarator, erase_start, erase_return, erase_statement, erase_statements, erase_function}
use Rattle.mc_probe.specs.Maps.{Map, exit_bit, statement_bit, label_bit}
use Rattle.mc_probe.specs.Table.{Stand, Loose, InTree, role_of, operand, under, beside, inner, base_of, increment_of, mapped, round_condition, round, put, put_place, put_structure, put_call, put_argument, put_arguments, put_effect, put_effects, put_initializer, put_initializers, put_initial, put_declarators, put_start, put_optional, put_return, At, decided, past, within, in_switch, put_statement, put_statements, put_function, put_functions, decisions_in}
use Rattle.mc_probe.proofs.Backs.{expression_back}
use Rattle.laws_simulation.specs.Laws.{InstrumentedErases}

where_either : (b : Bool) (x y : p.Expression) (e : t.Expression) → erase_expression x ≡ e → erase_expression y ≡ e → erase_expression (if b then x else y) ≡ e
where_either true x y e h k = h
where_either false x y e h k = k

module _ (m : Map) (first : ℕ) where
  condition_away : (k c : ℕ) (a : Node) (x : p.Expression) (e : t.Expression) → erase_expression x ≡ e → erase_expression (round_condition m first k c a x) ≡ e
  condition_away k c a x e h = where_either (is_operator a) x (p.Probe (probe.Condition k 0 (increment_of (mapped m first k) c)) x) e h h

  away : (st : Stand) (d : ℕ) (a : Node) (x : p.Expression) (e : t.Expression) → erase_expression x ≡ e → erase_expression (round m first st d a x) ≡ e
  away (Loose role) d a x e h =
      where_either (is_root role a) (p.Probe (probe.Decision d (base_of (mapped m first d))) (round_condition m first d 0 a x)) x e (condition_away d 0 a x e h) h
  away (InTree k c) d a x e h = condition_away k c a x e h

  mutual
    place_away : (d : ℕ) (x : t.Place) → erase_place (put_place m first d x) ≡ x
    place_away d (t.Local slot span) = refl
    place_away d (t.Static slot span) = refl
    place_away d (t.Parameter array stride index span) = λ i. t.Parameter array stride (put_away (Loose Plain) d index i) span
    place_away d (t.Item array k stride index span) =
        λ i. t.Item (place_away d array i) k stride (put_away (Loose Plain) (d + roots Plain (n.place array)) index i) span
    place_away d (t.Member structure k offset span) = λ i. t.Member (place_away d structure i) k offset span

    put_away : (st : Stand) (d : ℕ) (x : t.Expression) → erase_expression (put m first st d x) ≡ x
    put_away st d (t.Constant v a span) = away st d _ (p.Constant v a span) (t.Constant v a span) refl
    put_away st d (t.Read place a) =
        let z : ℕ = inner st d (n.expression (t.Read place a)) in
        away st d _ (p.Read (put_place m first z place) a) (t.Read place a) (λ i. t.Read (place_away z place i) a)
    put_away st d (t.Unary operator a e span) =
        let z : ℕ = inner st d (n.expression (t.Unary operator a e span)) in
        away st d _ (p.Unary operator a (put m first (Loose Plain) z e) span) (t.Unary operator a e span) (λ i. t.Unary operator a (put_away (Loose Plain) z e i) span)
    put_away st d (t.Convert a written e span) =
        let z : ℕ = inner st d (n.expression (t.Convert a written e span)) in
        away st d _ (p.Convert a written (put m first (Loose Plain) z e) span) (t.Convert a written e span) (λ i. t.Convert a written (put_away (Loose Plain) z e i) span)
    put_away st d (t.Not e span) =
        let z : ℕ = inner st d (n.expression (t.Not e span)) in
        let o : Stand = operand st d (n.expression (t.Not e span)) in
        away st d _ (p.Not (put m first o z e) span) (t.Not e span) (λ i. t.Not (put_away o z e i) span)
    put_away st d (t.Binary operator a e f span) =
        let z : ℕ = inner st d (n.expression (t.Binary operator a e f span)) in
        let o : Stand = under (n.full_operator operator e f) (operand st d (n.expression (t.Binary operator a e f span))) in
        let y : ℕ = z + roots (role_of o) (n.expression e) in
        let q : Stand = beside o (width (n.expression e)) in
        away st d _ (p.Binary operator a (put m first o z e) (put m first q y f) span) (t.Binary operator a e f span)
        (λ i. t.Binary operator a (put_away o z e i) (put_away q y f i) span)
    put_away st d (t.Logic operator e f span) =
        let z : ℕ = inner st d (n.expression (t.Logic operator e f span)) in
        let o : Stand = operand st d (n.expression (t.Logic operator e f span)) in
        let y : ℕ = z + roots (role_of o) (n.expression e) in
        let q : Stand = beside o (width (n.expression e)) in
        away st d _ (p.Logic operator (put m first o z e) (put m first q y f) span) (t.Logic operator e f span)
        (λ i. t.Logic operator (put_away o z e i) (put_away q y f i) span)
    put_away st d (t.Choice e f g a span) =
        let z : ℕ = inner st d (n.expression (t.Choice e f g a span)) in
        let y : ℕ = z + roots Controlling (n.expression e) in
        let l : ℕ = y + roots Plain (n.expression f) in
        away st d _ (p.Choice (put m first (Loose Controlling) z e) (put m first (Loose Plain) y f) (put m first (Loose Plain) l g) a span) (t.Choice e f g a span)
        (λ i. t.Choice (put_away (Loose Controlling) z e i) (put_away (Loose Plain) y f i) (put_away (Loose Plain) l g i) a span)
    put_away st d (t.Call k a) =
        let z : ℕ = inner st d (n.expression (t.Call k a)) in
        away st d _ (p.Call (put_call m first z k) a) (t.Call k a) (λ i. t.Call (call_away z k i) a)
    put_away st d (t.Input span) = away st d _ (p.Input span) (t.Input span) refl

    structure_away : (d : ℕ) (x : t.StructureValue) → erase_structure (put_structure m first d x) ≡ x
    structure_away d (t.Stored place) = λ i. t.Stored (place_away d place i)
    structure_away d (t.Returned k) = λ i. t.Returned (call_away d k i)

    call_away : (d : ℕ) (x : t.FunctionCall) → erase_call (put_call m first d x) ≡ x
    call_away d (t.call f given result span) = λ i. t.call f (arguments_away d given i) result span

    argument_away : (d : ℕ) (x : t.Argument) → erase_argument (put_argument m first d x) ≡ x
    argument_away d (t.NumberArgument e) = λ i. t.NumberArgument (put_away (Loose Plain) d e i)
    argument_away d (t.StructureArgument value copy) = λ i. t.StructureArgument (structure_away d value i) copy
    argument_away d (t.ArrayArgument place k) = λ i. t.ArrayArgument (place_away d place i) k
    argument_away d (t.AgainArgument array span) = refl

    arguments_away : (d : ℕ) (x : t.Arguments) → erase_arguments (put_arguments m first d x) ≡ x
    arguments_away d t.no_arguments = refl
    arguments_away d (t.arguments a rest) =
        λ i. t.arguments (argument_away d a i) (arguments_away (d + roots Plain (n.argument a)) rest i)

  abbrev after_place : ℕ → t.Place → ℕ
  after_place d place = d + roots Plain (n.place place)

  effect_away : (d : ℕ) (x : t.Effect) → erase_effect (put_effect m first d x) ≡ x
  effect_away d (t.Assign target a e span) = λ i. t.Assign (place_away d target i) a (put_away (Loose Plain) (after_place d target) e i) span
  effect_away d (t.Update target a operator common e span) =
      λ i. t.Update (place_away d target i) a operator common (put_away (Loose Plain) (after_place d target) e i) span
  effect_away d (t.Copy target value k span) = λ i. t.Copy (place_away d target i) (structure_away (after_place d target) value i) k span
  effect_away d (t.NumberEffect e whole) = λ i. t.NumberEffect (put_away (Loose Plain) d e i) whole
  effect_away d (t.StructureEffect value whole) = λ i. t.StructureEffect (structure_away d value i) whole
  effect_away d (t.CallEffect k) = λ i. t.CallEffect (call_away d k i)
  effect_away d (t.Output e span) = λ i. t.Output (put_away (Loose Plain) d e i) span
  effect_away d (t.ChoiceEffect e a b span) =
      λ i. t.ChoiceEffect (put_away (Loose Controlling) d e i) (effect_away (d + roots Controlling (n.expression e)) a i)
      (effect_away (d + roots Controlling (n.expression e) + roots Plain (n.effect a)) b i) span
  effect_away d (t.Discard a span) = λ i. t.Discard (effect_away d a i) span

  effects_away : (d : ℕ) (xs : List t.Effect) → map erase_effect (put_effects m first d xs) ≡ xs
  effects_away d [] = refl
  effects_away d (x ∷ xs) = λ i. effect_away d x i ∷ effects_away (d + roots Plain (n.effect x)) xs i

  mutual
    initializer_away : (d : ℕ) (x : t.Initializer) → erase_initializer (put_initializer m first d x) ≡ x
    initializer_away d (t.NumberInitializer e) = λ i. t.NumberInitializer (put_away (Loose Plain) d e i)
    initializer_away d (t.StructureInitializer value k) = λ i. t.StructureInitializer (structure_away d value i) k
    initializer_away d (t.ListInitializer items k) = λ i. t.ListInitializer (initializers_away d items i) k
    initializer_away d (t.ZeroInitializer e k) = λ i. t.ZeroInitializer (expression_back e i) k

    initializers_away : (d : ℕ) (x : t.Initializers) → erase_initializers (put_initializers m first d x) ≡ x
    initializers_away d t.no_initializers = refl
    initializers_away d (t.initializers x rest) =
        λ i. t.initializers (initializer_away d x i) (initializers_away (d + roots Plain (n.initializer x)) rest i)

  initial_away : (d : ℕ) (x : Option t.Initializer) → option_map erase_initializer (put_initial m first d x) ≡ x
  initial_away d None = refl
  initial_away d (Some x) = λ i. Some (initializer_away d x i)

  optional_away : (d : ℕ) (x : Option t.Expression) → option_map erase_expression (put_optional m first d x) ≡ x
  optional_away d None = refl
  optional_away d (Some x) = λ i. Some (put_away (Loose Controlling) d x i)

  pub declarators_away : (d : ℕ) (xs : List t.Declarator) → map erase_declarator (put_declarators m first d xs) ≡ xs
  declarators_away d [] = refl
  declarators_away d (x ∷ xs) =
      λ i. record { slot = x.slot; cells = x.cells; value = initial_away d x.value i } ∷ declarators_away (d + roots Plain (n.initial x.value)) xs i

  start_away : (d : ℕ) (x : t.ForStart) → erase_start (put_start m first d x) ≡ x
  start_away d (t.StartEffects effects) = λ i. t.StartEffects (effects_away d effects i)
  start_away d (t.StartDeclaration declarators) = λ i. t.StartDeclaration (declarators_away d declarators i)

  return_away : (d : ℕ) (x : t.ReturnValue) → erase_return (put_return m first d x) ≡ x
  return_away d t.ReturnNothing = refl
  return_away d (t.ReturnNumber e) = λ i. t.ReturnNumber (put_away (Loose Plain) d e i)
  return_away d (t.ReturnStructure value k) = λ i. t.ReturnStructure (structure_away d value i) k

  mutual
    pub statement_away : (r : ℕ) (at : At m first) (x : t.Statement) → erase_statement (put_statement m first r at x) ≡ x
    statement_away r at (t.Compound items span) = λ i. t.Compound (statements_away r at items i) span
    statement_away r at (t.Label v span) = refl
    statement_away r at (t.Declaration declarators span) = λ i. t.Declaration (declarators_away at.decision declarators i) span
    statement_away r at (t.Null span) = refl
    statement_away r at (t.EffectStatement effect span) = λ i. t.EffectStatement (effect_away at.decision effect i) span
    statement_away r at (t.If e s keyword span) =
        let x : At m first = decided m first (roots Controlling (n.expression e)) (within m first at) in
        λ i. t.If (put_away (Loose Controlling) at.decision e i) (statement_away r x s i) keyword span
    statement_away r at (t.IfElse e s u keyword span) =
        let x : At m first = decided m first (roots Controlling (n.expression e)) (within m first at) in
        λ i. t.IfElse (put_away (Loose Controlling) at.decision e i) (statement_away r x s i) (statement_away r (past m first s x) u i) keyword span
    statement_away r at (t.Switch e items keyword span) =
        let x : At m first = decided m first (roots Plain (n.expression e)) (in_switch m first (has_default items) at) in
        λ i. t.Switch (put_away (Loose Plain) at.decision e i) (statements_away at.switch x items i) keyword span
    statement_away r at (t.For start test step s keyword span) =
        let d : ℕ = at.decision + roots Plain (n.start start) in
        let y : ℕ = d + roots Plain (n.optional_test test) in
        let x : At m first = decided m first (roots Plain (n.start start) + roots Plain (n.optional_test test) + roots_in (n.effects step)) (within m first at) in
        λ i. t.For (start_away at.decision start i) (optional_away d test i) (effects_away y step i) (statement_away r x s i) keyword span
    statement_away r at (t.DoWhile s e keyword span) =
        λ i. t.DoWhile (statement_away r (within m first at) s i) (put_away (Loose Controlling) (at.decision + roots Plain (n.statement s)) e i) keyword span
    statement_away r at (t.Break span) = refl
    statement_away r at (t.Continue span) = refl
    statement_away r at (t.Return value span) = λ i. t.Return (return_away at.decision value i) span

    pub statements_away : (r : ℕ) (at : At m first) (x : t.Statements) → erase_statements (put_statements m first r at x) ≡ x
    statements_away r at t.no_statements = refl
    statements_away r at (t.statements s rest) =
        λ i. t.statements (statement_away r at s i) (statements_away r (past m first s at) rest i)

pub function_away : (m : Map) (number decisions : ℕ) (points : Points) (x : t.Function) → erase_function (put_function m number decisions points x) ≡ x
function_away m number decisions points x = λ i. record {
  name = x.name;
  name_span = x.name_span;
  parameters = x.parameters;
  result = x.result;
  objects = x.objects;
  body = statements_away m decisions 0 (record {
    exit = exit_bit m points.exits;
    statement = statement_bit m points.statements;
    label = label_bit m points.labels;
    decision = 0;
    switch = decisions_in x;
  }) x.body i;
  closing = x.closing;
}

functions_away : (m : Map) (number decisions : ℕ) (points : Points) (xs : List t.Function) → map erase_function (put_functions m number decisions points xs) ≡ xs
functions_away m number decisions points [] = refl
functions_away m number decisions points (x ∷ xs) =
    λ i. function_away m number decisions points x i ∷ functions_away m (number + 1) (decisions + decisions_in x) (points ⊕ points_of_function x) xs i

pub program_away : InstrumentedErases
program_away m x = λ i. record {
  functions = functions_away m 0 0 no_points x.functions i;
  statics = x.statics;
  structures = x.structures;
}
