-- The nodes of a program at other places are its nodes, at those places; and what makes a decision
-- of a node does not depend on its place.
use Rattle.std.proofs.Common.{◌≡◌, ℕ, ◌+◌, Bool, true, false, ◌&&◌, ◌||◌, not, List, [], ◌∷◌, ◌++◌, map, Option, Some, None, option_map, if◌then◌else◌, refl, sym, ap, ap₂, ◌∙◌}
use Rattle.mc_span.specs.declared.span.Span.{Span}
use Rattle.mc_cond.specs.Tree as conditions
use Rattle.mc_typed.specs.declared.operators.Operator as code
use Rattle.mc_typed.specs.Tree as t
use Rattle.decide_rules.specs.declared.role.Role.{Role}
use Rattle.decide_rules.specs.declared.role.Role.TheVariants.{Controlling, Inner, Plain}
use Rattle.decide_rules.specs.declared.operators.FullOperator.{FullOperator}
use Rattle.decide_rules.specs.declared.operators.Junction.TheVariants.{Short}
use Rattle.decide_rules.specs.Nodes.{Node, Constant, Not, Logic, Expression, Whole, Parts, no_parts, part, controlling, Operator, Other}
use Rattle.decide_rules.specs.Nodes as n
use Rattle.decide_rules.specs.Roots.{is_constant, are_constant, is_boolean, is_candidate, is_root, operand_role, is_inner}
use Rattle.decide_rules.specs.Conditions.{width, tree_from, joined, is_operator}
use Rattle.decide_rules.specs.Counts.{one_where, roots, roots_in}
use Rattle.decide_rules.specs.steps.Walk.{pushed, kept, entered, inside, inside_parts, visited}
use Rattle.reread_law_texts.specs.alike.Moves.{Move, moved_span}
use Rattle.reread_law_places.specs.natural.Moved.{moved_place, moved_number, moved_structure, moved_call, moved_argument, moved_arguments, moved_effect, moved_effects, moved_filling, moved_fillings, moved_object, moved_objects, moved_for_start, moved_return_value, moved_typed_statement, moved_typed_statements, moved_function, moved_functions}

-- ---- a node at other places

abbrev mutual
  pub moved_node : Move → Node → Node
  moved_node m (Constant span) = Constant (moved_span m span)
  moved_node m (Not a span) = Not (moved_node m a) (moved_span m span)
  moved_node m (Logic operator a b span) =
      Logic operator (moved_node m a) (moved_node m b) (moved_span m span)
  moved_node m (Expression top ps span) = Expression top (moved_parts m ps) (moved_span m span)
  moved_node m (Whole ps) = Whole (moved_parts m ps)

  pub moved_parts : Move → Parts → Parts
  moved_parts m no_parts = no_parts
  moved_parts m (part a ps) = part (moved_node m a) (moved_parts m ps)
  moved_parts m (controlling a ps) = controlling (moved_node m a) (moved_parts m ps)

-- ---- what is asked of it

mutual
  pub constant_same : (m : Move) (a : Node) → is_constant (moved_node m a) ≡ is_constant a
  constant_same m (Constant span) = refl
  constant_same m (Not a span) = constant_same m a
  constant_same m (Logic operator a b span) = ap₂ (λ x y. x && y) (constant_same m a) (constant_same m b)
  constant_same m (Expression (Operator compares) ps span) = constants_same m ps
  constant_same m (Expression Other ps span) = refl
  constant_same m (Whole ps) = refl

  constants_same : (m : Move) (ps : Parts) → are_constant (moved_parts m ps) ≡ are_constant ps
  constants_same m no_parts = refl
  constants_same m (part a ps) = ap₂ (λ x y. x && y) (constant_same m a) (constants_same m ps)
  constants_same m (controlling a ps) = ap₂ (λ x y. x && y) (constant_same m a) (constants_same m ps)

boolean_same : (m : Move) (a : Node) → is_boolean (moved_node m a) ≡ is_boolean a
boolean_same m (Constant span) = refl
boolean_same m (Not a span) = refl
boolean_same m (Logic operator a b span) = refl
boolean_same m (Expression (Operator compares) ps span) = refl
boolean_same m (Expression Other ps span) = refl
boolean_same m (Whole ps) = refl

pub candidate_same : (m : Move) (role : Role) (a : Node) → is_candidate role (moved_node m a) ≡ is_candidate role a
candidate_same m Controlling a = refl
candidate_same m Inner a = refl
candidate_same m Plain a = boolean_same m a

pub root_same : (m : Move) (role : Role) (a : Node) → is_root role (moved_node m a) ≡ is_root role a
root_same m role a = ap₂ (λ x y. x && not y) (candidate_same m role a) (constant_same m a)

role_same : (m : Move) (role : Role) (a : Node) → operand_role role (moved_node m a) ≡ operand_role role a
role_same m role a = ap (λ (x : Bool). if x || is_inner role then Inner else Plain) (root_same m role a)

pub operator_same : (m : Move) (a : Node) → is_operator (moved_node m a) ≡ is_operator a
operator_same m (Constant span) = refl
operator_same m (Not a span) = refl
operator_same m (Logic operator a b span) = refl
operator_same m (Expression top ps span) = refl
operator_same m (Whole ps) = refl

pub width_same : (m : Move) (a : Node) → width (moved_node m a) ≡ width a
width_same m (Constant span) = refl
width_same m (Not a span) = width_same m a
width_same m (Logic operator a b span) = ap₂ (λ x y. x + y) (width_same m a) (width_same m b)
width_same m (Expression top ps span) = refl
width_same m (Whole ps) = refl

pub tree_same : (m : Move) (first : ℕ) (a : Node) → tree_from first (moved_node m a) ≡ tree_from first a
tree_same m first (Constant span) = refl
tree_same m first (Not a span) = ap conditions.Not (tree_same m first a)
tree_same m first (Logic operator a b span) =
    ap₂ (λ x y. joined operator x y) (tree_same m first a)
    (ap (λ w. tree_from (first + w) (moved_node m b)) (width_same m a) ∙ tree_same m (first + width a) b)
tree_same m first (Expression top ps span) = refl
tree_same m first (Whole ps) = refl

mutual
  pub roots_same : (m : Move) (role : Role) (a : Node) → roots role (moved_node m a) ≡ roots role a
  roots_same m role (Constant span) = ap one_where (root_same m role (Constant span))
  roots_same m role (Not a span) =
      ap₂ (λ x y. one_where x + y) (root_same m role (Not a span))
      (ap (λ r. roots r (moved_node m a)) (role_same m role (Not a span))
      ∙ roots_same m (operand_role role (Not a span)) a)
  roots_same m role (Logic operator a b span) =
      let r = operand_role role (Logic operator a b span) in
      ap₂ (λ x y. x + y)
      (ap₂ (λ x y. one_where x + y) (root_same m role (Logic operator a b span))
      (ap (λ r. roots r (moved_node m a)) (role_same m role (Logic operator a b span)) ∙ roots_same m r a))
      (ap (λ r. roots r (moved_node m b)) (role_same m role (Logic operator a b span)) ∙ roots_same m r b)
  roots_same m role (Expression top ps span) =
      ap₂ (λ x y. one_where x + y) (root_same m role (Expression top ps span)) (roots_in_same m ps)
  roots_same m role (Whole ps) =
      ap₂ (λ x y. one_where x + y) (root_same m role (Whole ps)) (roots_in_same m ps)

  pub roots_in_same : (m : Move) (ps : Parts) → roots_in (moved_parts m ps) ≡ roots_in ps
  roots_in_same m no_parts = refl
  roots_in_same m (part a ps) = ap₂ (λ x y. x + y) (roots_same m Plain a) (roots_in_same m ps)
  roots_in_same m (controlling a ps) =
      ap₂ (λ x y. x + y) (roots_same m Controlling a) (roots_in_same m ps)

-- ---- the roots that are found

map_joined : {A B : Type 0} (f : A → B) (xs ys : List A) → map f xs ++ map f ys ≡ map f (xs ++ ys)
map_joined f [] ys = refl
map_joined f (x ∷ xs) ys = ap (λ zs. f x ∷ zs) (map_joined f xs ys)

push_moved : (m : Move) (b : Bool) (a : Node) (found : List Node) →
    pushed b (moved_node m a) (map (moved_node m) found) ≡ map (moved_node m) (pushed b a found)
push_moved m true a found = map_joined (moved_node m) found (a ∷ [])
push_moved m false a found = refl

keep_moved : (m : Move) (b : Bool) (before after : List Node) →
    kept b (map (moved_node m) before) (map (moved_node m) after) ≡ map (moved_node m) (kept b before after)
keep_moved m true before after = refl
keep_moved m false before after = refl

enter_moved : (m : Move) (role : Role) (a : Node) (found : List Node) →
    entered role (moved_node m a) (map (moved_node m) found) ≡ map (moved_node m) (entered role a found)
enter_moved m role a found =
    ap (λ b. pushed b (moved_node m a) (map (moved_node m) found)) (candidate_same m role a)
    ∙ push_moved m (is_candidate role a) a found

-- an operand or a part, from what is found inside it
visit_moved : (m : Move) (role : Role) (a : Node) (found : List Node) →
    inside (moved_node m a) (map (moved_node m) (entered role a found)) ≡ map (moved_node m) (inside a (entered role a found)) →
    visited role (moved_node m a) (map (moved_node m) found) ≡ map (moved_node m) (visited role a found)
visit_moved m role a found h =
    ap₂ (λ b xs. kept b (map (moved_node m) found) xs) (constant_same m a)
    (ap (inside (moved_node m a)) (enter_moved m role a found) ∙ h)
    ∙ keep_moved m (is_constant a) found (inside a (entered role a found))

mutual
  pub inside_moved : (m : Move) (a : Node) (found : List Node) →
      inside (moved_node m a) (map (moved_node m) found) ≡ map (moved_node m) (inside a found)
  inside_moved m (Constant span) found = refl
  inside_moved m (Not a span) found = visit_moved m Inner a found (inside_moved m a (entered Inner a found))
  inside_moved m (Logic operator a b span) found =
      ap (visited Inner (moved_node m b)) (visit_moved m Inner a found (inside_moved m a (entered Inner a found)))
      ∙ visit_moved m Inner b (visited Inner a found) (inside_moved m b (entered Inner b (visited Inner a found)))
  inside_moved m (Expression top ps span) found = parts_moved m ps found
  inside_moved m (Whole ps) found = parts_moved m ps found

  parts_moved : (m : Move) (ps : Parts) (found : List Node) →
      inside_parts (moved_parts m ps) (map (moved_node m) found) ≡ map (moved_node m) (inside_parts ps found)
  parts_moved m no_parts found = refl
  parts_moved m (part a ps) found =
      ap (inside_parts (moved_parts m ps)) (visit_moved m Plain a found (inside_moved m a (entered Plain a found)))
      ∙ parts_moved m ps (visited Plain a found)
  parts_moved m (controlling a ps) found =
      ap (inside_parts (moved_parts m ps)) (visit_moved m Controlling a found (inside_moved m a (entered Controlling a found)))
      ∙ parts_moved m ps (visited Controlling a found)

-- ---- nodes of typed programs

operand_same : (m : Move) (e : t.Expression) → n.is_operand (moved_number m e) ≡ n.is_operand e
operand_same m (t.Constant v a span) = refl
operand_same m (t.Read place a) = refl
operand_same m (t.Unary operator a e span) = refl
operand_same m (t.Convert a true e span) = refl
operand_same m (t.Convert a false e span) = operand_same m e
operand_same m (t.Not e span) = refl
operand_same m (t.Binary operator a e f span) =
    ap₂ (λ x y. n.is_comparison operator || (n.is_bitwise operator && (x && y))) (operand_same m e) (operand_same m f)
operand_same m (t.Logic operator e f span) = refl
operand_same m (t.Choice e f g a span) = refl
operand_same m (t.Call k a) = refl
operand_same m (t.Input span) = refl

pub full_same : (m : Move) (operator : code.Operator) (e f : t.Expression) →
    n.full_operator operator (moved_number m e) (moved_number m f) ≡ n.full_operator operator e f
full_same m operator e f =
    ap₂ (λ (x y : Bool). if x && y then n.bitwise operator else None)
    (operand_same m e) (operand_same m f)

evaluates_moved : (m : Move) (full : Option FullOperator) (operator : code.Operator) (a b : Node) (span : Span) →
    n.evaluates_both full operator (moved_node m a) (moved_node m b) (moved_span m span)
    ≡ moved_node m (n.evaluates_both full operator a b span)
evaluates_moved m (Some o) operator a b span = refl
evaluates_moved m None operator a b span = refl

place_span : (m : Move) (place : t.Place) → t.span_of_place (moved_place m place) ≡ moved_span m (t.span_of_place place)
place_span m (t.Local slot span) = refl
place_span m (t.Static slot span) = refl
place_span m (t.Parameter array stride index span) = refl
place_span m (t.Item array k stride index span) = refl
place_span m (t.Member structure i offset span) = refl

call_span : (m : Move) (k : t.FunctionCall) → t.span_of_call (moved_call m k) ≡ moved_span m (t.span_of_call k)
call_span m (t.call f given result span) = refl

mutual
  pub place_node : (m : Move) (place : t.Place) → n.place (moved_place m place) ≡ moved_node m (n.place place)
  place_node m (t.Local slot span) = refl
  place_node m (t.Static slot span) = refl
  place_node m (t.Parameter array stride index span) =
      ap (λ x. Expression Other (part x no_parts) (moved_span m span)) (number_node m index)
  place_node m (t.Item array k stride index span) =
      ap₂ (λ x y. Expression Other (part x (part y no_parts)) (moved_span m span)) (place_node m array) (number_node m index)
  place_node m (t.Member structure i offset span) =
      ap (λ x. Expression Other (part x no_parts) (moved_span m span)) (place_node m structure)

  pub number_node : (m : Move) (e : t.Expression) → n.expression (moved_number m e) ≡ moved_node m (n.expression e)
  number_node m (t.Constant v a span) = refl
  number_node m (t.Read place a) =
      ap₂ (λ x s. Expression Other (part x no_parts) s) (place_node m place) (place_span m place)
  number_node m (t.Unary operator a e span) =
      ap (λ x. Expression (Operator false) (part x no_parts) (moved_span m span)) (number_node m e)
  number_node m (t.Convert a written e span) =
      ap (λ x. Expression (Operator false) (part x no_parts) (moved_span m span)) (number_node m e)
  number_node m (t.Not e span) = ap (λ x. Not x (moved_span m span)) (number_node m e)
  number_node m (t.Binary operator a e f span) =
      ap (λ o. n.evaluates_both o operator (n.expression (moved_number m e)) (n.expression (moved_number m f)) (moved_span m span))
      (full_same m operator e f)
      ∙ ap₂ (λ x y. n.evaluates_both (n.full_operator operator e f) operator x y (moved_span m span)) (number_node m e) (number_node m f)
      ∙ evaluates_moved m (n.full_operator operator e f) operator (n.expression e) (n.expression f) span
  number_node m (t.Logic operator e f span) =
      ap₂ (λ x y. Logic (Short operator) x y (moved_span m span)) (number_node m e) (number_node m f)
  number_node m (t.Choice e f g a span) =
      ap₂ (λ x y. Expression (Operator false) (controlling x y) (moved_span m span)) (number_node m e)
      (ap₂ (λ x y. part x (part y no_parts)) (number_node m f) (number_node m g))
  number_node m (t.Call k a) =
      ap₂ (λ ps s. Expression Other ps s) (call_node m k) (call_span m k)
  number_node m (t.Input span) = refl

  pub structure_node : (m : Move) (value : t.StructureValue) →
      n.structure (moved_structure m value) ≡ moved_node m (n.structure value)
  structure_node m (t.Stored place) = place_node m place
  structure_node m (t.Returned k) =
      ap₂ (λ ps s. Expression Other ps s) (call_node m k) (call_span m k)

  pub call_node : (m : Move) (k : t.FunctionCall) → n.call_parts (moved_call m k) ≡ moved_parts m (n.call_parts k)
  call_node m (t.call f given result span) = arguments_node m given

  pub argument_node : (m : Move) (a : t.Argument) → n.argument (moved_argument m a) ≡ moved_node m (n.argument a)
  argument_node m (t.NumberArgument e) = number_node m e
  argument_node m (t.StructureArgument value slot) = structure_node m value
  argument_node m (t.ArrayArgument place k) = place_node m place
  argument_node m (t.AgainArgument array span) = refl

  pub arguments_node : (m : Move) (all : t.Arguments) → n.arguments (moved_arguments m all) ≡ moved_parts m (n.arguments all)
  arguments_node m t.no_arguments = refl
  arguments_node m (t.arguments a rest) = ap₂ (λ x ps. part x ps) (argument_node m a) (arguments_node m rest)

pub effect_node : (m : Move) (a : t.Effect) → n.effect (moved_effect m a) ≡ moved_node m (n.effect a)
effect_node m (t.Assign target a e span) =
    ap₂ (λ x y. Whole (part x (part y no_parts))) (place_node m target) (number_node m e)
effect_node m (t.Update target a operator common e span) =
    ap₂ (λ x y. Whole (part x (part y no_parts))) (place_node m target) (number_node m e)
effect_node m (t.Copy target value k span) =
    ap₂ (λ x y. Whole (part x (part y no_parts))) (place_node m target) (structure_node m value)
effect_node m (t.NumberEffect e whole) = number_node m e
effect_node m (t.StructureEffect value whole) = structure_node m value
effect_node m (t.CallEffect k) = ap Whole (call_node m k)
effect_node m (t.Output e span) = ap (λ x. Whole (part x no_parts)) (number_node m e)
effect_node m (t.ChoiceEffect e a b span) =
    ap₂ (λ x ps. Whole (controlling x ps)) (number_node m e)
    (ap₂ (λ x y. part x (part y no_parts)) (effect_node m a) (effect_node m b))
effect_node m (t.Discard a span) = ap (λ x. Whole (part x no_parts)) (effect_node m a)

pub effects_node : (m : Move) (all : List t.Effect) → n.effects (moved_effects m all) ≡ moved_parts m (n.effects all)
effects_node m [] = refl
effects_node m (a ∷ rest) = ap₂ (λ x ps. part x ps) (effect_node m a) (effects_node m rest)

mutual
  pub initializer_node : (m : Move) (i : t.Initializer) → n.initializer (moved_filling m i) ≡ moved_node m (n.initializer i)
  initializer_node m (t.NumberInitializer e) = number_node m e
  initializer_node m (t.StructureInitializer value k) = structure_node m value
  initializer_node m (t.ListInitializer items k) = ap Whole (initializers_node m items)
  initializer_node m (t.ZeroInitializer e k) = number_node m e

  initializers_node : (m : Move) (all : t.Initializers) → n.initializers (moved_fillings m all) ≡ moved_parts m (n.initializers all)
  initializers_node m t.no_initializers = refl
  initializers_node m (t.initializers i rest) = ap₂ (λ x ps. part x ps) (initializer_node m i) (initializers_node m rest)

pub initial_node : (m : Move) (i : Option t.Initializer) → n.initial (option_map (moved_filling m) i) ≡ moved_node m (n.initial i)
initial_node m None = refl
initial_node m (Some i) = initializer_node m i

pub declarators_node : (m : Move) (all : List t.Declarator) → n.declarators (moved_objects m all) ≡ moved_parts m (n.declarators all)
declarators_node m [] = refl
declarators_node m (d ∷ rest) = ap₂ (λ x ps. part x ps) (initial_node m d.value) (declarators_node m rest)

pub start_node : (m : Move) (s : t.ForStart) → n.start (moved_for_start m s) ≡ moved_node m (n.start s)
start_node m (t.StartEffects effects) = ap Whole (effects_node m effects)
start_node m (t.StartDeclaration all) = ap Whole (declarators_node m all)

pub test_node : (m : Move) (e : Option t.Expression) → n.optional_test (option_map (moved_number m) e) ≡ moved_node m (n.optional_test e)
test_node m None = refl
test_node m (Some e) = ap (λ x. Whole (controlling x no_parts)) (number_node m e)

pub value_node : (m : Move) (v : t.ReturnValue) → n.return_value (moved_return_value m v) ≡ moved_node m (n.return_value v)
value_node m t.ReturnNothing = refl
value_node m (t.ReturnNumber e) = number_node m e
value_node m (t.ReturnStructure value k) = structure_node m value

mutual
  pub statement_node : (m : Move) (s : t.Statement) → n.statement (moved_typed_statement m s) ≡ moved_node m (n.statement s)
  statement_node m (t.Compound items span) = ap Whole (statements_node m items)
  statement_node m (t.Label v span) = refl
  statement_node m (t.Declaration all span) = ap Whole (declarators_node m all)
  statement_node m (t.Null span) = refl
  statement_node m (t.EffectStatement effect span) = ap (λ x. Whole (part x no_parts)) (effect_node m effect)
  statement_node m (t.If e s keyword span) =
      ap₂ (λ x y. Whole (controlling x (part y no_parts))) (number_node m e) (statement_node m s)
  statement_node m (t.IfElse e s u keyword span) =
      ap₂ (λ x ps. Whole (controlling x ps)) (number_node m e)
      (ap₂ (λ x y. part x (part y no_parts)) (statement_node m s) (statement_node m u))
  statement_node m (t.Switch e items keyword span) =
      ap₂ (λ x ps. Whole (part x (part (Whole ps) no_parts))) (number_node m e) (statements_node m items)
  statement_node m (t.For first e step s keyword span) =
      ap₂ (λ x ps. Whole (part x ps)) (start_node m first)
      (ap₂ (λ x ps. part x ps) (test_node m e)
      (ap₂ (λ x y. part (Whole x) (part y no_parts)) (effects_node m step) (statement_node m s)))
  statement_node m (t.DoWhile s e keyword span) =
      ap₂ (λ x y. Whole (part x (controlling y no_parts))) (statement_node m s) (number_node m e)
  statement_node m (t.Break span) = refl
  statement_node m (t.Continue span) = refl
  statement_node m (t.Return value span) = ap (λ x. Whole (part x no_parts)) (value_node m value)

  pub statements_node : (m : Move) (all : t.Statements) → n.statements (moved_typed_statements m all) ≡ moved_parts m (n.statements all)
  statements_node m t.no_statements = refl
  statements_node m (t.statements s rest) = ap₂ (λ x ps. part x ps) (statement_node m s) (statements_node m rest)

pub function_node : (m : Move) (f : t.Function) → n.function (moved_function m f) ≡ moved_node m (n.function f)
function_node m f = ap Whole (statements_node m f.body)
