-- The points of a program at other places are its points, at those places.
use Rattle.std.proofs.Common.{◌≡◌, ℕ, ◌+◌, ℤ, Bool, true, false, ◌&&◌, ◌||◌, not, List, [], ◌∷◌, ◌++◌, map, flat_map, Option, Some, None, is_some, option_map, if◌then◌else◌, refl, sym, ap, ap₂, ◌∙◌}
use Rattle.mc_span.specs.declared.span.Span.{Span}
use Rattle.mc_typed.specs.Constants.{constant_value, unary_value, converted_value, negated_value, binary_value, logic_value, choice_value}
use Rattle.mc_typed.specs.Sound.{labels_of}
use Rattle.mc_typed.specs.Tree as t
use Rattle.mc_steps.specs.Statements.{has_label}
use Rattle.mc_steps.specs.Points.{Points, no_points, ◌⊕◌, a_statement, where_counted, unless_default, where_completes, is_constant, is_nonzero, is_always_true, is_always, breaks, some_breaks, has_default, completes, all_complete, last_completes, initializes, points_of, points_of_all, points_of_function}
use Rattle.mc_probe.specs.Switches.{switches, switches_all}
use Rattle.mc_probe.specs.Obligations.{returns, returns_all, exits, counted_spans, counted_spans_all, labels, labels_all}
use Rattle.reread_law_texts.specs.alike.Moves.{Move, moved_span}
use Rattle.reread_law_places.specs.natural.Moved.{moved_number, moved_filling, moved_object, moved_objects, moved_typed_statement, moved_typed_statements, moved_function, moved_functions}

-- ---- constants

constant_same : (m : Move) (e : t.Expression) → is_constant (moved_number m e) ≡ is_constant e
constant_same m (t.Constant v a span) = refl
constant_same m (t.Read place a) = refl
constant_same m (t.Unary operator a e span) = constant_same m e
constant_same m (t.Convert a written e span) = constant_same m e
constant_same m (t.Not e span) = constant_same m e
constant_same m (t.Binary operator a e f span) = ap₂ (λ x y. x && y) (constant_same m e) (constant_same m f)
constant_same m (t.Logic operator e f span) = ap₂ (λ x y. x && y) (constant_same m e) (constant_same m f)
constant_same m (t.Choice e f g a span) =
    ap₂ (λ x y. x && y) (ap₂ (λ x y. x && y) (constant_same m e) (constant_same m f)) (constant_same m g)
constant_same m (t.Call k a) = refl
constant_same m (t.Input span) = refl

value_same : (m : Move) (e : t.Expression) → constant_value (moved_number m e) ≡ constant_value e
value_same m (t.Constant v a span) = refl
value_same m (t.Read place a) = refl
value_same m (t.Unary operator a e span) = ap (unary_value operator a) (value_same m e)
value_same m (t.Convert a written e span) = ap (converted_value a) (value_same m e)
value_same m (t.Not e span) = ap negated_value (value_same m e)
value_same m (t.Binary operator a e f span) =
    ap₂ (λ x y. binary_value operator a x y) (value_same m e) (value_same m f)
value_same m (t.Logic operator e f span) = ap₂ (λ x y. logic_value operator x y) (value_same m e) (value_same m f)
value_same m (t.Choice e f g a span) =
    ap₂ (λ x y. choice_value x y (constant_value (moved_number m g))) (value_same m e) (value_same m f)
    ∙ ap (λ z. choice_value (constant_value e) (constant_value f) z) (value_same m g)
value_same m (t.Call k a) = refl
value_same m (t.Input span) = refl

always_true_same : (m : Move) (e : t.Expression) → is_always_true (moved_number m e) ≡ is_always_true e
always_true_same m e = ap₂ (λ x y. x && is_nonzero y) (constant_same m e) (value_same m e)

always_same : (m : Move) (e : Option t.Expression) → is_always (option_map (moved_number m) e) ≡ is_always e
always_same m None = refl
always_same m (Some e) = always_true_same m e

-- ---- statements

mutual
  breaks_same : (m : Move) (s : t.Statement) → breaks (moved_typed_statement m s) ≡ breaks s
  breaks_same m (t.Compound items span) = some_breaks_same m items
  breaks_same m (t.Label v span) = refl
  breaks_same m (t.Declaration all span) = refl
  breaks_same m (t.Null span) = refl
  breaks_same m (t.EffectStatement effect span) = refl
  breaks_same m (t.If e s keyword span) = breaks_same m s
  breaks_same m (t.IfElse e s u keyword span) = ap₂ (λ x y. x || y) (breaks_same m s) (breaks_same m u)
  breaks_same m (t.Switch e items keyword span) = refl
  breaks_same m (t.For start test step s keyword span) = refl
  breaks_same m (t.DoWhile s e keyword span) = refl
  breaks_same m (t.Break span) = refl
  breaks_same m (t.Continue span) = refl
  breaks_same m (t.Return value span) = refl

  some_breaks_same : (m : Move) (all : t.Statements) → some_breaks (moved_typed_statements m all) ≡ some_breaks all
  some_breaks_same m t.no_statements = refl
  some_breaks_same m (t.statements s rest) = ap₂ (λ x y. x || y) (breaks_same m s) (some_breaks_same m rest)

labels_of_same : (m : Move) (all : t.Statements) → labels_of (moved_typed_statements m all) ≡ labels_of all
labels_of_same m t.no_statements = refl
labels_of_same m (t.statements (t.Label v span) rest) = ap (λ l. v ∷ l) (labels_of_same m rest)
labels_of_same m (t.statements (t.Compound items span) rest) = labels_of_same m rest
labels_of_same m (t.statements (t.Declaration all span) rest) = labels_of_same m rest
labels_of_same m (t.statements (t.Null span) rest) = labels_of_same m rest
labels_of_same m (t.statements (t.EffectStatement effect span) rest) = labels_of_same m rest
labels_of_same m (t.statements (t.If e s keyword span) rest) = labels_of_same m rest
labels_of_same m (t.statements (t.IfElse e s u keyword span) rest) = labels_of_same m rest
labels_of_same m (t.statements (t.Switch e items keyword span) rest) = labels_of_same m rest
labels_of_same m (t.statements (t.For start test step s keyword span) rest) = labels_of_same m rest
labels_of_same m (t.statements (t.DoWhile s e keyword span) rest) = labels_of_same m rest
labels_of_same m (t.statements (t.Break span) rest) = labels_of_same m rest
labels_of_same m (t.statements (t.Continue span) rest) = labels_of_same m rest
labels_of_same m (t.statements (t.Return value span) rest) = labels_of_same m rest

pub default_same : (m : Move) (all : t.Statements) → has_default (moved_typed_statements m all) ≡ has_default all
default_same m all = ap (has_label None) (labels_of_same m all)

mutual
  completes_same : (m : Move) (s : t.Statement) → completes (moved_typed_statement m s) ≡ completes s
  completes_same m (t.Compound items span) = complete_same m items
  completes_same m (t.Label v span) = refl
  completes_same m (t.Declaration all span) = refl
  completes_same m (t.Null span) = refl
  completes_same m (t.EffectStatement effect span) = refl
  completes_same m (t.If e s keyword span) = refl
  completes_same m (t.IfElse e s u keyword span) = ap₂ (λ x y. x || y) (completes_same m s) (completes_same m u)
  completes_same m (t.Switch e items keyword span) =
      ap₂ (λ x y. x || y)
      (ap₂ (λ x y. not x || y) (default_same m items) (some_breaks_same m items)) (last_same m items)
  completes_same m (t.For start test step s keyword span) =
      ap₂ (λ x y. not x || y) (always_same m test) (breaks_same m s)
  completes_same m (t.DoWhile s e keyword span) =
      ap₂ (λ x y. not x || y) (always_true_same m e) (breaks_same m s)
  completes_same m (t.Break span) = refl
  completes_same m (t.Continue span) = refl
  completes_same m (t.Return value span) = refl

  pub complete_same : (m : Move) (all : t.Statements) → all_complete (moved_typed_statements m all) ≡ all_complete all
  complete_same m t.no_statements = refl
  complete_same m (t.statements s rest) = ap₂ (λ x y. x && y) (completes_same m s) (complete_same m rest)

  last_same : (m : Move) (all : t.Statements) → last_completes (moved_typed_statements m all) ≡ last_completes all
  last_same m t.no_statements = refl
  last_same m (t.statements s t.no_statements) = completes_same m s
  last_same m (t.statements s (t.statements u rest)) = last_same m (t.statements u rest)

-- ---- how many points

some_same : (m : Move) (i : Option t.Initializer) → is_some (option_map (moved_filling m) i) ≡ is_some i
some_same m None = refl
some_same m (Some i) = refl

pub initializes_same : (m : Move) (all : List t.Declarator) → initializes (moved_objects m all) ≡ initializes all
initializes_same m [] = refl
initializes_same m (d ∷ rest) = ap₂ (λ x y. x || y) (some_same m d.value) (initializes_same m rest)

mutual
  pub points_same : (m : Move) (s : t.Statement) → points_of (moved_typed_statement m s) ≡ points_of s
  points_same m (t.Compound items span) = all_points_same m items
  points_same m (t.Label v span) = refl
  points_same m (t.Declaration all span) = ap where_counted (initializes_same m all)
  points_same m (t.Null span) = refl
  points_same m (t.EffectStatement effect span) = refl
  points_same m (t.If e s keyword span) = ap (λ x. a_statement ⊕ x) (points_same m s)
  points_same m (t.IfElse e s u keyword span) =
      ap₂ (λ x y. a_statement ⊕ x ⊕ y) (points_same m s) (points_same m u)
  points_same m (t.Switch e items keyword span) =
      ap₂ (λ x y. a_statement ⊕ unless_default x ⊕ y) (default_same m items) (all_points_same m items)
  points_same m (t.For start test step s keyword span) = ap (λ x. a_statement ⊕ x) (points_same m s)
  points_same m (t.DoWhile s e keyword span) = ap (λ x. a_statement ⊕ x) (points_same m s)
  points_same m (t.Break span) = refl
  points_same m (t.Continue span) = refl
  points_same m (t.Return value span) = refl

  pub all_points_same : (m : Move) (all : t.Statements) → points_of_all (moved_typed_statements m all) ≡ points_of_all all
  all_points_same m t.no_statements = refl
  all_points_same m (t.statements s rest) = ap₂ (λ x y. x ⊕ y) (points_same m s) (all_points_same m rest)

pub function_points_same : (m : Move) (f : t.Function) → points_of_function (moved_function m f) ≡ points_of_function f
function_points_same m f =
    ap₂ (λ x y. x ⊕ where_completes y) (all_points_same m f.body) (complete_same m f.body)

mutual
  pub switches_same : (m : Move) (s : t.Statement) → switches (moved_typed_statement m s) ≡ switches s
  switches_same m (t.Compound items span) = all_switches_same m items
  switches_same m (t.Label v span) = refl
  switches_same m (t.Declaration all span) = refl
  switches_same m (t.Null span) = refl
  switches_same m (t.EffectStatement effect span) = refl
  switches_same m (t.If e s keyword span) = switches_same m s
  switches_same m (t.IfElse e s u keyword span) = ap₂ (λ x y. x + y) (switches_same m s) (switches_same m u)
  switches_same m (t.Switch e items keyword span) = ap (λ x. 1 + x) (all_switches_same m items)
  switches_same m (t.For start test step s keyword span) = switches_same m s
  switches_same m (t.DoWhile s e keyword span) = switches_same m s
  switches_same m (t.Break span) = refl
  switches_same m (t.Continue span) = refl
  switches_same m (t.Return value span) = refl

  pub all_switches_same : (m : Move) (all : t.Statements) → switches_all (moved_typed_statements m all) ≡ switches_all all
  all_switches_same m t.no_statements = refl
  all_switches_same m (t.statements s rest) = ap₂ (λ x y. x + y) (switches_same m s) (all_switches_same m rest)

-- ---- where they stand

map_joined : {A B : Type 0} (f : A → B) (xs ys : List A) → map f xs ++ map f ys ≡ map f (xs ++ ys)
map_joined f [] ys = refl
map_joined f (x ∷ xs) ys = ap (λ zs. f x ∷ zs) (map_joined f xs ys)

joined : (m : Move) (xs ys : List Span) {us vs : List Span} → us ≡ map (moved_span m) xs → vs ≡ map (moved_span m) ys → us ++ vs ≡ map (moved_span m) (xs ++ ys)
joined m xs ys p q = ap₂ (λ a b. a ++ b) p q ∙ map_joined (moved_span m) xs ys

mutual
  returns_moved : (m : Move) (s : t.Statement) → returns (moved_typed_statement m s) ≡ map (moved_span m) (returns s)
  returns_moved m (t.Compound items span) = all_returns_moved m items
  returns_moved m (t.Label v span) = refl
  returns_moved m (t.Declaration all span) = refl
  returns_moved m (t.Null span) = refl
  returns_moved m (t.EffectStatement effect span) = refl
  returns_moved m (t.If e s keyword span) = returns_moved m s
  returns_moved m (t.IfElse e s u keyword span) = joined m (returns s) (returns u) (returns_moved m s) (returns_moved m u)
  returns_moved m (t.Switch e items keyword span) = all_returns_moved m items
  returns_moved m (t.For start test step s keyword span) = returns_moved m s
  returns_moved m (t.DoWhile s e keyword span) = returns_moved m s
  returns_moved m (t.Break span) = refl
  returns_moved m (t.Continue span) = refl
  returns_moved m (t.Return value span) = refl

  all_returns_moved : (m : Move) (all : t.Statements) → returns_all (moved_typed_statements m all) ≡ map (moved_span m) (returns_all all)
  all_returns_moved m t.no_statements = refl
  all_returns_moved m (t.statements s rest) = joined m (returns s) (returns_all rest) (returns_moved m s) (all_returns_moved m rest)

closing_moved : (m : Move) (b : Bool) (span : Span) →
    (if b then moved_span m span ∷ [] else []) ≡ map (moved_span m) (if b then span ∷ [] else [])
closing_moved m true span = refl
closing_moved m false span = refl

exits_moved : (m : Move) (f : t.Function) → exits (moved_function m f) ≡ map (moved_span m) (exits f)
exits_moved m f =
    joined m (returns_all f.body) (if all_complete f.body then f.closing ∷ [] else []) (all_returns_moved m f.body)
    (ap (λ b. if b then moved_span m f.closing ∷ [] else []) (complete_same m f.body)
    ∙ closing_moved m (all_complete f.body) f.closing)

mutual
  counted_moved : (m : Move) (s : t.Statement) → counted_spans (moved_typed_statement m s) ≡ map (moved_span m) (counted_spans s)
  counted_moved m (t.Compound items span) = all_counted_moved m items
  counted_moved m (t.Label v span) = refl
  counted_moved m (t.Declaration all span) =
      ap (λ b. if b then moved_span m span ∷ [] else []) (initializes_same m all)
      ∙ closing_moved m (initializes all) span
  counted_moved m (t.Null span) = refl
  counted_moved m (t.EffectStatement effect span) = refl
  counted_moved m (t.If e s keyword span) = ap (λ l. moved_span m keyword ∷ l) (counted_moved m s)
  counted_moved m (t.IfElse e s u keyword span) =
      ap (λ l. moved_span m keyword ∷ l) (joined m (counted_spans s) (counted_spans u) (counted_moved m s) (counted_moved m u))
  counted_moved m (t.Switch e items keyword span) = ap (λ l. moved_span m keyword ∷ l) (all_counted_moved m items)
  counted_moved m (t.For start test step s keyword span) = ap (λ l. moved_span m keyword ∷ l) (counted_moved m s)
  counted_moved m (t.DoWhile s e keyword span) = ap (λ l. moved_span m keyword ∷ l) (counted_moved m s)
  counted_moved m (t.Break span) = refl
  counted_moved m (t.Continue span) = refl
  counted_moved m (t.Return value span) = refl

  all_counted_moved : (m : Move) (all : t.Statements) → counted_spans_all (moved_typed_statements m all) ≡ map (moved_span m) (counted_spans_all all)
  all_counted_moved m t.no_statements = refl
  all_counted_moved m (t.statements s rest) = joined m (counted_spans s) (counted_spans_all rest) (counted_moved m s) (all_counted_moved m rest)

absent_moved : (m : Move) (b : Bool) (span : Span) →
    (if b then [] else moved_span m span ∷ []) ≡ map (moved_span m) (if b then [] else span ∷ [])
absent_moved m true span = refl
absent_moved m false span = refl

mutual
  labels_moved : (m : Move) (s : t.Statement) → labels (moved_typed_statement m s) ≡ map (moved_span m) (labels s)
  labels_moved m (t.Compound items span) = all_labels_moved m items
  labels_moved m (t.Label v span) = refl
  labels_moved m (t.Declaration all span) = refl
  labels_moved m (t.Null span) = refl
  labels_moved m (t.EffectStatement effect span) = refl
  labels_moved m (t.If e s keyword span) = labels_moved m s
  labels_moved m (t.IfElse e s u keyword span) = joined m (labels s) (labels u) (labels_moved m s) (labels_moved m u)
  labels_moved m (t.Switch e items keyword span) =
      joined m (if has_default items then [] else keyword ∷ []) (labels_all items)
      (ap (λ b. if b then [] else moved_span m keyword ∷ []) (default_same m items)
      ∙ absent_moved m (has_default items) keyword)
      (all_labels_moved m items)
  labels_moved m (t.For start test step s keyword span) = labels_moved m s
  labels_moved m (t.DoWhile s e keyword span) = labels_moved m s
  labels_moved m (t.Break span) = refl
  labels_moved m (t.Continue span) = refl
  labels_moved m (t.Return value span) = refl

  all_labels_moved : (m : Move) (all : t.Statements) → labels_all (moved_typed_statements m all) ≡ map (moved_span m) (labels_all all)
  all_labels_moved m t.no_statements = refl
  all_labels_moved m (t.statements s rest) = joined m (labels s) (labels_all rest) (labels_moved m s) (all_labels_moved m rest)

-- ---- of all functions

pub all_moved : (m : Move) (spans : t.Function → List Span) →
    ((f : t.Function) → spans (moved_function m f) ≡ map (moved_span m) (spans f)) →
    (fs : List t.Function) → flat_map spans (moved_functions m fs) ≡ map (moved_span m) (flat_map spans fs)
all_moved m spans each [] = refl
all_moved m spans each (f ∷ fs) = joined m (spans f) (flat_map spans fs) (each f) (all_moved m spans each fs)

pub exits_all_moved : (m : Move) (fs : List t.Function) → flat_map exits (moved_functions m fs) ≡ map (moved_span m) (flat_map exits fs)
exits_all_moved m = all_moved m exits (exits_moved m)

pub statements_all_moved : (m : Move) (fs : List t.Function) →
    flat_map (λ f. counted_spans_all f.body) (moved_functions m fs) ≡ map (moved_span m) (flat_map (λ f. counted_spans_all f.body) fs)
statements_all_moved m = all_moved m (λ f. counted_spans_all f.body) (λ f. all_counted_moved m f.body)

pub labels_all_moved : (m : Move) (fs : List t.Function) →
    flat_map (λ f. labels_all f.body) (moved_functions m fs) ≡ map (moved_span m) (flat_map (λ f. labels_all f.body) fs)
labels_all_moved m = all_moved m (λ f. labels_all f.body) (λ f. all_labels_moved m f.body)

pub entries_all_moved : (m : Move) (fs : List t.Function) →
    map (λ (f : t.Function). f.name_span) (moved_functions m fs) ≡ map (moved_span m) (map (λ (f : t.Function). f.name_span) fs)
entries_all_moved m [] = refl
entries_all_moved m (f ∷ fs) = ap (λ l. moved_span m f.name_span ∷ l) (entries_all_moved m fs)
