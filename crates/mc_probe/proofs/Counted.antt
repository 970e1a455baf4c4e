-- Events are as many as the places that a map lists.
use Rattle.std.proofs.Common.{◌≡◌, ◌∙◌, suc, ◌+◌, Bool, true, false, if◌then◌else◌, List, [], ◌∷◌, ◌++◌, length, flat_map, refl, sym, ap, arith}
use Rattle.std.proofs.lemmas.List.{length-append}
use Rattle.mc_span.specs.declared.span.Span.{Span}
use Rattle.mc_typed.specs.Tree.{Statement, Statements, Function}
use Rattle.mc_typed.specs.Tree as t
use Rattle.mc_steps.specs.Points.{Points, ◌⊕◌, a_statement, where_counted, unless_default, where_completes, points_of, points_of_all, points_of_function, points_before, all_complete, has_default, initializes}
use Rattle.mc_probe.specs.Obligations.{returns, returns_all, exits, counted_spans, counted_spans_all, labels, labels_all}
use Rattle.mc_probe.specs.Laws.{AreCounted, EventsAreListed}

joined : (ss xs ls : List Span) (q : Points) (ts ys ms : List Span) (r : Points) →
    AreCounted ss xs ls q → AreCounted ts ys ms r → AreCounted (ss ++ ts) (xs ++ ys) (ls ++ ms) (q ⊕ r)
joined ss xs ls q ts ys ms r a b = record {
  statements = length-append ss ts ∙ (λ i. a.statements i + b.statements i);
  exits = length-append xs ys ∙ (λ i. a.exits i + b.exits i);
  labels = length-append ls ms ∙ (λ i. a.labels i + b.labels i);
}

-- a statement that counts, before what is in it
begun : (span : Span) (ss xs ls : List Span) (q : Points) → AreCounted ss xs ls q →
    AreCounted (span ∷ ss) xs ls (a_statement ⊕ q)
begun span ss xs ls q a = record {
  statements = omega (arith, a.statements);
  exits = omega (arith, a.exits);
  labels = omega (arith, a.labels);
}

declared : (span : Span) (b : Bool) → AreCounted (if b then span ∷ [] else []) [] [] (where_counted b)
declared span true = record { statements = refl; exits = refl; labels = refl }
declared span false = record { statements = refl; exits = refl; labels = refl }

absent : (span : Span) (b : Bool) → AreCounted [] [] (if b then [] else span ∷ []) (unless_default b)
absent span true = record { statements = refl; exits = refl; labels = refl }
absent span false = record { statements = refl; exits = refl; labels = refl }

closed : (span : Span) (b : Bool) → AreCounted [] (if b then span ∷ [] else []) [] (where_completes b)
closed span true = record { statements = refl; exits = refl; labels = refl }
closed span false = record { statements = refl; exits = refl; labels = refl }

mutual
  statement_counted : (s : Statement) → AreCounted (counted_spans s) (returns s) (labels s) (points_of s)
  statement_counted (t.Compound items span) = items_counted items
  statement_counted (t.Label v span) = record { statements = refl; exits = refl; labels = refl }
  statement_counted (t.Declaration declarators span) = declared span (initializes declarators)
  statement_counted (t.Null span) = record { statements = refl; exits = refl; labels = refl }
  statement_counted (t.EffectStatement effect span) = record { statements = refl; exits = refl; labels = refl }
  statement_counted (t.If e s keyword span) =
      begun keyword (counted_spans s) (returns s) (labels s) (points_of s) (statement_counted s)
  statement_counted (t.IfElse e s u keyword span) =
      begun keyword (counted_spans s ++ counted_spans u) (returns s ++ returns u) (labels s ++ labels u) (points_of s ⊕ points_of u)
      (joined (counted_spans s) (returns s) (labels s) (points_of s) (counted_spans u) (returns u) (labels u) (points_of u)
      (statement_counted s) (statement_counted u))
  statement_counted (t.Switch e items keyword span) =
      begun keyword (counted_spans_all items) (returns_all items) ((if has_default items then [] else keyword ∷ []) ++ labels_all items)
      (unless_default (has_default items) ⊕ points_of_all items)
      (joined [] [] (if has_default items then [] else keyword ∷ []) (unless_default (has_default items))
      (counted_spans_all items) (returns_all items) (labels_all items) (points_of_all items)
      (absent keyword (has_default items)) (items_counted items))
  statement_counted (t.For start test step s keyword span) =
      begun keyword (counted_spans s) (returns s) (labels s) (points_of s) (statement_counted s)
  statement_counted (t.DoWhile s e keyword span) =
      begun keyword (counted_spans s) (returns s) (labels s) (points_of s) (statement_counted s)
  statement_counted (t.Break span) = record { statements = refl; exits = refl; labels = refl }
  statement_counted (t.Continue span) = record { statements = refl; exits = refl; labels = refl }
  statement_counted (t.Return value span) = record { statements = refl; exits = refl; labels = refl }

  items_counted : (items : Statements) → AreCounted (counted_spans_all items) (returns_all items) (labels_all items) (points_of_all items)
  items_counted t.no_statements = record { statements = refl; exits = refl; labels = refl }
  items_counted (t.statements s rest) =
      joined (counted_spans s) (returns s) (labels s) (points_of s) (counted_spans_all rest) (returns_all rest) (labels_all rest) (points_of_all rest)
      (statement_counted s) (items_counted rest)

with_nothing : (xs : List Span) → length (xs ++ []) ≡ length xs
with_nothing [] = refl
with_nothing (x ∷ xs) = ap suc (with_nothing xs)

pub function_counted : (f : Function) → AreCounted (counted_spans_all f.body) (exits f) (labels_all f.body) (points_of_function f)
function_counted f =
    let all = joined (counted_spans_all f.body) (returns_all f.body) (labels_all f.body) (points_of_all f.body) [] (if all_complete f.body then f.closing ∷ [] else []) [] (where_completes (all_complete f.body)) (items_counted f.body) (closed f.closing (all_complete f.body)) in
    record {
      statements = sym (with_nothing (counted_spans_all f.body)) ∙ all.statements;
      exits = all.exits;
      labels = sym (with_nothing (labels_all f.body)) ∙ all.labels;
    }

functions_counted : (fs : List Function) →
    AreCounted (flat_map (λ f. counted_spans_all f.body) fs) (flat_map exits fs) (flat_map (λ f. labels_all f.body) fs) (points_before fs (length fs))
functions_counted [] = record { statements = refl; exits = refl; labels = refl }
functions_counted (f ∷ fs) =
    joined (counted_spans_all f.body) (exits f) (labels_all f.body) (points_of_function f)
    (flat_map (λ f. counted_spans_all f.body) fs) (flat_map exits fs) (flat_map (λ f. labels_all f.body) fs) (points_before fs (length fs))
    (function_counted f) (functions_counted fs)

pub events_listed : EventsAreListed
events_listed p = functions_counted p.functions
