-- Trees of decisions are numbered, and the list of spans has each condition at its number.
use Rattle.std.proofs.Common.{◌≡◌, ◌∙◌, refl, sym, ap, ℕ, zero, suc, ◌+◌, ◌<◌, ◌≤◌, false, List, [], ◌∷◌, ◌++◌, length, Option, Some, None, arith, length-append}
use Rattle.std.specs.Prelude.{slice_get}
use Rattle.mc_span.specs.declared.span.Span.{Span}
use Rattle.mc_typed.specs.declared.operators.LogicOperator.TheVariants as logic
use Rattle.decide_rules.specs.declared.operators.FullOperator.TheVariants as full
use Rattle.mc_typed.specs.Levels.{limited}
use Rattle.mc_typed.specs.Tree as t
use Rattle.mc_cond.specs.Tree.{size, IsNumberedFrom, IsNumbered}
use Rattle.decide_rules.specs.declared.operators.Junction.TheVariants.{Short, Full}
use Rattle.decide_rules.specs.Nodes.{Node, Constant, Not, Logic, Expression, Whole, span_of, expression}
use Rattle.mc_typed.specs.declared.operators.Operator.{Operator}
use Rattle.decide_rules.specs.declared.operators.FullOperator.{FullOperator}
use Rattle.decide_rules.specs.Nodes as n
use Rattle.decide_rules.specs.Roots.{Place}
use Rattle.decide_rules.specs.Conditions.{width, tree_from, IsCondition, is_operator, itself, under_not, in_left, in_right}
use Rattle.decide_rules.specs.steps.Walk.{spans}

pub size_of_tree : (first : ℕ) (a : Node) → size (tree_from first a) ≡ width a
size_of_tree first (Constant span) = refl
size_of_tree first (Not a span) = size_of_tree first a
size_of_tree first (Logic (Short logic.And) a b span) =
    let left = size_of_tree first a in let right = size_of_tree (first + width a) b in cc
size_of_tree first (Logic (Short logic.Or) a b span) =
    let left = size_of_tree first a in let right = size_of_tree (first + width a) b in cc
size_of_tree first (Logic (Full full.And) a b span) =
    let left = size_of_tree first a in let right = size_of_tree (first + width a) b in cc
size_of_tree first (Logic (Full full.Or) a b span) =
    let left = size_of_tree first a in let right = size_of_tree (first + width a) b in cc
size_of_tree first (Logic (Full full.Xor) a b span) =
    let left = size_of_tree first a in let right = size_of_tree (first + width a) b in cc
size_of_tree first (Expression top ps span) = refl
size_of_tree first (Whole ps) = refl

pub numbered_from : (first : ℕ) (a : Node) → IsNumberedFrom first (tree_from first a)
numbered_from first (Constant span) = refl
numbered_from first (Not a span) = numbered_from first a
numbered_from first (Logic (Short logic.And) a b span) =
    (numbered_from first a, rw (size_of_tree first a) (numbered_from (first + width a) b))
numbered_from first (Logic (Short logic.Or) a b span) =
    (numbered_from first a, rw (size_of_tree first a) (numbered_from (first + width a) b))
numbered_from first (Logic (Full full.And) a b span) =
    (numbered_from first a, rw (size_of_tree first a) (numbered_from (first + width a) b))
numbered_from first (Logic (Full full.Or) a b span) =
    (numbered_from first a, rw (size_of_tree first a) (numbered_from (first + width a) b))
numbered_from first (Logic (Full full.Xor) a b span) =
    (numbered_from first a, rw (size_of_tree first a) (numbered_from (first + width a) b))
numbered_from first (Expression top ps span) = refl
numbered_from first (Whole ps) = refl

pub numbered : (a : Node) → width a ≤ 64 → IsNumbered (tree_from 0 a)
numbered a few = record { in_order = numbered_from 0 a; few = rw (size_of_tree 0 a) few }

-- ---- spans

both_span : (which : Option FullOperator) (operator : Operator) (a b : Node) (span : Span) → span ≡ span_of (n.evaluates_both which operator a b span)
both_span (Some o) operator a b span = refl
both_span None operator a b span = refl

pub same_span : (e : t.Expression) → t.span_of e ≡ span_of (expression e)
same_span (t.Constant v a span) = refl
same_span (t.Read object a) = refl
same_span (t.Unary operator a e span) = refl
same_span (t.Convert a written e span) = refl
same_span (t.Not e span) = refl
same_span (t.Binary operator a e f span) = both_span (n.full_operator operator e f) operator (expression e) (expression f) span
same_span (t.Logic operator e f span) = refl
same_span (t.Choice e f g a span) = refl
same_span (t.Call k a) = refl
same_span (t.Input span) = refl

pub length_spans : (a : Node) → length (spans a) ≡ width a
length_spans (Constant span) = refl
length_spans (Not a span) = length_spans a
length_spans (Logic operator a b span) =
    let left = length_spans a in let right = length_spans b in length-append (spans a) (spans b) ∙ cc
length_spans (Expression top ps span) = refl
length_spans (Whole ps) = refl

get_left : (xs ys : List Span) (k : ℕ) (x : Span) → slice_get xs k ≡ Some x → slice_get (xs ++ ys) k ≡ Some x
get_left [] ys k x e = absurd (cc)
get_left (y ∷ xs) ys zero x e = e
get_left (y ∷ xs) ys (suc k) x e = get_left xs ys k x e

zero_plus : (k : ℕ) → 0 + k ≡ k
zero_plus k = omega arith

suc_plus : (n k : ℕ) → suc n + k ≡ suc (n + k)
suc_plus n k = omega arith

get_right : (xs ys : List Span) (k : ℕ) → slice_get (xs ++ ys) (length xs + k) ≡ slice_get ys k
get_right [] ys k = ap (slice_get ys) (zero_plus k)
get_right (x ∷ xs) ys k = ap (slice_get (x ∷ xs ++ ys)) (suc_plus (length xs) k) ∙ get_right xs ys k

alone : (a : Node) → is_operator a ≡ false → slice_get (spans a) 0 ≡ Some (span_of a)
alone (Constant span) e = refl
alone (Not a span) e = absurd (cc)
alone (Logic operator a b span) e = absurd (cc)
alone (Expression top ps span) e = refl
alone (Whole ps) e = refl

pub condition_stands : (a : Node) (k : ℕ) (p : Place) (x : Node) → IsCondition a k p x → slice_get (spans a) k ≡ Some (span_of x)
condition_stands _ _ _ _ (itself {a} e) = alone a e
condition_stands _ _ _ _ (under_not {a} {x} {k} {p} h) = condition_stands a k p x h
condition_stands _ _ _ _ (in_left {a} {b} {x} {k} {p} h) =
    get_left (spans a) (spans b) k (span_of x) (condition_stands a k p x h)
condition_stands _ _ _ _ (in_right {a} {b} {x} {k} {p} h) =
    ap (λ (w : ℕ). slice_get (spans a ++ spans b) (w + k)) (sym (length_spans a))
    ∙ (get_right (spans a) (spans b) k ∙ condition_stands b k p x h)

-- ---- counts with a limit

pub over : (n count : ℕ) → count ≡ limited n → 64 < count → 64 < n
unfolding limited
over n count e lt = omega (arith, e, lt)

pub not_over : (n count : ℕ) → count ≡ limited n → count ≤ 64 → n ≤ 64
unfolding limited
not_over n count e le = omega (arith, e, le)
