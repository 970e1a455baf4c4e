-- What is listed ascends.
use Rattle.std.proofs.Common.{refl, ℕ, suc, ◌≤◌, inl, inr, Bool, true, false, List, [], ◌∷◌, ◌++◌, map, All, arith}
use Rattle.std.proofs.lemmas.List.Elements.{All-nil, All-cons, All-head, All-tail, All-append, All-map, All-weaker}
use Rattle.decide_rules.specs.declared.role.Role.{Role}
use Rattle.decide_rules.specs.declared.role.Role.TheVariants.{Controlling, Inner, Plain}
use Rattle.decide_rules.specs.Nodes.{Node, Constant, Not, Logic, Expression, Whole, Parts, no_parts, part, controlling}
use Rattle.decide_rules.specs.Roots.{Place, Found, is_constant, is_candidate}
use Rattle.decide_rules.specs.Decisions.{IsBefore, IsAscending}
use Rattle.decide_rules.proofs.Listed.{under, own, unless, whole, in_node, in_parts}

abbrev pub AllAfter : List Found → Found → Type 0
AllAfter gs f = All (λ g. IsBefore f.place g.place) gs

ascending_append : (fs gs : List Found) → IsAscending fs → IsAscending gs → All (AllAfter gs) fs → IsAscending (fs ++ gs)
ascending_append [] gs a b h = b
ascending_append (f ∷ fs) gs (first, a) b h = (
  All-append (λ g. IsBefore f.place g.place) fs gs first (All-head (AllAfter gs) f fs h),
  ascending_append fs gs a b (All-tail (AllAfter gs) f fs h),
)

ascending_under : (i : ℕ) (fs : List Found) → IsAscending fs → IsAscending (map (under i) fs)
ascending_under i [] a = tt
ascending_under i (f ∷ fs) (first, a) = (
  All-map (λ g. IsBefore (i ∷ f.place) g.place) (under i) fs
      (All-weaker (λ g. IsBefore f.place g.place) (λ g. IsBefore (i ∷ f.place) (i ∷ g.place)) (λ g h. inr (refl, h)) fs first),
  ascending_under i fs a,
)

-- ---- where places begin

abbrev pub FirstFrom : ℕ → Place → Type 0
FirstFrom i [] = ⊥
FirstFrom i (j ∷ p) = i ≤ j

always : (P : Found → Type 0) → ((f : Found) → P f) → (fs : List Found) → All P fs
always P h [] = All-nil P
always P h (f ∷ fs) = All-cons P f fs (h f) (always P h fs)

first_under : (i j : ℕ) (fs : List Found) → i ≤ j → All (λ g. FirstFrom i g.place) (map (under j) fs)
first_under i j fs lt =
    All-map (λ g. FirstFrom i g.place) (under j) fs (always (λ g. i ≤ j) (λ g. lt) fs)

first_from : (i j : ℕ) (ps : Parts) → i ≤ j → All (λ g. FirstFrom i g.place) (in_parts j ps)
first_from i j no_parts lt = All-nil (λ g. FirstFrom i g.place)
first_from i j (part a ps) lt =
    All-append (λ g. FirstFrom i g.place) (map (under j) (whole Plain a (in_node a))) (in_parts (suc j) ps)
    (first_under i j (whole Plain a (in_node a)) lt) (first_from i (suc j) ps (omega arith))
first_from i j (controlling a ps) lt =
    All-append (λ g. FirstFrom i g.place) (map (under j) (whole Controlling a (in_node a))) (in_parts (suc j) ps)
    (first_under i j (whole Controlling a (in_node a)) lt) (first_from i (suc j) ps (omega arith))

first_inside : (a : Node) → All (λ g. FirstFrom 0 g.place) (in_node a)
first_inside (Constant span) = All-nil (λ g. FirstFrom 0 g.place)
first_inside (Not a span) = first_under 0 0 (whole Inner a (in_node a)) (omega arith)
first_inside (Logic operator a b span) =
    All-append (λ g. FirstFrom 0 g.place) (map (under 0) (whole Inner a (in_node a))) (map (under 1) (whole Inner b (in_node b)))
    (first_under 0 0 (whole Inner a (in_node a)) (omega arith)) (first_under 0 1 (whole Inner b (in_node b)) (omega arith))
first_inside (Expression top ps span) = first_from 0 0 ps (omega arith)
first_inside (Whole ps) = first_from 0 0 ps (omega arith)

-- ---- so a node stands before what is inside it, and a part before the parts after it

before_inside : (p : Place) → FirstFrom 0 p → IsBefore [] p
before_inside [] h = h
before_inside (j ∷ p) h = tt

before_later : (i : ℕ) (p q : Place) → FirstFrom (suc i) q → IsBefore (i ∷ p) q
before_later i p [] h = h
before_later i p (j ∷ q) h = inl (omega (arith, h))

part_before : (i : ℕ) (fs gs : List Found) → All (λ g. FirstFrom (suc i) g.place) gs → All (AllAfter gs) (map (under i) fs)
part_before i fs gs h =
    All-map (AllAfter gs) (under i) fs (always (λ f. AllAfter gs (under i f))
    (λ f. All-weaker (λ g. FirstFrom (suc i) g.place) (λ g. IsBefore (i ∷ f.place) g.place)
    (λ g k. before_later i f.place g.place k) gs h) fs)

ascending_whole : (a : Node) (constant candidate : Bool) → IsAscending (in_node a) → IsAscending (unless constant (own candidate a ++ in_node a))
ascending_whole a true candidate h = tt
ascending_whole a false true h =
    (All-weaker (λ g. FirstFrom 0 g.place) (λ g. IsBefore [] g.place) (λ g k. before_inside g.place k) (in_node a) (first_inside a), h)
ascending_whole a false false h = h

one_part : (i : ℕ) (role : Role) (a : Node) → IsAscending (in_node a) → IsAscending (map (under i) (whole role a (in_node a)))
one_part i role a h =
    ascending_under i (whole role a (in_node a)) (ascending_whole a (is_constant a) (is_candidate role a) h)

mutual
  pub ascending : (a : Node) → IsAscending (in_node a)
  ascending (Constant span) = tt
  ascending (Not a span) = one_part 0 Inner a (ascending a)
  ascending (Logic operator a b span) =
      ascending_append (map (under 0) (whole Inner a (in_node a))) (map (under 1) (whole Inner b (in_node b)))
      (one_part 0 Inner a (ascending a)) (one_part 1 Inner b (ascending b))
      (part_before 0 (whole Inner a (in_node a)) (map (under 1) (whole Inner b (in_node b)))
      (first_under 1 1 (whole Inner b (in_node b)) (omega arith)))
  ascending (Expression top ps span) = ascending_parts 0 ps
  ascending (Whole ps) = ascending_parts 0 ps

  pub ascending_parts : (i : ℕ) (ps : Parts) → IsAscending (in_parts i ps)
  ascending_parts i no_parts = tt
  ascending_parts i (part a ps) =
      ascending_append (map (under i) (whole Plain a (in_node a))) (in_parts (suc i) ps)
      (one_part i Plain a (ascending a)) (ascending_parts (suc i) ps)
      (part_before i (whole Plain a (in_node a)) (in_parts (suc i) ps) (first_from (suc i) (suc i) ps (omega arith)))
  ascending_parts i (controlling a ps) =
      ascending_append (map (under i) (whole Controlling a (in_node a))) (in_parts (suc i) ps)
      (one_part i Controlling a (ascending a)) (ascending_parts (suc i) ps)
      (part_before i (whole Controlling a (in_node a)) (in_parts (suc i) ps) (first_from (suc i) (suc i) ps (omega arith)))
