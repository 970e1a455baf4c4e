-- A program has one list of decisions.
use Rattle.std.proofs.Common.{◌≡◌, ◌∙◌, refl, sym, ap, subst, ℕ, zero, suc, ◌+◌, ◌-◌, ◌<◌, ◌≤◌, ◌⊎◌, inl, inr, false, List, [], ◌∷◌, length, All, Contains, Some, arith}
use Rattle.std.specs.Prelude.{slice_get}
use Rattle.std.proofs.lemmas.List.Elements.{All-contains}
use Rattle.std.proofs.lemmas.Bool.{cases_lt}
use Rattle.mc_span.specs.declared.span.Span.{Span}
use Rattle.mc_typed.specs.Tree.{Function}
use Rattle.mc_cond.specs.Tree.{Tree}
use Rattle.decide_rules.specs.Laws.{OneList}
use Rattle.decide_rules.specs.declared.operators.Junction.{Junction}
use Rattle.decide_rules.specs.declared.role.Role.TheVariants.{Plain}
use Rattle.decide_rules.specs.Nodes.{Node, Constant, Not, Logic, Expression, Whole, program}
use Rattle.decide_rules.specs.Roots.{Place, Found, IsRoot, standing}
use Rattle.decide_rules.specs.Conditions.{width, IsCondition, is_operator, itself, under_not, in_left, in_right}
use Rattle.decide_rules.specs.Decisions.{Decision, AreDecisions, Tells, AreTold, IsBefore, IsAscending}
use Rattle.decide_rules.proofs.Listed.{in_node}
use Rattle.decide_rules.proofs.Only.{node_only}
use Rattle.decide_rules.proofs.Each.{each}
use Rattle.decide_rules.proofs.Ordered.{ascending}

-- ---- the order is strict

never_itself : (p : Place) → IsBefore p p → ⊥
never_itself [] h = h
never_itself (i ∷ p) (inl lt) = absurd (omega (arith, lt))
never_itself (i ∷ p) (inr (e, h)) = never_itself p h

never_both : (p q : Place) → IsBefore p q → IsBefore q p → ⊥
never_both [] [] h k = h
never_both [] (j ∷ q) h k = k
never_both (i ∷ p) [] h k = h
never_both (i ∷ p) (j ∷ q) (inl lt) (inl gt) = absurd (omega (arith, lt, gt))
never_both (i ∷ p) (j ∷ q) (inl lt) (inr (e, k)) = absurd (omega (arith, lt, e))
never_both (i ∷ p) (j ∷ q) (inr (e, h)) (inl gt) = absurd (omega (arith, gt, e))
never_both (i ∷ p) (j ∷ q) (inr (e, h)) (inr (e', k)) = never_both p q h k

-- ---- lists in order with the same elements are the same

in_empty : (x : Found) → Contains [] x → ⊥
in_empty x (k, lt, e) = absurd (omega (arith, lt))

first_or_later : (y : Found) (ys : List Found) (x : Found) → Contains (y ∷ ys) x → (y ≡ x) ⊎ Contains ys x
first_or_later y ys x (zero, lt, e) = inl e
first_or_later y ys x (suc k, lt, e) = inr (k, omega (arith, lt), e)

at_front : (x : Found) (xs : List Found) → Contains (x ∷ xs) x
at_front x xs = (0, omega arith, refl)

further_on : (x : Found) (xs : List Found) (z : Found) → Contains xs z → Contains (x ∷ xs) z
further_on x xs z (k, lt, e) = (suc k, omega (arith, lt), e)

after : (x : Found) (xs : List Found) (z : Found) → IsAscending (x ∷ xs) → Contains xs z → IsBefore x.place z.place
after x xs z (first, rest) h = All-contains (λ g. IsBefore x.place g.place) xs z first h

same_front : (x y : Found) (xs ys : List Found) → IsAscending (x ∷ xs) → IsAscending (y ∷ ys) → (y ≡ x) ⊎ Contains ys x → (x ≡ y) ⊎ Contains xs y → x ≡ y
same_front x y xs ys a b (inl e) h = sym e
same_front x y xs ys a b (inr k) (inl e) = e
same_front x y xs ys a b (inr k) (inr h) =
    absurd (never_both x.place y.place (after x xs y a h) (after y ys x b k))

only_later : (x y z : Found) (xs ys : List Found) → IsAscending (x ∷ xs) → x ≡ y → Contains xs z → (y ≡ z) ⊎ Contains ys z → Contains ys z
only_later x y z xs ys a e h (inr k) = k
only_later x y z xs ys a e h (inl f) =
    absurd (never_itself x.place (subst (λ (w : Found). IsBefore x.place w.place) (sym (e ∙ f)) (after x xs z a h)))

pub same_lists : (xs ys : List Found) → IsAscending xs → IsAscending ys → ((z : Found) → Contains xs z → Contains ys z) → ((z : Found) → Contains ys z → Contains xs z) → xs ≡ ys
same_lists [] [] a b there back = refl
same_lists [] (y ∷ ys) a b there back = absurd (in_empty y (back y (at_front y ys)))
same_lists (x ∷ xs) [] a b there back = absurd (in_empty x (there x (at_front x xs)))
same_lists (x ∷ xs) (y ∷ ys) a b there back =
    let e : x ≡ y = same_front x y xs ys a b (first_or_later y ys x (there x (at_front x xs))) (first_or_later x xs y (back y (at_front y ys))) in
    let rest : xs ≡ ys = same_lists xs ys a.1 b.1
    (λ z h. only_later x y z xs ys a e h (first_or_later y ys z (there z (further_on x xs z h))))
    (λ z h. only_later y x z ys xs b (sym e) h (first_or_later x xs z (back z (further_on y ys z h)))) in
    cc

-- ---- a root has one decision

abbrev HasCondition : Node → ℕ → Type 0
HasCondition a k = (p : Place) × (x : Node) × IsCondition a k p x

alone : (a : Node) (k : ℕ) → is_operator a ≡ false → k < 1 → HasCondition a k
alone a zero e lt = ([], a, itself e)
alone a (suc k) e lt = absurd (omega (arith, lt))

in_either : (operator : Junction) (a b : Node) (span : Span) (k : ℕ) → k < width a + width b → (k < width a) ⊎ (width a ≤ k) → ((j : ℕ) → j < width a → HasCondition a j) → ((j : ℕ) → j < width b → HasCondition b j) → HasCondition (Logic operator a b span) k
in_either operator a b span k lt (inl here) left right =
    let h = left k here in (0 ∷ h.0, h.1, in_left h.2)
in_either operator a b span k lt (inr later) left right =
    let h = right (k - width a) (omega (arith, lt, later)) in
    let e : width a + (k - width a) ≡ k = omega (arith, later) in
    subst (λ (j : ℕ). HasCondition (Logic operator a b span) j) e (1 ∷ h.0, h.1, in_right h.2)

each_condition : (a : Node) (k : ℕ) → k < width a → HasCondition a k
each_condition (Constant span) k lt = alone (Constant span) k refl lt
each_condition (Not a span) k lt =
    let h = each_condition a k lt in (0 ∷ h.0, h.1, under_not h.2)
each_condition (Logic operator a b span) k lt =
    in_either operator a b span k lt (cases_lt k (width a)) (λ j h. each_condition a j h) (λ j h. each_condition b j h)
each_condition (Expression top ps span) k lt = alone (Expression top ps span) k refl lt
each_condition (Whole ps) k lt = alone (Whole ps) k refl lt

same_gets : (xs ys : List Span) → length xs ≡ length ys → ((k : ℕ) → k < length xs → slice_get xs k ≡ slice_get ys k) → xs ≡ ys
same_gets [] [] e h = refl
same_gets [] (y ∷ ys) e h = absurd (omega (arith, e))
same_gets (x ∷ xs) [] e h = absurd (omega (arith, e))
same_gets (x ∷ xs) (y ∷ ys) e h =
    let first : Some x ≡ Some y = h 0 (omega arith) in
    let rest : xs ≡ ys = same_gets xs ys (omega (arith, e)) (λ k lt. h (suc k) (omega (arith, lt))) in
    let same : x ≡ y = cc in
    cc

same_conditions : (f : Found) (d e : Decision) → Tells f d → Tells f e → d.conditions ≡ e.conditions
same_conditions f d e td te =
    same_gets d.conditions e.conditions (td.count ∙ sym te.count)
    (λ k lt. let h = each_condition f.node k (subst (λ (n : ℕ). k < n) td.count lt) in
    td.conditions k h.0 h.1 h.2 ∙ sym (te.conditions k h.0 h.1 h.2))

same_told : (f : Found) (d e : Decision) → Tells f d → Tells f e → d ≡ e
same_told f d e td te =
    let functions : Some d.function ≡ Some e.function = sym td.function ∙ te.function in
    let function : d.function ≡ e.function = cc in
    ap (λ (s : Span). record d { root = s }) (td.root ∙ sym te.root)
    ∙ (ap (λ (n : ℕ). record d { root = e.root; function = n }) function
    ∙ (ap (λ (t : Tree). record e { tree = t; conditions = d.conditions }) (td.tree ∙ sym te.tree)
    ∙ ap (λ (s : List Span). record e { conditions = s }) (same_conditions f d e td te)))

all_same : (fs : List Found) (ds es : List Decision) → AreTold fs ds → AreTold fs es → ds ≡ es
all_same [] [] [] a b = refl
all_same [] [] (e ∷ es) a b = absurd b
all_same [] (d ∷ ds) es a b = absurd a
all_same (f ∷ fs) [] es a b = absurd a
all_same (f ∷ fs) (d ∷ ds) [] a b = absurd b
all_same (f ∷ fs) (d ∷ ds) (e ∷ es) (td, a) (te, b) =
    let first : d ≡ e = same_told f d e td te in
    let rest : ds ≡ es = all_same fs ds es a b in
    cc

contained : (fs : List Function) (xs ys : List Found) → All (IsRoot fs) xs → ((f : Found) → IsRoot fs f → Contains ys f) → (z : Found) → Contains xs z → Contains ys z
contained fs xs ys only each z h = each z (All-contains (IsRoot fs) xs z only h)

-- ---- the roots are those that are listed

listed : (fs : List Function) (f : Found) → IsRoot fs f → Contains (in_node (program fs)) f
listed fs f (role, at, root) = each f.place (standing Plain (program fs)) (standing role f.node) at root

pub same_roots : (fs : List Function) (ds : List Decision) (h : AreDecisions fs ds) → in_node (program fs) ≡ h.roots
same_roots fs ds h =
    same_lists (in_node (program fs)) h.roots (ascending (program fs)) h.in_order
    (contained fs (in_node (program fs)) h.roots (node_only (program fs) Plain refl) h.each)
    (contained fs h.roots (in_node (program fs)) h.only (listed fs))

pub one_list : OneList
one_list fs ds es a b =
    let same : a.roots ≡ b.roots = same_lists a.roots b.roots a.in_order b.in_order
    (contained fs a.roots b.roots a.only b.each) (contained fs b.roots a.roots b.only a.each) in
    all_same b.roots ds es (subst (λ (rs : List Found). AreTold rs ds) same a.told) b.told
