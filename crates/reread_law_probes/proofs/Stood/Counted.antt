-- Places that stand in a list as often as in another one, or less often.
use Rattle.std.proofs.Common.{◌≡◌, ◌≤◌, ◌+◌, ◌==◌, ◌&&◌, ℕ, Bool, true, false, List, [], ◌∷◌, refl, sym, ap, subst, ◌∙◌, arith}
use Rattle.mc_span.specs.declared.span.Span.{Span}
use Rattle.reread_law_texts.specs.apart.Distinct.{Each, IsDistinct}

abbrev pub is_same : Span → Span → Bool
is_same a b = (a.start == b.start) && (a.end == b.end)

abbrev pub one_where : Bool → ℕ
one_where true = 1
one_where false = 0

abbrev pub count : Span → List Span → ℕ
count s [] = 0
count s (x ∷ xs) = one_where (is_same s x) + count s xs

-- ---- the same place

number_itself : (k : ℕ) → (k == k) ≡ true
number_itself k = grind arith

same_number : (j k : ℕ) → (j == k) ≡ true → j ≡ k
same_number j k h = grind (arith, h)

both_true : (b d : Bool) → (b && d) ≡ true → (b ≡ true) × (d ≡ true)
both_true true true h = (refl, refl)
both_true true false h = cc
both_true false d h = cc

both_are : (b d : Bool) → b ≡ true → d ≡ true → (b && d) ≡ true
both_are true true h l = refl
both_are true false h l = l
both_are false d h l = h

itself : (s : Span) → is_same s s ≡ true
itself s = both_are (s.start == s.start) (s.end == s.end) (number_itself s.start) (number_itself s.end)

same_place : (a b : Span) → is_same a b ≡ true → a ≡ b
same_place a b h =
    let x = both_true (a.start == b.start) (a.end == b.end) h in
    ap (λ n. record { start = n; end = a.end }) (same_number a.start b.start x.0)
    ∙ ap (λ n. record { start = b.start; end = n }) (same_number a.end b.end x.1)

-- ---- at most once

none_here : (x y : Span) (b : Bool) (n : ℕ) → is_same x y ≡ b → (x ≡ y → ⊥) → n ≡ 0 → one_where b + n ≡ 0
none_here x y true n q h e = absurd (h (same_place x y q))
none_here x y false n q h e = omega (arith, e)

absent : (x : Span) (ys : List Span) → Each (λ y. x ≡ y → ⊥) ys → count x ys ≡ 0
absent x [] h = refl
absent x (y ∷ ys) h = none_here x y (is_same x y) (count x ys) refl h.0 (absent x ys h.1)

one_here : (s y : Span) (ys : List Span) (b : Bool) → is_same s y ≡ b → count y ys ≡ 0 → count s ys ≤ 1 → one_where b + count s ys ≤ 1
one_here s y ys true q h e =
    let none : count s ys ≡ 0 = subst (λ z. count z ys ≡ 0) (sym (same_place s y q)) h in
    omega (arith, none)
one_here s y ys false q h e = omega (arith, e)

once : (ys : List Span) → IsDistinct ys → (s : Span) → count s ys ≤ 1
once [] h s = omega arith
once (y ∷ ys) h s = one_here s y ys (is_same s y) refl (absent y ys h.0) (once ys h.1 s)

differs : (x y : Span) (b : Bool) (n : ℕ) → is_same x y ≡ b → one_where b + n ≡ 0 → x ≡ y → ⊥
differs x y true n q h e = omega (arith, h)
differs x y false n q h e =
    let same : is_same x y ≡ true = subst (λ z. is_same x z ≡ true) e (itself x) in cc

absent_differs : (x : Span) (ys : List Span) → count x ys ≡ 0 → Each (λ y. x ≡ y → ⊥) ys
absent_differs x [] h = tt
absent_differs x (y ∷ ys) h = (
  λ e. differs x y (is_same x y) (count x ys) refl h e,
  absent_differs x ys (omega (arith, h)),
)

more_than : (n k : ℕ) → n + k ≤ 1 → k ≤ 1
more_than n k h = omega (arith, h)

pub distinct : (xs : List Span) → ((s : Span) → count s xs ≤ 1) → IsDistinct xs
distinct [] h = tt
distinct (x ∷ xs) h =
    let few : one_where (is_same x x) + count x xs ≤ 1 = h x in
    let own : 1 + count x xs ≤ 1 = subst (λ b. one_where b + count x xs ≤ 1) (itself x) few in (
      absent_differs x xs (omega (arith, own)),
      distinct xs (λ s. more_than (one_where (is_same s x)) (count s xs) (h s)),
    )

-- ---- within another list

-- Each place stands in `later` at most as often as in the two lists together.
pub record Within (held later own : List Span) : Type 0 where
  pub most : (s : Span) → count s later ≤ count s held + count s own

kept : (x l h o : ℕ) → l ≤ h + o → x + l ≤ h + (x + o)
kept x l h o e = omega (arith, e)

pub keep : {held later own : List Span} (x : Span) → Within held later own → Within held (x ∷ later) (x ∷ own)
keep {held = held} {later = later} {own = own} x t =
    record { most = λ s. kept (one_where (is_same s x)) (count s later) (count s held) (count s own) (t.most s) }

skips : (x l h o : ℕ) → l ≤ h + o → l ≤ h + (x + o)
skips x l h o e = omega (arith, e)

pub skip : {held later own : List Span} (x : Span) → Within held later own → Within held later (x ∷ own)
skip {held = held} {later = later} {own = own} x t =
    record { most = λ s. skips (one_where (is_same s x)) (count s later) (count s held) (count s own) (t.most s) }

drops : (x l h o : ℕ) → x + l ≤ h + o → l ≤ h + o
drops x l h o e = omega (arith, e)

pub drop : {held later own : List Span} (x : Span) → Within held (x ∷ later) own → Within held later own
drop {held = held} {later = later} {own = own} x t =
    record { most = λ s. drops (one_where (is_same s x)) (count s later) (count s held) (count s own) (t.most s) }

holds : (x l h o : ℕ) → l ≤ h + o → x + l ≤ (x + h) + o
holds x l h o e = omega (arith, e)

pub hold : {held later own : List Span} (x : Span) → Within held later own → Within (x ∷ held) (x ∷ later) own
hold {held = held} {later = later} {own = own} x t =
    record { most = λ s. holds (one_where (is_same s x)) (count s later) (count s held) (count s own) (t.most s) }

releases : (x l h o : ℕ) → l ≤ (x + h) + o → l ≤ h + (x + o)
releases x l h o e = omega (arith, e)

pub release : {held later own : List Span} (x : Span) → Within (x ∷ held) later own → Within held later (x ∷ own)
release {held = held} {later = later} {own = own} x t =
    record { most = λ s. releases (one_where (is_same s x)) (count s later) (count s held) (count s own) (t.most s) }

pub nothing : Within [] [] []
nothing = record { most = λ s. omega arith }

pub apart_within : {later own : List Span} → Within [] later own → IsDistinct own → IsDistinct later
apart_within {later = later} {own = own} t h =
    distinct later (λ s. let few = t.most s in let one = once own h s in omega (arith, few, one))
