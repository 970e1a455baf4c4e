-- Marks by their ranks, and the worst mark of places that follow each other.
use Rattle.std.proofs.Common.{◌≡◌, ◌∙◌, ◌+◌, ◌-◌, ◌<◌, ◌≤◌, ℕ, zero, suc, max, Bool, true, false, List, [], ◌∷◌, take, drop, get_or, refl, sym, ap, subst, arith}
use Rattle.std.specs.Prelude.{nat_le, nat_lt, ◌&&◌, if◌then◌else◌}
use Rattle.std.proofs.lemmas.Bool.Decides.{nat_tests}
use Rattle.std.proofs.lemmas.List.{drop_more}
use Rattle.mc_oblige.specs.declared.obligation.Obligation.{Obligation}
use Rattle.mc_oblige.specs.declared.verdict.Verdict.{Verdict}
use Rattle.mc_list.specs.declared.mark.Mark.{Mark}
use Rattle.mc_list.specs.declared.mark.Mark.TheVariants.{Clear, Met, Justified, Stale, Missing}
use Rattle.mc_list.specs.Marks.{rank_of, worse_of, mark_of, own_mark, mark_within}
use Rattle.mc_list.specs.steps.Ranks.{worst_rank, AreMarks}

-- ---- marks and their ranks

abbrev mark_at : ℕ → Mark
mark_at zero = Clear
mark_at (suc zero) = Met
mark_at (suc (suc zero)) = Justified
mark_at (suc (suc (suc zero))) = Stale
mark_at (suc (suc (suc (suc n)))) = Missing

at_rank : (m : Mark) → mark_at (rank_of m) ≡ m
at_rank Clear = refl
at_rank Met = refl
at_rank Justified = refl
at_rank Stale = refl
at_rank Missing = refl

same_mark : (a b : Mark) → rank_of a ≡ rank_of b → a ≡ b
same_mark a b e = sym (at_rank a) ∙ ap mark_at e ∙ at_rank b

rank_worse : (a b : Mark) → rank_of (worse_of a b) ≡ max (rank_of a) (rank_of b)
rank_worse Clear Clear = refl
rank_worse Clear Met = refl
rank_worse Clear Justified = refl
rank_worse Clear Stale = refl
rank_worse Clear Missing = refl
rank_worse Met Clear = refl
rank_worse Met Met = refl
rank_worse Met Justified = refl
rank_worse Met Stale = refl
rank_worse Met Missing = refl
rank_worse Justified Clear = refl
rank_worse Justified Met = refl
rank_worse Justified Justified = refl
rank_worse Justified Stale = refl
rank_worse Justified Missing = refl
rank_worse Stale Clear = refl
rank_worse Stale Met = refl
rank_worse Stale Justified = refl
rank_worse Stale Stale = refl
rank_worse Stale Missing = refl
rank_worse Missing Clear = refl
rank_worse Missing Met = refl
rank_worse Missing Justified = refl
rank_worse Missing Stale = refl
rank_worse Missing Missing = refl

-- ---- the mark of one obligation

abbrev pub own_rank : ℕ → ℕ → ℕ → ℕ → ℕ
own_rank from to at rank = if nat_le from at && nat_lt at to then rank else 0

rank_if : (t : Bool) (m : Mark) → rank_of (if t then m else Clear) ≡ (if t then rank_of m else 0)
rank_if true m = refl
rank_if false m = refl

rank_own : (from to at : ℕ) (m : Mark) → rank_of (own_mark from to at m) ≡ own_rank from to at (rank_of m)
rank_own from to at m = rank_if (nat_le from at && nat_lt at to) m

pub own_inside : (from to at rank : ℕ) → from ≤ at → at < to → own_rank from to at rank ≡ rank
own_inside from to at rank low high = grind (arith, nat_tests)

own_joined : (x y z at rank : ℕ) → x ≤ y → y ≤ z → own_rank x z at rank ≡ max (own_rank x y at rank) (own_rank y z at rank)
own_joined x y z at rank h k = grind (arith, nat_tests)

-- ---- the worst mark of some places

pub first_more : (x y : ℕ) (o : Obligation) (v : Verdict) (os : List Obligation) (vs : List Verdict) → rank_of (mark_within x y (o ∷ os) (v ∷ vs))
    ≡ max (own_rank x y o.span.start (rank_of (mark_of v.state))) (rank_of (mark_within x y os vs))
first_more x y o v os vs =
    rank_worse (own_mark x y o.span.start (mark_of v.state)) (mark_within x y os vs)
    ∙ ap (λ r. max r (rank_of (mark_within x y os vs))) (rank_own x y o.span.start (mark_of v.state))

both_joined : (a b c d e f : ℕ) → a ≡ max b c → d ≡ max e f → max a d ≡ max (max b e) (max c f)
both_joined a b c d e f h k = omega arith

joined : (x y z : ℕ) (os : List Obligation) (vs : List Verdict) → x ≤ y → y ≤ z → rank_of (mark_within x z os vs) ≡ max (rank_of (mark_within x y os vs)) (rank_of (mark_within y z os vs))
joined x y z [] vs h k = refl
joined x y z (o ∷ os) [] h k = refl
joined x y z (o ∷ os) (v ∷ vs) h k =
    let own : ℕ → ℕ → ℕ = λ a b. own_rank a b o.span.start (rank_of (mark_of v.state)) in
    let rest : ℕ → ℕ → ℕ = λ a b. rank_of (mark_within a b os vs) in
    let both : max (own x z) (rest x z) ≡ max (max (own x y) (rest x y)) (max (own y z) (rest y z)) =
    both_joined (own x z) (own x y) (own y z) (rest x z) (rest x y) (rest y z) (own_joined x y z o.span.start (rank_of (mark_of v.state)) h k) (joined x y z os vs h k) in
    first_more x z o v os vs ∙ both
    ∙ sym (ap (λ r. max r (rank_of (mark_within y z (o ∷ os) (v ∷ vs)))) (first_more x y o v os vs)
    ∙ ap (λ r. max (max (own x y) (rest x y)) r) (first_more y z o v os vs))

nowhere : (x : ℕ) (os : List Obligation) (vs : List Verdict) → rank_of (mark_within x x os vs) ≡ 0
nowhere x [] vs = refl
nowhere x (o ∷ os) [] = refl
nowhere x (o ∷ os) (v ∷ vs) =
    let own : own_rank x x o.span.start (rank_of (mark_of v.state)) ≡ 0 = grind (arith, nat_tests) in
    let here = first_more x x o v os vs in
    let rest = nowhere x os vs in
    omega (arith, here, own, rest)

-- the marks of so many places in a row
part : (from : ℕ) (os : List Obligation) (vs : List Verdict) (marks : List Mark) → AreMarks from os vs marks → (a n p q : ℕ) → a + n ≤ 4096 → p ≡ from + a → q ≡ p + n
    → worst_rank (take n (drop a marks)) ≡ rank_of (mark_within p q os vs)
part from os vs marks are a zero p q within first last =
    let same : p ≡ q = omega arith in
    subst (λ (y : ℕ). 0 ≡ rank_of (mark_within p y os vs)) same (sym (nowhere p os vs))
part from os vs marks are a (suc n) p q within first last =
    let more : drop a marks ≡ get_or marks a Clear ∷ drop (a + 1) marks = drop_more marks a Clear (omega (arith, are.whole)) in
    let here : rank_of (get_or marks a Clear) ≡ rank_of (mark_within p (p + 1) os vs) =
    subst (λ (x : ℕ). rank_of (get_or marks a Clear) ≡ rank_of (mark_within x (x + 1) os vs)) (sym first) (are.each a (omega arith)) in
    let later = part from os vs marks are (a + 1) n (p + 1) q (omega arith) (omega arith) (omega arith) in
    ap (λ ms. worst_rank (take (suc n) ms)) more
    ∙ ap (λ r. max r (worst_rank (take n (drop (a + 1) marks)))) here
    ∙ ap (λ r. max (rank_of (mark_within p (p + 1) os vs)) r) later
    ∙ sym (joined p (p + 1) q os vs (omega arith) (omega arith))

-- the mark of a line is the worst of its places
pub worst_is : (from : ℕ) (os : List Obligation) (vs : List Verdict) (marks : List Mark) → AreMarks from os vs marks → (start len : ℕ) → from ≤ start → start + len ≤ from + 4096
    → (m : Mark) → rank_of m ≡ worst_rank (take len (drop (start - from) marks)) → m ≡ mark_within start (start + len) os vs
worst_is from os vs marks are start len low high m e =
    same_mark m (mark_within start (start + len) os vs) (e ∙ part from os vs marks are (start - from) len start (start + len) (omega arith) (omega arith) refl)
