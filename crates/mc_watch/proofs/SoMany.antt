-- How many different pairs there are.
use Rattle.std.proofs.Common.{◌≡◌, ℕ, ◌+◌, ◌<◌, ◌≤◌, List, [], ◌∷◌, ◌++◌, length, get_or, refl, sym, ap, ◌∙◌, subst, arith, inl, inr}
use Rattle.std.specs.Prelude.{◌↔◌, ◌⊎◌, Contains, sum_by, ◌==◌, ◌&&◌}
use Rattle.std.proofs.lemmas.List.{length_push}
use Rattle.std.proofs.lemmas.List.Sums.{sum_by-cons, sum_by-le, get_or-le-sum_by}
use Rattle.std.proofs.lemmas.List.Elements.{Contains-append_left, Contains-append_right, Contains-push, Contains-push_cases}
use native.Mathlib.Decide.{dec_lt, ℕ_discrete}
use mathlib.Core.Logic.{dite}
use Rattle.mc_core.specs.Counts.{marks}
use Rattle.mc_cover.proofs.Counts.{tally, pair_yes, marks_same, marks_other, contains_of_marks}
use Rattle.mc_watch.specs.Watched.{AreSoMany}

-- how often the pairs of qs stand in ps, and how often the pair p stands in qs
abbrev found : List (ℕ × ℕ) → List (ℕ × ℕ) → ℕ
found ps qs = sum_by (λ q. marks q.0 q.1 ps) qs

abbrev here : ℕ × ℕ → List (ℕ × ℕ) → ℕ
here p qs = sum_by (λ q. tally ((p.0 == q.0) && (p.1 == q.1))) qs

found_more : (p : ℕ × ℕ) (ps qs : List (ℕ × ℕ)) → found (p ∷ ps) qs ≡ here p qs + found ps qs
found_more p ps [] = refl
found_more p ps (q ∷ qs) =
    let a = sum_by-cons (λ (x : ℕ × ℕ). marks x.0 x.1 (p ∷ ps)) q qs in
    let b = sum_by-cons (λ (x : ℕ × ℕ). tally ((p.0 == x.0) && (p.1 == x.1))) q qs in
    let c = sum_by-cons (λ (x : ℕ × ℕ). marks x.0 x.1 ps) q qs in
    let d = sum_by-cons (λ (h : ℕ × ℕ). tally ((h.0 == q.0) && (h.1 == q.1))) p ps in
    let e = found_more p ps qs in omega arith

here_some : (p : ℕ × ℕ) (qs : List (ℕ × ℕ)) → Contains qs p → 0 < here p qs
here_some p qs h =
    let f : ℕ × ℕ → ℕ = λ q. tally ((p.0 == q.0) && (p.1 == q.1)) in
    let g : f (get_or qs h.0 p) ≤ sum_by f qs = get_or-le-sum_by f qs h.0 p h.1 in
    let one : f (get_or qs h.0 p) ≡ 1 = ap f h.2 ∙ pair_yes p.0 p.1 in omega arith

found_all : (ps qs : List (ℕ × ℕ)) → ((b t : ℕ) → Contains ps (b, t) → Contains qs (b, t)) → length ps ≤ found ps qs
found_all [] qs all = omega arith
found_all (p ∷ ps) qs all =
    let head : Contains (p ∷ ps) p = (0, omega arith, refl) in
    let some = here_some p qs (all p.0 p.1 head) in
    let rest = found_all ps qs (λ b t h. all b t (Contains-append_right (p ∷ []) ps (b, t) h)) in
    let more = found_more p ps qs in omega arith

-- pairs that stand once each, and all stand in qs, are at most as many
few : (ps qs : List (ℕ × ℕ)) → ((b t : ℕ) → marks b t ps ≤ 1) → ((b t : ℕ) → Contains ps (b, t) → Contains qs (b, t)) → length ps ≤ length qs
few ps qs once all =
    let a = found_all ps qs all in
    let b = sum_by-le (λ (q : ℕ × ℕ). marks q.0 q.1 ps) 1 qs (λ k d less. once (get_or qs k d).0 (get_or qs k d).1) in omega arith

pub at_most : (P Q : ℕ → ℕ → Type 0) (m n : ℕ) → AreSoMany P m → AreSoMany Q n → ((b t : ℕ) → P b t → Q b t) → m ≤ n
at_most P Q m n p q le =
    let f = few p.pairs q.pairs p.once (λ b t h. (q.exact b t).1 (le b t ((p.exact b t).0 h))) in
    let a = p.count in let c = q.count in omega arith

pub only_one : (P : ℕ → ℕ → Type 0) (m n : ℕ) → AreSoMany P m → AreSoMany P n → m ≡ n
only_one P m n p q =
    let a = at_most P P m n p q (λ b t h. h) in let b = at_most P P n m q p (λ b t h. h) in omega arith

pub so_many_same : (P Q : ℕ → ℕ → Type 0) (n : ℕ) → ((b t : ℕ) → P b t ↔ Q b t) → AreSoMany P n → AreSoMany Q n
so_many_same P Q n same is = record {
  pairs = is.pairs;
  once = is.once;
  exact = λ b t. (λ h. (same b t).0 ((is.exact b t).0 h), λ h. (is.exact b t).1 ((same b t).1 h));
  count = is.count;
}

pub so_many_none : (P : ℕ → ℕ → Type 0) → ((b t : ℕ) → ¬ P b t) → AreSoMany P 0
so_many_none P none = record {
  pairs = [];
  once = λ b t. omega arith;
  exact = λ b t. (λ h. absurd (let lt = h.1 in omega arith), λ h. absurd (none b t h));
  count = refl;
}

once_more : (ps : List (ℕ × ℕ)) (b t c u : ℕ) → marks c u ps ≤ 1 → ¬ Contains ps (b, t) → marks c u (ps ++ (b, t) ∷ []) ≤ 1
once_more ps b t c u old new =
    let other = λ (apart : ¬ ((c ≡ b) × (u ≡ t))). let o = marks_other c u b t ps apart in let r : marks c u (ps ++ (b, t) ∷ []) ≤ 1 = omega arith in r in
    dite (ℕ_discrete c b)
    (λ x. dite (ℕ_discrete u t)
    (λ y.
    let none : marks b t ps ≡ 0 = dite (dec_lt 0 (marks b t ps)) (λ some. absurd (new (contains_of_marks b t ps some))) (λ no. omega arith) in
    let same = marks_same b t ps in
    let r : marks b t (ps ++ (b, t) ∷ []) ≤ 1 = omega arith in
    subst (λ (p : ℕ × ℕ). marks p.0 p.1 (ps ++ (b, t) ∷ []) ≤ 1) (λ i. (sym x i, sym y i)) r)
    (λ ne. other (λ p. ne p.1)))
    (λ ne. other (λ p. ne p.0))

-- one pair more
pub so_many_more : (P Q : ℕ → ℕ → Type 0) (n : ℕ) → AreSoMany P n → (b t : ℕ) → ¬ P b t → ((c u : ℕ) → Q c u ↔ (P c u ⊎ ((c ≡ b) × (u ≡ t)))) → AreSoMany Q (n + 1)
so_many_more P Q n is b t new more = record {
  pairs = is.pairs ++ (b, t) ∷ [];
  once = λ c u. once_more is.pairs b t c u (is.once c u) (λ h. new ((is.exact b t).0 h));
  exact = λ c u. (
    λ h. elim (Contains-push_cases is.pairs (b, t) (c, u) h) [
      | inl old ↦ (more c u).1 (inl ((is.exact c u).0 old))
      | inr e ↦ (more c u).1 (inr (sym (ap (λ (p : ℕ × ℕ). p.0) e), sym (ap (λ (p : ℕ × ℕ). p.1) e)))
    ],
    λ h. elim ((more c u).0 h) [
      | inl old ↦ Contains-append_left is.pairs ((b, t) ∷ []) (c, u) ((is.exact c u).1 old)
      | inr e ↦ subst (λ (p : ℕ × ℕ). Contains (is.pairs ++ (b, t) ∷ []) p) (λ i. (sym e.0 i, sym e.1 i)) (Contains-push is.pairs (b, t))
    ],
  );
  count = length_push is.pairs (b, t) ∙ ap (λ k. k + 1) is.count;
}
