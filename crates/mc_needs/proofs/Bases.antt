-- The bits of a map's paths stand apart: each belongs to one path of one decision.
use Rattle.std.proofs.Common.{◌≡◌, ℕ, zero, suc, ◌+◌, ◌<◌, ◌≤◌, Some, List, [], ◌∷◌, length, sym, ap, subst, ◌∙◌, arith, inl, inr, ◌⊎◌}
use Rattle.std.specs.Prelude.{slice_get, ◌≢◌}
use Rattle.std.proofs.lemmas.Bool.{cases_lt}
use Rattle.mc_paths.specs.Paths.{count_of}
use Rattle.mc_probe.specs.Maps.{Mapped, Map, IsMap, AreBased, first_path}
use Rattle.mc_oblige.proofs.Bounds.{based_end}
use Rattle.mc_needs.specs.steps.Each.{IsDecisionIn}

pub same_or_not : (i j : ℕ) → (i ≡ j) ⊎ (i ≢ j)
same_or_not i j = elim (cases_lt i j) [
  | inl less ↦ inr (λ e. omega (arith, less, e))
  | inr more ↦ elim (cases_lt j i) [ inl less ↦ inr (λ e. omega (arith, less, e)) | inr also ↦ inl (omega (arith, more, also)) ]
]

not_below : (ds : List Mapped) (from to i : ℕ) (x : Mapped) → AreBased ds from to → slice_get ds i ≡ Some x → from ≤ x.base
not_below [] from to i x h e = cc
not_below (y ∷ ds) from to zero x h e =
    let same : y ≡ x = cc in
    let P : Mapped → Type 0 = λ z. from ≤ z.base in
    let own : from ≤ y.base = omega (arith, h.0) in
    subst P same own
not_below (y ∷ ds) from to (suc i) x h e =
    let more = not_below ds (from + count_of y.decision.tree) to i x h.1 e in
    omega (arith, more)

later_base : (ds : List Mapped) (from to i j : ℕ) (x y : Mapped) → AreBased ds from to → i < j → slice_get ds i ≡ Some x → slice_get ds j ≡ Some y
    → x.base + count_of x.decision.tree ≤ y.base
later_base [] from to i j x y h lt e f = cc
later_base (z ∷ ds) from to i zero x y h lt e f = absurd (omega (arith, lt))
later_base (z ∷ ds) from to zero (suc j) x y h lt e f =
    let same : z ≡ x = cc in
    let P : Mapped → Type 0 = λ u. u.base + count_of u.decision.tree ≤ y.base in
    let low = not_below ds (from + count_of z.decision.tree) to j y h.1 f in
    let own : z.base + count_of z.decision.tree ≤ y.base = omega (arith, low, h.0) in
    subst P same own
later_base (z ∷ ds) from to (suc i) (suc j) x y h lt e f = later_base ds (from + count_of z.decision.tree) to i j x y h.1 (omega (arith, lt)) e f

pub one_mapped : (ds : List Mapped) (i j : ℕ) (x y : Mapped) → i ≡ j → slice_get ds i ≡ Some x → slice_get ds j ≡ Some y → x ≡ y
one_mapped ds i j x y same e f =
    let own : Some x ≡ Some y = sym e ∙ ap (λ n. slice_get ds n) same ∙ f in
    cc

module _ (m : Map) (kept : IsMap m) where
  pub bit_within : (d p : ℕ) (x : Mapped) → slice_get m.decisions d ≡ Some x → p < count_of x.decision.tree → x.base + p < m.bits
  bit_within d p x known below =
      let end = based_end m.decisions (first_path m) m.bits d x kept.based known in
      omega (arith, end, below)

  module _ (d e p q : ℕ) (x y : Mapped) (known : slice_get m.decisions d ≡ Some x) (also : slice_get m.decisions e ≡ Some y)
      (below : p < count_of x.decision.tree) (under : q < count_of y.decision.tree) (bit : x.base + p ≡ y.base + q) where
    pub one_decision : d ≡ e
    one_decision = elim (cases_lt d e) [
      | inl less ↦ absurd (let l = later_base m.decisions (first_path m) m.bits d e x y kept.based less known also in omega (arith, l, below, bit))
      | inr more ↦ elim (cases_lt e d) [
        | inl less ↦ absurd (let l = later_base m.decisions (first_path m) m.bits e d y x kept.based less also known in omega (arith, l, under, bit))
        | inr still ↦ omega (arith, more, still)
      ]
    ]

    pub one_path : p ≡ q
    one_path =
        let same : x.base ≡ y.base = ap (λ (z : Mapped). z.base) (one_mapped m.decisions d e x y one_decision known also) in
        omega (arith, same, bit)

pub decision_within : (ds : List Mapped) (d : ℕ) → IsDecisionIn (slice_get ds d) → d < length ds
decision_within [] d h = absurd h
decision_within (x ∷ ds) zero h = omega arith
decision_within (x ∷ ds) (suc d) h = let lt = decision_within ds d h in omega (arith, lt)
