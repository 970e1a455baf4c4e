-- A bit has a count above 0 exactly where one of the counted tests has it.
use Rattle.std.proofs.Common.{◌≡◌, ◌≢◌, ◌∙◌, ◌%◌, ◌<◌, ◌≤◌, ℕ, zero, suc, List, [], ◌∷◌, length, get_or, refl, sym, ap, subst, arith, inl, inr, ◌⊎◌}
use Rattle.std.specs.Prelude.{Contains}
use Rattle.std.specs.Int.{bit_at}
use Rattle.std.proofs.lemmas.Bool.{cases_lt, cases_eq}
use Rattle.mc_core.specs.Matrix.{MatrixView, bit_of}
use Rattle.mc_reduce.specs.steps.Counts.{count_below, count_among}

one_bit : (n : ℕ) → (n % 2 ≡ 0) ⊎ (n % 2 ≡ 1)
one_bit n = elim (cases_lt (n % 2) 1) [ inl less ↦ inl (omega arith) | inr more ↦ inr (omega arith) ]

pub bit_is_one : (w k : ℕ) → (bit_at w k ≡ 0) ⊎ (bit_at w k ≡ 1)
bit_is_one w k = one_bit _

-- no test stands twice
abbrev pub Distinct : List ℕ → Type 0
Distinct [] = Unit {0}
Distinct (t ∷ ts) = (¬ Contains ts t) × Distinct ts

module _ (x : MatrixView) (b : ℕ) where
  abbrev pub bit : ℕ → ℕ
  bit t = bit_of x.shape x.words b t

  pub bit_is : (t : ℕ) → (bit t ≡ 0) ⊎ (bit t ≡ 1)
  bit_is t = one_bit _

  -- ---- the first n tests

  pub some_below : (n : ℕ) → 0 < count_below x b n → (t : ℕ) × (t < n) × (bit t ≡ 1)
  some_below zero some = absurd (omega arith)
  some_below (suc n) some = elim (bit_is n) [
    | inl clear ↦ (let rest = some_below n (omega (arith, some, clear)) in let lt = rest.1 in (rest.0, omega (arith, lt), rest.2))
    | inr held ↦ (n, omega arith, held)
  ]

  pub below_some : (n t : ℕ) → t < n → bit t ≡ 1 → 0 < count_below x b n
  below_some zero t lt held = absurd (omega arith)
  below_some (suc n) t lt held = elim (cases_lt t n) [
    | inl less ↦ (let rest = below_some n t less held in omega (arith, rest))
    | inr more ↦ (let same : t ≡ n = omega (arith, lt, more) in let own : bit n ≡ 1 = subst (λ (u : ℕ). bit u ≡ 1) same held in omega (arith, own))
  ]

  -- ---- a list of tests

  first_is : (u : ℕ) (ts : List ℕ) → Contains (u ∷ ts) u
  first_is u ts = (0, omega arith, refl)

  later_is : (u t : ℕ) (ts : List ℕ) → Contains ts t → Contains (u ∷ ts) t
  later_is u t ts h = (suc h.0, (let lt = h.1 in omega (arith, lt)), h.2)

  at_place : (u t : ℕ) (ts : List ℕ) (k : ℕ) → k < length (u ∷ ts) → get_or (u ∷ ts) k t ≡ t → (t ≡ u) ⊎ Contains ts t
  at_place u t ts zero lt e = inl (sym e)
  at_place u t ts (suc k) lt e = inr (k, omega (arith, lt), e)

  -- one of a list is the first or one of the others
  either : (u t : ℕ) (ts : List ℕ) → Contains (u ∷ ts) t → (t ≡ u) ⊎ Contains ts t
  either u t ts h = at_place u t ts h.0 h.1 h.2

  pub some_among : (ts : List ℕ) → 0 < count_among x b ts → (t : ℕ) × Contains ts t × (bit t ≡ 1)
  some_among [] some = absurd (omega arith)
  some_among (u ∷ ts) some = elim (bit_is u) [
    | inl clear ↦ (let rest = some_among ts (omega (arith, some, clear)) in (rest.0, later_is u rest.0 ts rest.1, rest.2))
    | inr held ↦ (u, first_is u ts, held)
  ]

  pub no_more : (ts : List ℕ) (t : ℕ) → Contains ts t → bit t ≤ count_among x b ts
  no_more [] t h = absurd (let lt = h.1 in omega (arith, lt))
  no_more (u ∷ ts) t h = elim (either u t ts h) [
    | inl same ↦ (let e : bit t ≡ bit u = ap bit same in omega (arith, e))
    | inr later ↦ (let le = no_more ts t later in omega (arith, le))
  ]

  pub among_some : (ts : List ℕ) (t : ℕ) → Contains ts t → bit t ≡ 1 → 0 < count_among x b ts
  among_some ts t h held = let le = no_more ts t h in omega (arith, le, held)

  -- ---- those of a list but one

  pub other_among : (ts : List ℕ) (t : ℕ) → Distinct ts → Contains ts t → bit t < count_among x b ts → (u : ℕ) × (Contains ts u × (u ≢ t)) × (bit u ≡ 1)
  other_among [] t distinct h some = absurd (let lt = h.1 in omega (arith, lt))
  other_among (s ∷ ts) t distinct h some = elim (cases_eq s t) [
    | inl same ↦
        (let e : bit s ≡ bit t = ap bit same in
        let rest = some_among ts (omega (arith, some, e)) in
        (rest.0, (later_is s rest.0 ts rest.1, λ is. distinct.0 (subst (λ (u : ℕ). Contains ts u) (is ∙ sym same) rest.1)), rest.2))
    | inr differ ↦ elim (bit_is s) [
      | inr held ↦ (s, (first_is s ts, differ), held)
      | inl clear ↦
          (let within : Contains ts t = elim (either s t ts h) [ inl same ↦ absurd (differ (sym same)) | inr later ↦ later ] in
          let rest = other_among ts t distinct.1 within (omega (arith, some, clear)) in
          (rest.0, (later_is s rest.0 ts rest.1.0, rest.1.1), rest.2))
    ]
  ]

  pub among_other : (ts : List ℕ) (t u : ℕ) → Contains ts t → Contains ts u → u ≢ t → bit u ≡ 1 → bit t < count_among x b ts
  among_other [] t u h g differ held = absurd (let lt = h.1 in omega (arith, lt))
  among_other (s ∷ ts) t u h g differ held = elim (either s t ts h) [
    | inl own ↦
        (let e : bit t ≡ bit s = ap bit own in
        let later : Contains ts u = elim (either s u ts g) [ inl same ↦ absurd (differ (same ∙ sym own)) | inr more ↦ more ] in
        let some = among_some ts u later held in
        omega (arith, e, some))
    | inr within ↦ elim (either s u ts g) [
      | inl same ↦
          (let e : bit u ≡ bit s = ap bit same in
          let le = no_more ts t within in
          omega (arith, e, held, le))
      | inr more ↦ (let rest = among_other ts t u within more differ held in omega (arith, rest))
    ]
  ]
