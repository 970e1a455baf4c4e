-- In which function a place stands.
use Rattle.std.proofs.Common.{◌≡◌, ◌+◌, ◌<◌, ◌≤◌, ℕ, zero, suc, Bool, true, false, List, [], ◌∷◌, length, get_or, refl, ap, arith, inl, inr}
use Rattle.std.specs.Prelude.{if◌then◌else◌, nat_le}
use Rattle.std.proofs.lemmas.Bool.Decides.{nat_tests}
use Rattle.std.proofs.lemmas.Bool.{cases_lt}
use Rattle.mc_functions.specs.Standing.{StandsIn, function_from, function_of}

-- what a walk through the names from number k on finds: the number it had, or that of the last name
-- that does not stand after the place
data Walk (found k at : ℕ) (names : List ℕ) (result : ℕ) : Type 0 where
  kept : result ≡ found → ((j : ℕ) → j < length names → at < get_or names j 0) → Walk found k at names result
  moved : (j : ℕ) → result ≡ k + j → j < length names → get_or names j 0 ≤ at → ((later : ℕ) → j < later → later < length names → at < get_or names later 0) → Walk found k at names result

first_after : (at name : ℕ) (names : List ℕ) → at < name → ((j : ℕ) → j < length names → at < get_or names j 0) → (j : ℕ) → j < length (name ∷ names) → at < get_or (name ∷ names) j 0
first_after at name names first each zero lt = first
first_after at name names first each (suc j) lt = each j (omega arith)

later_after : (at name j : ℕ) (names : List ℕ) → ((later : ℕ) → j < later → later < length names → at < get_or names later 0) → (later : ℕ) → suc j < later → later < length (name ∷ names) → at < get_or (name ∷ names) later 0
later_after at name j names each zero above lt = absurd (omega arith)
later_after at name j names each (suc later) above lt = each later (omega arith) (omega arith)

all_after : (at name : ℕ) (names : List ℕ) → ((j : ℕ) → j < length names → at < get_or names j 0) → (later : ℕ) → 0 < later → later < length (name ∷ names) → at < get_or (name ∷ names) later 0
all_after at name names each zero above lt = absurd (omega arith)
all_after at name names each (suc later) above lt = each later (omega arith)

begun : (found k at name : ℕ) (names : List ℕ) (result : ℕ) → name ≤ at → Walk k (k + 1) at names result → Walk found k at (name ∷ names) result
begun found k at name names result le (kept is each) = moved 0 (omega (arith, is)) (omega arith) le (all_after at name names each)
begun found k at name names result le (moved j is lt low each) = moved (suc j) (omega (arith, is)) (omega (arith, lt)) low (later_after at name j names each)

not_begun : (found k at name : ℕ) (names : List ℕ) (result : ℕ) → at < name → Walk found (k + 1) at names result → Walk found k at (name ∷ names) result
not_begun found k at name names result below (kept is each) = kept is (first_after at name names below each)
not_begun found k at name names result below (moved j is lt low each) = moved (suc j) (omega (arith, is)) (omega (arith, lt)) low (later_after at name j names each)

by_test : (t : Bool) (found k at name : ℕ) (names : List ℕ) → nat_le name at ≡ t → ((now : ℕ) → Walk now (k + 1) at names (function_from now (k + 1) at names))
    → Walk found k at (name ∷ names) (function_from (if t then k else found) (k + 1) at names)
by_test true found k at name names is rest =
    let le : name ≤ at = grind (arith, nat_tests) in
    begun found k at name names (function_from k (k + 1) at names) le (rest k)
by_test false found k at name names is rest =
    let below : at < name = grind (arith, nat_tests) in
    not_begun found k at name names (function_from found (k + 1) at names) below (rest found)

walk : (found k at : ℕ) (names : List ℕ) → Walk found k at names (function_from found k at names)
walk found k at [] = kept refl (λ j lt. absurd (omega arith))
walk found k at (name ∷ names) = by_test (nat_le name at) found k at name names refl (λ now. walk now (k + 1) at names)

found_one : (names : List ℕ) (at result : ℕ) → 1 ≤ length names → Walk 0 0 at names result → StandsIn names result at
found_one names at result some (kept is each) = record {
  there = omega (arith, is);
  begun = inr is;
  last = λ later above lt. each later lt;
}
found_one names at result some (moved j is lt low each) =
    let same : result ≡ j = omega (arith, is) in
    record {
      there = omega (arith, same, lt);
      begun = inl (omega (arith, low, ap (λ (k : ℕ). get_or names k 0) same));
      last = λ later above less. each later (omega (arith, above, same)) less;
    }

pub stands : (names : List ℕ) (at : ℕ) → 1 ≤ length names → StandsIn names (function_of names at) at
stands names at some = found_one names at (function_of names at) some (walk 0 0 at names)

-- the later of two
no_later : (names : List ℕ) (j k at : ℕ) → StandsIn names j at → StandsIn names k at → j < k → ⊥
no_later names j k at one other less =
    elim other.begun as (λ _. ⊥) [
      | inl low ↦ omega (arith, low, one.last k less other.there)
      | inr none ↦ omega (arith, none, less)
    ]

pub stands_once : (names : List ℕ) (j k at : ℕ) → StandsIn names j at → StandsIn names k at → j ≡ k
stands_once names j k at one other =
    elim (cases_lt j k) as (λ _. j ≡ k) [
      | inl lt ↦ absurd (no_later names j k at one other lt)
      | inr ge ↦
          elim (cases_lt k j) as (λ _. j ≡ k) [
            | inl lt ↦ absurd (no_later names k j at other one lt)
            | inr le ↦ omega (arith, ge, le)
          ]
    ]
