-- The first of an ascending list that meets a test is the least that does.
use Rattle.std.proofs.Common.{◌≡◌, ℕ, ◌<◌, ◌≤◌, List, length, get_or, arith, subst, sym, inl, inr, ◌⊎◌, ◌∙◌}
use Rattle.std.specs.Prelude.{Contains}
use Rattle.std.specs.List.Sorted.{IsStrictlyIncreasing}
use Rattle.std.proofs.lemmas.List.{get_or_default}
use Rattle.std.proofs.lemmas.List.Kept.{AllPairs-from_increasing}
use Rattle.std.proofs.lemmas.Bool.{cases_lt}

-- a later element is greater
pub later_greater : (xs : List ℕ) (i j : ℕ) → IsStrictlyIncreasing xs → i < j → j < length xs → get_or xs i 0 < get_or xs j 0
later_greater xs i j up h k = AllPairs-from_increasing xs up i j 0 h k

-- where an element stands
pub place_of : (xs : List ℕ) (x : ℕ) → Contains xs x → (j : ℕ) × (j < length xs) × (get_or xs j 0 ≡ x)
place_of xs x (j, h, e) = (j, h, get_or_default xs j 0 x h ∙ e)

least_at : (P : ℕ → Type 0) (xs : List ℕ) (i j other : ℕ) → IsStrictlyIncreasing xs → ((n : ℕ) → n < i → ¬ P (get_or xs n 0)) → j < length xs → get_or xs j 0 ≡ other → P other → (j < i) ⊎ (i ≤ j) → (i ≡ j) ⊎ (i < j)
least_at P xs i j other up before h e p (inl low) = absurd (before j low (subst P (sym e) p))
least_at P xs i j other up before h e p (inr high) = elim (cases_lt i j) [ inl below ↦ inr below | inr above ↦ inl (omega arith) ]

-- the element at i, where none before it meets P, against another that does: it is the same or stands before it
pub least_in : (P : ℕ → Type 0) (xs : List ℕ) (i other : ℕ) → IsStrictlyIncreasing xs → ((n : ℕ) → n < i → ¬ P (get_or xs n 0)) → Contains xs other → P other → (get_or xs i 0 ≡ other) ⊎ (get_or xs i 0 < other)
least_in P xs i other up before inside p =
    let place : (j : ℕ) × (j < length xs) × (get_or xs j 0 ≡ other) = place_of xs other inside in
    elim (least_at P xs i place.0 other up before place.1 place.2 p (cases_lt place.0 i)) [
      | inl same ↦ inl (let Q : ℕ → Type 0 = λ n. get_or xs n 0 ≡ other in subst Q (sym same) place.2)
      | inr below ↦ inr (let Q : ℕ → Type 0 = λ n. get_or xs i 0 < n in subst Q place.2 (later_greater xs i place.0 up below place.1))
    ]

-- what holds at each index holds of each element
pub all_in : (P : ℕ → Type 0) (xs : List ℕ) → ((n : ℕ) → n < length xs → P (get_or xs n 0)) → (other : ℕ) → Contains xs other → P other
all_in P xs each other inside =
    let place : (j : ℕ) × (j < length xs) × (get_or xs j 0 ≡ other) = place_of xs other inside in
    subst P place.2 (each place.0 place.1)
