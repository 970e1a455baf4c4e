-- Lines of functions, one after the other.
use Rattle.std.proofs.Common.{◌≡◌, ◌∙◌, ◌+◌, ◌-◌, ◌<◌, ◌≤◌, ℕ, suc, true, List, [], ◌∷◌, ◌++◌, Option, length, take, drop, get_or, append_assoc, refl, sym, ap, arith}
use Rattle.mc_oblige.specs.declared.obligation.Obligation.{Obligation}
use Rattle.mc_functions.specs.declared.row.Row.{Row}
use Rattle.mc_functions.specs.Standing.{is_entry, name_places}
use Rattle.mc_functions.specs.Measured.{Measured, row_of}
use Rattle.mc_functions.specs.declared.counts.Counts.{Counts}
use Rattle.mc_functions.specs.Text.{all_line, all_word, function_text, others, sums_text, texts_from}
use Rattle.mc_functions.specs.steps.Table.{AreRows, no_row}
use Rattle.mc_functions.proofs.Firsts.{first_is}

-- ---- parts that were added

pub two_parts : {A : Type 0} (z0 z1 z2 a b : List A) → z1 ≡ z0 ++ a → z2 ≡ z1 ++ b → z2 ≡ z0 ++ (a ++ b)
two_parts z0 z1 z2 a b h1 h2 = h2 ∙ ap (λ z. z ++ b) h1 ∙ append_assoc z0 a b

pub head_then : (z0 z1 z2 : List (List ℕ)) (head : List ℕ) (rest : List (List ℕ)) → z1 ≡ z0 ++ head ∷ [] → z2 ≡ z1 ++ rest → z2 ≡ z0 ++ head ∷ rest
head_then z0 z1 z2 head rest h1 h2 = two_parts z0 z1 z2 (head ∷ []) rest h1 h2

pub all_parts : (z0 z1 z2 z3 z4 : List ℕ) (file : Option (List ℕ)) (counts found : Counts) (n m : ℕ) → found ≡ counts → m ≡ n → z0 ≡ [] → z1 ≡ z0 ++ all_word file → z2 ≡ z1 ++ sums_text found
    → z3 ≡ z2 ++ others file m → z4 ≡ z3 ++ 10 ∷ [] → z4 ≡ all_line file counts n
all_parts z0 z1 z2 z3 z4 file counts found n m same same_too h0 h1 h2 h3 h4 =
    let first : z1 ≡ all_word file = h1 ∙ ap (λ z. z ++ all_word file) h0 in
    let second : z3 ≡ z1 ++ (sums_text found ++ others file m) = two_parts z1 z2 z3 (sums_text found) (others file m) h2 h3 in
    let third : z4 ≡ z1 ++ (sums_text found ++ (others file m ++ 10 ∷ [])) =
    h4 ∙ ap (λ z. z ++ 10 ∷ []) second ∙ append_assoc z1 (sums_text found ++ others file m) (10 ∷ []) ∙ ap (λ z. z1 ++ z) (append_assoc (sums_text found) (others file m) (10 ∷ [])) in
    third
    ∙ ap (λ z. z ++ (sums_text found ++ (others file m ++ 10 ∷ []))) first
    ∙ ap (λ (c : Counts). all_word file ++ (sums_text c ++ (others file m ++ 10 ∷ []))) same
    ∙ ap (λ (k : ℕ). all_word file ++ (sums_text counts ++ (others file k ++ 10 ∷ []))) same_too

-- ---- functions

module _ (left : List Obligation) (d : Obligation) (some : 1 ≤ length left) (is : is_entry (get_or left 0 d).id ≡ true) where
  abbrev entry : Obligation
  entry = get_or left 0 d

  abbrev later : List Obligation
  later = take (length left - 1) (drop 1 left)

  any_first : (os : List Obligation) (e : Obligation) → 1 ≤ length os → get_or os 0 d ≡ get_or os 0 e
  any_first [] e more = absurd (omega arith)
  any_first (o ∷ os) e more = refl

  whole : left ≡ entry ∷ later
  whole = first_is left entry some (any_first left entry some)

  texts_first : (m : Measured) (k : ℕ) (o : Obligation) (os : List Obligation) → is_entry o.id ≡ true → texts_from m k (o ∷ os) ≡ function_text m.source o (row_of m k) ++ texts_from m (k + 1) os
  texts_first m k o os first = rw first refl

  names_first : (o : Obligation) (os : List Obligation) → is_entry o.id ≡ true → length (name_places (o ∷ os)) ≡ suc (length (name_places os))
  names_first o os first = rw first refl

  -- the lines of one more function
  pub texts_on : (m : Measured) (rows : List Row) → AreRows m rows → (k : ℕ) → k < length rows → (before more all : List (List ℕ)) → before ++ texts_from m k left ≡ all
      → more ≡ before ++ function_text m.source entry (get_or rows k no_row) → more ++ texts_from m (k + 1) later ≡ all
  texts_on m rows are k lt before more all so_far added =
      let row : get_or rows k no_row ≡ row_of m k = are.each k lt in
      let texts : texts_from m k left ≡ function_text m.source entry (row_of m k) ++ texts_from m (k + 1) later = ap (texts_from m k) whole ∙ texts_first m k entry later is in
      ap (λ (ls : List (List ℕ)). ls ++ texts_from m (k + 1) later) (added ∙ ap (λ (r : Row). before ++ function_text m.source entry r) row)
      ∙ append_assoc before (function_text m.source entry (row_of m k)) (texts_from m (k + 1) later)
      ∙ ap (λ (ls : List (List ℕ)). before ++ ls) (sym texts)
      ∙ so_far

  pub names_on : (k n : ℕ) → k + length (name_places left) ≡ n → k + 1 + length (name_places later) ≡ n
  names_on k n so_far = omega (arith, so_far, ap (λ (os : List Obligation). length (name_places os)) whole, names_first entry later is)
