-- What sets and tables know after one more name or value.
use Rattle.std.proofs.Common.{◌≡◌, ◌∙◌, ◌+◌, ℕ, ℤ, zero, suc, Bool, true, false, ◌||◌, List, [], ◌∷◌, ◌++◌, length, map, Option, Some, None, refl, sym, ap, subst, arith, if◌then◌else◌}
use Rattle.std.specs.Str.{bytes_eq}
use Rattle.std.proofs.lemmas.Slice.Eq.{bytes_eq-Decides}
use Rattle.std.specs.BTreeSet.{BTreeSet}
use Rattle.std.specs.Ordering.{int_eq}
use Rattle.std.proofs.Math.IntN.{◌+ℤ◌, ◌-ℤ◌, +ℤ_idl, +ℤ-neg_ℤ_cancel, -ℤ-+ℤ_cancel}
use Rattle.std.specs.Prelude.{pos, negsuc}
use Rattle.std.proofs.lemmas.Bool.Decides.{Decides-eqb, Decides-int_eq, same_from_decides}
use Rattle.std.proofs.lemmas.List.{map_push}
use Rattle.name_table.specs.Tables.{Named, last_of}
use Rattle.name_table.specs.Tables as names
use Rattle.mc_value.specs.Conversions.{is_zero}
use Rattle.mc_value.specs.Arithmetic.{are_equal}
use Rattle.types_rules.specs.Scopes.{place_from, later_or}
use Rattle.types_rules.specs.Statements.{has_value}
use Rattle.types_scopes.specs.Seen.{AreNumbered, is_in, AreSorted}

-- one more name
pub place_more : (k : ℕ) (q : List ℕ) (names : List (List ℕ)) (name : List ℕ)
    → place_from k q (names ++ (name ∷ []))
    ≡ later_or (place_from k q names) (if bytes_eq name q then Some (k + length names) else None)
place_more k q [] name =
    let e : k ≡ k + 0 = omega arith in
    ap (λ n. if bytes_eq name q then Some n else None) e
place_more k q (other ∷ names) name =
    rw (place_more (k + 1) q names name) (by_test (bytes_eq other q) (place_from (k + 1) q names) (omega arith))
  where
    by_test : (b : Bool) (o : Option ℕ) → k + 1 + length names ≡ k + suc (length names)
        → (if b then Some k else later_or o (if bytes_eq name q then Some (k + 1 + length names) else None))
        ≡ later_or (if b then Some k else o) (if bytes_eq name q then Some (k + suc (length names)) else None)
    by_test true o e = refl
    by_test false o e = ap (λ n. later_or o (if bytes_eq name q then Some n else None)) e

-- what the last entry of a name means after one more entry
pub last_more : (q : List ℕ) (numbers : List (Named ℕ)) (e : Named ℕ)
    → last_of q (numbers ++ (e ∷ [])) ≡ (if bytes_eq e.name q then Some e.meaning else last_of q numbers)
last_more q [] e = refl
last_more q (other ∷ numbers) e =
    rw (last_more q numbers e) (by_test (bytes_eq e.name q) (last_of q numbers))
  where
    by_test : (b : Bool) (o : Option ℕ)
        → names.later_or (if b then Some e.meaning else o) (if bytes_eq other.name q then Some other.meaning else None)
        ≡ (if b then Some e.meaning else names.later_or o (if bytes_eq other.name q then Some other.meaning else None))
    by_test true o = refl
    by_test false o = refl

abbrev pub names_in : List (Named ℕ) → List (List ℕ)
names_in numbers = map (λ e. e.name) numbers

-- one more name, with its first number
pub numbered_more : (numbers : List (Named ℕ)) (name : List ℕ) (number : ℕ) → AreNumbered numbers
    → Some number ≡ later_or (place_from 0 name (names_in numbers)) (Some (length (names_in numbers)))
    → AreNumbered (numbers ++ (record { name = name; meaning = number } ∷ []))
numbered_more numbers name number h first = λ q.
    last_more q numbers (record { name = name; meaning = number })
    ∙ by_name q (bytes_eq name q) refl
    ∙ sym (ap (place_from 0 q) (map_push (λ e. e.name) numbers (record { name = name; meaning = number }))
    ∙ place_more 0 q (names_in numbers) name)
  where
    count : length (names_in numbers) ≡ 0 + length (names_in numbers)
    count = omega arith

    none : (o : Option ℕ) → o ≡ later_or o None
    none None = refl
    none (Some k) = refl

    by_name : (q : List ℕ) (b : Bool) → bytes_eq name q ≡ b
        → (if b then Some number else last_of q numbers)
        ≡ later_or (place_from 0 q (names_in numbers))
        (if b then Some (0 + length (names_in numbers)) else None)
    by_name q true is =
        first ∙ ap (λ k. later_or (place_from 0 name (names_in numbers)) (Some k)) count
        ∙ ap (λ p. later_or (place_from 0 p (names_in numbers)) (Some (0 + length (names_in numbers))))
        ((bytes_eq-Decides name q).0 is)
    by_name q false is = h q ∙ none (place_from 0 q (names_in numbers))

-- one more value
pub value_more : (q : ℤ) (vs : List ℤ) (v : ℤ) → has_value q (vs ++ (v ∷ [])) ≡ (has_value q vs || are_equal q v)
value_more q [] v = by_test (are_equal q v)
  where
    by_test : (b : Bool) → (b || false) ≡ (false || b)
    by_test true = refl
    by_test false = refl
value_more q (w ∷ vs) v =
    rw (value_more q vs v) (by_test (are_equal q w) (has_value q vs) (are_equal q v))
  where
    by_test : (a b c : Bool) → (a || (b || c)) ≡ ((a || b) || c)
    by_test true b c = refl
    by_test false b c = refl

pub sorted_more : (vs : List ℤ) (v : ℤ) (old new : BTreeSet ℤ) → AreSorted vs old
    → ((q : ℤ) → is_in new q ≡ (is_in old q || are_equal q v)) → AreSorted (vs ++ (v ∷ [])) new
sorted_more vs v old new h step = λ q.
    step q ∙ ap (λ b. b || are_equal q v) (h q) ∙ sym (value_more q vs v)

-- ---- equal values

false_true : {X : Type 0} → false ≡ true → X
false_true e = absurd (subst IsFalse' e tt)
  where
    IsFalse' : Bool → Type 0
    IsFalse' true = ⊥
    IsFalse' false = Unit {0}

zero_is : (z : ℤ) → is_zero z ≡ true → z ≡ pos 0
zero_is (pos zero) e = refl
zero_is (pos (suc n)) e = absurd (omega (arith, (Decides-eqb (suc n) 0).0 e))
zero_is (negsuc n) e = false_true e

-- as the order has it
pub equal_is : (q v : ℤ) → are_equal q v ≡ int_eq v q
equal_is q v = same_from_decides (are_equal q v) (int_eq v q) (
  λ e. sym (-ℤ-+ℤ_cancel q v) ∙ ap (λ z. z +ℤ v) (zero_is (q -ℤ v) e) ∙ +ℤ_idl v,
  λ e. ap (λ z. is_zero (z -ℤ v)) e ∙ ap is_zero (ap (λ z. z -ℤ v) (sym (+ℤ_idl v)) ∙ +ℤ-neg_ℤ_cancel (pos 0) v),
)
    (λ e. sym ((Decides-int_eq v q).0 e), λ e. (Decides-int_eq v q).1 (sym e))
