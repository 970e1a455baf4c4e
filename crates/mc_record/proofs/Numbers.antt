-- Numbers that were written are read as the same numbers.
use Rattle.std.proofs.Common.{◌≡◌, ◌∙◌, ◌<◌, ◌^◌, ℕ, Bool, true, false, not, nat_lt, nat_le, List, [], ◌∷◌, length, get_or, Some, refl, sym, ap, arith, inl, inr, rules}
use Rattle.std.specs.Prelude.{◌&&◌, ◌||◌, ◌==◌, pos}
use Rattle.std.specs.Fmt.{decimal}
use Rattle.std.specs.List.{list_all}
use Rattle.std.proofs.lemmas.Bool.{cases_Bool, cases_lt, false≢true}
use Rattle.std.proofs.lemmas.Bool.Decides.{Decides-eqb, nat_tests}
use Rattle.std.proofs.lemmas.Fmt.{decimal_digit, decimal_nonempty, digits_decimal, digits_value-decimal, first_decimal}
use Rattle.std.proofs.lemmas.Str.Parse.{IsNumeralModel, numerals_by_fold}
use Rattle.csv_records.specs.Numbers.{is_digit, magnitude_of, number_after, number_of}
use Rattle.mc_record.proofs.Fronts.{lacks}

pub and_parts : (a b : Bool) → (a && b) ≡ true → (a ≡ true) × (b ≡ true)
and_parts true b is = (refl, is)
and_parts false b is = absurd (false≢true is)

-- bytes that all pass a test do not have one that does not pass
pub lacks_all : (p : ℕ → Bool) (byte : ℕ) (text : List ℕ) → p byte ≡ false → list_all p text ≡ true → lacks byte text ≡ true
lacks_all p byte [] not_it all = refl
lacks_all p byte (b ∷ text) not_it all =
    let parts = and_parts (p b) (list_all p text) all in
    elim (cases_Bool (b == byte)) [
      | inl same ↦ absurd (false≢true (sym not_it ∙ ap p (sym ((Decides-eqb b byte).0 same)) ∙ parts.0))
      | inr differ ↦ rw differ (lacks_all p byte text not_it parts.1)
    ]

own : IsNumeralModel (λ ds. list_all is_digit ds ≡ true) (number_after 0)
own = numerals_by_fold _ (search rules) number_after (search rules)

pub digits_are : (n : ℕ) → n < 2 ^ 64 → list_all is_digit (decimal n) ≡ true
digits_are n less = digits_decimal own n less

value_is : (n : ℕ) → n < 2 ^ 64 → magnitude_of (decimal n) ≡ n
value_is n less = digits_value-decimal own n less

plain : (ds : List ℕ) (n : ℕ) → list_all is_digit ds ≡ true → magnitude_of ds ≡ n → n < 2 ^ 64 → 0 < length ds → (get_or ds 0 0 ≡ 48 → length ds ≡ 1) → number_of ds ≡ Some (pos n)
plain [] n all value less some first = absurd (omega arith)
plain (d ∷ ds) n all value less some first =
    let here = (and_parts (is_digit d) (list_all is_digit ds) all).0 in
    let low = (and_parts (nat_le 48 d) (nat_le d 57) here).0 in
    let minus : (d == 45) ≡ false = grind (arith, nat_tests) in
    let one_way : (not (d == 48) || (length ds == 0)) ≡ true = elim (cases_Bool (d == 48)) [
      | inl zeros ↦ let is : d ≡ 48 = (Decides-eqb d 48).0 zeros in let none : length ds ≡ 0 = omega (arith, first is) in rw (zeros, none) refl
      | inr other ↦ rw other refl
    ] in
    let small : nat_lt (magnitude_of (d ∷ ds)) (2 ^ 64) ≡ true = rw value (grind (arith, nat_tests)) in
    rw (minus, all, one_way, small) (ap (λ m. Some (pos m)) value)

pub number_read : (n : ℕ) → n < 2 ^ 64 → number_of (decimal n) ≡ Some (pos n)
number_read n less =
    plain (decimal n) n (digits_are n less) (value_is n less) less (decimal_nonempty n less) first
  where
    first : get_or (decimal n) 0 0 ≡ 48 → length (decimal n) ≡ 1
    first is = elim (cases_lt 0 n) [
      | inl some ↦ absurd (omega (arith, first_decimal n some less, is))
      | inr none ↦ let zeros : n ≡ 0 = omega (arith, none) in ap (λ m. length (decimal m)) zeros ∙ ap length (decimal_digit 0 (omega arith))
    ]
