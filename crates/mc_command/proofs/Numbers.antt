-- What numerals are read as.
use Rattle.std.proofs.Common.{◌≡◌, ◌∙◌, ◌<◌, ◌≤◌, ◌^◌, ℕ, not, Bool, true, false, List, [], ◌∷◌, length, Option, Some, None, Result, Ok, Err, refl, sym, ap, arith, if◌then◌else◌, ◌&&◌, inl, inr}
use Rattle.std.proofs.lemmas.Bool.{cases_lt}
use Rattle.std.proofs.lemmas.Bool.Decides.{nat_tests}
use Rattle.std.proofs.lemmas.Str.Parse.{IsNumeralModel, numerals_by_value, parse_digits, tells_all_ascii_digits}
use Rattle.std.specs.Prelude.{◌==◌}
use Rattle.std.specs.Char.{is_ascii_digit}
use Rattle.std.specs.List.{list_all}
use Rattle.std.specs.Str.{all_ascii_digits}
use Rattle.std.specs.Str.Parse.{ParsesUnsigned, digits_value}
use Rattle.mc_command.specs.Values.{is_numeral, is_within, number_within}

own : IsNumeralModel (λ ds. all_ascii_digits ds ≡ true) (digits_value 10)
own = numerals_by_value (λ ds. all_ascii_digits ds ≡ true) tells_all_ascii_digits

alike : (ds : List ℕ) → list_all is_ascii_digit ds ≡ all_ascii_digits ds
alike [] = refl
alike (d ∷ ds) = ap (λ b. is_ascii_digit d && b) (alike ds)

second : (a b : Bool) → (a && b) ≡ true → b ≡ true
second true b h = h
second false b h = cc

all_digits : (ds : List ℕ) → is_numeral ds ≡ true → all_ascii_digits ds ≡ true
all_digits [] h = cc
all_digits (d ∷ ds) h = sym (alike (d ∷ ds)) ∙ second (not (d == 48)) (list_all is_ascii_digit (d ∷ ds)) h

some_digit : (ds : List ℕ) → is_numeral ds ≡ true → 0 < length ds
some_digit [] h = cc
some_digit (d ∷ ds) h = omega arith

pub parsed : {E : Type 0} (ds : List ℕ) (n : ℕ) (r : Result ℕ E) → r ≡ Ok n → is_numeral ds ≡ true → ParsesUnsigned 32 10 ds r → n ≡ digits_value 10 ds
parsed {E} ds n (Ok m) is h p =
    let same : m ≡ digits_value 10 ds = (parse_digits own {E = E} 32 ds (Ok m) p (all_digits ds h)).1 in cc
parsed {E} ds n (Err e) is h p = absurd (cc is)

pub not_parsed : {E : Type 0} (ds : List ℕ) (e : E) (r : Result ℕ E) → r ≡ Err e → is_numeral ds ≡ true → ParsesUnsigned 32 10 ds r → 2 ^ 32 ≤ digits_value 10 ds
not_parsed {E} ds e (Ok m) is h p = absurd (cc is)
not_parsed {E} ds e (Err f) is h p = elim (cases_lt (digits_value 10 ds) (2 ^ 32)) [
  | inl less ↦ absurd (parse_digits own {E = E} 32 ds (Err f) p (all_digits ds h) (some_digit ds h, less))
  | inr not ↦ not
]

above : (least most n : ℕ) → most < 2 ^ 32 → 2 ^ 32 ≤ n → is_within least most n ≡ false
above least most n k h = grind (arith, nat_tests)

none : (b c : Bool) {A : Type 0} (x : Option A) → c ≡ false → (if b && c then x else None) ≡ None
none true c x h = ap (λ d. if d then x else None) h
none false c x h = refl

-- a number that is too large for the type is too large
pub too_large : (least most : ℕ) (ds : List ℕ) → most < 2 ^ 32 → 2 ^ 32 ≤ digits_value 10 ds → number_within least most ds ≡ None
too_large least most ds k h = none (is_numeral ds) (is_within least most (digits_value 10 ds)) (Some (digits_value 10 ds)) (above least most (digits_value 10 ds) k h)
