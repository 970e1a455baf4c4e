-- Numbers, bytes and words that were read are written so.
use Rattle.std.proofs.Common.{◌≡◌, ◌∙◌, ◌+◌, ◌-◌, ◌*◌, ◌/◌, ◌%◌, ◌<◌, ◌≤◌, ◌^◌, ℕ, zero, suc, true, false, not, nat_lt, nat_le, List, [], ◌∷◌, ◌++◌, length, get_or, Option, Some, None, sym, ap, subst, arith, inl, inr, rules, codes}
use Rattle.std.specs.Prelude.{◌&&◌, ◌||◌, ◌==◌, ◌⊎◌, All, ℤ, pos, neg_ℤ, if◌then◌else◌}
use Rattle.std.specs.Fmt.{decimal}
use Rattle.std.specs.Int.{from_be_bytes, to_be_bytes}
use Rattle.std.specs.List.{list_all}
use Rattle.std.proofs.lemmas.Bool.{cases_Bool}
use Rattle.std.proofs.lemmas.Bool.Decides.{Decides-eqb, nat_tests}
use Rattle.std.proofs.lemmas.Fmt.{decimal-digits_value}
use Rattle.std.proofs.lemmas.Nat.{be_bytes_8}
use Rattle.std.proofs.lemmas.Str.Parse.{IsNumeralModel, numerals_by_fold}
use mir.Syntax.{w64}
use Rattle.csv_records.specs.Numbers.{is_digit, is_magnitude, magnitude_of, minus_number, number_after, number_of, plain_number}
use Rattle.report_words.specs.Hexadecimal.{byte_text, hexadecimal, hexadecimal_digit}
use Rattle.mc_record.specs.Digits.{byte_in, byte_of, bytes_in, digit_of, word_in}
use Rattle.mc_record.specs.Lines.{word_text}
use Rattle.mc_record.specs.Parts.{strip, with_part}
use Rattle.mc_record.proofs.Fronts.{many_are}
use Rattle.mc_record.proofs.Numbers.{and_parts}
use Rattle.laws_records.proofs.Fronts.{many_only, part_some, strip_only}

-- ---- decimal digits

own : IsNumeralModel (λ ds. list_all is_digit ds ≡ true) (number_after 0)
own = numerals_by_fold _ (search rules) number_after (search rules)

some_pos : (m n : ℕ) → ◌≡◌ {A = Option ℤ} (Some (pos m)) (Some (pos n)) → m ≡ n
some_pos m n is = cc

one_way : (d : ℕ) (ds : List ℕ) → (not (d == 48) || (length ds == 0)) ≡ true → d ≡ 48 → length (d ∷ ds) ≡ 1
one_way d ds is first =
    let same : (d == 48) ≡ true = (Decides-eqb d 48).1 first in
    let none : (length ds == 0) ≡ true = rw same at is in
    let zeros : length ds ≡ 0 = (Decides-eqb (length ds) 0).0 none in
    omega (arith, zeros)

plain_only : (d : ℕ) (ds : List ℕ) (n : ℕ) → plain_number (d ∷ ds) ≡ Some (pos n) → d ∷ ds ≡ decimal n
plain_only d ds n is = elim (cases_Bool (is_magnitude (d ∷ ds) && nat_lt (magnitude_of (d ∷ ds)) (2 ^ 64))) [
  | inl holds ↦
      let parts = and_parts (is_magnitude (d ∷ ds)) (nat_lt (magnitude_of (d ∷ ds)) (2 ^ 64)) holds in
      let digits = and_parts (list_all is_digit (d ∷ ds)) (not (d == 48) || (length ds == 0)) parts.0 in
      let less : magnitude_of (d ∷ ds) < 2 ^ 64 = grind (arith, nat_tests, parts.1) in
      let value : magnitude_of (d ∷ ds) ≡ n = some_pos (magnitude_of (d ∷ ds)) n (rw holds at is) in
      sym (decimal-digits_value own (d ∷ ds) digits.0 (omega arith) (λ first. one_way d ds digits.1 first) less) ∙ ap decimal value
  | inr fails ↦ absurd (cc (rw fails at is))
]

not_negative : (m n : ℕ) → 0 < m → ◌≡◌ {A = Option ℤ} (Some (neg_ℤ (pos m))) (Some (pos n)) → ⊥
not_negative zero n some is = absurd (omega (arith, some))
not_negative (suc m) n some is = cc is

minus_never : (ds : List ℕ) (n : ℕ) → minus_number ds ≡ Some (pos n) → ⊥
minus_never ds n is = elim (cases_Bool (is_magnitude ds && nat_lt 0 (magnitude_of ds) && nat_le (magnitude_of ds) (2 ^ 63))) [
  | inl holds ↦
      let parts = and_parts (is_magnitude ds && nat_lt 0 (magnitude_of ds)) (nat_le (magnitude_of ds) (2 ^ 63)) holds in
      let second = and_parts (is_magnitude ds) (nat_lt 0 (magnitude_of ds)) parts.0 in
      let some : 0 < magnitude_of ds = grind (arith, nat_tests, second.1) in
      not_negative (magnitude_of ds) n some (rw holds at is)
  | inr fails ↦ cc (rw fails at is)
]

pub number_only : (ds : List ℕ) (n : ℕ) → number_of ds ≡ Some (pos n) → ds ≡ decimal n
number_only [] n is = absurd (cc is)
number_only (d ∷ ds) n is = elim (cases_Bool (d == 45)) [
  | inl minus ↦ absurd (minus_never ds n (rw minus at is))
  | inr plain ↦ plain_only d ds n (rw plain at is)
]

-- ---- hexadecimal digits

some_value : (m n : ℕ) → Some m ≡ Some n → m ≡ n
some_value m n is = cc

low_only : (b : ℕ) → 48 ≤ b → b ≤ 57 → (b ≡ hexadecimal_digit (b - 48)) × (b - 48 < 16)
low_only b least most =
    let small : nat_lt (b - 48) 10 ≡ true = grind (arith, nat_tests) in
    (rw small (omega (arith, least)), omega (arith, most))

high_only : (b : ℕ) → 97 ≤ b → b ≤ 102 → (b ≡ hexadecimal_digit (b - 87)) × (b - 87 < 16)
high_only b least most =
    let large : nat_lt (b - 87) 10 ≡ false = grind (arith, nat_tests) in
    (rw large (omega (arith, least)), omega (arith, most))

digit_only : (b n : ℕ) → digit_of b ≡ Some n → (b ≡ hexadecimal_digit n) × (n < 16)
digit_only b n is = elim (cases_Bool (nat_le 48 b && nat_le b 57)) [
  | inl low ↦
      let parts = and_parts (nat_le 48 b) (nat_le b 57) low in
      let least : 48 ≤ b = grind (arith, nat_tests, parts.0) in
      let most : b ≤ 57 = grind (arith, nat_tests, parts.1) in
      subst (λ m. (b ≡ hexadecimal_digit m) × (m < 16)) (some_value (b - 48) n (rw low at is)) (low_only b least most)
  | inr other ↦ by_high (cases_Bool (nat_le 97 b && nat_le b 102)) (rw other at is)
]
  where
    by_high : ((nat_le 97 b && nat_le b 102) ≡ true) ⊎ ((nat_le 97 b && nat_le b 102) ≡ false) → (if nat_le 97 b && nat_le b 102 then Some (b - 87) else None) ≡ Some n → (b ≡ hexadecimal_digit n) × (n < 16)
    by_high (inl high) found =
        let parts = and_parts (nat_le 97 b) (nat_le b 102) high in
        let least : 97 ≤ b = grind (arith, nat_tests, parts.0) in
        let most : b ≤ 102 = grind (arith, nat_tests, parts.1) in
        subst (λ m. (b ≡ hexadecimal_digit m) × (m < 16)) (some_value (b - 87) n (rw high at found)) (high_only b least most)
    by_high (inr none) found = absurd (cc (rw none at found))

-- two digits make the byte that they write
both_digits : (h l : ℕ) → h < 16 → l < 16 → (hexadecimal_digit h ∷ hexadecimal_digit l ∷ [] ≡ byte_text (16 * h + l)) × (16 * h + l < 256)
both_digits h l high low =
    let first : (16 * h + l) / 16 ≡ h = omega (arith, low) in
    let second : (16 * h + l) % 16 ≡ l = omega (arith, low) in
    (λ i. hexadecimal_digit (sym first i) ∷ hexadecimal_digit (sym second i) ∷ [], omega (arith, high, low))

pub byte_only : (text rest : List ℕ) (v : ℕ) → byte_in text ≡ Some (v, rest) → (text ≡ byte_text v ++ rest) × (v < 256)
byte_only [] rest v is = absurd (cc is)
byte_only (a ∷ []) rest v is = absurd (cc is)
byte_only (a ∷ b ∷ after) rest v is =
    let give : ℕ → Option (ℕ × List ℕ) = λ byte. Some (byte, after) in
    let found = part_some (byte_of a b) give (v, rest) is in
    let one : ℕ → ℕ → Option ℕ = λ h l. Some (16 * h + l) in
    let high = part_some (digit_of a) (λ h. with_part {B = ℕ} (digit_of b) (one h)) found.0 found.1 in
    let low = part_some (digit_of b) (one high.0) found.0 high.2 in
    let h = digit_only a high.0 high.1 in
    let l = digit_only b low.0 low.1 in
    let made = both_digits high.0 low.0 h.1 l.1 in
    let value : 16 * high.0 + low.0 ≡ found.0 = some_value (16 * high.0 + low.0) found.0 low.2 in
    let pair : ◌≡◌ {A = ℕ × List ℕ} (found.0, after) (v, rest) = cc (found.2) in
    let same : found.0 ≡ v = ap (λ (p : ℕ × List ℕ). p.0) pair in
    let end : after ≡ rest = ap (λ (p : ℕ × List ℕ). p.1) pair in
    let written : a ∷ b ∷ [] ≡ byte_text (16 * high.0 + low.0) = (λ i. h.0 i ∷ l.0 i ∷ []) ∙ made.0 in
    let whole : 16 * high.0 + low.0 ≡ v = value ∙ same in (
      ap (λ (l : List ℕ). l ++ after) (written ∙ ap byte_text whole) ∙ ap (λ (l : List ℕ). byte_text v ++ l) end,
      subst (λ n. n < 256) whole made.1,
    )

pub bytes_only : (count : ℕ) (text bytes rest : List ℕ) → bytes_in count text ≡ Some (bytes, rest) → text ≡ hexadecimal bytes ++ rest
bytes_only count text bytes rest is = many_only byte_in byte_text (λ t r n found. (byte_only t r n found).0) count text bytes rest is

-- ---- words

at_most : (bytes : List ℕ) → All (λ b. b < 256) bytes → (i : ℕ) → get_or bytes i 0 < 256
at_most [] small i = omega arith
at_most (b ∷ bytes) small zero = small 0 0 (omega arith)
at_most (b ∷ bytes) small (suc i) = at_most bytes (λ k d inside. small (suc k) d (omega (arith, inside))) i

word_small : (bytes : List ℕ) → ((i : ℕ) → get_or bytes i 0 < 256) → from_be_bytes w64 bytes < 2 ^ 64
word_small bytes small = omega (arith, small 0, small 1, small 2, small 3, small 4, small 5, small 6, small 7)

pub word_only : (text rest : List ℕ) (w : ℕ) → word_in text ≡ Some (w, rest) → (text ≡ word_text w ++ rest) × (w < 2 ^ 64)
word_only text rest w is =
    let give : List ℕ × List ℕ → Option (ℕ × List ℕ) = λ found. Some (from_be_bytes w64 found.0, found.1) in
    let front = part_some (strip (codes " ") text) (λ digits. with_part {B = ℕ × List ℕ} (bytes_in 8 digits) give) (w, rest) is in
    let found = part_some (bytes_in 8 front.0) give (w, rest) front.2 in
    let bytes = found.0.0 in
    let after = found.0.1 in
    let pair : ◌≡◌ {A = ℕ × List ℕ} (from_be_bytes w64 bytes, after) (w, rest) = cc (found.2) in
    let value : from_be_bytes w64 bytes ≡ w = ap (λ (p : ℕ × List ℕ). p.0) pair in
    let end : after ≡ rest = ap (λ (p : ℕ × List ℕ). p.1) pair in
    let are = many_are byte_in (λ b. b < 256) (λ t r n one. (byte_only t r n one).1) 8 front.0 bytes after found.1 in
    let small = at_most bytes are.1 in
    let turned : to_be_bytes w64 w ≡ bytes = be_bytes_8 bytes w are.0 small (sym value) in
    let digits : front.0 ≡ hexadecimal bytes ++ after = bytes_only 8 front.0 bytes after found.1 in (
      strip_only (codes " ") text front.0 front.1
          ∙ ap (λ (l : List ℕ). codes " " ++ l) digits
          ∙ (λ i. codes " " ++ (hexadecimal (sym turned i) ++ end i)),
      subst (λ n. n < 2 ^ 64) value (word_small bytes small),
    )
