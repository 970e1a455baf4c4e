-- Digits that were written are read as the same bytes and words.
use Rattle.std.proofs.Common.{◌≡◌, ◌∙◌, ◌+◌, ◌-◌, ◌*◌, ◌/◌, ◌%◌, ◌<◌, ◌≤◌, ◌^◌, ℕ, zero, suc, true, false, nat_lt, nat_le, List, [], ◌∷◌, ◌++◌, length, take, add-one, Option, Some, refl, ap, subst, arith, inl, inr}
use Rattle.std.specs.Prelude.{◌&&◌, All, flat_map}
use Rattle.std.specs.Int.{byte_at, bytes_high_first, from_be_bytes, to_be_bytes}
use Rattle.std.proofs.lemmas.Bool.{cases_Bool}
use Rattle.std.proofs.lemmas.Bool.Decides.{nat_tests}
use Rattle.std.proofs.lemmas.Nat.{from_be_bytes-to_be_bytes_8}
use Rattle.std.proofs.Math.Nat.{mod-lt}
use Rattle.std.proofs.Math.ListN.{set, length-set}
use Rattle.std.proofs.Math.Seq.{take-suc-set}
use mir.Syntax.{w64}
use Rattle.report_words.specs.Hexadecimal.{byte_text, hexadecimal, hexadecimal_digit}
use Rattle.mc_record.specs.Digits.{byte_in, bytes_in, digit_of, word_in, words_in}
use Rattle.mc_record.specs.Lines.{word_text}
use Rattle.mc_record.specs.Parts.{with_part}
use Rattle.mc_record.specs.Seen.{onto}
use Rattle.mc_record.proofs.Fronts.{all_cons, many_next, many_read}

-- ---- digits

low_digit : (n : ℕ) → n < 10 → digit_of (48 + n) ≡ Some n
low_digit n less =
    let first : (nat_le 48 (48 + n) && nat_le (48 + n) 57) ≡ true = grind (arith, nat_tests) in
    rw first (ap Some (omega arith))

high_digit : (n : ℕ) → 10 ≤ n → n < 16 → digit_of (87 + n) ≡ Some n
high_digit n least less =
    let first : (nat_le 48 (87 + n) && nat_le (87 + n) 57) ≡ false = grind (arith, nat_tests) in
    let second : (nat_le 97 (87 + n) && nat_le (87 + n) 102) ≡ true = grind (arith, nat_tests) in
    rw (first, second) (ap Some (omega arith))

digit_read : (n : ℕ) → n < 16 → digit_of (hexadecimal_digit n) ≡ Some n
digit_read n less = elim (cases_Bool (nat_lt n 10)) [
  | inl low ↦ let small : n < 10 = grind (arith, nat_tests) in rw low (low_digit n small)
  | inr high ↦ let large : 10 ≤ n = grind (arith, nat_tests) in rw high (high_digit n large less)
]

byte_read : (byte : ℕ) (rest : List ℕ) → byte < 256 → byte_in (byte_text byte ++ rest) ≡ Some (byte, rest)
byte_read byte rest less =
    let high : byte / 16 < 16 = omega arith in
    let low : byte % 16 < 16 = omega arith in
    let same : 16 * (byte / 16) + byte % 16 ≡ byte = omega arith in
    rw (digit_read (byte / 16) high, digit_read (byte % 16) low) (ap (λ n. Some (n, rest)) same)

pub bytes_read : (bytes rest : List ℕ) → All (λ b. b < 256) bytes → bytes_in (length bytes) (hexadecimal bytes ++ rest) ≡ Some (bytes, rest)
bytes_read bytes rest small = many_read byte_in byte_text (λ b. b < 256) byte_read bytes rest small

-- ---- words

byte_small : (k n : ℕ) → byte_at k n < 256
byte_small zero n = omega arith
byte_small (suc k) n = mod-lt (n / 256 ^ suc k) (omega arith)

bytes_small : (k n : ℕ) → All (λ b. b < 256) (bytes_high_first k n)
bytes_small zero n = λ i d inside. absurd (omega (arith, inside))
bytes_small (suc k) n = all_cons (λ b. b < 256) (byte_at k n) (bytes_high_first k n) (byte_small k n) (bytes_small k n)

word_of : (value : List ℕ → ℕ) (bytes rest : List ℕ) → length bytes ≡ 8 → All (λ b. b < 256) bytes → with_part {B = ℕ × List ℕ} (bytes_in 8 (hexadecimal bytes ++ rest)) (λ found. Some (value found.0, found.1)) ≡ Some (value bytes, rest)
word_of value bytes rest eight small =
    let read : bytes_in 8 (hexadecimal bytes ++ rest) ≡ Some (bytes, rest) = subst (λ n. bytes_in n (hexadecimal bytes ++ rest) ≡ Some (bytes, rest)) eight (bytes_read bytes rest small) in
    ap (λ (o : Option (List ℕ × List ℕ)). with_part {B = ℕ × List ℕ} o (λ found. Some (value found.0, found.1))) read

pub word_read : (word : ℕ) (rest : List ℕ) → word < 2 ^ 64 → word_in (word_text word ++ rest) ≡ Some (word, rest)
word_read word rest less =
    word_of (from_be_bytes w64) (to_be_bytes w64 word) rest refl (bytes_small 8 word)
    ∙ ap (λ n. Some (n, rest)) (from_be_bytes-to_be_bytes_8 word less)

pub words_read : (words rest : List ℕ) → All (λ w. w < 2 ^ 64) words → words_in (length words) (flat_map word_text words ++ rest) ≡ Some (words, rest)
words_read words rest small = many_read word_in word_text (λ w. w < 2 ^ 64) word_read words rest small

-- ---- bytes that are filled one by one

pub fill_step : (text left rest bytes : List ℕ) (i v : ℕ) → i < length bytes → byte_in left ≡ Some (v, rest) → bytes_in (length bytes) text ≡ onto (take i bytes) (bytes_in (length bytes - i) left)
    → bytes_in (length (set bytes i v)) text ≡ onto (take (i + 1) (set bytes i v)) (bytes_in (length (set bytes i v) - (i + 1)) rest)
fill_step text left rest bytes i v inside first so_far =
    let n = length bytes - (i + 1) in
    let count : length bytes - i ≡ suc n = omega arith in
    let taken : take (i + 1) (set bytes i v) ≡ take i bytes ++ v ∷ [] = rw add-one (take-suc-set bytes i v inside) in
    rw (length-set bytes i v, taken) (so_far ∙ ap (λ m. onto (take i bytes) (bytes_in m left)) count ∙ many_next byte_in (take i bytes) n v left rest first)
