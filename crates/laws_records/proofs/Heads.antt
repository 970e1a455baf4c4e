-- The first four lines that were read stand in the text.
use Rattle.std.proofs.Common.{◌≡◌, ◌∙◌, ℕ, Bool, true, false, nat_le, List, ◌∷◌, ◌++◌, Option, Some, None, refl, sym, ap, inl, inr, append_assoc, codes}
use Rattle.std.specs.Prelude.{◌&&◌, ◌⊎◌, Result, Ok, ℤ, pos, negsuc}
use Rattle.std.specs.Fmt.{decimal}
use Rattle.std.specs.Str.{bytes_eq}
use Rattle.std.proofs.lemmas.Bool.{cases_Bool}
use Rattle.std.proofs.lemmas.Slice.Eq.{bytes_eq-Decides}
use Rattle.mc_limits.specs.Limits.{most_tests, most_words}
use Rattle.mc_core.specs.Shape.{word_count}
use Rattle.csv_records.specs.Numbers.{number_of}
use Rattle.report_words.specs.Hexadecimal.{hexadecimal}
use Rattle.mc_record.specs.Digits.{bytes_in}
use Rattle.mc_record.specs.Lines.{bits_line, header_line, newline, old_header_line, source_line, tests_line}
use Rattle.mc_record.specs.Parts.{read_on, strip, until, with_part}
use Rattle.mc_record.specs.Reading.{after_bits, after_digest, after_header, after_header_or, after_old_header, after_source, count_in, digest_in, head_in, or_shape, test_count}
use Rattle.mc_record.specs.declared.fault.RecordFault.{RecordFault}
use Rattle.mc_record.proofs.Fronts.{same_pair}
use Rattle.laws_records.proofs.Figures.{bytes_only, number_only}
use Rattle.laws_records.proofs.Fronts.{part_some, read_ok, shape_ok, strip_only, until_only}

same_ok : {A : Type 0} (a b : A) → ◌≡◌ {A = Result A RecordFault} (Ok a) (Ok b) → a ≡ b
same_ok a b is = cc

-- ---- line 1

-- line 1 of a version that is accepted
abbrev pub IsFirst : (old_rules : Bool) → List ℕ → Type 0
IsFirst old_rules line = (line ≡ header_line) ⊎ ((old_rules ≡ true) × (line ≡ old_header_line))

record HasFirst (old_rules : Bool) (text rest : List ℕ) : Type 0 where
  pub line : List ℕ
  pub is_first : IsFirst old_rules line
  pub front : text ≡ line ++ rest

old_first : (text rest : List ℕ) (old_rules : Bool) (o : Option (List ℕ)) → strip old_header_line text ≡ o → after_old_header old_rules o ≡ Ok rest → HasFirst old_rules text rest
old_first text rest old_rules None found is = absurd (cc is)
old_first text rest true (Some r) found is =
    record { line = old_header_line; is_first = inr (refl, refl); front = strip_only old_header_line text r found ∙ ap (λ (l : List ℕ). old_header_line ++ l) (same_ok r rest is) }
old_first text rest false (Some r) found is = absurd (cc is)

header_only : (text rest : List ℕ) (old_rules : Bool) → after_header old_rules text ≡ Ok rest → HasFirst old_rules text rest
header_only text rest old_rules is = by_new (strip header_line text) refl is
  where
    by_new : (o : Option (List ℕ)) → strip header_line text ≡ o → after_header_or old_rules text o ≡ Ok rest → HasFirst old_rules text rest
    by_new None found read = old_first text rest old_rules (strip old_header_line text) refl read
    by_new (Some r) found read =
        record { line = header_line; is_first = inl refl; front = strip_only header_line text r found ∙ ap (λ (l : List ℕ). header_line ++ l) (same_ok r rest read) }

-- ---- line 2

digest_only : (text digest rest : List ℕ) → digest_in text ≡ Some (digest, rest) → text ≡ source_line digest ++ rest
digest_only text digest rest is =
    let Line : Type 0 = List ℕ × List ℕ in
    let give : List ℕ → List ℕ → Option Line = λ d r. Some (d, r) in
    let from_digits : Line → Option Line = λ d. with_part {B = Line} (strip newline d.1) (give d.0) in
    let front = part_some (strip (codes "source ") text) (λ digits. with_part {B = Line} (bytes_in 32 digits) from_digits) (digest, rest) is in
    let digits = part_some (bytes_in 32 front.0) from_digits (digest, rest) front.2 in
    let end = part_some (strip newline digits.0.1) (give digits.0.0) (digest, rest) digits.2 in
    let same = same_pair digits.0.0 digest end.0 rest end.2 in
    let written : front.0 ≡ hexadecimal digits.0.0 ++ digits.0.1 = bytes_only 32 front.0 digits.0.0 digits.0.1 digits.1 in
    let last : digits.0.1 ≡ newline ++ rest = strip_only newline digits.0.1 end.0 end.1 ∙ ap (λ (l : List ℕ). newline ++ l) same.1 in
    strip_only (codes "source ") text front.0 front.1
    ∙ ap (λ (l : List ℕ). codes "source " ++ l) (written ∙ (λ i. hexadecimal (same.0 i) ++ last i) ∙ sym (append_assoc (hexadecimal digest) newline rest))

source_only : (digest text rest : List ℕ) → after_source digest text ≡ Ok rest → text ≡ source_line digest ++ rest
source_only digest text rest is = by_digest (digest_in text) refl is
  where
    by_digest : (o : Option (List ℕ × List ℕ)) → digest_in text ≡ o → after_digest digest o ≡ Ok rest → text ≡ source_line digest ++ rest
    by_digest None found read = absurd (cc read)
    by_digest (Some (kept, r)) found read = elim (cases_Bool (bytes_eq kept digest)) [
      | inl same ↦
          let e : kept ≡ digest = (bytes_eq-Decides kept digest).0 same in
          let end : r ≡ rest = same_ok r rest (rw same at read) in
          digest_only text kept r found ∙ (λ i. source_line (e i) ++ end i)
      | inr other ↦ absurd (cc (rw other at read))
    ]

-- ---- lines 3 and 4

counted : (bits : ℕ) (o : Option ℤ) (tests : ℕ) → test_count bits o ≡ Some tests → o ≡ Some (pos tests)
counted bits None tests is = absurd (cc is)
counted bits (Some (negsuc n)) tests is = absurd (cc is)
counted bits (Some (pos n)) tests is = elim (cases_Bool (nat_le n most_tests && nat_le (word_count (record { bits = bits; tests = n })) most_words)) [
  | inl fits ↦
      let e : ◌≡◌ {A = Option ℕ} (Some n) (Some tests) = rw fits at is in
      let same : n ≡ tests = cc in
      ap (λ m. Some (pos m)) same
  | inr over ↦ absurd (cc (rw over at is))
]

count_only : (bits tests : ℕ) (text rest : List ℕ) → count_in bits text ≡ Some (tests, rest) → text ≡ tests_line tests ++ rest
count_only bits tests text rest is =
    let Count : Type 0 = ℕ × List ℕ in
    let give : List ℕ → ℕ → Option Count = λ after t. Some (t, after) in
    let number : List ℕ × List ℕ → Option Count = λ n. with_part {B = Count} (test_count bits (number_of n.0)) (give n.1) in
    let line : List ℕ → Option Count = λ l. with_part {B = Count} (until 10 l) number in
    let front = part_some (strip (codes "tests ") text) line (tests, rest) is in
    let found = part_some (until 10 front.0) number (tests, rest) front.2 in
    let count = part_some (test_count bits (number_of found.0.0)) (give found.0.1) (tests, rest) found.2 in
    let pair : ◌≡◌ {A = Count} (count.0, found.0.1) (tests, rest) = cc (count.2) in
    let same : count.0 ≡ tests = ap (λ (p : Count). p.0) pair in
    let end : found.0.1 ≡ rest = ap (λ (p : Count). p.1) pair in
    let digits : found.0.0 ≡ decimal tests = number_only found.0.0 count.0 (counted bits (number_of found.0.0) count.0 count.1) ∙ ap decimal same in
    strip_only (codes "tests ") text front.0 front.1
    ∙ ap (λ (l : List ℕ). codes "tests " ++ l) (
    until_only 10 front.0 found.0.0 found.0.1 found.1
    ∙ (λ i. digits i ++ 10 ∷ end i)
    ∙ sym (append_assoc (decimal tests) newline rest)
    )

-- ---- all four

-- the text has these lines in front
pub record HasHead (digest : List ℕ) (bits : ℕ) (old_rules : Bool) (text : List ℕ) (tests : ℕ) (rest : List ℕ) : Type 0 where
  pub first : List ℕ
  pub is_first : IsFirst old_rules first
  pub lines : text ≡ first ++ (source_line digest ++ (bits_line bits ++ (tests_line tests ++ rest)))

pub head_only : (digest : List ℕ) (bits : ℕ) (old_rules : Bool) (text : List ℕ) (tests : ℕ) (rest : List ℕ) → head_in digest bits old_rules text ≡ Ok (tests, rest) → HasHead digest bits old_rules text tests rest
head_only digest bits old_rules text tests rest is =
    let third : List ℕ → Result (ℕ × List ℕ) RecordFault = λ r. or_shape 4 (count_in bits r) in
    let second : List ℕ → Result (ℕ × List ℕ) RecordFault = λ r. read_on (after_bits bits r) third in
    let first : List ℕ → Result (ℕ × List ℕ) RecordFault = λ r. read_on (after_source digest r) second in
    let one = read_ok (after_header old_rules text) first (tests, rest) is in
    let two = read_ok (after_source digest one.0) second (tests, rest) one.2 in
    let three = read_ok (after_bits bits two.0) third (tests, rest) two.2 in
    let count = shape_ok 4 (count_in bits three.0) (tests, rest) three.2 in
    let bits_found = shape_ok 3 (strip (bits_line bits) two.0) three.0 three.1 in
    let header = header_only text one.0 old_rules one.1 in
    record {
      first = header.line;
      is_first = header.is_first;
      lines =
          header.front
          ∙ ap (λ (l : List ℕ). header.line ++ l) (
          source_only digest one.0 two.0 two.1
          ∙ ap (λ (l : List ℕ). source_line digest ++ l) (
          strip_only (bits_line bits) two.0 three.0 bits_found
          ∙ ap (λ (l : List ℕ). bits_line bits ++ l) (count_only bits tests three.0 rest count)
          )
          );
    }
