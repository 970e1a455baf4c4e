-- A record that was written is read as the same record.
use Rattle.std.proofs.Common.{◌≡◌, ◌∙◌, ◌<◌, ◌≤◌, ◌^◌, ℕ, Bool, true, nat_le, List, [], ◌∷◌, ◌++◌, Option, Some, refl, sym, ap, subst, arith, append_assoc}
use Rattle.std.specs.Prelude.{Result, Ok, pos}
use Rattle.std.specs.Fmt.{decimal}
use Rattle.std.specs.List.{concat}
use Rattle.std.specs.Str.{bytes_eq}
use Rattle.std.proofs.lemmas.Bool.Decides.{nat_tests}
use Rattle.std.proofs.lemmas.List.{append-nil}
use Rattle.std.proofs.lemmas.List.Folds.{concat-append}
use Rattle.std.proofs.lemmas.Slice.Eq.{bytes_eq-Decides}
use Rattle.mc_limits.specs.Limits.{most_tests, most_words}
use Rattle.mc_core.specs.Shape.{word_count}
use Rattle.csv_records.specs.Numbers.{is_digit, number_of}
use Rattle.report_words.specs.Hexadecimal.{hexadecimal}
use Rattle.mc_record.specs.Bits.{bits_in}
use Rattle.mc_record.specs.Digits.{bytes_in}
use Rattle.mc_record.specs.Kept.{Kept}
use Rattle.mc_record.specs.Laws.{IsDigest, IsRecord, WrittenIsRead, OldIsRead, OldIsRefused}
use Rattle.mc_record.specs.Lines.{bit_lines, bits_line, end_line, header_line, later_lines, newline, old_header_line, source_line, test_lines, tests_line}
use Rattle.mc_record.specs.Parts.{read_on, strip, until, with_part}
use Rattle.mc_record.specs.Reading.{after_bits, after_digest, after_header, after_source, body_in, count_in, digest_in, or_shape, record_of, test_count, with_words}
use Rattle.mc_record.specs.Tests.{TestsRead, tests_in}
use Rattle.mc_record.specs.declared.fault.RecordFault.{RecordFault}
use Rattle.mc_record.proofs.BitLines.{all_bits_read}
use Rattle.mc_record.proofs.Fronts.{strip_front, until_front}
use Rattle.mc_record.proofs.Hexadecimal.{bytes_read}
use Rattle.mc_record.proofs.Numbers.{digits_are, lacks_all, number_read}
use Rattle.mc_record.proofs.TestLines.{are_new, tests_read}

-- ---- lines 2 to 4

digest_found : (digest rest : List ℕ) → IsDigest digest → digest_in (source_line digest ++ rest) ≡ Some (digest, rest)
digest_found digest rest is =
    let shape : (hexadecimal digest ++ newline) ++ rest ≡ hexadecimal digest ++ (newline ++ rest) = append_assoc (hexadecimal digest) newline rest in
    let read : bytes_in 32 (hexadecimal digest ++ (newline ++ rest)) ≡ Some (digest, newline ++ rest) =
    subst (λ n. bytes_in n (hexadecimal digest ++ (newline ++ rest)) ≡ Some (digest, newline ++ rest)) is.whole (bytes_read digest (newline ++ rest) is.bytes) in
    let after : Option (List ℕ × List ℕ) → Option (List ℕ × List ℕ) = λ o. with_part {B = List ℕ × List ℕ} o (λ d. with_part {B = List ℕ × List ℕ} (strip newline d.1) (λ r. Some (d.0, r))) in
    ap (λ (l : List ℕ). after (bytes_in 32 l)) shape ∙ ap after read

source_read : (digest rest : List ℕ) → IsDigest digest → after_source digest (source_line digest ++ rest) ≡ Ok rest
source_read digest rest is =
    let same : bytes_eq digest digest ≡ true = (bytes_eq-Decides digest digest).1 refl in
    ap (after_digest digest) (digest_found digest rest is) ∙ rw same refl

bits_line_read : (bits : ℕ) (rest : List ℕ) → after_bits bits (bits_line bits ++ rest) ≡ Ok rest
bits_line_read bits rest = ap (λ (o : Option (List ℕ)). or_shape 3 o) (strip_front (bits_line bits) rest)

count_fits : (bits tests : ℕ) → tests ≤ most_tests → word_count (record { bits = bits; tests = tests }) ≤ most_words → test_count bits (Some (pos tests)) ≡ Some tests
count_fits bits tests few small =
    let first : nat_le tests most_tests ≡ true = grind (arith, nat_tests) in
    let second : nat_le (word_count (record { bits = bits; tests = tests })) most_words ≡ true = grind (arith, nat_tests) in
    rw (first, second) refl

tests_line_read : (bits tests : ℕ) (rest : List ℕ) → tests ≤ most_tests → word_count (record { bits = bits; tests = tests }) ≤ most_words → count_in bits (tests_line tests ++ rest) ≡ Some (tests, rest)
tests_line_read bits tests rest few small =
    let less : tests < 2 ^ 64 = omega arith in
    let shape : (decimal tests ++ newline) ++ rest ≡ decimal tests ++ 10 ∷ rest = append_assoc (decimal tests) newline rest in
    let found : until 10 (decimal tests ++ 10 ∷ rest) ≡ Some (decimal tests, rest) = until_front 10 (decimal tests) rest (lacks_all is_digit 10 (decimal tests) refl (digits_are tests less)) in
    let counted : test_count bits (number_of (decimal tests)) ≡ Some tests = ap (test_count bits) (number_read tests less) ∙ count_fits bits tests few small in
    let after : Option (List ℕ × List ℕ) → Option (ℕ × List ℕ) = λ o. with_part {B = ℕ × List ℕ} o (λ n. with_part {B = ℕ × List ℕ} (test_count bits (number_of n.0)) (λ t. Some (t, n.1))) in
    ap (λ (l : List ℕ). after (until 10 l)) shape ∙ ap after found ∙ ap (λ (o : Option ℕ). with_part {B = ℕ × List ℕ} o (λ t. Some (t, rest))) counted

-- ---- the whole

module _ (k : Kept) (is : IsRecord k) where
  abbrev bits : ℕ
  bits = k.matrix.shape.bits

  abbrev tests : ℕ
  tests = k.matrix.shape.tests

  abbrev body_text : List ℕ
  body_text = concat (test_lines k.names k.states) ++ (concat (bit_lines k.matrix) ++ end_line)

  abbrev shape_text : List ℕ
  shape_text = bits_line bits ++ (tests_line tests ++ body_text)

  later_text : concat (later_lines k) ≡ source_line k.digest ++ shape_text
  later_text =
      let last : concat (bit_lines k.matrix ++ end_line ∷ []) ≡ concat (bit_lines k.matrix) ++ end_line = concat-append (bit_lines k.matrix) (end_line ∷ []) ∙ ap (λ (l : List ℕ). concat (bit_lines k.matrix) ++ l) (append-nil end_line) in
      let body : concat (test_lines k.names k.states ++ (bit_lines k.matrix ++ end_line ∷ [])) ≡ body_text =
      concat-append (test_lines k.names k.states) (bit_lines k.matrix ++ end_line ∷ []) ∙ ap (λ (l : List ℕ). concat (test_lines k.names k.states) ++ l) last in
      ap (λ (l : List ℕ). source_line k.digest ++ (bits_line bits ++ (tests_line tests ++ l))) body

  abbrev after_line_1 : Result (List ℕ) RecordFault → Result (ℕ × List ℕ) RecordFault
  after_line_1 r =
      read_on r (λ rest.
      read_on (after_source k.digest rest) (λ rest.
      read_on (after_bits bits rest) (λ rest. or_shape 4 (count_in bits rest))))

  head_read : after_line_1 (Ok (source_line k.digest ++ shape_text)) ≡ Ok (tests, body_text)
  head_read =
      ap (λ (r : Result (List ℕ) RecordFault). read_on r (λ rest. read_on (after_bits bits rest) (λ rest. or_shape 4 (count_in bits rest)))) (source_read k.digest shape_text is.digest)
      ∙ ap (λ (r : Result (List ℕ) RecordFault). read_on r (λ rest. or_shape 4 (count_in bits rest))) (bits_line_read bits (tests_line tests ++ body_text))
      ∙ ap (λ (o : Option (ℕ × List ℕ)). or_shape 4 o) (tests_line_read bits tests body_text is.kept.few_tests is.kept.few_words)

  none_seen : (names : List (List ℕ)) → are_new [] names ≡ true
  none_seen [] = refl
  none_seen (n ∷ names) = none_seen names

  tests_found : tests_in [] [] tests body_text ≡ Ok (record { names = k.names; states = k.states; rest = concat (bit_lines k.matrix) ++ end_line })
  tests_found =
      subst (λ n. tests_in [] [] n body_text ≡ Ok (record { names = k.names; states = k.states; rest = concat (bit_lines k.matrix) ++ end_line })) is.kept.names
      (tests_read [] [] k.names k.states (concat (bit_lines k.matrix) ++ end_line) (is.kept.states ∙ sym is.kept.names) is.kept.named is.kept.distinct (none_seen k.names) is.kept.judged)

  body_read : body_in k.digest k.matrix.shape body_text ≡ Ok k
  body_read =
      ap (λ (r : Result TestsRead RecordFault). read_on r (λ t. read_on (bits_in k.matrix.shape 0 [] bits t.rest) (λ w. with_words k.digest k.matrix.shape t w))) tests_found
      ∙ ap (λ (r : Result (List ℕ × List ℕ) RecordFault). read_on r (λ w. with_words k.digest k.matrix.shape (record { names = k.names; states = k.states; rest = concat (bit_lines k.matrix) ++ end_line }) w)) (all_bits_read k.matrix is.words end_line)

  abbrev from_head : Result (ℕ × List ℕ) RecordFault → Result Kept RecordFault
  from_head r = read_on r (λ head. body_in k.digest (record { bits = bits; tests = head.0 }) head.1)

  after_first : (old_rules : Bool) (first : List ℕ) → ((rest : List ℕ) → after_header old_rules (first ++ rest) ≡ Ok rest) → record_of k.digest bits old_rules (first ++ concat (later_lines k)) ≡ Ok k
  after_first old_rules first stripped =
      ap (λ (r : Result (List ℕ) RecordFault). from_head (after_line_1 r)) (stripped (concat (later_lines k)))
      ∙ ap (λ (l : List ℕ). from_head (after_line_1 (Ok l))) later_text
      ∙ ap from_head head_read
      ∙ body_read

pub written_read : WrittenIsRead
written_read k old_rules is = after_first k is old_rules header_line (λ rest. refl)

pub old_read : OldIsRead
old_read k is = after_first k is true old_header_line (λ rest. refl)

pub old_refused : OldIsRefused
old_refused k = refl
