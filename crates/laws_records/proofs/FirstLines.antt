-- Faults of line 1, and that those of later lines are others.
use Rattle.std.proofs.Common.{◌≡◌, ◌∙◌, ◌+◌, ℕ, zero, suc, Bool, true, false, List, [], ◌++◌, Option, Some, None, refl, sym, ap, subst, arith}
use Rattle.std.specs.Prelude.{⊤, Result, Ok, Err, if◌then◌else◌}
use Rattle.std.specs.List.{list_any}
use Rattle.std.specs.Str.{bytes_eq}
use Rattle.mc_core.specs.Shape.{rows}
use Rattle.mc_core.specs.declared.shape.Shape.{Shape}
use Rattle.mc_typed.specs.declared.plans.TestState.{TestState}
use Rattle.mc_record.specs.Bits.{bits_in, has_no_spare, row_in, with_row}
use Rattle.mc_record.specs.Kept.{Kept}
use Rattle.mc_record.specs.Lines.{header_line, old_header_line}
use Rattle.mc_record.specs.Parts.{read_on, strip}
use Rattle.mc_record.specs.Reading.{after_bits, after_digest, after_header_or, after_old_header, after_source, body_in, count_in, digest_in, is_end, or_shape, record_of, with_words}
use Rattle.mc_record.specs.Tests.{TestsRead, test_in, tests_in, with_test}
use Rattle.mc_record.specs.declared.fault.RecordFault.{RecordFault}
use Rattle.mc_record.specs.declared.fault.RecordFault.TheVariants as fault
use Rattle.laws_records.specs.Texts.{BeginsWith, OldTextsAreRefused, UnknownVersionsAreRefused}
use Rattle.laws_records.proofs.Fronts.{strip_only}

-- ---- faults of later lines

abbrev IsLater : RecordFault → Type 0
IsLater (fault.Header line) = line ≡ 2
IsLater (fault.OldRules line) = ⊥
IsLater e = ⊤

-- a fault of this comes later
abbrev FailsLater : {A : Type 0} → Result A RecordFault → Type 0
FailsLater (Ok a) = ⊤
FailsLater (Err e) = IsLater e

read_later : {A B : Type 0} (r : Result A RecordFault) (f : A → Result B RecordFault) → FailsLater r → ((a : A) → FailsLater (f a)) → FailsLater (read_on r f)
read_later (Ok a) f first later = later a
read_later (Err e) f first later = first

found_later : {A : Type 0} (b : Bool) (a : A) (e : RecordFault) → IsLater e → FailsLater {A = A} (if b then Ok a else Err e)
found_later true a e is = tt
found_later false a e is = is

absent_later : {A : Type 0} (b : Bool) (a : A) (e : RecordFault) → IsLater e → FailsLater {A = A} (if b then Err e else Ok a)
absent_later true a e is = is
absent_later false a e is = tt

shape_later : {A : Type 0} (line : ℕ) (o : Option A) → FailsLater (or_shape line o)
shape_later line (Some a) = tt
shape_later line None = tt

digest_later : (given : List ℕ) (o : Option (List ℕ × List ℕ)) → FailsLater (after_digest given o)
digest_later given None = refl
digest_later given (Some (kept, rest)) = found_later (bytes_eq kept given) rest (fault.Source 2 kept given) tt

test_later : (names : List (List ℕ)) (states : List TestState) (o : Option (List ℕ × TestState × List ℕ)) → FailsLater (with_test names states o)
test_later names states None = tt
test_later names states (Some (name, state, rest)) = absent_later (list_any (bytes_eq name) names) _ _ tt

tests_later : (n : ℕ) (names : List (List ℕ)) (states : List TestState) (text : List ℕ) → FailsLater (tests_in names states n text)
tests_later zero names states text = tt
tests_later (suc n) names states text =
    read_later (with_test names states (test_in text)) (λ t. tests_in t.names t.states n t.rest) (test_later names states (test_in text)) (λ t. tests_later n t.names t.states t.rest)

row_later : (line tests : ℕ) (words : List ℕ) (o : Option (List ℕ × List ℕ)) → FailsLater (with_row line tests words o)
row_later line tests words None = tt
row_later line tests words (Some (row, rest)) = found_later (has_no_spare tests row) (words ++ row, rest) (fault.SpareBit line) tt

bits_later : (shape : Shape) (n b : ℕ) (words text : List ℕ) → FailsLater (bits_in shape b words n text)
bits_later shape zero b words text = tt
bits_later shape (suc n) b words text =
    let row = row_in b (rows shape) text in
    read_later (with_row (5 + shape.tests + b) shape.tests words row) (λ w. bits_in shape (b + 1) w.0 n w.1) (row_later (5 + shape.tests + b) shape.tests words row) (λ w. bits_later shape n (b + 1) w.0 w.1)

end_later : (digest : List ℕ) (shape : Shape) (t : TestsRead) (w : List ℕ × List ℕ) → FailsLater (with_words digest shape t w)
end_later digest shape t w = found_later (is_end w.1) _ (fault.Ending (5 + shape.tests + shape.bits)) tt

body_later : (digest : List ℕ) (shape : Shape) (text : List ℕ) → FailsLater (body_in digest shape text)
body_later digest shape text =
    let from_tests : TestsRead → Result Kept RecordFault = λ t. read_on (bits_in shape 0 [] shape.bits t.rest) (λ w. with_words digest shape t w) in
    read_later (tests_in [] [] shape.tests text) from_tests (tests_later shape.tests [] [] text) (λ t.
    read_later (bits_in shape 0 [] shape.bits t.rest) (λ w. with_words digest shape t w) (bits_later shape shape.bits 0 [] t.rest) (λ w. end_later digest shape t w))

not_old : (r : Result Kept RecordFault) (line : ℕ) → FailsLater r → r ≡ Err (fault.OldRules line) → ⊥
not_old (Ok k) line later is = cc is
not_old (Err e) line later is =
    let same : e ≡ fault.OldRules line = cc in
    subst IsLater same later

not_first : (r : Result Kept RecordFault) → FailsLater r → r ≡ Err (fault.Header 1) → ⊥
not_first (Ok k) later is = cc is
not_first (Err e) later is =
    let same : e ≡ fault.Header 1 = cc in
    let never : 1 ≡ 2 = subst IsLater same later in
    absurd (omega (arith, never))

-- ---- line 1

module _ (digest : List ℕ) (bits : ℕ) where
  abbrev after_line_2 : List ℕ → Result (ℕ × List ℕ) RecordFault
  after_line_2 rest = read_on (after_bits bits rest) (λ rest. or_shape 4 (count_in bits rest))

  abbrev after_line_1 : List ℕ → Result (ℕ × List ℕ) RecordFault
  after_line_1 rest = read_on (after_source digest rest) after_line_2

  abbrev after_head : ℕ × List ℕ → Result Kept RecordFault
  after_head head = body_in digest (record { bits = bits; tests = head.0 }) head.1

  -- what comes of a text with this line 1
  abbrev whole : Result (List ℕ) RecordFault → Result Kept RecordFault
  whole r = read_on (read_on r after_line_1) after_head

  whole_later : (rest : List ℕ) → FailsLater (whole (Ok rest))
  whole_later rest =
      let head : FailsLater (after_line_1 rest) =
      read_later (after_source digest rest) after_line_2 (digest_later digest (digest_in rest)) (λ l.
      read_later (after_bits bits l) (λ m. or_shape 4 (count_in bits m)) (shape_later 3 _) (λ m. shape_later 4 (count_in bits m))) in
      read_later (after_line_1 rest) after_head head (λ h. body_later digest (record { bits = bits; tests = h.0 }) h.1)

  abbrev IsOld : (old_rules : Bool) (text : List ℕ) (line : ℕ) → Type 0
  IsOld old_rules text line = (line ≡ 1) × ((old_rules ≡ false) × BeginsWith old_header_line text)

  old_only : (old_rules : Bool) (text : List ℕ) (line : ℕ) (o : Option (List ℕ)) → strip old_header_line text ≡ o → whole (after_old_header old_rules o) ≡ Err (fault.OldRules line) → IsOld old_rules text line
  old_only old_rules text line None found is = absurd (cc is)
  old_only true text line (Some rest) found is = absurd (not_old (whole (Ok rest)) line (whole_later rest) is)
  old_only false text line (Some rest) found is =
      let same : 1 ≡ line = cc in
      (sym same, (refl, (rest, strip_only old_header_line text rest found)))

  old_refused_only : (old_rules : Bool) (text : List ℕ) (line : ℕ) (o : Option (List ℕ)) → strip header_line text ≡ o → whole (after_header_or old_rules text o) ≡ Err (fault.OldRules line) → IsOld old_rules text line
  old_refused_only old_rules text line (Some rest) found is = absurd (not_old (whole (Ok rest)) line (whole_later rest) is)
  old_refused_only old_rules text line None found is = old_only old_rules text line (strip old_header_line text) refl is

  old_is_refused : (old_rules : Bool) (text : List ℕ) (line : ℕ) → IsOld old_rules text line → record_of digest bits old_rules text ≡ Err (fault.OldRules line)
  old_is_refused old_rules text line (first, (rules, (rest, is))) =
      (λ i. record_of digest bits (rules i) (is i)) ∙ ap (λ n. Err (fault.OldRules n)) (sym first)

  abbrev IsOther : (text : List ℕ) → Type 0
  IsOther text = (BeginsWith header_line text → ⊥) × (BeginsWith old_header_line text → ⊥)

  never : (line text : List ℕ) → ((rest : List ℕ) → strip line (line ++ rest) ≡ Some rest) → strip line text ≡ None → BeginsWith line text → ⊥
  never line text stripped none (rest, is) =
      let found : strip line text ≡ Some rest = ap (strip line) is ∙ stripped rest in
      cc (none, found)

  old_other : (old_rules : Bool) (text : List ℕ) (o : Option (List ℕ)) → strip header_line text ≡ None → strip old_header_line text ≡ o → whole (after_old_header old_rules o) ≡ Err (fault.Header 1) → IsOther text
  old_other old_rules text None new old is = (never header_line text (λ rest. refl) new, never old_header_line text (λ rest. refl) old)
  old_other true text (Some rest) new old is = absurd (not_first (whole (Ok rest)) (whole_later rest) is)
  old_other false text (Some rest) new old is = absurd (cc is)

  other_only : (old_rules : Bool) (text : List ℕ) (o : Option (List ℕ)) → strip header_line text ≡ o → whole (after_header_or old_rules text o) ≡ Err (fault.Header 1) → IsOther text
  other_only old_rules text (Some rest) found is = absurd (not_first (whole (Ok rest)) (whole_later rest) is)
  other_only old_rules text None found is = old_other old_rules text (strip old_header_line text) found refl is

  old_is_other : (old_rules : Bool) (text : List ℕ) (o : Option (List ℕ)) → strip old_header_line text ≡ o → IsOther text → whole (after_old_header old_rules o) ≡ Err (fault.Header 1)
  old_is_other old_rules text None found other = refl
  old_is_other old_rules text (Some rest) found other = absurd (other.1 (rest, strip_only old_header_line text rest found))

  other_is : (old_rules : Bool) (text : List ℕ) (o : Option (List ℕ)) → strip header_line text ≡ o → IsOther text → whole (after_header_or old_rules text o) ≡ Err (fault.Header 1)
  other_is old_rules text None found other = old_is_other old_rules text (strip old_header_line text) refl other
  other_is old_rules text (Some rest) found other = absurd (other.0 (rest, strip_only header_line text rest found))

pub old_texts_are_refused : OldTextsAreRefused
old_texts_are_refused digest bits old_rules text line =
    (λ is. old_refused_only digest bits old_rules text line (strip header_line text) refl is, λ old. old_is_refused digest bits old_rules text line old)

pub unknown_versions_are_refused : UnknownVersionsAreRefused
unknown_versions_are_refused digest bits old_rules text =
    (λ is. other_only digest bits old_rules text (strip header_line text) refl is, λ other. other_is digest bits old_rules text (strip header_line text) refl other)
