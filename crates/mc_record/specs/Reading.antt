-- The record that a text is, or its first fault.
use Rattle.std.specs.Prelude.{ℕ, ◌+◌, Bool, true, false, ◌&&◌, List, [], codes, Option, Some, None, Result, Ok, Err, if◌then◌else◌, nat_le, ℤ, pos, negsuc}
use Rattle.std.specs.Str.{bytes_eq}
use Rattle.mc_limits.specs.Limits.{most_tests, most_words}
use Rattle.mc_core.specs.Shape.{word_count}
use Rattle.mc_core.specs.declared.shape.Shape.{Shape}
use Rattle.csv_records.specs.Numbers.{number_of}
use Rattle.mc_record.specs.Kept.{Kept}
use Rattle.mc_record.specs.Lines.{bits_line, end_line, header_line, newline, old_header_line}
use Rattle.mc_record.specs.Parts.{read_on, strip, until, with_part}
use Rattle.mc_record.specs.Digits.{bytes_in}
use Rattle.mc_record.specs.Tests.{TestsRead, tests_in}
use Rattle.mc_record.specs.Bits.{bits_in}
use Rattle.mc_record.specs.declared.fault.RecordFault.{RecordFault}
use Rattle.mc_record.specs.declared.fault.RecordFault.TheVariants as fault

-- what follows line 1, where it is that of version 1, or of neither version
abbrev pub after_old_header : Bool → Option (List ℕ) → Result (List ℕ) RecordFault
after_old_header old_rules None = Err (fault.Header 1)
after_old_header true (Some rest) = Ok rest
after_old_header false (Some rest) = Err (fault.OldRules 1)

abbrev pub after_header_or : Bool → List ℕ → Option (List ℕ) → Result (List ℕ) RecordFault
after_header_or old_rules text (Some rest) = Ok rest
after_header_or old_rules text None = after_old_header old_rules (strip old_header_line text)

abbrev pub after_header : Bool → List ℕ → Result (List ℕ) RecordFault
after_header old_rules text = after_header_or old_rules text (strip header_line text)

-- the digest that line 2 writes, and what follows it
abbrev pub digest_in : List ℕ → Option (List ℕ × List ℕ)
digest_in text =
    with_part (strip (codes "source ") text) (λ digits.
    with_part (bytes_in 32 digits) (λ digest.
    with_part (strip newline digest.1) (λ rest. Some (digest.0, rest))))

abbrev pub after_digest : List ℕ → Option (List ℕ × List ℕ) → Result (List ℕ) RecordFault
after_digest given None = Err (fault.Header 2)
after_digest given (Some (kept, rest)) =
    if bytes_eq kept given then Ok rest else Err (fault.Source 2 kept given)

abbrev pub after_source : List ℕ → List ℕ → Result (List ℕ) RecordFault
after_source digest text = after_digest digest (digest_in text)

-- what follows a part that line 3 must have
abbrev pub or_shape : {A : Type 0} → ℕ → Option A → Result A RecordFault
or_shape line None = Err (fault.Shape line)
or_shape line (Some part) = Ok part

abbrev pub after_bits : ℕ → List ℕ → Result (List ℕ) RecordFault
after_bits bits text = or_shape 3 (strip (bits_line bits) text)

-- a number of tests that keeps the limits
abbrev pub test_count : ℕ → Option ℤ → Option ℕ
test_count bits None = None
test_count bits (Some (negsuc n)) = None
test_count bits (Some (pos n)) =
    if nat_le n most_tests && nat_le (word_count record { bits = bits; tests = n }) most_words
    then Some n else None

-- how many tests line 4 says that there are, and what follows it; 10 is LF
abbrev pub count_in : ℕ → List ℕ → Option (ℕ × List ℕ)
count_in bits text =
    with_part (strip (codes "tests ") text) (λ line.
    with_part (until 10 line) (λ number.
    with_part (test_count bits (number_of number.0)) (λ tests. Some (tests, number.1))))

-- lines 1 to 4
abbrev pub head_in : List ℕ → ℕ → Bool → List ℕ → Result (ℕ × List ℕ) RecordFault
head_in digest bits old_rules text =
    read_on (after_header old_rules text) (λ rest.
    read_on (after_source digest rest) (λ rest.
    read_on (after_bits bits rest) (λ rest. or_shape 4 (count_in bits rest))))

-- the last line, with nothing after it
abbrev pub is_end : List ℕ → Bool
is_end text = bytes_eq text end_line

abbrev pub ended : ℕ → List ℕ → Kept → Result Kept RecordFault
ended line text kept = if is_end text then Ok kept else Err (fault.Ending line)

abbrev pub with_words : List ℕ → Shape → TestsRead → List ℕ × List ℕ → Result Kept RecordFault
with_words digest shape tests words = ended (5 + shape.tests + shape.bits) words.1 record {
  digest = digest;
  names = tests.names;
  states = tests.states;
  matrix = record { shape = shape; words = words.0 };
}

-- the tests, the bits and the end
abbrev pub body_in : List ℕ → Shape → List ℕ → Result Kept RecordFault
body_in digest shape text =
    read_on (tests_in [] [] shape.tests text) (λ tests.
    read_on (bits_in shape 0 [] shape.bits tests.rest) (λ words.
    with_words digest shape tests words))

-- the record of a source with this digest, whose program has so many bits; one of version 1 only
-- under its rules
abbrev pub record_of : List ℕ → ℕ → Bool → List ℕ → Result Kept RecordFault
record_of digest bits old_rules text =
    read_on (head_in digest bits old_rules text) (λ head.
    body_in digest record { bits = bits; tests = head.0 } head.1)
