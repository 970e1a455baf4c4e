-- The lines of bits as a reader takes them.
use Rattle.std.specs.Prelude.{ℕ, zero, suc, ◌+◌, ◌-◌, ◌^◌, Bool, true, ◌&&◌, List, [], ◌∷◌, ◌++◌, Option, Some, None, Result, Ok, Err, if◌then◌else◌, nat_lt}
use Rattle.mc_core.specs.Shape.{rows}
use Rattle.mc_core.specs.declared.shape.Shape.{Shape}
use Rattle.mc_record.specs.Digits.{words_in}
use Rattle.mc_record.specs.Lines.{bit_front, newline}
use Rattle.mc_record.specs.Parts.{read_on, strip, with_part}
use Rattle.mc_record.specs.declared.fault.RecordFault.{RecordFault}
use Rattle.mc_record.specs.declared.fault.RecordFault.TheVariants as fault

-- the words of bit b, and what follows the line
abbrev pub row_in : ℕ → ℕ → List ℕ → Option (List ℕ × List ℕ)
row_in b count text =
    with_part (strip (bit_front b) text) (λ words.
    with_part (words_in count words) (λ row.
    with_part (strip newline row.1) (λ rest. Some (row.0, rest))))

-- no bit at or above this number of tests is set in the words of a bit
abbrev pub has_no_spare : ℕ → List ℕ → Bool
has_no_spare tests [] = true
has_no_spare tests (word ∷ words) = nat_lt word (2 ^ tests) && has_no_spare (tests - 64) words

-- the words with those of one more bit, and what follows them, or the fault of its line
abbrev pub with_row : ℕ → ℕ → List ℕ → Option (List ℕ × List ℕ)
    → Result (List ℕ × List ℕ) RecordFault
with_row line tests words None = Err (fault.Word line)
with_row line tests words (Some (row, rest)) =
    if has_no_spare tests row then Ok (words ++ row, rest) else Err (fault.SpareBit line)

-- so many bits more, from bit b on; the lines of bits stand after those of tests
abbrev pub bits_in : Shape → ℕ → List ℕ → ℕ → List ℕ → Result (List ℕ × List ℕ) RecordFault
bits_in shape b words zero text = Ok (words, text)
bits_in shape b words (suc n) text =
    read_on (with_row (5 + shape.tests + b) shape.tests words (row_in b (rows shape) text)) (λ w.
    bits_in shape (b + 1) w.0 n w.1)
