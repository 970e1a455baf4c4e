-- The lines of a record, each of which ends with LF.
use Rattle.std.specs.Prelude.{ℕ, ◌+◌, ◌*◌, ◌/◌, List, [], ◌∷◌, ◌++◌, codes, map, flat_map, take, drop}
use Rattle.std.specs.Fmt.{decimal}
use Rattle.std.specs.Int.{to_be_bytes}
use Rattle.std.specs.List.{range_with_len}
use mir.Syntax.{w64}
use Rattle.mc_limits.specs.Limits.{most_tests}
use Rattle.mc_core.specs.Matrix.{MatrixView}
use Rattle.mc_core.specs.Shape.{rows}
use Rattle.mc_typed.specs.declared.plans.TestState.{TestState}
use Rattle.report_words.specs.Hexadecimal.{hexadecimal}
use Rattle.report_words.specs.Words.{state_word}
use Rattle.mc_record.specs.Kept.{Kept}

abbrev pub newline : List ℕ
newline = 10 ∷ []

abbrev pub header_line : List ℕ
header_line = codes "mcdc-record 2\n"

-- of a record that was written before operators that are evaluated in full were decisions
abbrev pub old_header_line : List ℕ
old_header_line = codes "mcdc-record 1\n"

abbrev pub source_line : List ℕ → List ℕ
source_line digest = codes "source " ++ (hexadecimal digest ++ newline)

abbrev pub bits_line : ℕ → List ℕ
bits_line bits = codes "bits " ++ (decimal bits ++ newline)

abbrev pub tests_line : ℕ → List ℕ
tests_line tests = codes "tests " ++ (decimal tests ++ newline)

abbrev pub test_line : List ℕ → TestState → List ℕ
test_line name state = codes "test " ++ (name ++ (codes " " ++ (state_word state ++ newline)))

abbrev pub test_lines : List (List ℕ) → List TestState → List (List ℕ)
test_lines (name ∷ names) (state ∷ states) = test_line name state ∷ test_lines names states
test_lines _ _ = []

-- 16 digits, the highest first
abbrev pub word_text : ℕ → List ℕ
word_text word = codes " " ++ hexadecimal (to_be_bytes w64 word)

abbrev pub bit_front : ℕ → List ℕ
bit_front b = codes "bit " ++ decimal b

abbrev pub bit_line : ℕ → List ℕ → List ℕ
bit_line b words = bit_front b ++ (flat_map word_text words ++ newline)

-- the words of a bit under the most tests, 64 tests to a word
abbrev pub most_row_words : ℕ
most_row_words = most_tests / 64

-- the bytes of the longest line, that of a bit: `bit `, a number of 10 digits, a space and 16
-- digits for each word, and LF
abbrev pub most_line_bytes : ℕ
most_line_bytes = 15 + 17 * most_row_words

-- the words of a bit, those of the lowest tests first
abbrev pub row_of : MatrixView → ℕ → List ℕ
row_of m b = take (rows m.shape) (drop (b * rows m.shape) m.words)

abbrev pub bit_lines : MatrixView → List (List ℕ)
bit_lines m = map (λ b. bit_line b (row_of m b)) (range_with_len 0 m.shape.bits)

abbrev pub end_line : List ℕ
end_line = codes "end\n"

-- all but the first line
abbrev pub later_lines : Kept → List (List ℕ)
later_lines k =
    (source_line k.digest ∷ bits_line k.matrix.shape.bits ∷ tests_line k.matrix.shape.tests ∷ [])
    ++ (test_lines k.names k.states ++ (bit_lines k.matrix ++ end_line ∷ []))

abbrev pub record_lines : Kept → List (List ℕ)
record_lines k = header_line ∷ later_lines k

-- the same as version 1 has it
abbrev pub old_record_lines : Kept → List (List ℕ)
old_record_lines k = old_header_line ∷ later_lines k
