-- The lines of calls that returned.
use Rattle.std.specs.Prelude.{ℕ, ℤ, if◌then◌else◌, List, [], ◌∷◌, ◌++◌, flat_map, codes, Option}
use Rattle.std.specs.Fmt.{decimal}
use Rattle.std.specs.List.{concat}
use Rattle.mc_typed.specs.Plans.{Call, outputs_of}
use Rattle.mc_meaning.specs.Tests.{is_output, is_value}
use Rattle.results_lines.specs.Sources.{Source, name_of}
use Rattle.results_lines.specs.Words.{newline, number_text, numbers_text, value_text}

-- its number from 1, its function, and its arguments
abbrev pub call_text : Source → (number : ℕ) → Call → List ℕ
call_text s number call =
    concat (codes "  call " ∷ decimal number ∷ codes " " ∷ name_of s call.function
    ∷ flat_map number_text call.arguments ∷ [])

-- the value that was expected, where another one came
abbrev pub expected_text : Option ℤ → Option ℤ → List ℕ
expected_text expected value =
    if is_value expected value then [] else codes " expected" ++ value_text expected

-- the numbers that a call put out, where it did
abbrev pub given_text : List ℤ → List ℕ
given_text [] = []
given_text (n ∷ output) = codes " output" ++ flat_map number_text (n ∷ output)

abbrev pub both_text : List ℤ → List ℤ → List ℕ
both_text output expected =
    concat (codes " output" ∷ numbers_text output ∷ codes " expected" ∷ numbers_text expected
    ∷ [])

-- and those that were expected, where others came
abbrev pub output_text : Option (List ℤ) → List ℤ → List ℕ
output_text expected output =
    if is_output expected output then given_text output else
    both_text output (outputs_of expected)

abbrev pub returned_line : Source → (number : ℕ) → Call → Option ℤ → List ℤ → List ℕ
returned_line s number call value output =
    concat (call_text s number call ∷ codes " returned" ∷ value_text value
    ∷ expected_text call.expect value ∷ output_text call.output output ∷ newline ∷ [])
