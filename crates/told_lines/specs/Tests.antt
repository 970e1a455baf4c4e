-- The line of a test: its name and its state, and what its run gave.
use Rattle.std.specs.Prelude.{ℕ, List, [], ◌∷◌, codes, flat_map}
use Rattle.std.specs.List.{concat}
use Rattle.mc_typed.specs.declared.plans.TestState.{TestState}
use Rattle.mc_meaning.specs.Seen.{Told}
use Rattle.report_words.specs.Words.{state_word}
use Rattle.told_lines.specs.Values.{newline, number_text, value_text}

abbrev pub test_text : List ℕ → TestState → List ℕ
test_text name state = concat (codes "test " ∷ name ∷ codes " " ∷ state_word state ∷ [])

-- the values of the calls that returned, and the numbers of the output
abbrev pub result_text : Told → List ℕ
result_text told =
    concat (codes " values" ∷ flat_map value_text told.values ∷ codes " output"
    ∷ flat_map number_text told.output
    ∷ [])

abbrev pub run_line : List ℕ → TestState → Told → List ℕ
run_line name state told = concat (test_text name state ∷ result_text told ∷ newline ∷ [])
