-- The lines of tests as a reader takes them.
use Rattle.std.specs.Prelude.{ℕ, zero, suc, ◌+◌, List, [], ◌∷◌, ◌++◌, length, codes, Option, Some, None, Result, Ok, Err, if◌then◌else◌}
use Rattle.std.specs.List.{list_any}
use Rattle.std.specs.Str.{bytes_eq}
use Rattle.csv_records.specs.Names.{is_name}
use Rattle.mc_typed.specs.declared.plans.TestState.{TestState}
use Rattle.report_words.specs.Named.{state_named}
use Rattle.mc_record.specs.Parts.{read_on, strip, until, with_part}
use Rattle.mc_record.specs.declared.fault.RecordFault.{RecordFault}
use Rattle.mc_record.specs.declared.fault.RecordFault.TheVariants as fault

-- the tests so far, and what follows them
pub record TestsRead : Type 0 where
  pub names : List (List ℕ)
  pub states : List TestState
  pub rest : List ℕ

-- the name, the state and what follows the line; 32 is a space, and 10 is LF
abbrev pub test_in : List ℕ → Option (List ℕ × TestState × List ℕ)
test_in text =
    with_part (strip (codes "test ") text) (λ line.
    with_part (until 32 line) (λ name.
    with_part (until 10 name.1) (λ word.
    with_part (state_named word.0) (λ state.
    if is_name name.0 then Some (name.0, state, word.1) else None))))

-- the tests with one more, or the fault of its line
abbrev pub with_test : List (List ℕ) → List TestState → Option (List ℕ × TestState × List ℕ)
    → Result TestsRead RecordFault
with_test names states None = Err (fault.Word (5 + length names))
with_test names states (Some (name, state, rest)) =
    if list_any (bytes_eq name) names then Err (fault.NameAgain (5 + length names))
    else Ok (record { names = names ++ name ∷ []; states = states ++ state ∷ []; rest = rest })

-- so many tests more, the lines of the first of which is line 5
abbrev pub tests_in : List (List ℕ) → List TestState → ℕ → List ℕ → Result TestsRead RecordFault
tests_in names states zero text = Ok (record { names = names; states = states; rest = text })
tests_in names states (suc n) text =
    read_on (with_test names states (test_in text)) (λ t. tests_in t.names t.states n t.rest)
