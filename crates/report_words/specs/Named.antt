-- The state that a word names.
use Rattle.std.specs.Prelude.{ℕ, List, [], ◌∷◌, Option}
use Rattle.std.specs.List.{find}
use Rattle.std.specs.Str.{bytes_eq}
use Rattle.mc_value.specs.declared.trap.Trap.TheVariants.{Overflow, Division, Shift, Index, Unset, NoReturn, InputEnd}
use Rattle.mc_typed.specs.declared.plans.Ending.TheVariants as ending
use Rattle.mc_typed.specs.declared.plans.TestState.{TestState}
use Rattle.mc_typed.specs.declared.plans.TestState.TheVariants.{Pass, Fail, Ended}
use Rattle.report_words.specs.Words.{state_word}

-- the states that have words; a test in which each call returned is `Pass` or `Fail`
abbrev pub states_with_words : List TestState
states_with_words =
    Pass ∷ Fail
    ∷ Ended (ending.Trap Overflow)
    ∷ Ended (ending.Trap Division)
    ∷ Ended (ending.Trap Shift)
    ∷ Ended (ending.Trap Index)
    ∷ Ended (ending.Trap Unset)
    ∷ Ended (ending.Trap NoReturn)
    ∷ Ended (ending.Trap InputEnd)
    ∷ Ended ending.Fuel
    ∷ Ended ending.Levels
    ∷ Ended ending.Cells
    ∷ Ended ending.OutputFull
    ∷ []

-- the first of these states whose word it is
abbrev pub state_among : List TestState → List ℕ → Option TestState
state_among states word = find (λ state. bytes_eq (state_word state) word) states

unfoldable pub state_named : List ℕ → Option TestState
state_named word = state_among states_with_words word
