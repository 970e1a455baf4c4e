-- What follows from the definitions of words.
use Rattle.std.specs.Prelude.{◌≡◌, ◌≢◌, ℕ, List, Some}
use Rattle.mc_typed.specs.declared.plans.Ending.TheVariants.{Returned}
use Rattle.mc_typed.specs.declared.plans.TestState.{TestState}
use Rattle.mc_typed.specs.declared.plans.TestState.TheVariants.{Ended}
use Rattle.report_words.specs.Words.{state_word}
use Rattle.report_words.specs.Named.{state_named}

-- a state other than that each call returned is named by its word
abbrev pub WordsNameStates : Type 0
WordsNameStates =
    (state : TestState) → state ≢ Ended Returned → state_named (state_word state) ≡ Some state

-- a word names no state but one whose word it is, and never that each call returned
abbrev pub NamedStatesHaveWords : Type 0
NamedStatesHaveWords =
    (word : List ℕ) (state : TestState) → state_named word ≡ Some state →
    (state_word state ≡ word) × (state ≢ Ended Returned)
