-- What follows from the definitions: a decision has both outcomes, and each condition has a pair.
use Rattle.std.specs.Prelude.{ℕ, ◌<◌, Bool}
use Rattle.mc_cond.specs.Tree.{Tree, size, IsNumbered}
use Rattle.report_options.specs.declared.mode.Mode.{Mode}
use Rattle.mc_needs.specs.Needs.{Gives, IsPairFor}

-- some vector of an accepted decision has the outcome
abbrev pub OutcomeHasVector : Type 0
OutcomeHasVector =
    (t : Tree) (outcome : Bool) → IsNumbered t → (path : ℕ) × Gives t outcome path

-- In each mode two vectors of an accepted decision are a pair for the condition. It stands once in
-- the tree, so the operands beside it can take the values that let it through.
abbrev pub ConditionHasPair : Type 0
ConditionHasPair =
    (mode : Mode) (t : Tree) (k : ℕ) → IsNumbered t → k < size t →
    (first : ℕ) × (second : ℕ) × IsPairFor mode t k first second
