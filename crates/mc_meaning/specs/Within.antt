-- What a part of a program does, and where it runs.
use Rattle.std.specs.Prelude.{ℕ, List, [], ◌∷◌, Option}
use Rattle.mc_typed.specs.declared.expressions.Slot.{Slot}
use Rattle.mc_steps.specs.Runs.{Acts}
use Rattle.mc_steps.specs.Memories.{Lent}
use Rattle.mc_steps.specs.Events.{Event}
use Rattle.mc_steps.specs.Statements.{Given}
use Rattle.mc_steps.specs.Calls.{Passed, Target}
use Rattle.mc_steps.specs.Points.{Points}
use Rattle.mc_meaning.specs.Stores.{Path, Store}

abbrev pub Does : Type 0 → Type 0
Does A = Acts Store Event A

-- where a part of a program runs
pub record Within : Type 0 where
  -- the number of the activation
  pub activation : ℕ
  -- the arrays that its array parameters name
  pub arrays : List (Lent Path)
  -- what a call of a function does, with the object that takes a structure and the arguments
  pub call : ℕ → Option Path → List (Passed Path) → Does (Given Path)
  -- the points and the decisions that stand before this part in the text
  pub points : Points
  pub decisions : ℕ

-- an object of the activation, and one with static storage duration
abbrev pub local : Within → Slot → Path
local w slot = w.activation ∷ slot.object ∷ []

abbrev pub static : Slot → Path
static slot = 0 ∷ slot.object ∷ []

-- Places have no sizes: where a size is asked for, it is 0.
abbrev pub target : Within → Slot → Target Path
target w slot = record { place = local w slot; cells = 0 }
