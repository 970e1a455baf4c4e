-- The state of a run as it is kept, and what a part of a run did to it.
use Rattle.std.specs.Prelude.{◌≡◌, ℕ, List, [], ◌∷◌, drop, Option, Some, None}
use Rattle.mc_steps.specs.Runs.{State, Out, Gave, Stopped, Run}
use Rattle.mc_steps.specs.Statements.{Given}
use Rattle.mc_steps.specs.Statements as give
use Rattle.mc_steps.specs.Memories.{Lent}
use Rattle.mc_steps.specs.Calls.{Passed, PassedNumber, PassedStructure, PassedArray}
use Rattle.mc_value.specs.declared.int_type.IntType.{IntType}
use Rattle.interp_words.specs.Words.{number_of, Holds}
use Rattle.mc_probe.specs.Flat.{Flat}
use Rattle.mc_interp.specs.declared.store.Store.{Store}
use Rattle.mc_interp.specs.declared.values.Lent as code_lent
use Rattle.mc_interp.specs.declared.values.Given as code_given
use Rattle.mc_interp.specs.declared.values.Given.TheVariants as given
use Rattle.mc_interp.specs.declared.values.Passed as code_passed
use Rattle.mc_interp.specs.declared.values.Passed.TheVariants as passed

abbrev pub state_of : Store → State Flat
state_of m = record {
  memory = record { cells = m.cells.cells; registers = m.registers.items };
  fuel = m.fuel;
  inputs = drop m.next m.inputs.items;
  output = m.output.items;
}

-- where a part gave nothing the run stopped, and how it ended is kept
abbrev pub out_of : {A : Type 0} → Option A → Store → Out Flat A
out_of None m = Stopped m.ending (state_of m)
out_of (Some a) m = Gave a (state_of m)

-- a part that hit nothing
abbrev pub told : {A : Type 0} → Option A → Store → Run Flat ℕ A
told result m = record { out = out_of result m; events = [] }

-- a part of a run had this result and led to this state, and its hits led from one value of the
-- probe to another
pub record Did {A P : Type 0} (leads : List ℕ → P → P → Type 0) (r : Run Flat ℕ A)
    (result : Option A) (new : Store) (p q : P) : Type 0 where
  pub ran : r.out ≡ out_of result new
  pub led : leads r.events p q

-- how many values each row can have
unfoldable pub limits_of : Store → List ℕ
limits_of m = m.cells.limit ∷ m.registers.limit ∷ m.inputs.limit ∷ m.output.limit ∷ []

-- ---- values that are kept

abbrev pub lent_of : code_lent.Lent → Lent ℕ
lent_of l = record { place = l.base; length = l.length }

abbrev pub given_of : code_given.Given → Given ℕ
given_of given.Nothing = give.Nothing
given_of (given.Number of word) = give.Number (number_of of word)
given_of (given.Structure at cells) = give.Structure at cells

abbrev pub passed_of : code_passed.Passed → Passed ℕ
passed_of (passed.Number of word) = PassedNumber (number_of of word)
passed_of (passed.Structure at) = PassedStructure at
passed_of (passed.Array l) = PassedArray (lent_of l)

-- where a call gives a number it is one of this type
abbrev pub IsNumber : IntType → code_given.Given → Type 0
IsNumber t given.Nothing = Unit {0}
IsNumber t (given.Number of word) = (of ≡ t) × Holds t word
IsNumber t (given.Structure at cells) = Unit {0}

-- where a call gives a structure it stands here
abbrev pub IsStructureAt : ℕ → code_given.Given → Type 0
IsStructureAt at given.Nothing = ⊥
IsStructureAt at (given.Number of word) = ⊥
IsStructureAt at (given.Structure k cells) = at ≡ k
