-- The entry of a call and its end.
use Rattle.std.specs.Prelude.{◌≡◌, ℕ, ◌+◌, ◌≤◌, List, [], ◌∷◌, ◌++◌, length, map, replicate, slice_get, Option, Some, None}
use Rattle.mc_limits.specs.Limits.{most_levels, most_run_cells}
use Rattle.mc_value.specs.declared.int_type.IntType.{IntType}
use Rattle.mc_typed.specs.declared.objects.Object as code_object
use Rattle.mc_typed.specs.declared.plans.Ending.TheVariants as ending
use Rattle.mc_typed.specs.Layout.{ObjectType, cells}
use Rattle.mc_typed.specs.Tree.{Object, ParameterType, ResultType, StructureResult}
use Rattle.mc_typed.specs.Sound.{result_at, values_of}
use Rattle.mc_typed.specs.Views as plain
use Rattle.mc_cells.specs.Rows.{with_cells}
use Rattle.mc_steps.specs.Runs.{State, after, changes, gives, spends}
use Rattle.mc_steps.specs.Statements as steps
use Rattle.mc_steps.specs.Calls.{leaves, where_left, with_room, passed_to, Passed, Target}
use Rattle.mc_probe.specs.Calls.{calls, left}
use Rattle.mc_probe.specs.Flat.{Activation, Does, Flat, flat, hits_some}
use Rattle.mc_probe.specs.Statements.{run_from}
use Rattle.mc_probe.specs.Tree as probed
use Rattle.mc_probe.specs.Trees.{tree_of}
use Rattle.mc_probe.specs.Views as view
use Rattle.mc_probe.specs.WellFormed.{FitStatements}
use Rattle.mc_interp.specs.declared.frame.Called.{Called}
use Rattle.mc_interp.specs.declared.frame.Frame.{Frame}
use Rattle.mc_interp.specs.declared.store.Store.{Store}
use Rattle.mc_interp.specs.declared.values.Given.{Given}
use Rattle.mc_interp.specs.declared.values.Given.TheVariants as given
use Rattle.mc_interp.specs.declared.values.Passed as code_passed
use Rattle.mc_interp.specs.declared.values.Passed.TheVariants as passed
use Rattle.mc_interp.specs.Stores.{limits_of, passed_of, state_of}
use Rattle.mc_interp.specs.Typed.{AreTyped, HasTypes, Stands}
use Rattle.mc_interp.specs.Frames.{activation_of, scope_in, IsReady}
use Rattle.mc_interp.specs.Calls.{callee_of, ArePassed, CallKeeps, IsInto, IsResultOf}
use Rattle.mc_interp.specs.Bodies.{body_of}

-- ---- the entry

-- with this number of cells more, all unset
abbrev pub grown : ℕ → State Flat → State Flat
grown n s = record s {
  memory = record {
    cells = s.memory.cells ++ replicate n None;
    registers = s.memory.registers;
  };
}

-- a unit, the levels and then the cells of all open activations with this one, and then its cells
abbrev pub enters : ℕ → ℕ → Does ℕ
enters levels n s =
    spends (with_room levels most_levels ending.Levels (λ s.
    with_room (length s.memory.cells + n) most_run_cells ending.Cells (λ s.
    gives (length s.memory.cells) (grown n s)) s)) s

-- the cells of the frame are there
pub record HasEntered (at n : ℕ) (old new : Store) : Type 0 where
  pub base : at ≡ length old.cells.cells
  pub cells : new.cells ≡ with_cells old.cells (old.cells.cells ++ replicate n None)
  pub room : length old.cells.cells + n ≤ most_run_cells
  pub registers : new.registers ≡ old.registers
  pub output : new.output ≡ old.output
  pub fuel : new.fuel ≤ old.fuel

-- ---- arguments

-- objects of these types stand here, each at its place in the frame
abbrev pub StandAll : List IntType → ℕ → List ObjectType → List Object → Type 0
StandAll types base [] os = Unit {0}
StandAll types base (u ∷ us) [] = ⊥
StandAll types base (u ∷ us) (o ∷ os) =
    (o.cells ≡ cells u) × Stands types (base + o.start) u × StandAll types base us os

-- what one argument does to the objects of the parameters, and the objects that are left
abbrev pub passed_one : List (Target ℕ) → Passed ℕ → Flat → Flat
passed_one targets x memory = passed_to flat targets (x ∷ []) memory

abbrev pub left_after : code_passed.Passed → List code_object.Object → List code_object.Object
left_after (passed.Number of word) [] = []
left_after (passed.Number of word) (o ∷ os) = os
left_after (passed.Structure at) [] = []
left_after (passed.Structure at) (o ∷ os) = os
left_after (passed.Array l) os = os

-- what is passed has the types of the parameters, and their objects stand in the row
pub record IsPassing (arguments : List code_passed.Passed) (objects : List code_object.Object)
    (base : ℕ) (m : Store) : Type 0 where
  pub types : List IntType
  pub parameters : List ParameterType
  pub typed : ArePassed types arguments parameters
  pub stand : StandAll types base (values_of parameters) (map plain.object_of objects)
  pub room : length m.cells.cells ≡ length types
  pub small : length m.cells.cells ≤ most_run_cells

-- ---- the end

-- a structure that is returned is handed on to the temporary object of the call
abbrev pub handed : Option ℕ → steps.Given ℕ → Does (steps.Given ℕ)
handed (Some q) (steps.Structure p n) s =
    after (changes (flat.copy p q n) s) (λ _ s. gives (steps.Structure q n) s)
handed None (steps.Structure p n) s = gives steps.Nothing s
handed into steps.Nothing s = gives steps.Nothing s
handed into (steps.Number v) s = gives (steps.Number v) s

-- what the call gives then
abbrev pub handed_on : Given → Option ℕ → Given
handed_on given.Nothing into = given.Nothing
handed_on (given.Number of word) into = given.Number of word
handed_on (given.Structure at n) None = given.Nothing
handed_on (given.Structure at n) (Some to) = given.Structure to n

-- what a `return` gave can be copied there
abbrev pub CanHandOn : Given → Option ℕ → ℕ → Type 0
CanHandOn given.Nothing into room = Unit {0}
CanHandOn (given.Number of word) into room = Unit {0}
CanHandOn (given.Structure at n) None room = Unit {0}
CanHandOn (given.Structure at n) (Some to) room = (at + n ≤ room) × (to + n ≤ room)

-- both places have its type
abbrev pub IsHandedOn : List IntType → Given → Option ℕ → Type 0
IsHandedOn types given.Nothing into = Unit {0}
IsHandedOn types (given.Number of word) into = Unit {0}
IsHandedOn types (given.Structure at n) None = Unit {0}
IsHandedOn types (given.Structure at n) (Some to) =
    (u : ObjectType) × (n ≡ cells u) × Stands types at u × Stands types to u

-- there is room for the structure that is returned
abbrev pub IntoRoom : ℕ → Option ℕ → ResultType → Type 0
IntoRoom room (Some at) (StructureResult u) = at + cells u ≤ room
IntoRoom room (Some at) _ = ⊥
IntoRoom room None r = Unit {0}

-- The rows are those from before the call, and their cells keep their types: `more` are the types
-- of the frame's cells.
pub record HasLeft (f : Frame) (into : Option ℕ) (old new : Store) : Type 0 where
  pub cells : length new.cells.cells ≡ f.base
  pub registers : length new.registers.items ≡ f.first
  pub fuel : new.fuel ≤ old.fuel
  pub typed : (types more : List IntType) → length types ≡ f.base →
      AreTyped (scope_in f) (activation_of f) (types ++ more) →
      IsInto (types ++ more) into (scope_in f).result →
      HasTypes (types ++ more) old.cells.cells → HasTypes types new.cells.cells

-- a body after its entry
abbrev pub inside_of : Activation → probed.Function → Option ℕ → Does (steps.Given ℕ)
inside_of w f into s =
    after (run_from w f.body steps.Running s) (λ flow s.
    after (where_left flow (hits_some w f.exit) s) (leaves flat into (left w.base w.first)))

-- The activation F of a call has begun, and its parameters have their values: the call is its body
-- from here on, and what the body leaves is what the call keeps.
pub record IsOpened (k : Called) (F : Frame) (old full : Store) : Type 0 where
  pub ready : IsReady F full F.program.now.bits
  pub fits : FitStatements F.function.now.registers (view.function_of F.function.now).body
  pub into : IntoRoom (length full.cells.cells) k.into (scope_in F).result
  pub base : F.base ≤ length full.cells.cells
  pub program : F.program.now ≡ k.program.now
  pub function : slice_get k.program.now.program.functions k.function ≡ Some F.function.now
  pub depth : F.depth + 1 ≡ k.depth
  pub ran : calls (tree_of k.program.now) k.depth k.levels k.function k.into
      (map passed_of k.passed.now) (state_of old)
      ≡ body_of (activation_of F) (view.function_of F.function.now) k.into (state_of full)
  pub keeps : (new : Store) → HasLeft F k.into full new → limits_of new ≡ limits_of full →
      CallKeeps k old new
  pub gives : (v : Given) → IsResultOf k.into (scope_in F).result v →
      IsResultOf k.into (result_at (callee_of k)) v
