-- What a machine is seen as, and the room that it has.
use Rattle.std.specs.Prelude.{◌≡◌, ℕ, ◌+◌, ◌*◌, ◌≤◌, ◌^◌, ℤ, List, [], ◌∷◌, length, map, flat_map, slice_get, Some}
use Rattle.mc_limits.specs.Limits.{most_calls, most_frame_cells, most_inputs, most_levels, most_run_cells, most_run_outputs}
use Rattle.mc_value.specs.declared.int_type.IntType.{IntType}
use Rattle.mc_typed.specs.declared.plans.Ending.{Ending}
use Rattle.mc_typed.specs.Frames.{frame_of}
use Rattle.mc_typed.specs.Sound.{IsSound}
use Rattle.mc_typed.specs.Tree as typed
use Rattle.mc_typed.specs.Views as plain
use Rattle.mc_steps.specs.Tests.{CallDone, TestRun}
use Rattle.mc_steps.specs.Runs.{State}
use Rattle.mc_probe.specs.Flat.{Flat}
use Rattle.mc_probe.specs.Trees.{Instrumented}
use Rattle.mc_stack.specs.Rooms.{Room}
use Rattle.mc_interp.specs.declared.call_done.CallDone as code
use Rattle.mc_interp.specs.declared.store.Store.{Store}
use Rattle.mc_interp.specs.declared.values.Shape.{Shape}
use Rattle.mc_interp.specs.Stores.{state_of}
use Rattle.mc_interp.specs.Typed.{HasTypes, Stands}
use Rattle.mc_interp.specs.Frames.{most_in, shapes_of, taken_of}
use Rattle.mc_interp.specs.Calls.{statics_of}

-- the program, and what the last run left: the calls that returned, the output and the fuel
pub record Machine : Type 0 where
  pub program : Instrumented
  pub done : List CallDone
  pub output : List ℤ
  pub fuel : ℕ

-- a call that returned, as it is kept
abbrev pub done_of : code.CallDone → CallDone
done_of c = record { value = c.value; output_end = c.output_end }

-- before the first run
abbrev pub fresh : Instrumented → Machine
fresh program = record { program = program; done = []; output = []; fuel = 0 }

-- after a run
abbrev pub ran_of : Instrumented → TestRun Flat ℕ → Machine
ran_of program r = record {
  program = program;
  done = r.done;
  output = r.state.output;
  fuel = r.state.fuel;
}

-- The rows have the room that every run uses: the most cells, inputs, outputs and calls, and the
-- registers of as many activations as the most levels allow.
pub record HasRoom (program : Instrumented) (all : List Shape) (m : Store)
    (calls : Room code.CallDone) : Type 0 where
  pub shapes : map taken_of all ≡ shapes_of program
  pub cells : m.cells.limit ≡ most_run_cells
  pub registers : most_levels * most_in program ≤ m.registers.limit
  pub registers_small : m.registers.limit ≤ 2 ^ 42
  pub inputs : m.inputs.limit ≡ most_inputs
  pub output : m.output.limit ≡ most_run_outputs
  pub done : calls.limit ≡ most_calls

-- ---- runs

-- the initial values of the static objects
abbrev pub initial_of : List typed.StaticObject → List ℤ
initial_of statics = flat_map (λ o. o.initial) statics

-- the state in which a test starts
abbrev pub state_at : List typed.StaticObject → List ℤ → ℕ → State Flat
state_at statics inputs fuel = record {
  memory = record { cells = map Some (initial_of statics); registers = [] };
  fuel = fuel;
  inputs = inputs;
  output = [];
}

-- a test takes no structure
abbrev pub GivesNumber : typed.ResultType → Type 0
GivesNumber (typed.StructureResult u) = ⊥
GivesNumber _ = Unit {0}

-- what a call of a test asks for: the rows have their limits, and the static objects stand in them
pub record AreReady (program : Instrumented) (all : List Shape) (m : Store)
    (room : ℕ) : Type 0 where
  pub sound : IsSound (plain.program_of program.program)
  pub shapes : map taken_of all ≡ shapes_of program
  pub limit : m.cells.limit ≡ most_run_cells
  pub small : length m.cells.cells ≤ most_run_cells
  pub registers_fit : length m.registers.items + most_levels * most_in program ≤ m.registers.limit
  pub registers_small : length m.registers.items ≤ 2 ^ 42
  pub registers_limit : m.registers.limit ≤ 2 ^ 42
  pub output : m.output.limit ≡ most_run_outputs
  pub bits : program.bits ≤ room
  pub types : List IntType
  pub statics : (i : ℕ) (o : typed.Object) → slice_get (statics_of program) i ≡ Some o →
      Stands types o.start o.object_type
  pub has : HasTypes types m.cells.cells

-- the run of a test came to this, and its hits led from one value of the probe to another
pub record RanTo {P : Type 0} (leads : List ℕ → P → P → Type 0) (r : TestRun Flat ℕ)
    (result : Ending) (calls : List CallDone) (new : Store) (p q : P) : Type 0 where
  pub ending : result ≡ r.ending
  pub done : calls ≡ r.done
  pub state : state_of new ≡ r.state
  pub led : leads r.events p q

-- no frame has more cells than an activation can have
abbrev pub AreFramed : List typed.Function → Type 0
AreFramed [] = Unit {0}
AreFramed (f ∷ fs) = (frame_of f ≤ most_frame_cells) × AreFramed fs
