-- An activation as it is kept, and what a part of its run asks for and keeps.
use Rattle.std.specs.Prelude.{◌≡◌, ℕ, ◌+◌, ◌*◌, ◌≤◌, ◌^◌, max, List, [], ◌∷◌, length, map}
use Rattle.mc_limits.specs.Limits.{most_run_cells, most_run_outputs}
use Rattle.mc_value.specs.declared.int_type.IntType.{IntType}
use Rattle.mc_typed.specs.Frames.{frame_of}
use Rattle.mc_typed.specs.Levels.{levels_of, limited}
use Rattle.mc_typed.specs.Sound.{Scope, scope_of, IsFunction, IsSound}
use Rattle.mc_typed.specs.Views as plain
use Rattle.mc_probe.specs.Flat.{Activation}
use Rattle.mc_probe.specs.Calls.{calls}
use Rattle.mc_probe.specs.Trees.{Instrumented, tree_of}
use Rattle.mc_probe.specs.Tree as probed
use Rattle.mc_interp.specs.declared.store.Store.{Store}
use Rattle.mc_interp.specs.declared.frame.Frame.{Frame}
use Rattle.mc_interp.specs.declared.values.Shape.{Shape}
use Rattle.mc_typed.specs.declared.functions.Function as code
use Rattle.mc_interp.specs.Views as prepared
use Rattle.mc_probe.specs.Views as view
use Rattle.mc_interp.specs.Stores.{lent_of}
use Rattle.mc_interp.specs.Typed.{HasTypes, AreTyped}

abbrev pub activation_of : Frame → Activation
activation_of f = record {
  call = λ g into passed s. calls (tree_of f.program.now) f.depth f.levels g into passed s;
  objects = map plain.object_of f.function.now.objects.items;
  base = f.base;
  first = f.first;
  arrays = map lent_of f.arrays.now;
  bits = f.program.now.bits;
}

abbrev pub scope_in : Frame → Scope
scope_in f = scope_of (plain.program_of f.program.now.program) (plain.function_of f.function.now)

-- the most registers that an activation has
abbrev pub most_registers : List probed.Function → ℕ
most_registers [] = 0
most_registers (f ∷ functions) = max f.registers (most_registers functions)

abbrev pub most_in : Instrumented → ℕ
most_in i = most_registers (tree_of i).program.functions

-- what an activation of a function takes, and the body that it runs
pub record Taken : Type 0 where
  pub levels : ℕ
  pub cells : ℕ
  pub body : probed.Statements

abbrev pub taken_of : Shape → Taken
taken_of s = record {
  levels = s.levels;
  cells = s.cells;
  body = view.statements_from (map prepared.statement_of s.body.items);
}

abbrev pub shape_of : code.Function → Taken
shape_of f = record {
  levels = limited (levels_of (plain.function_of f));
  cells = frame_of (plain.function_of f);
  body = (view.function_of f).body;
}

abbrev pub shapes_of : Instrumented → List Taken
shapes_of i = map shape_of i.program.functions

-- The program is sound and has the function. The rows have their limits, the activation's
-- registers are there, those of as many activations as can still begin have room, and each cell
-- holds a number of its type.
pub record IsReady (f : Frame) (m : Store) (room : ℕ) : Type 0 where
  pub sound : IsSound (plain.program_of f.program.now.program)
  pub whole : IsFunction (plain.program_of f.program.now.program)
      (plain.function_of f.function.now)
  pub shapes : map taken_of f.shapes.now ≡ shapes_of f.program.now
  pub limit : m.cells.limit ≡ most_run_cells
  pub small : length m.cells.cells ≤ most_run_cells
  pub registers : f.first + f.function.now.registers ≤ length m.registers.items
  pub registers_small : length m.registers.items ≤ 2 ^ 42
  pub registers_limit : m.registers.limit ≤ 2 ^ 42
  pub registers_fit : length m.registers.items + f.depth * most_in f.program.now ≤ m.registers.limit
  pub output : m.output.limit ≡ most_run_outputs
  pub bits : f.program.now.bits ≤ room
  pub types : List IntType
  pub typed : AreTyped (scope_in f) (activation_of f) types
  pub has : HasTypes types m.cells.cells

-- the rows are as long as before, and the cells keep their types, whatever they are
pub record IsKept (c : Scope) (w : Activation) (old new : Store) : Type 0 where
  pub cells : length new.cells.cells ≡ length old.cells.cells
  pub limit : new.cells.limit ≡ old.cells.limit
  pub registers : length new.registers.items ≡ length old.registers.items
  pub registers_limit : new.registers.limit ≡ old.registers.limit
  pub output : new.output.limit ≡ old.output.limit
  pub fuel : new.fuel ≤ old.fuel
  pub typed : (types : List IntType) → AreTyped c w types → HasTypes types old.cells.cells →
      HasTypes types new.cells.cells
