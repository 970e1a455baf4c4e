-- What runs a call.
use Rattle.std.specs.Prelude.{◌≡◌, ℕ, ◌+◌, ◌*◌, ◌≤◌, ◌<◌, ◌^◌, List, [], ◌∷◌, length, map, slice_get, Option, Some, None, option_map, IfSome}
use denote.Ref.{MutBor}
use Rattle.mc_limits.specs.Limits.{most_run_cells, most_run_outputs}
use Rattle.mc_value.specs.declared.int_type.IntType.{IntType}
use Rattle.mc_typed.specs.Layout.{Array, cells}
use Rattle.mc_typed.specs.Tree.{ParameterType, ResultType, Function}
use Rattle.mc_typed.specs.Tree as typed
use Rattle.mc_typed.specs.Sound.{parameters_at, result_at, IsSound}
use Rattle.mc_typed.specs.Views as plain
use Rattle.interp_words.specs.Words.{Holds}
use Rattle.mc_probe.specs.Calls.{calls}
use Rattle.mc_probe.specs.Trees.{Instrumented, tree_of}
use Rattle.mc_interp.specs.declared.store.Store.{Store}
use Rattle.mc_interp.specs.declared.frame.Frame.{Frame}
use Rattle.mc_interp.specs.declared.frame.Called.{Called}
use Rattle.mc_interp.specs.declared.values.Passed.{Passed}
use Rattle.mc_interp.specs.declared.values.Passed.TheVariants as passed
use Rattle.mc_interp.specs.declared.values.Given.{Given}
use Rattle.mc_interp.specs.declared.values.Given.TheVariants as given
use Rattle.mc_interp.specs.Stores.{limits_of, state_of, given_of, passed_of, Did}
use Rattle.mc_interp.specs.Typed.{HasTypes, Stands}
use Rattle.mc_interp.specs.Frames.{most_in, shapes_of, taken_of}

-- an argument is one of its parameter's type
abbrev pub IsPassed : List IntType → Passed → ParameterType → Type 0
IsPassed types (passed.Number of word) (typed.NumberParameter a) = (of ≡ a) × Holds a word
IsPassed types (passed.Structure at) (typed.StructureParameter u) = Stands types at u
IsPassed types (passed.Array l) (typed.ArrayParameter u) = Stands types l.base (Array l.length u)
IsPassed types _ _ = ⊥

abbrev pub ArePassed : List IntType → List Passed → List ParameterType → Type 0
ArePassed types [] [] = Unit {0}
ArePassed types [] (q ∷ parameters) = ⊥
ArePassed types (a ∷ given) [] = ⊥
ArePassed types (a ∷ given) (q ∷ parameters) = IsPassed types a q × ArePassed types given parameters

-- the place for the structure that is returned
abbrev pub IsInto : List IntType → Option ℕ → ResultType → Type 0
IsInto types (Some at) (typed.StructureResult u) = Stands types at u
IsInto types (Some at) _ = ⊥
IsInto types None (typed.StructureResult u) = Unit {0}
IsInto types None _ = Unit {0}

-- what a call gives is of the function's result type
abbrev pub IsResultOf : Option ℕ → ResultType → Given → Type 0
IsResultOf into r given.Nothing = Unit {0}
IsResultOf into (typed.NumberResult a) (given.Number of word) = (of ≡ a) × Holds a word
IsResultOf into (typed.StructureResult u) (given.Structure at n) = (into ≡ Some at) × (n ≡ cells u)
IsResultOf into _ _ = ⊥

abbrev pub callee_of : Called → Option Function
callee_of k = slice_get (plain.program_of k.program.now.program).functions k.function

abbrev pub statics_of : Instrumented → List typed.Object
statics_of i = map (λ s. s.object) (plain.program_of i.program).statics

-- the cells have the types of what the call is given
pub record AreGiven (k : Called) (types : List IntType) : Type 0 where
  pub statics : (i : ℕ) (o : typed.Object) → slice_get (statics_of k.program.now) i ≡ Some o →
      Stands types o.start o.object_type
  pub passed : ArePassed types k.passed.now (parameters_at (callee_of k))
  pub into : IsInto types k.into (result_at (callee_of k))

pub record IsCalled (k : Called) (m : Store) (room : ℕ) : Type 0 where
  pub sound : IsSound (plain.program_of k.program.now.program)
  pub shapes : map taken_of k.shapes.now ≡ shapes_of k.program.now
  pub there : k.function < length k.program.now.program.functions
  pub limit : m.cells.limit ≡ most_run_cells
  pub small : length m.cells.cells ≤ most_run_cells
  pub registers_fit : length m.registers.items + k.depth * most_in k.program.now ≤ m.registers.limit
  pub registers_small : length m.registers.items ≤ 2 ^ 42
  pub registers_limit : m.registers.limit ≤ 2 ^ 42
  pub output : m.output.limit ≡ most_run_outputs
  pub bits : k.program.now.bits ≤ room
  pub types : List IntType
  pub typed : AreGiven k types
  pub has : HasTypes types m.cells.cells

-- a call keeps the cells' types
pub record CallKeeps (k : Called) (old new : Store) : Type 0 where
  pub cells : length new.cells.cells ≡ length old.cells.cells
  pub limit : new.cells.limit ≡ old.cells.limit
  pub registers : length new.registers.items ≡ length old.registers.items
  pub registers_limit : new.registers.limit ≡ old.registers.limit
  pub output : new.output.limit ≡ old.output.limit
  pub fuel : new.fuel ≤ old.fuel
  pub typed : (types : List IntType) → AreGiven k types → HasTypes types old.cells.cells →
      HasTypes types new.cells.cells

abbrev pub CallDid : {P : Type 0} → (List ℕ → P → P → Type 0) → Called → Store →
    Option (Unit {0}) → Store → P → P → Type 0
CallDid leads k old result new p q =
    Did leads
    (calls (tree_of k.program.now) k.depth k.levels k.function k.into (map passed_of k.passed.now)
    (state_of old))
    (option_map (λ _. given_of new.given) result) new p q

-- a function value that runs the calls of an activation
pub record Invokes {P : Type 0} (f : Frame) (bits : P → ℕ) (leads : List ℕ → P → P → Type 0)
    (pre : Called → MutBor Store → MutBor P → Type 0)
    (post : Called → MutBor Store → MutBor P → Option (Unit {0}) → MutBor Store → MutBor P →
    Type 0) : Type 0 where
  pub callable : (k : Called) (m : MutBor Store) (p : MutBor P) → k.depth ≡ f.depth →
      IsCalled k m.now (bits p.now) → pre k m p
  pub does : (k : Called) (m n : MutBor Store) (p q : MutBor P) (r : Option (Unit {0})) →
      post k m p r n q → CallDid leads k m.now r n.now p.now q.now
  pub gives : (k : Called) (m n : MutBor Store) (p q : MutBor P) (r : Option (Unit {0})) →
      post k m p r n q → IfSome r (λ _. IsResultOf k.into (result_at (callee_of k)) n.now.given)
  pub keeps : (k : Called) (m n : MutBor Store) (p q : MutBor P) (r : Option (Unit {0})) →
      post k m p r n q → IfSome r (λ _. CallKeeps k m.now n.now)
  pub same : (k : Called) (m n : MutBor Store) (p q : MutBor P) (r : Option (Unit {0})) →
      post k m p r n q → bits q.now ≡ bits p.now
  pub limits : (k : Called) (m n : MutBor Store) (p q : MutBor P) (r : Option (Unit {0})) →
      post k m p r n q → limits_of n.now ≡ limits_of m.now
