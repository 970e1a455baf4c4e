-- Cells that hold numbers of their types.
use Rattle.std.specs.Prelude.{◌≡◌, ℕ, ◌+◌, ◌<◌, ◌≤◌, ℤ, List, [], ◌∷◌, length, option_map, slice_get, Option, Some, None}
use Rattle.mc_value.specs.declared.int_type.IntType.{IntType}
use Rattle.mc_value.specs.IntTypes.{InRange}
use Rattle.mc_typed.specs.Layout.{ObjectType, Array, cells, IsPart}
use Rattle.interp_words.specs.Words.{Holds}
use Rattle.mc_interp.specs.declared.values.Passed.{Passed}
use Rattle.mc_interp.specs.declared.values.Passed.TheVariants as passed
use Rattle.mc_interp.specs.declared.values.Lent as code
use Rattle.mc_typed.specs.Tree.{Object}
use Rattle.mc_typed.specs.Tree as typed
use Rattle.mc_typed.specs.Sound.{Scope, AreArguments, IsExpression, IsPlace, IsSlot, IsStructure, Takes, parameters_at, place_type, object_type_at, result_at, structure_type, type_of}
use Rattle.mc_steps.specs.Memories.{Lent}
use Rattle.mc_probe.specs.Flat.{Activation}

-- each cell is unset or holds a number of its type
pub record HasTypes (types : List IntType) (row : List (Option ℤ)) : Type 0 where
  pub room : length row ≡ length types
  pub each : (k : ℕ) (t : IntType) (v : ℤ) → slice_get types k ≡ Some t →
      slice_get row k ≡ Some (Some v) → InRange t v

-- an object of the type stands from a cell on
pub record Stands (types : List IntType) (at : ℕ) (u : ObjectType) : Type 0 where
  pub part : IsPart types at u
  pub within : at + cells u ≤ length types

abbrev pub StandsSome : List IntType → ℕ → Option ObjectType → Type 0
StandsSome types at None = ⊥
StandsSome types at (Some u) = Stands types at u

-- an array that a parameter names
abbrev pub IsLent : List IntType → Option (Lent ℕ) → ObjectType → Type 0
IsLent types None u = ⊥
IsLent types (Some l) u = Stands types l.place (Array l.length u)

-- the cells have the types of what an activation can name
pub record AreTyped (c : Scope) (w : Activation) (types : List IntType) : Type 0 where
  pub statics : (k : ℕ) (o : Object) → slice_get c.statics k ≡ Some o →
      Stands types o.start o.object_type
  pub objects : (k : ℕ) (o : Object) → slice_get c.objects k ≡ Some o →
      Stands types (w.base + o.start) o.object_type
  pub arrays : (k : ℕ) (u : ObjectType) → slice_get c.arrays k ≡ Some u →
      IsLent types (slice_get w.arrays k) u

-- a place of an activation
abbrev pub IsPlaced : Scope → Activation → ℕ → Option ObjectType → Type 0
IsPlaced c w at u = (types : List IntType) → AreTyped c w types → StandsSome types at u

-- ---- calls

-- a call of a function of the program, with arguments for its parameters
abbrev pub IsAnyCall : typed.FunctionCall → Scope → Type 0
IsAnyCall (typed.call f given result span) c =
    (f < length c.functions)
    × AreArguments given (parameters_at (slice_get c.functions f)) c
    × Takes result (result_at (slice_get c.functions f)) c

-- what its function gives, and the place for it
abbrev pub result_in : Scope → typed.FunctionCall → typed.ResultType
result_in c (typed.call f given result span) = result_at (slice_get c.functions f)

abbrev pub into_of : Activation → typed.FunctionCall → Option ℕ
into_of w (typed.call f given result span) = option_map (λ slot. w.base + slot.start) result

-- an argument, whatever parameter it is for
abbrev pub IsSomeArgument : typed.Argument → Scope → Type 0
IsSomeArgument (typed.NumberArgument e) c = IsExpression e c
IsSomeArgument (typed.StructureArgument value copy) c =
    IsStructure value c × IsSlot c.objects copy
    × (structure_type c value ≡ object_type_at c.objects copy.object)
IsSomeArgument (typed.ArrayArgument place n) c = IsPlace place c
IsSomeArgument (typed.AgainArgument array span) c = array < length c.arrays

abbrev pub AreSomeArguments : typed.Arguments → Scope → Type 0
AreSomeArguments typed.no_arguments c = Unit {0}
AreSomeArguments (typed.arguments a rest) c = IsSomeArgument a c × AreSomeArguments rest c

abbrev pub StandsArray : List IntType → code.Lent → Option ObjectType → Type 0
StandsArray types l None = ⊥
StandsArray types l (Some u) = Stands types l.base (Array l.length u)

-- what is passed has the type of its argument
abbrev pub IsPassedFor : Scope → List IntType → Passed → typed.Argument → Type 0
IsPassedFor c types (passed.Number of word) (typed.NumberArgument e) =
    (of ≡ type_of e) × Holds of word
IsPassedFor c types (passed.Structure at) (typed.StructureArgument value copy) =
    StandsSome types at (structure_type c value)
IsPassedFor c types (passed.Array l) (typed.ArrayArgument place n) =
    (l.length ≡ n) × StandsSome types l.base (place_type c place)
IsPassedFor c types (passed.Array l) (typed.AgainArgument array span) =
    StandsArray types l (slice_get c.arrays array)
IsPassedFor c types _ _ = ⊥

abbrev pub ArePassedFor : Scope → List IntType → List Passed → typed.Arguments → Type 0
ArePassedFor c types [] typed.no_arguments = Unit {0}
ArePassedFor c types [] (typed.arguments a rest) = ⊥
ArePassedFor c types (x ∷ xs) typed.no_arguments = ⊥
ArePassedFor c types (x ∷ xs) (typed.arguments a rest) =
    IsPassedFor c types x a × ArePassedFor c types xs rest
