-- What an activation of a function has in common with that of its instrumented function.
use Rattle.std.specs.Prelude.{◌≡◌, ℕ, ◌+◌, ◌<◌, ℤ, List, [], ◌∷◌, length, slice_get, Option, Some, None}
use Rattle.mc_typed.specs.Layout.{ObjectType, Array, Members, cells, Leads}
use Rattle.mc_typed.specs.Tree.{ParameterType, NumberParameter, StructureParameter, ArrayParameter, ResultType, NumberResult, StructureResult, Object}
use Rattle.mc_typed.specs.Sound.{Scope, parameters_at, result_at, structure_result}
use Rattle.mc_steps.specs.Memories.{Lent}
use Rattle.mc_steps.specs.Events.{Event}
use Rattle.mc_steps.specs.Statements.{Given, Nothing, Number, Structure}
use Rattle.mc_steps.specs.Calls.{Passed, PassedNumber, PassedStructure, PassedArray}
use Rattle.mc_meaning.specs.Stores.{Path}
use Rattle.mc_meaning.specs.Within.{Does}
use Rattle.mc_probe.specs.Flat.{Callee, Activation}
use Rattle.laws_simulation.specs.Related.{whole, Suits}
use Rattle.laws_simulation.specs.Follows as follows

-- what a call of a function does, with the place for a structure and the arguments
abbrev pub PlainCallee : Type 0
PlainCallee = ℕ → Option Path → List (Passed Path) → Does (Given Path)

-- a number that a function gives, by what its result type has as values
abbrev pub SuitsResult : ResultType → ℤ → Type 0
SuitsResult (NumberResult a) v = Suits a v
SuitsResult _ v = Unit {0}

-- in one of the objects
abbrev pub IsInside : Path → Type 0
IsInside [] = ⊥
IsInside (i ∷ p) = Unit {0}

module _ (ms : Members) where
  -- the place is that of an object of this type, which begins at this cell
  abbrev pub At : ObjectType → Path → ℕ → Type 0
  At u p n = IsInside p × Leads (whole ms) p u n

  -- two arrays with elements of this type that were lent
  pub record AreLent (u : ObjectType) (x : Lent Path) (y : Lent ℕ) : Type 0 where
    pub length : y.length ≡ x.length
    pub place : At (Array x.length u) x.place y.place

  -- an argument for a parameter of this type
  abbrev pub IsPassed : ParameterType → Passed Path → Passed ℕ → Type 0
  IsPassed (NumberParameter a) (PassedNumber v) (PassedNumber w) = (v ≡ w) × Suits a v
  IsPassed (StructureParameter u) (PassedStructure p) (PassedStructure n) = At u p n
  IsPassed (ArrayParameter u) (PassedArray x) (PassedArray y) = AreLent u x y
  IsPassed _ _ _ = ⊥

  abbrev pub ArePassed : List ParameterType → List (Passed Path) → List (Passed ℕ) → Type 0
  ArePassed [] [] [] = Unit {0}
  ArePassed (p ∷ ps) (x ∷ xs) (y ∷ ys) = IsPassed p x y × ArePassed ps xs ys
  ArePassed _ _ _ = ⊥

  -- the object for a structure that a function returns
  abbrev pub IsInto : ResultType → Option Path → Option ℕ → Type 0
  IsInto (StructureResult u) (Some p) (Some n) = At u p n
  IsInto (StructureResult u) _ _ = ⊥
  IsInto _ None None = Unit {0}
  IsInto _ _ _ = ⊥

  -- what a function gives
  abbrev pub IsGiven : ResultType → Given Path → Given ℕ → Type 0
  IsGiven r Nothing Nothing = Unit {0}
  IsGiven r (Number v) (Number w) = (v ≡ w) × SuitsResult r v
  IsGiven r (Structure p k) (Structure n l) =
      (u : ObjectType) × (structure_result r ≡ Some u) × At u p n × (k ≡ cells u) × (l ≡ cells u)
  IsGiven _ _ _ = ⊥

  module _ (rooms : ℕ) (image : Event → List ℕ) (c : Scope) where
    -- calls of one function with arguments that are alike, which keep the registers
    abbrev pub CallsFollow : PlainCallee → Callee → Type 0
    CallsFollow plain run =
        (f : ℕ) → f < length c.functions →
        (into : Option Path) (at : Option ℕ) →
        IsInto (result_at (slice_get c.functions f)) into at →
        (xs : List (Passed Path)) (ys : List (Passed ℕ)) →
        ArePassed (parameters_at (slice_get c.functions f)) xs ys →
        follows.Does ms rooms image follows.Each (IsGiven (result_at (slice_get c.functions f)))
        (plain f into xs) (run f at ys)

    pub record Agrees (activation : ℕ) (arrays : List (Lent Path)) (call : PlainCallee)
        (v : Activation) : Type 0 where
      pub local : (k : ℕ) (o : Object) → slice_get c.objects k ≡ Some o →
          At o.object_type (activation ∷ k ∷ []) (v.base + o.start)
      pub sizes : (k : ℕ) (o : Object) → slice_get c.objects k ≡ Some o →
          o.cells ≡ cells o.object_type
      pub static : (k : ℕ) (o : Object) → slice_get c.statics k ≡ Some o →
          At o.object_type (0 ∷ k ∷ []) o.start
      pub objects : v.objects ≡ c.objects
      pub lent : (k : ℕ) (u : ObjectType) → slice_get c.arrays k ≡ Some u →
          (x : Lent Path) × (y : Lent ℕ) × (slice_get arrays k ≡ Some x)
          × (slice_get v.arrays k ≡ Some y) × AreLent u x y
      pub calls : CallsFollow call v.call
