-- Effects and initializers as they are run.
use Rattle.std.specs.Prelude.{◌≡◌, ℕ, ◌+◌, ◌≤◌, ℤ, nat_lt, List, [], ◌∷◌, ◌++◌, length, Option, Some, None, option_map}
use Rattle.mc_limits.specs.Limits.{most_run_outputs}
use Rattle.mc_value.specs.declared.int_type.IntType.{IntType}
use Rattle.mc_value.specs.declared.int_type.IntType.TheVariants as the
use Rattle.mc_typed.specs.declared.plans.Ending.TheVariants.{OutputFull}
use Rattle.mc_typed.specs.Layout.{Scalar, cells}
use Rattle.mc_typed.specs.Tree.{Effect, Initializer, Initializers}
use Rattle.mc_typed.specs.Tree as typed
use Rattle.mc_typed.specs.Sound.{Scope, HasOperands, IsExpression, IsPlace, IsStructure, place_type, structure_type, type_of}
use Rattle.mc_steps.specs.Runs.{gives, stops}
use Rattle.mc_steps.specs.Expressions.{both_do, where_true}
use Rattle.mc_steps.specs.Calls.{unset_does}
use Rattle.mc_probe.specs.Tree as probed
use Rattle.mc_probe.specs.Statements.{initialize_where}
use Rattle.mc_probe.specs.Flat.{Activation, Does, flat}
use Rattle.mc_interp.specs.Typed.{AreTyped, IsAnyCall, IsPlaced}

-- an effect, wherever it stands
abbrev pub IsAnyEffect : Effect → Scope → Type 0
IsAnyEffect (typed.Assign target a e span) c =
    IsPlace target c × (place_type c target ≡ Some (Scalar a)) × IsExpression e c × (type_of e ≡ a)
IsAnyEffect (typed.Update target a operator common e span) c =
    IsPlace target c × (place_type c target ≡ Some (Scalar a)) × IsExpression e c
    × HasOperands operator common common (type_of e)
IsAnyEffect (typed.Copy target value n span) c =
    IsPlace target c × IsStructure value c × (place_type c target ≡ structure_type c value)
    × (option_map cells (structure_type c value) ≡ Some n)
IsAnyEffect (typed.NumberEffect e w) c = IsExpression e c
IsAnyEffect (typed.StructureEffect value w) c = IsStructure value c
IsAnyEffect (typed.CallEffect k) c = IsAnyCall k c
IsAnyEffect (typed.Output e span) c = IsExpression e c × (type_of e ≡ the.Int)
IsAnyEffect (typed.ChoiceEffect e a b span) c = IsExpression e c × IsAnyEffect a c × IsAnyEffect b c
IsAnyEffect (typed.Discard a span) c = IsAnyEffect a c

abbrev pub AreAnyEffects : List Effect → Scope → Type 0
AreAnyEffects [] c = Unit {0}
AreAnyEffects (e ∷ es) c = IsAnyEffect e c × AreAnyEffects es c

-- a number goes to the end of the output, after the unit of fuel of the outside function
abbrev pub appends : ℤ → Does (Unit {0})
appends v s =
    where_true (nat_lt (length s.output) most_run_outputs)
    (λ s. gives tt (record s { output = s.output ++ v ∷ [] })) (stops OutputFull) s

-- ---- initializers

-- this number of cells of the row, from a place on
abbrev pub IsBlock : Scope → Activation → ℕ → ℕ → Type 0
IsBlock c w at n = (types : List IntType) → AreTyped c w types → at + n ≤ length types

-- how many cells an initializer sets
abbrev pub width : Initializer → ℕ
width (typed.NumberInitializer e) = 1
width (typed.StructureInitializer value n) = n
width (typed.ListInitializer items n) = n
width (typed.ZeroInitializer e n) = n

-- an initializer of what stands at a place
module _ (c : Scope) (w : Activation) where
  abbrev mutual
    pub Initializes : Initializer → ℕ → Type 0
    Initializes (typed.NumberInitializer e) at =
        IsExpression e c × IsPlaced c w at (Some (Scalar (type_of e)))
    Initializes (typed.StructureInitializer value n) at =
        IsStructure value c × IsPlaced c w at (structure_type c value)
        × (option_map cells (structure_type c value) ≡ Some n)
    Initializes (typed.ListInitializer items n) at = IsBlock c w at n × InitializeAll items at 0 n
    Initializes (typed.ZeroInitializer e n) at = IsBlock c w at n

    -- the items from `offset` on
    pub InitializeAll : Initializers → ℕ → ℕ → ℕ → Type 0
    InitializeAll typed.no_initializers at offset n = offset ≤ n
    InitializeAll (typed.initializers x rest) at offset n =
        Initializes x (at + offset) × InitializeAll rest at (offset + width x) n

  abbrev pub InitializesSome : Option Initializer → ℕ → Type 0
  InitializesSome None at = Unit {0}
  InitializesSome (Some i) at = Initializes i at

-- one object of a declaration
abbrev pub declarator_does : Activation → probed.Declarator → Does (Unit {0})
declarator_does w d s =
    both_do (unset_does flat (w.base + d.slot.start) d.cells)
    (initialize_where w d.value (w.base + d.slot.start)) s
