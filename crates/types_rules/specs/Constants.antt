-- Integer constants and integer constant expressions (C17 6.4.4, 6.6).
use Rattle.std.specs.Prelude.{ℕ, zero, suc, ℤ, pos, Bool, true, false, not, ◌||◌, if◌then◌else◌, List, [], ◌∷◌, is_none, Option, Some, None, option_and_then}
use Rattle.mc_value.specs.declared.int_type.IntType.{IntType}
use Rattle.mc_value.specs.declared.int_type.IntType.TheVariants as the
use Rattle.mc_value.specs.IntTypes.{in_range}
use Rattle.mc_value.specs.Conversions.{is_zero}
use Rattle.mc_typed.specs.Constants.{constant_value}
use Rattle.mc_typed.specs.Tree as typed
use Rattle.types_faults.specs.declared.fault.Fault.{Fault}
use Rattle.types_faults.specs.declared.fault.FaultKind.TheVariants.{NotConstant}
use Rattle.types_faults.specs.Faults.{fault_if}
use Rattle.types_rules.specs.Values.{Found, number_found}

-- ---- types of constants

-- by decimal or not, `u` or not, and the number of `l`, the first one first (C17 6.4.4.1p5)
abbrev pub types_of_constant : Bool → Bool → ℕ → List IntType
types_of_constant true false zero = the.Int ∷ the.Long ∷ the.LLong ∷ []
types_of_constant false false zero =
    the.Int ∷ the.UInt ∷ the.Long ∷ the.ULong ∷ the.LLong ∷ the.ULLong ∷ []
types_of_constant _ true zero = the.UInt ∷ the.ULong ∷ the.ULLong ∷ []
types_of_constant true false (suc zero) = the.Long ∷ the.LLong ∷ []
types_of_constant false false (suc zero) = the.Long ∷ the.ULong ∷ the.LLong ∷ the.ULLong ∷ []
types_of_constant _ true (suc zero) = the.ULong ∷ the.ULLong ∷ []
types_of_constant true false (suc (suc n)) = the.LLong ∷ []
types_of_constant false false (suc (suc n)) = the.LLong ∷ the.ULLong ∷ []
types_of_constant _ true (suc (suc n)) = the.ULLong ∷ []

-- the first that holds the value
abbrev pub first_holding : ℤ → List IntType → Option IntType
first_holding v [] = None
first_holding v (a ∷ rest) = if in_range a v then Some a else first_holding v rest

abbrev pub type_of_constant : ℕ → Bool → Bool → ℕ → Option IntType
type_of_constant v decimal unsigned longs =
    first_holding (pos v) (types_of_constant decimal unsigned longs)

-- ---- values

-- the value of an integer constant expression
abbrev pub value_of_constant : Bool → Option typed.Expression → Option ℤ
value_of_constant constant e = if constant then option_and_then constant_value e else None

abbrev pub constant_found : Found → Option ℤ
constant_found x = value_of_constant x.constant (number_found x)

abbrev pub traps : Option typed.Expression → Bool
traps None = false
traps (Some e) = is_none (constant_value e)

-- it is surely built as none, or its value traps
abbrev pub constant_faults : ℕ → Bool → Option typed.Expression → List Fault
constant_faults at constant e = fault_if (not constant || traps e) NotConstant at

abbrev pub is_zero_constant : Option ℤ → Bool
is_zero_constant None = false
is_zero_constant (Some v) = is_zero v
