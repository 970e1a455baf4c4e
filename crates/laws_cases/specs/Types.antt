-- Typed programs: single rows of the tables of their laws, and rows that are wrong.
use Rattle.std.specs.Prelude.{◌≡◌, true, false, List, [], ◌∷◌, length, Contains, Some}
use Rattle.mc_span.specs.declared.span.Span.{Span}
use Rattle.mc_tree.specs.declared.expressions.binary_operator.BinaryOperator.TheVariants as binary
use Rattle.mc_tree.specs.Tree.{BlockItems, Declarator, Name, Specifiers}
use Rattle.mc_tree.specs.Tree as tree
use Rattle.mc_value.specs.declared.int_type.IntType.{IntType}
use Rattle.mc_value.specs.declared.int_type.IntType.TheVariants as the
use Rattle.mc_typed.specs.declared.operators.LogicOperator.TheVariants as logic
use Rattle.mc_typed.specs.Tree.{Expression, Program}
use Rattle.mc_typed.specs.Tree as typed
use Rattle.decide_rules.specs.Nodes.{span_of}
use Rattle.decide_rules.specs.Roots.{Found, IsRoot}
use Rattle.types_rules.specs.Scopes.{Scope}
use Rattle.types_rules.specs.Typing.{typing_of}
use Rattle.types_rules.specs.Values.{Value}
use Rattle.types_rules.specs.Judgement.{judge}
use Rattle.laws_soundness.specs.Plain.{IsNotImplied}
use Rattle.laws_types.specs.Written.{here, there, named, read}
use Rattle.laws_types.specs.Constants.{Have, gets}
use Rattle.laws_types.specs.Conversions.{pairs}
use Rattle.laws_types.specs.Decided.{EachItem}
use Rattle.laws_types.specs.Heights.{deep, levels, low, null}
use Rattle.laws_types.specs.Operators.{Kept}
use Rattle.laws_types.specs.Silence.{IsFree}

-- a name that has a type has no fault
abbrev pub NamesHaveNoFault : Type 0
NamesHaveNoFault =
    (name : Name) (s : Scope) (v : Value) → (judge (tree.Named name) s).value ≡ Some v
    → IsFree v (judge (tree.Named name) s).faults

-- a unit of one function: each root of a decision stands where an expression of its body does
abbrev pub RootsStandInTheBody : Type 0
RootsStandInTheBody =
    (spans : List Span) (words : Specifiers) (d : Declarator) (body : BlockItems) (at : Span)
    (p : Program) (f : Found)
    → EachItem (Contains spans) body → typing_of (tree.Defined words d body at ∷ []) ≡ Some p
    → IsRoot p.functions f → Contains spans (span_of f.node)

-- the pairs of operands are all 144: an `int` and an `unsigned long` are one, in both orders
abbrev pub PairsAreAll : Type 0
PairsAreAll =
    (length pairs ≡ 144)
    × Contains pairs (record { left = the.Int; right = the.ULong })
    × Contains pairs (record { left = the.ULong; right = the.Int })

-- `&&` is not `||` (C17 6.5.13, 6.5.14)
abbrev pub AndIsNotOr : Type 0
AndIsNotOr =
    ¬ Kept (tree.Binary binary.And (named the.Int) (named the.Long) there ∷ [])
    (typed.Logic logic.Or (read the.Int) (read the.Long) there ∷ [])

-- 2147483648 is no `int`, and not unsigned (C17 6.4.4.1p5)
abbrev pub LongConstantIsLong : Type 0
LongConstantIsLong =
    ¬ Have true false 0 (gets 2147483648 the.Int ∷ [])
    × ¬ Have true false 0 (gets 2147483648 the.UInt ∷ [])

-- `if(..){{{;}}}else;` and `if(..);else{{{;}}}` are as high
abbrev pub BranchesAreLevels : Type 0
BranchesAreLevels =
    (levels (typed.IfElse low deep null here here ∷ []) ≡ 6)
    × (levels (typed.IfElse low null deep here here ∷ []) ≡ 6)

-- a conversion that no cast writes is implied
abbrev pub ConversionIsImplied : Type 0
ConversionIsImplied =
    (a : IntType) (e : Expression) (span : Span) → ¬ IsNotImplied (typed.Convert a false e span)
