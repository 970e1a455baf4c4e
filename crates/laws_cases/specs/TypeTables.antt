-- Tables of worked cases: for each what a wrong row would be, and those that compare two lists as
-- one relation, of which a wrong row is none.
use Rattle.std.specs.Prelude.{◌≡◌, List, [], ◌∷◌, map, Option, Some, option_and_then}
use Rattle.mc_tree.specs.declared.expressions.assignment_operator.AssignmentOperator.TheVariants as assign
use Rattle.mc_tree.specs.declared.expressions.unary_operator.UnaryOperator.TheVariants as unary
use Rattle.mc_tree.specs.declared.declarations.specifier_word.SpecifierWord.TheVariants as word
use Rattle.mc_tree.specs.Tree as tree
use Rattle.mc_value.specs.declared.int_type.IntType.TheVariants as the
use Rattle.mc_value.specs.declared.operators.BinOp.TheVariants as op
use Rattle.mc_value.specs.declared.operators.UnOp.TheVariants.{Minus}
use Rattle.mc_typed.specs.declared.operators.Operator.TheVariants.{Binary}
use Rattle.mc_typed.specs.Tree as typed
use Rattle.types_rules.specs.Types.{Integer}
use Rattle.types_rules.specs.Values.{number_found, effect_in}
use Rattle.types_rules.specs.Judgement.{judge}
use Rattle.types_rules.specs.Bodies.{judge_statement}
use Rattle.types_rules.specs.Statements.{alone, label_type}
use Rattle.laws_types.specs.Written.{here, there, judged, named, object, read, read_as, scope, types}
use Rattle.laws_types.specs.Constants.{Mean}
use Rattle.laws_types.specs.Conversions.{Act, Stand, added_typed, assigned_written, choice_typed, promotion, sum_written}
use Rattle.laws_types.specs.Operators.{AreDone}
use Rattle.laws_types.specs.Places as places
use Rattle.laws_types.specs.Statements as statements
use Rattle.laws_types.specs.WholeEffects as whole

-- ---- wrong rows

-- `long` is no `int` (C17 6.7.2p2)
abbrev pub LongIsNotInt : Type 0
LongIsNotInt = ¬ Mean (Integer the.Int) ((word.Long ∷ []) ∷ [])

-- `i+=l` does not subtract (C17 6.5.16.2)
abbrev pub SumIsNoDifference : Type 0
SumIsNoDifference =
    ¬ AreDone (tree.Assignment assign.Add (named the.Int) (named the.Long) there ∷ [])
    (typed.Update (object the.Int) the.Int (Binary op.Sub) the.Long (read the.Long) there ∷ [])

-- a sum is no `?:`, and `=` is no `+=`
abbrev pub SumIsNoChoice : Type 0
SumIsNoChoice = ¬ Stand sum_written choice_typed

abbrev pub AssignmentIsNoSum : Type 0
AssignmentIsNoSum = ¬ Act assigned_written added_typed

-- ---- tables by one relation

-- each of these has this answer
abbrev pub Give : {A B : Type 0} → (A → Option B) → List A → List B → Type 0
Give f xs ys = map f xs ≡ map Some ys

-- one that has an answer is not a row of another answer
abbrev pub WrongRowIsNone : Type 0
WrongRowIsNone = ¬ Give judged (named the.Int ∷ []) (read the.Long ∷ [])

abbrev pub OneIsPromoted : Type 0
OneIsPromoted =
    Give (λ a. judged (tree.Unary unary.Minus (named a) here)) types
    (map (λ a. typed.Unary Minus (promotion a) (read_as (promotion a) a) here) types)

abbrev pub LabelsArePromoted : Type 0
LabelsArePromoted = Give (λ a. label_type (judge (named a) scope)) types (map promotion types)

abbrev pub NamesAreResolved : Type 0
NamesAreResolved =
    Give (λ e. number_found (judge e places.around)) places.written places.meant

abbrev pub CallsAreResolved : Type 0
CallsAreResolved =
    Give (λ e. option_and_then effect_in (judge e places.around).value) places.effects
    places.meant_effects

abbrev pub StatementsAreKept : Type 0
StatementsAreKept =
    Give (λ s. (judge_statement statements.around s scope).value) statements.written
    (map alone statements.meant)

abbrev pub WholeEffectsUseNoValue : Type 0
WholeEffectsUseNoValue =
    Give (λ s. (judge_statement statements.around s places.around).value) whole.written
    (map alone whole.meant)
