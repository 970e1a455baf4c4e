-- Which expressions are built as integer constant expressions (C17 6.6p6): of constants, enumerators,
-- casts to integer types and operators, also in operands that are not evaluated.
use Rattle.std.specs.Prelude.{◌≡◌, pos, Bool, true, false, List, [], ◌∷◌, map, codes}
use Rattle.mc_tree.specs.declared.expressions.unary_operator.UnaryOperator.TheVariants as unary
use Rattle.mc_tree.specs.declared.expressions.step_operator.StepOperator.TheVariants as step
use Rattle.mc_tree.specs.declared.expressions.binary_operator.BinaryOperator.{BinaryOperator}
use Rattle.mc_tree.specs.declared.expressions.binary_operator.BinaryOperator.TheVariants as binary
use Rattle.mc_tree.specs.declared.expressions.assignment_operator.AssignmentOperator.TheVariants as assign
use Rattle.mc_tree.specs.declared.declarations.specifier_word.SpecifierWord.{SpecifierWord}
use Rattle.mc_tree.specs.declared.declarations.specifier_word.SpecifierWord.TheVariants as word
use Rattle.mc_tree.specs.Tree.{Expression}
use Rattle.mc_tree.specs.Tree as tree
use Rattle.mc_value.specs.declared.int_type.IntType.TheVariants.{Int}
use Rattle.types_rules.specs.Judgement.{judge}
use Rattle.laws_types.specs.Written.{here, there, named, digit}
use Rattle.laws_types.specs.Places.{around, the, element, member, call}

-- the object n, the enumerator E, and the constants 0 to 3
abbrev pub n : Expression
n = named Int

abbrev pub two : BinaryOperator → Expression → Expression → Expression
two operator e f = tree.Binary operator e f there

abbrev pub choice : Expression → Expression → Expression → Expression
choice e f g = tree.Conditional e f g there

abbrev pub cast : SpecifierWord → Expression → Expression
cast w e = tree.Cast (tree.type_name
    (tree.specifiers (tree.Word w here) tree.no_specifiers) 0 here) e there

-- 1 'a' E (1) -1 !1 1+2 1<2 1||2 1?2:3 (char)1
abbrev pub constants : List Expression
constants =
    digit 1 ∷ tree.Character (pos 97) here ∷ the (codes "E") ∷ tree.Parenthesized (digit 1) there
    ∷ tree.Unary unary.Minus (digit 1) there ∷ tree.Unary unary.Not (digit 1) there
    ∷ two binary.Add (digit 1) (digit 2) ∷ two binary.Less (digit 1) (digit 2)
    ∷ two binary.Or (digit 1) (digit 2) ∷ choice (digit 1) (digit 2) (digit 3)
    ∷ cast word.Char (digit 1) ∷ []

-- n (n) -n !n 1+n n+1 1||n 0&&n n||1 n?2:3 1?2:n 0?n:3 (char)n (void)1 x[1] s.a mcdc_in() n=1 n++
abbrev pub others : List Expression
others =
    n ∷ tree.Parenthesized n there ∷ tree.Unary unary.Minus n there ∷ tree.Unary unary.Not n there
    ∷ two binary.Add (digit 1) n ∷ two binary.Add n (digit 1)
    ∷ two binary.Or (digit 1) n ∷ two binary.And (digit 0) n ∷ two binary.Or n (digit 1)
    ∷ choice n (digit 2) (digit 3) ∷ choice (digit 1) (digit 2) n ∷ choice (digit 0) n (digit 3)
    ∷ cast word.Char n ∷ cast word.Void (digit 1) ∷ element (the (codes "x")) (digit 1)
    ∷ member (the (codes "s")) (codes "a") ∷ call (codes "mcdc_in") []
    ∷ tree.Assignment assign.Assign n (digit 1) there
    ∷ tree.PostfixStep step.Increment n there ∷ []

abbrev pub is_built : Expression → Bool
is_built e = (judge e around).constant

abbrev pub ConstantExpressionsAreTold : Type 0
ConstantExpressionsAreTold =
    (map is_built constants ≡ map (λ e. true) constants)
    × (map is_built others ≡ map (λ e. false) others)
