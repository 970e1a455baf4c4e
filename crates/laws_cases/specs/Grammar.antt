-- What is no expression of a section, and which words are no type.
use Rattle.std.specs.Prelude.{List, [], ◌∷◌}
use Rattle.mc_span.specs.declared.span.Span.{Span}
use Rattle.mc_tree.specs.declared.declarations.specifier_word.SpecifierWord.{SpecifierWord}
use Rattle.mc_tree.specs.declared.declarations.specifier_word.SpecifierWord.TheVariants.{Const, Static}
use Rattle.mc_tree.specs.declared.expressions.assignment_operator.AssignmentOperator.{AssignmentOperator}
use Rattle.mc_tree.specs.Tree.{Expression, Expressions}
use Rattle.mc_tree.specs.Tree as tree
use Rattle.mc_grammar.specs.Counts.{counts}
use Rattle.mc_grammar.specs.Precedence.{Within}
use Rattle.mc_grammar.specs.WordSets.{IsOneType, specifiers_of}

-- an assignment is no conditional expression (C17 6.5.15, 6.5.16)
abbrev pub AssignmentIsNotConditional : Type 0
AssignmentIsNotConditional =
    (operator : AssignmentOperator) (a b : Expression) (span : Span)
    → ¬ Within 15 (tree.Assignment operator a b span)

-- a comma list is no assignment expression (C17 6.5.16, 6.5.17)
abbrev pub ListIsNoAssignment : Type 0
ListIsNoAssignment = (operands : Expressions) (span : Span) → ¬ Within 16 (tree.Comma operands span)

-- these words alone have no type: `const x;` and `static x;` (C17 6.7.2p2)
abbrev HaveNoType : List SpecifierWord → Type 0
HaveNoType words = (span : Span) → ¬ IsOneType (counts (specifiers_of words span))

abbrev pub QualifierIsNoType : Type 0
QualifierIsNoType = HaveNoType (Const ∷ []) × HaveNoType (Static ∷ [])
