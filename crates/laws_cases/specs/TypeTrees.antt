-- Relations that the laws on types have as premises: there are trees that meet them.
use Rattle.std.specs.Prelude.{◌≡◌, ℕ, ℤ, Bool, false, List}
use Rattle.mc_span.specs.declared.span.Span.{Span}
use Rattle.mc_tree.specs.declared.expressions.assignment_operator.AssignmentOperator.{AssignmentOperator}
use Rattle.mc_tree.specs.declared.expressions.binary_operator.BinaryOperator.{BinaryOperator}
use Rattle.mc_tree.specs.declared.expressions.step_operator.StepOperator.{StepOperator}
use Rattle.mc_tree.specs.declared.expressions.unary_operator.UnaryOperator.{UnaryOperator}
use Rattle.mc_tree.specs.declared.declarations.specifier_word.SpecifierWord.{SpecifierWord}
use Rattle.mc_tree.specs.Tree.{Expression, Expressions, Item, Name}
use Rattle.mc_tree.specs.Tree as tree
use Rattle.types_rules.specs.Scopes.{is_input, is_output}
use Rattle.laws_types.specs.Decided.{EachInUnit}
use Rattle.laws_types.specs.Silence.{AreRead, IsRead}

-- what holds of every place holds of those of the expressions of each unit
abbrev pub EachUnitHasPlaces : Type 0
EachUnitHasPlaces = (items : List Item) → EachInUnit (λ span. Unit {0}) items

-- A name, a constant and a comma list are read, and so is what is made of expressions that are.
pub record ReadIsClosed (a b c : Expression) (given : Expressions) : Type 0 where
  pub named : (name : Name) → IsRead (tree.Named name)
  pub constant : (v : ℕ) (decimal unsigned : Bool) (longs : ℕ) (span : Span) →
      IsRead (tree.Constant v decimal unsigned longs span)
  pub character : (v : ℤ) (span : Span) → IsRead (tree.Character v span)
  pub parenthesized : (span : Span) → IsRead (tree.Parenthesized a span)
  pub call : (name : Name) (span : Span) → is_input name ≡ false → is_output name ≡ false →
      IsRead (tree.Call name given span)
  pub element : (span : Span) → IsRead (tree.Index a b span)
  pub member : (name : Name) (span : Span) → IsRead (tree.Member a name span)
  pub after : (operator : StepOperator) (span : Span) → IsRead (tree.PostfixStep operator a span)
  pub before : (operator : StepOperator) (span : Span) → IsRead (tree.PrefixStep operator a span)
  pub unary : (operator : UnaryOperator) (span : Span) → IsRead (tree.Unary operator a span)
  pub cast : (word : SpecifierWord) (stars : ℕ) (at span : Span) →
      IsRead (tree.Cast
      (tree.type_name (tree.specifiers (tree.Word word at) tree.no_specifiers) stars at) a span)
  pub binary : (operator : BinaryOperator) (span : Span) → IsRead (tree.Binary operator a b span)
  pub choice : (span : Span) → IsRead (tree.Conditional a b c span)
  pub assignment : (operator : AssignmentOperator) (span : Span) →
      IsRead (tree.Assignment operator a b span)
  pub list : (span : Span) → IsRead (tree.Comma given span)
  pub more : AreRead (tree.expressions a given)

abbrev pub ExpressionsAreRead : Type 0
ExpressionsAreRead =
    AreRead tree.no_expressions
    × ((a b c : Expression) (given : Expressions) → IsRead a → IsRead b → IsRead c → AreRead given
    → ReadIsClosed a b c given)
