-- Each unit has places; what is made of expressions that are read is read.
use Rattle.std.proofs.Common.{List, [], ◌∷◌, Option, Some, None, inl}
use Rattle.mc_span.specs.declared.span.Span.{Span}
use Rattle.mc_tree.specs.Tree.{BlockItems, Declaration, Expression, Expressions, ForStart, InitDeclarator, Initializer, Initializers, Item, Statement}
use Rattle.mc_tree.specs.Tree as tree
use Rattle.laws_types.specs.Decided.{Each, EachOf, EachOptional, EachInitial, EachInitials, EachObject, EachDeclared, EachStart, EachStated, EachItem}
use Rattle.laws_cases.specs.TypeTrees.{EachUnitHasPlaces, ExpressionsAreRead}

abbrev Any : Span → Type 0
Any span = Unit {0}

mutual
  each : (e : Expression) → Each Any e
  each (tree.Named name) = tt
  each (tree.Constant v decimal unsigned longs span) = tt
  each (tree.Character v span) = tt
  each (tree.Parenthesized a span) = each a
  each (tree.Call name given span) = (tt, each_of given)
  each (tree.Index a b span) = (tt, each a, each b)
  each (tree.Member a name span) = (tt, each a)
  each (tree.PostfixStep operator a span) = (tt, each a)
  each (tree.PrefixStep operator a span) = (tt, each a)
  each (tree.Unary operator a span) = (tt, each a)
  each (tree.Cast type a span) = (tt, each a)
  each (tree.Binary operator a b span) = (tt, each a, each b)
  each (tree.Conditional a b c span) = (tt, each a, each b, each c)
  each (tree.Assignment operator a b span) = (tt, each a, each b)
  each (tree.Comma operands span) = each_of operands

  each_of : (es : Expressions) → EachOf Any es
  each_of tree.no_expressions = tt
  each_of (tree.expressions a rest) = (each a, each_of rest)

optional : (a : Option Expression) → EachOptional Any a
optional None = tt
optional (Some a) = each a

mutual
  initial : (i : Initializer) → EachInitial Any i
  initial (tree.Single a) = each a
  initial (tree.Braced items span) = initials items

  initials : (is : Initializers) → EachInitials Any is
  initials tree.no_initializers = tt
  initials (tree.initializers i rest) = (initial i, initials rest)

objects : (ds : List InitDeclarator) → EachObject Any ds
objects [] = tt
objects (tree.bare d ∷ rest) = objects rest
objects (tree.initialized d value ∷ rest) = (initial value, objects rest)

declared : (d : Declaration) → EachDeclared Any d
declared (tree.declaration words ds span) = objects ds

start : (s : ForStart) → EachStart Any s
start (tree.StartsLocal d) = declared d
start (tree.StartsExpression a) = optional a

mutual
  stated : (s : Statement) → EachStated Any s
  stated (tree.Compound items span) = block items
  stated (tree.Null span) = tt
  stated (tree.ExpressionStatement a span) = each a
  stated (tree.If a s span) = (each a, stated s)
  stated (tree.IfElse a s u span) = (each a, stated s, stated u)
  stated (tree.Switch a s span) = (each a, stated s)
  stated (tree.While a s span) = (each a, stated s)
  stated (tree.DoWhile s a span) = (stated s, each a)
  stated (tree.For first a b s span) = (start first, optional a, optional b, stated s)
  stated (tree.Case a label s span) = stated s
  stated (tree.Default label s span) = stated s
  stated (tree.Label name s span) = stated s
  stated (tree.Goto name span) = tt
  stated (tree.Break span) = tt
  stated (tree.Continue span) = tt
  stated (tree.Return a span) = optional a

  block : (items : BlockItems) → EachItem Any items
  block tree.no_block_items = tt
  block (tree.local d rest) = (declared d, block rest)
  block (tree.statement s rest) = (stated s, block rest)

pub each_unit_has_places : EachUnitHasPlaces
each_unit_has_places [] = tt
each_unit_has_places (tree.Declared d ∷ rest) = each_unit_has_places rest
each_unit_has_places (tree.Defined words d body span ∷ rest) = (block body, each_unit_has_places rest)

pub expressions_are_read : ExpressionsAreRead
expressions_are_read = (
  tt,
  λ a b c given on_a on_b on_c on_given.
      record {
        named = λ name. tt;
        constant = λ v decimal unsigned longs span. tt;
        character = λ v span. tt;
        parenthesized = λ span. on_a;
        call = λ name span input output. (input, output, on_given);
        element = λ span. (on_a, on_b);
        member = λ name span. on_a;
        after = λ operator span. on_a;
        before = λ operator span. on_a;
        unary = λ operator span. on_a;
        cast = λ word stars at span. (inl tt, on_a);
        binary = λ operator span. (on_a, on_b);
        choice = λ span. (on_a, on_b, on_c);
        assignment = λ operator span. (on_a, on_b);
        list = λ span. tt;
        more = (on_a, on_given);
      },
)
