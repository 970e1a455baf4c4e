-- Worked texts: a function with all its probes, and probes where none can stand. A place is given
-- by the bytes of the text.
use Rattle.std.specs.Prelude.{◌≡◌, ℕ, ◌+◌, true, false, List, [], ◌∷◌, Option, Some, None, codes}
use Rattle.mc_span.specs.declared.span.Span.{Span}
use Rattle.mc_tree.specs.declared.expressions.assignment_operator.AssignmentOperator.TheVariants.{
  Assign,
}
use Rattle.mc_tree.specs.declared.expressions.binary_operator.BinaryOperator.TheVariants as binary
use Rattle.mc_tree.specs.declared.declarations.specifier_word.SpecifierWord.TheVariants as word
use Rattle.mc_tree.specs.Tree.{BlockItems, Declaration, Expression, Item, Name, Specifiers}
use Rattle.mc_tree.specs.Tree.{Statement}
use Rattle.mc_tree.specs.Tree as tree
use Rattle.reread_pieces.specs.declared.piece.What.{What}
use Rattle.reread_pieces.specs.declared.piece.What.TheVariants as what
use Rattle.reread_pieces.specs.declared.placed.Placed.{Placed}
use Rattle.reread_pieces.specs.Pieces.{Mark, ArePieces}
use Rattle.reread_pieces.specs.Worked.{spread, function}
use Rattle.reread_probes.specs.declared.probe.Probe.{Probe}
use Rattle.reread_probes.specs.Walks.{start, answer}
use Rattle.reread_probes.specs.Statements.{walk_statement, placements}

abbrev pub span : ℕ → ℕ → Span
span from to = record { start = from; end = to }

-- the names and constants of these texts are single bytes
abbrev pub name : List ℕ → ℕ → Name
name text at = record { text = text; span = span at (at + 1) }

abbrev pub named : List ℕ → ℕ → Expression
named text at = tree.Named (name text at)

abbrev pub one : ℕ → Expression
one at = tree.Constant 1 true false 0 (span at (at + 1))

-- `a=1`
abbrev pub assigned : ℕ → Expression
assigned at = tree.Assignment Assign (named (codes "a") at) (one (at + 2))
    (span at (at + 3))

-- `a=1;`
abbrev pub assignment : ℕ → Statement
assignment at = tree.ExpressionStatement (assigned at) (span at (at + 4))

abbrev pub int_at : ℕ → Specifiers
int_at at = tree.specifiers (tree.Word word.Int (span at (at + 3))) tree.no_specifiers

abbrev pub probe : What → ℕ → ℕ → ℕ → Probe
probe row at last next = record { what = row; word = at; last = last; next = next }

abbrev pub put : What → ℕ → ℕ → ℕ → Placed
put row at from to = record { what = row; word = at; span = span from to }

-- what a walk over a statement with these probes gives
abbrev pub of_statement : List Probe → Statement → Option (List Placed)
of_statement ps s = answer (walk_statement s (start ps))

-- ---- `int f ( int a , int b ) { return a && b ; }` with its probes, a blank after each token

-- the parentheses of a probe, which start and end where what they enclose does
abbrev pub operand : Expression → ℕ → ℕ → Expression
operand a from to = tree.Parenthesized a (span from to)

abbrev pub both : Expression
both =
    tree.Binary binary.And (operand (named (codes "a") 135) 135 136)
    (operand (named (codes "b") 163) 163 164) (span 135 164)

abbrev pub parameter_at : List ℕ → ℕ → tree.Parameter
parameter_at text at =
    tree.parameter (int_at at) 0 (Some (name text (at + 4))) tree.no_lengths (span at (at + 5))

abbrev pub function_tree : List Item
function_tree =
    tree.Defined (int_at 0)
    (tree.function 0 (name (codes "f") 4)
    (tree.Listed
    (tree.parameters (parameter_at (codes "a") 8)
    (tree.parameters (parameter_at (codes "b") 16) tree.no_parameters)) (span 6 23)) (span 4 23))
    (tree.statement
    (tree.Compound
    (tree.statement (tree.Return (Some (operand both 135 164)) (span 82 170)) tree.no_block_items)
    (span 82 170)) tree.no_block_items) (span 0 207)
    ∷ []

-- Its probes stand at the function's name, the statement, the decision and its conditions.
abbrev pub TheFunction : Type 0
TheFunction =
    (ms : List Mark) × ArePieces (spread 0 function) ms
    × (placements ms function_tree
    ≡ Some
    (put (what.Registers 1) 26 4 5 ∷ put (what.Entry 0) 50 4 5 ∷ put (what.Statement 2) 67 82 170
    ∷ put (what.Decision 0 3) 97 135 164 ∷ put (what.Condition 0 0 2) 114 135 136
    ∷ put (what.Condition 0 0 1) 142 163 164 ∷ put (what.ValueEnd 1) 171 82 170 ∷ []))

-- ---- `a?a:MCDC_L(0,1);a;` has a label's probe after a `:` that ends no label

abbrev pub choice : Statement
choice =
    tree.ExpressionStatement
    (tree.Conditional (named (codes "a") 0) (named (codes "a") 2) (named (codes "a") 16)
    (span 0 17)) (span 0 18)

abbrev pub TheChoice : Type 0
TheChoice = of_statement (probe (what.Label 0 1) 4 4 16 ∷ []) choice ≡ None

-- ---- `{MCDC_H(1);a=1;}` is a counted statement, `{MCDC_H(1);a=1;a=1;}` is not

abbrev pub first : List Probe
first = probe (what.Statement 1) 1 0 11 ∷ []

abbrev pub single : Statement
single = tree.Compound (tree.statement (assignment 11) tree.no_block_items) (span 11 15)

abbrev pub two : Statement
two =
    tree.Compound
    (tree.statement (assignment 11) (tree.statement (assignment 15) tree.no_block_items))
    (span 11 19)

abbrev pub TheBraces : Type 0
TheBraces =
    (of_statement first single ≡ Some (put (what.Statement 1) 1 11 15 ∷ []))
    × (of_statement first two ≡ None)

-- ---- `MCDC_W(0,a=1);` has an assignment as its operand, `MCDC_D(0,0,a=1);` can not

abbrev pub enclosed : ℕ → Statement
enclosed at =
    tree.ExpressionStatement (operand (assigned at) at (at + 3)) (span at (at + 5))

abbrev pub TheOperand : Type 0
TheOperand =
    (of_statement (probe (what.Switch 0) 0 0 9 ∷ []) (enclosed 9)
    ≡ Some (put (what.Switch 0) 0 9 12 ∷ []))
    × (of_statement (probe (what.Decision 0 0) 0 0 11 ∷ []) (enclosed 11) ≡ None)

-- ---- `(a);`: a parenthesis of the source takes no probe

abbrev pub TheParentheses : Type 0
TheParentheses =
    of_statement []
    (tree.ExpressionStatement (tree.Parenthesized (named (codes "a") 1) (span 0 3)) (span 0 4))
    ≡ Some []

-- ---- `{MCDC_H(1);int a=1;}` counts its declaration, `for(MCDC_H(1);int a=1;;);` does not

abbrev pub declared : ℕ → Declaration
declared at =
    tree.declaration (int_at at)
    (tree.initialized (tree.object 0 (name (codes "a") (at + 4)) tree.no_lengths
    (span (at + 4) (at + 5))) (tree.Single (one (at + 6))) ∷ []) (span at (at + 8))

abbrev pub block : Statement
block = tree.Compound (tree.local (declared 11) tree.no_block_items) (span 0 20)

abbrev pub loop : Statement
loop =
    tree.For (tree.StartsLocal (declared 14)) None None (tree.Null (span 24 25)) (span 0 25)

abbrev pub TheDeclaration : Type 0
TheDeclaration =
    (of_statement (probe (what.Declaration 1) 1 1 11 ∷ []) block
    ≡ Some (put (what.Declaration 1) 1 11 19 ∷ []))
    × (of_statement (probe (what.Declaration 1) 4 4 14 ∷ []) loop ≡ None)
