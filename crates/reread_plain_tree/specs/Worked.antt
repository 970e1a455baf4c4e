-- Worked trees. The places are those of the tokens without probes: a bracket of a probe starts with
-- what it encloses, and ends with it.
use Rattle.std.specs.Prelude.{◌≡◌, ◌+◌, ℕ, List, codes}
use Rattle.mc_span.specs.declared.span.Span.{Span}
use Rattle.mc_tree.specs.declared.expressions.binary_operator.BinaryOperator.TheVariants as binary
use Rattle.mc_tree.specs.Tree.{Expression, Statement}
use Rattle.mc_tree.specs.Tree as tree
use Rattle.reread_plain_tree.specs.Unprobed.{unprobed, unprobed_statement}

abbrev pub from_to : ℕ → ℕ → Span
from_to start end = record { start = start; end = end }

-- a name of one letter
abbrev pub named : List ℕ → ℕ → Expression
named text start = tree.Named (record { text = text; span = from_to start (start + 1) })

-- `NAME;`, of two letters
abbrev pub use_of : List ℕ → ℕ → Statement
use_of text start = tree.ExpressionStatement (named text start) (from_to start (start + 2))

-- one statement in braces, from a byte to another
abbrev pub braces : ℕ → ℕ → Statement → Statement
braces start end one = tree.Compound (tree.statement one tree.no_block_items) (from_to start end)

-- ---- `if(a){if(b)s;}else t;`

-- the inner `if`, without an `else`
abbrev pub inner : Statement
inner = tree.If (named (codes "b") 9) (use_of (codes "s") 11) (from_to 6 13)

abbrev pub outer : Statement → Statement
outer chosen = tree.IfElse (named (codes "a") 3) chosen (use_of (codes "t") 19) (from_to 0 21)

-- The braces are a probe's: they start with the inner `if`. Its tree stays the first statement of
-- the outer one, to which the `else` belongs (C17 6.8.4.1).
abbrev pub BracesOfAProbe : Type 0
BracesOfAProbe = unprobed_statement (outer (braces 6 13 inner)) ≡ outer inner

-- The braces are the source's: they start before, and stay. Those of a probe in them are left out.
abbrev pub BracesOfTheSource : Type 0
BracesOfTheSource =
    unprobed_statement (outer (braces 5 14 (braces 6 13 inner))) ≡ outer (braces 5 14 inner)

-- ---- `x*(a<b)`

abbrev pub less : Expression
less = tree.Binary binary.Less (named (codes "a") 3) (named (codes "b") 5) (from_to 3 6)

abbrev pub product : Expression → Expression
product factor = tree.Binary binary.Multiply (named (codes "x") 0) factor (from_to 0 6)

-- The parentheses are a probe's: they start with the comparison.
abbrev pub GroupOfAProbe : Type 0
GroupOfAProbe = unprobed (product (tree.Parenthesized less (from_to 3 6))) ≡ product less
