-- The operands of operators.
use Rattle.std.specs.Prelude.{Option, Some, None}
use Rattle.mc_tree.specs.Tree.{Expression, Expressions, Comma}

-- of a comma operator
abbrev pub operands_in : Expression → Option Expressions
operands_in (Comma operands span) = Some operands
operands_in _ = None
