-- What stands on the left of a production of expressions.
use Rattle.std.specs.Prelude.{ℕ}
use Rattle.mc_tree.specs.Tree.{Expression}

-- the levels of operators between two operands, that which binds closest first
pub data Level : Type 0 where
  -- `* / %`, `+ -`, `<< >>`, `< > <= >=`, `== !=`, `&`, `^`, `|`, `&&`, `||`
  product sum shift relation equality bit_and bit_xor bit_or land lor : Level

pub data Nonterminal : Type 0 where
  comma assign cond unary cast postfix primary : Nonterminal
  level : Level → Nonterminal
  -- the rest of a repetition, after this tree
  operations : Level → Expression → Nonterminal
  suffixes : Expression → Nonterminal

-- what the operands of a level are (C17 6.5.5 to 6.5.14)
abbrev pub operand : Level → Nonterminal
operand product = cast
operand sum = level product
operand shift = level sum
operand relation = level shift
operand equality = level relation
operand bit_and = level equality
operand bit_xor = level bit_and
operand bit_or = level bit_xor
operand land = level bit_or
operand lor = level land

-- how many tokens it takes at least
abbrev pub takes : Nonterminal → ℕ
takes (operations k a) = 0
takes (suffixes a) = 0
takes _ = 1
