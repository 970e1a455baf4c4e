-- The nonterminals that stand as parts, as the program names them.
use Rattle.std.specs.Prelude.{List, [], map}
use Rattle.mc_grammar.specs.Nonterminal.{Nonterminal, operand}
use Rattle.mc_grammar.specs.Nonterminal as nonterminal
use Rattle.mc_grammar.specs.steps.Next.{up_to}
use Rattle.parse_cursor.specs.declared.rule.Level.{Level}
use Rattle.parse_cursor.specs.declared.rule.Level.TheVariants as level
use Rattle.parse_cursor.specs.declared.rule.Rule.{Rule}
use Rattle.parse_cursor.specs.declared.rule.Rule.TheVariants as rule

abbrev pub level_of : Level → nonterminal.Level
level_of level.Product = nonterminal.product
level_of level.Sum = nonterminal.sum
level_of level.Shift = nonterminal.shift
level_of level.Relation = nonterminal.relation
level_of level.Equality = nonterminal.equality
level_of level.BitAnd = nonterminal.bit_and
level_of level.BitXor = nonterminal.bit_xor
level_of level.BitOr = nonterminal.bit_or
level_of level.And = nonterminal.land
level_of level.Or = nonterminal.lor

abbrev pub levels_of : List Level → List nonterminal.Level
levels_of levels = map level_of levels

abbrev pub nonterminal_of : Rule → Nonterminal
nonterminal_of rule.Comma = nonterminal.comma
nonterminal_of rule.Assign = nonterminal.assign
nonterminal_of rule.Cond = nonterminal.cond
nonterminal_of rule.Unary = nonterminal.unary
nonterminal_of rule.Cast = nonterminal.cast
nonterminal_of (rule.Operand level) = operand (level_of level)

-- the levels of operators in an operand of this level
abbrev pub below : nonterminal.Level → List nonterminal.Level
below nonterminal.product = []
below nonterminal.sum = up_to nonterminal.product
below nonterminal.shift = up_to nonterminal.sum
below nonterminal.relation = up_to nonterminal.shift
below nonterminal.equality = up_to nonterminal.relation
below nonterminal.bit_and = up_to nonterminal.equality
below nonterminal.bit_xor = up_to nonterminal.bit_and
below nonterminal.bit_or = up_to nonterminal.bit_xor
below nonterminal.land = up_to nonterminal.bit_or
below nonterminal.lor = up_to nonterminal.land
