-- Each expression has a level, and a tree so far is no higher than the whole.
use Rattle.std.proofs.Common.{◌<◌, ◌≤◌, List, arith}
use Rattle.mc_lex.specs.declared.token.Dialect.{Dialect}
use Rattle.mc_tree.specs.Tree.{Expression}
use Rattle.mc_tree.specs.Tree as t
use Rattle.mc_tree.specs.Height.{height}
use Rattle.mc_grammar.specs.Words.{Lexeme}
use Rattle.mc_grammar.specs.Nonterminal.{Level}
use Rattle.mc_grammar.specs.Nonterminal as n
use Rattle.mc_grammar.specs.Expressions.{Reads}
use Rattle.mc_grammar.specs.Expressions as r

pub height_pos : (a : Expression) → 0 < height a
height_pos (t.Named name) = omega arith
height_pos (t.Constant value decimal unsigned longs span) = omega arith
height_pos (t.Character value span) = omega arith
height_pos (t.Parenthesized a span) = omega arith
height_pos (t.Call name arguments span) = omega arith
height_pos (t.Index a b span) = omega arith
height_pos (t.Member a name span) = omega arith
height_pos (t.PostfixStep operator a span) = omega arith
height_pos (t.PrefixStep operator a span) = omega arith
height_pos (t.Unary operator a span) = omega arith
height_pos (t.Cast type a span) = omega arith
height_pos (t.Binary operator a b span) = omega arith
height_pos (t.Conditional a b c span) = omega arith
height_pos (t.Assignment operator a b span) = omega arith
height_pos (t.Comma operands span) = omega arith

pub operations_grow : {d : Dialect} {k : Level} {ts rest : List Lexeme} {a b : Expression} → Reads d (n.operations k a) ts b rest → height a ≤ height b
operations_grow (r.operation e p q) = omega (arith, operations_grow q)
operations_grow (r.operations_end e) = omega arith

pub suffixes_grow : {d : Dialect} {ts rest : List Lexeme} {a b : Expression} → Reads d (n.suffixes a) ts b rest → height a ≤ height b
suffixes_grow (r.index e p f q) = omega (arith, suffixes_grow q)
suffixes_grow (r.member e f q) = omega (arith, suffixes_grow q)
suffixes_grow (r.postfix_step e q) = omega (arith, suffixes_grow q)
suffixes_grow (r.suffixes_end e) = omega arith
