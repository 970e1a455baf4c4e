-- What is read is grouped by precedence.
use Rattle.std.proofs.Common.{◌≡◌, ℕ, ◌+◌, ◌≤◌, List, Some, None, refl, codes, arith}
use Rattle.mc_lex.specs.declared.token.Dialect.{Dialect}
use Rattle.mc_span.specs.declared.span.Span.{Span}
use Rattle.mc_tree.specs.declared.expressions.binary_operator.BinaryOperator.{BinaryOperator}
use Rattle.mc_tree.specs.declared.expressions.binary_operator.BinaryOperator.TheVariants as binary
use Rattle.mc_tree.specs.Tree.{Name, Expression, Expressions, ArrayLengths, Initializer, Statement}
use Rattle.mc_tree.specs.Tree as t
use Rattle.mc_grammar.specs.Words.{Lexeme, is_punctuator}
use Rattle.mc_grammar.specs.Operators.{operator_at}
use Rattle.mc_grammar.specs.Nonterminal.{Nonterminal, Level, operand, takes}
use Rattle.mc_grammar.specs.Nonterminal as n
use Rattle.mc_grammar.specs.Expressions.{Reads, ReadsExpressions, ReadsEnumerator, ReadsArrayLengths}
use Rattle.mc_grammar.specs.Expressions as r
use Rattle.mc_grammar.specs.Statements.{ReadsInitializer, ReadsStatement}
use Rattle.mc_grammar.specs.Statements as s
use Rattle.mc_grammar.specs.Precedence.{section, Within, AllWithin}
use Rattle.mc_grammar.proofs.Lengths.{operand_takes}
use Rattle.mc_grammar.proofs.Spelling.{found, none}

-- the section of a level
abbrev pub rank : Level → ℕ
rank n.product = 5
rank n.sum = 6
rank n.shift = 7
rank n.relation = 8
rank n.equality = 9
rank n.bit_and = 10
rank n.bit_xor = 11
rank n.bit_or = 12
rank n.land = 13
rank n.lor = 14

abbrev limit : Nonterminal → ℕ
limit n.comma = 17
limit n.assign = 16
limit n.cond = 15
limit n.cast = 4
limit n.unary = 3
limit n.postfix = 2
limit n.primary = 2
limit (n.level k) = rank k
limit (n.operations k a) = rank k
limit (n.suffixes a) = 2

operand_limit : (k : Level) → limit (operand k) + 1 ≡ rank k
operand_limit n.product = refl
operand_limit n.sum = refl
operand_limit n.shift = refl
operand_limit n.relation = refl
operand_limit n.equality = refl
operand_limit n.bit_and = refl
operand_limit n.bit_xor = refl
operand_limit n.bit_or = refl
operand_limit n.land = refl
operand_limit n.lor = refl

abbrev In : Level → BinaryOperator → Type 0
In k operator = section operator ≡ rank k

pub operator_section : (k : Level) (x : Lexeme) {operator : BinaryOperator} → operator_at k x ≡ Some operator → section operator ≡ rank k
operator_section n.product x e =
    found (In n.product) (is_punctuator (codes "*") x) binary.Multiply _ (λ e. refl) (found (In n.product) (is_punctuator (codes "/") x) binary.Divide _ (λ e. refl)
    (found (In n.product) (is_punctuator (codes "%") x) binary.Remainder None (λ e. refl) (none (In n.product)))) e
operator_section n.sum x e =
    found (In n.sum) (is_punctuator (codes "+") x) binary.Add _ (λ e. refl) (found (In n.sum) (is_punctuator (codes "-") x) binary.Subtract None (λ e. refl) (none (In n.sum))) e
operator_section n.shift x e =
    found (In n.shift) (is_punctuator (codes "<<") x) binary.ShiftLeft _ (λ e. refl) (found (In n.shift) (is_punctuator (codes ">>") x) binary.ShiftRight None (λ e. refl) (none (In n.shift))) e
operator_section n.relation x e =
    found (In n.relation) (is_punctuator (codes "<") x) binary.Less _ (λ e. refl) (found (In n.relation) (is_punctuator (codes ">") x) binary.Greater _ (λ e. refl)
    (found (In n.relation) (is_punctuator (codes "<=") x) binary.LessOrEqual _ (λ e. refl) (found (In n.relation) (is_punctuator (codes ">=") x) binary.GreaterOrEqual None (λ e. refl) (none (In n.relation))))) e
operator_section n.equality x e =
    found (In n.equality) (is_punctuator (codes "==") x) binary.Equal _ (λ e. refl) (found (In n.equality) (is_punctuator (codes "!=") x) binary.Unequal None (λ e. refl) (none (In n.equality))) e
operator_section n.bit_and x e = found (In n.bit_and) (is_punctuator (codes "&") x) binary.BitAnd None (λ e. refl) (none (In n.bit_and)) e
operator_section n.bit_xor x e = found (In n.bit_xor) (is_punctuator (codes "^") x) binary.BitXor None (λ e. refl) (none (In n.bit_xor)) e
operator_section n.bit_or x e = found (In n.bit_or) (is_punctuator (codes "|") x) binary.BitOr None (λ e. refl) (none (In n.bit_or)) e
operator_section n.land x e = found (In n.land) (is_punctuator (codes "&&") x) binary.And None (λ e. refl) (none (In n.land)) e
operator_section n.lor x e = found (In n.lor) (is_punctuator (codes "||") x) binary.Or None (λ e. refl) (none (In n.lor)) e

wider : {m k : ℕ} → m ≤ k → (a : Expression) → Within m a → Within k a
wider e (t.Named name) g = omega (arith, e, g)
wider e (t.Constant value decimal unsigned longs span) g = omega (arith, e, g)
wider e (t.Character value span) g = omega (arith, e, g)
wider e (t.Parenthesized a span) g = (omega (arith, e, g.0), g.1)
wider e (t.Call name arguments span) g = (omega (arith, e, g.0), g.1)
wider e (t.Index a b span) g = (omega (arith, e, g.0), g.1, g.2)
wider e (t.Member a name span) g = (omega (arith, e, g.0), g.1)
wider e (t.PostfixStep operator a span) g = (omega (arith, e, g.0), g.1)
wider e (t.PrefixStep operator a span) g = (omega (arith, e, g.0), g.1)
wider e (t.Unary operator a span) g = (omega (arith, e, g.0), g.1)
wider e (t.Cast type a span) g = (omega (arith, e, g.0), g.1)
wider e (t.Binary operator a b span) g = (omega (arith, e, g.0), g.1, g.2)
wider e (t.Conditional a b c span) g = (omega (arith, e, g.0), g.1, g.2, g.3)
wider e (t.Assignment operator a b span) g = (omega (arith, e, g.0), g.1, g.2)
wider e (t.Comma operands span) g = (omega (arith, e, g.0), g.1)

mutual
  pub grouped : {d : Dialect} {m : Nonterminal} {ts rest : List Lexeme} {a : Expression} → takes m ≡ 1 → Reads d m ts a rest → Within (limit m) a
  grouped g (r.comma_one {a = a} p e) = wider (omega arith) a (grouped refl p)
  grouped g (r.comma p e q) = (omega arith, (grouped refl p, all_grouped q))
  grouped g (r.assign_cond {a = a} p e) = wider (omega arith) a (grouped refl p)
  grouped g (r.assign p e q) = (omega arith, grouped refl p, grouped refl q)
  grouped g (r.cond_level {a = a} p e) = wider (omega arith) a (grouped refl p)
  grouped g (r.cond p e q f v) = (omega arith, grouped refl p, grouped refl q, grouped refl v)
  grouped g (r.level {k = k} {a = a} p q) = operations_grouped q (wider (omega (arith, operand_limit k)) a (grouped (operand_takes k) p))
  grouped g (r.operation e p q) = cc
  grouped g (r.operations_end e) = cc
  grouped g (r.cast_unary {a = a} e p) = wider (omega arith) a (grouped refl p)
  grouped g (r.cast e f p v q) = (omega arith, grouped refl q)
  grouped g (r.unary_postfix {a = a} e p) = wider (omega arith) a (grouped refl p)
  grouped g (r.prefix_step e p) = (omega arith, grouped refl p)
  grouped g (r.unary e p) = (omega arith, grouped refl p)
  grouped g (r.postfix {a = a} p q) = suffixes_grouped q (wider (omega arith) a (grouped refl p))
  grouped g (r.index e p f q) = cc
  grouped g (r.member e f p) = cc
  grouped g (r.postfix_step e p) = cc
  grouped g (r.suffixes_end e) = cc
  grouped g (r.named e f) = omega arith
  grouped g (r.constant e) = omega arith
  grouped g (r.character e) = omega arith
  grouped g (r.parenthesized e f p v) = (omega arith, grouped refl p)
  grouped g (r.call_empty e f v) = (omega arith, tt)
  grouped g (r.call e f v p w) = (omega arith, all_grouped p)

  operations_grouped : {d : Dialect} {k : Level} {a b : Expression} {ts rest : List Lexeme} → Reads d (n.operations k a) ts b rest → Within (rank k) a → Within (rank k) b
  operations_grouped (r.operation {k = k} {x = x} {a = a} {b = b} e p q) g =
      let s = operator_section k x e in
      operations_grouped q (omega (arith, s), wider (omega (arith, s)) a g, wider (omega (arith, s, operand_limit k)) b (grouped (operand_takes k) p))
  operations_grouped (r.operations_end e) g = g

  suffixes_grouped : {d : Dialect} {a b : Expression} {ts rest : List Lexeme} → Reads d (n.suffixes a) ts b rest → Within 2 a → Within 2 b
  suffixes_grouped (r.index e p f q) g = suffixes_grouped q (omega arith, g, grouped refl p)
  suffixes_grouped (r.member e f q) g = suffixes_grouped q (omega arith, g)
  suffixes_grouped (r.postfix_step e q) g = suffixes_grouped q (omega arith, g)
  suffixes_grouped (r.suffixes_end e) g = g

  all_grouped : {d : Dialect} {ts rest : List Lexeme} {all : Expressions} → ReadsExpressions d ts all rest → AllWithin 16 all
  all_grouped (r.last_expression p e) = (grouped refl p, tt)
  all_grouped (r.more_expressions p e q) = (grouped refl p, all_grouped q)

-- where C17 wants a conditional or an assignment expression
pub case_grouped : {d : Dialect} {ts rest : List Lexeme} {a : Expression} {label span : Span} {one : Statement} → ReadsStatement d ts (t.Case a label one span) rest → Within 15 a
case_grouped (s.case_label e p f q) = grouped refl p

pub enumerator_grouped : {d : Dialect} {ts rest : List Lexeme} {name : Name} {a : Expression} → ReadsEnumerator d ts (t.valued_enumerator name a) rest → Within 15 a
enumerator_grouped (r.valued_enumerator e f p) = grouped refl p

pub length_grouped : {d : Dialect} {before end : Span} {ts rest : List Lexeme} {a : Expression} {all : ArrayLengths} → ReadsArrayLengths d before ts (t.given_length a all) end rest → Within 15 a
length_grouped (r.given_length e f p g q) = grouped refl p

pub initializer_grouped : {d : Dialect} {ts rest : List Lexeme} {a : Expression} → ReadsInitializer d ts (t.Single a) rest → Within 16 a
initializer_grouped (s.single e p) = grouped refl p
