-- What is read as one nonterminal is read as each looser one, where the next token continues none of
-- those between.
use Rattle.std.proofs.Common.{◌≡◌, false, ◌&&◌, List, None, ap}
use Rattle.mc_lex.specs.declared.token.Dialect.{Dialect}
use Rattle.mc_tree.specs.Tree.{Expression}
use Rattle.mc_grammar.specs.Words.{Lexeme}
use Rattle.mc_grammar.specs.Operators.{operator_next, sees_assignment}
use Rattle.mc_grammar.specs.Nonterminal.{Level, operand}
use Rattle.mc_grammar.specs.Nonterminal as n
use Rattle.mc_grammar.specs.Expressions.{is_unary, Reads}
use Rattle.mc_grammar.specs.Expressions as r
use Rattle.reread_law_texts.proofs.Weave.Next.{Calm, After, AfterComma, AfterAssign, AfterCond, AfterLevel, level_after, calm_after}
use Rattle.reread_law_texts.proofs.Weave.First.{no_cast, no_prefix}

pub up : {d : Dialect} (k : Level) {ts rest : List Lexeme} {a : Expression} → Reads d (operand k) ts a rest → operator_next k rest ≡ None → Reads d (n.level k) ts a rest
up k p e = r.level p (r.operations_end e)

pub to_postfix : {d : Dialect} {ts rest : List Lexeme} {a : Expression} → Reads d n.primary ts a rest → Calm rest → Reads d n.postfix ts a rest
to_postfix p q = r.postfix p (r.suffixes_end q.1)

pub to_unary : {d : Dialect} {ts rest : List Lexeme} {a : Expression} → Reads d n.postfix ts a rest → Reads d n.unary ts a rest
to_unary p = r.unary_postfix (no_prefix p) p

pub to_cast : {d : Dialect} {ts rest : List Lexeme} {a : Expression} → Reads d n.unary ts a rest → Reads d n.cast ts a rest
to_cast p = r.cast_unary (no_cast p) p

pub primary_to_unary : {d : Dialect} {ts rest : List Lexeme} {a : Expression} → Reads d n.primary ts a rest → Calm rest → Reads d n.unary ts a rest
primary_to_unary p q = to_unary (to_postfix p q)

pub primary_to_cast : {d : Dialect} {ts rest : List Lexeme} {a : Expression} → Reads d n.primary ts a rest → Calm rest → Reads d n.cast ts a rest
primary_to_cast p q = to_cast (primary_to_unary p q)

-- ---- from a primary up

to_product : {d : Dialect} {ts rest : List Lexeme} {a : Expression} → Reads d n.cast ts a rest → AfterLevel n.product rest → Reads d (n.level n.product) ts a rest
to_product p q = up n.product p q.1

to_sum : {d : Dialect} {ts rest : List Lexeme} {a : Expression} → Reads d n.cast ts a rest → AfterLevel n.sum rest → Reads d (n.level n.sum) ts a rest
to_sum p q = up n.sum (to_product p q.0) q.1

to_shift : {d : Dialect} {ts rest : List Lexeme} {a : Expression} → Reads d n.cast ts a rest → AfterLevel n.shift rest → Reads d (n.level n.shift) ts a rest
to_shift p q = up n.shift (to_sum p q.0) q.1

to_relation : {d : Dialect} {ts rest : List Lexeme} {a : Expression} → Reads d n.cast ts a rest → AfterLevel n.relation rest → Reads d (n.level n.relation) ts a rest
to_relation p q = up n.relation (to_shift p q.0) q.1

to_equality : {d : Dialect} {ts rest : List Lexeme} {a : Expression} → Reads d n.cast ts a rest → AfterLevel n.equality rest → Reads d (n.level n.equality) ts a rest
to_equality p q = up n.equality (to_relation p q.0) q.1

to_bit_and : {d : Dialect} {ts rest : List Lexeme} {a : Expression} → Reads d n.cast ts a rest → AfterLevel n.bit_and rest → Reads d (n.level n.bit_and) ts a rest
to_bit_and p q = up n.bit_and (to_equality p q.0) q.1

to_bit_xor : {d : Dialect} {ts rest : List Lexeme} {a : Expression} → Reads d n.cast ts a rest → AfterLevel n.bit_xor rest → Reads d (n.level n.bit_xor) ts a rest
to_bit_xor p q = up n.bit_xor (to_bit_and p q.0) q.1

to_bit_or : {d : Dialect} {ts rest : List Lexeme} {a : Expression} → Reads d n.cast ts a rest → AfterLevel n.bit_or rest → Reads d (n.level n.bit_or) ts a rest
to_bit_or p q = up n.bit_or (to_bit_xor p q.0) q.1

to_land : {d : Dialect} {ts rest : List Lexeme} {a : Expression} → Reads d n.cast ts a rest → AfterLevel n.land rest → Reads d (n.level n.land) ts a rest
to_land p q = up n.land (to_bit_or p q.0) q.1

to_lor : {d : Dialect} {ts rest : List Lexeme} {a : Expression} → Reads d n.cast ts a rest → AfterLevel n.lor rest → Reads d (n.level n.lor) ts a rest
to_lor p q = up n.lor (to_land p q.0) q.1

pub to_operand : (k : Level) {d : Dialect} {ts rest : List Lexeme} {a : Expression} → Reads d n.cast ts a rest → After (operand k) rest → Reads d (operand k) ts a rest
to_operand n.product p q = p
to_operand n.sum p q = to_product p q
to_operand n.shift p q = to_sum p q
to_operand n.relation p q = to_shift p q
to_operand n.equality p q = to_relation p q
to_operand n.bit_and p q = to_equality p q
to_operand n.bit_xor p q = to_bit_and p q
to_operand n.bit_or p q = to_bit_xor p q
to_operand n.land p q = to_bit_or p q
to_operand n.lor p q = to_land p q

pub to_cond : {d : Dialect} {ts rest : List Lexeme} {a : Expression} → Reads d n.cast ts a rest → AfterCond rest → Reads d n.cond ts a rest
to_cond p q = r.cond_level (to_lor p q.0) q.1

-- no assignment where none is next
pub not_assigned : (rest : List Lexeme) (a : Expression) → sees_assignment rest ≡ false → (sees_assignment rest && is_unary a) ≡ false
not_assigned rest a e = ap (λ b. b && is_unary a) e

pub cond_to_assign : {d : Dialect} {ts rest : List Lexeme} {a : Expression} → Reads d n.cond ts a rest → AfterAssign rest → Reads d n.assign ts a rest
cond_to_assign {rest = rest} {a = a} p q = r.assign_cond p (not_assigned rest a q.1)

pub to_comma : {d : Dialect} {ts rest : List Lexeme} {a : Expression} → Reads d n.assign ts a rest → AfterComma rest → Reads d n.comma ts a rest
to_comma p q = r.comma_one p q.1

pub cond_to_comma : {d : Dialect} {ts rest : List Lexeme} {a : Expression} → Reads d n.cond ts a rest → AfterComma rest → Reads d n.comma ts a rest
cond_to_comma p q = to_comma (cond_to_assign p q.0) q

pub cast_to_comma : {d : Dialect} {ts rest : List Lexeme} {a : Expression} → Reads d n.cast ts a rest → AfterComma rest → Reads d n.comma ts a rest
cast_to_comma p q = cond_to_comma (to_cond p q.0.0) q

pub unary_to_comma : {d : Dialect} {ts rest : List Lexeme} {a : Expression} → Reads d n.unary ts a rest → AfterComma rest → Reads d n.comma ts a rest
unary_to_comma p q = cast_to_comma (to_cast p) q

pub postfix_to_comma : {d : Dialect} {ts rest : List Lexeme} {a : Expression} → Reads d n.postfix ts a rest → AfterComma rest → Reads d n.comma ts a rest
postfix_to_comma p q = unary_to_comma (to_unary p) q

pub primary_to_comma : {d : Dialect} {ts rest : List Lexeme} {a : Expression} → Reads d n.primary ts a rest → AfterComma rest → Reads d n.comma ts a rest
primary_to_comma {rest = rest} p q = postfix_to_comma (to_postfix p (calm_after rest q)) q

-- ---- from a level up

from_lor : {d : Dialect} {ts rest : List Lexeme} {a : Expression} → Reads d (n.level n.lor) ts a rest → AfterComma rest → Reads d n.comma ts a rest
from_lor p q = cond_to_comma (r.cond_level p q.0.0.1) q

from_land : {d : Dialect} {ts rest : List Lexeme} {a : Expression} → Reads d (n.level n.land) ts a rest → AfterComma rest → Reads d n.comma ts a rest
from_land {rest = rest} p q = from_lor (up n.lor p (level_after n.lor rest q).1) q

from_bit_or : {d : Dialect} {ts rest : List Lexeme} {a : Expression} → Reads d (n.level n.bit_or) ts a rest → AfterComma rest → Reads d n.comma ts a rest
from_bit_or {rest = rest} p q = from_land (up n.land p (level_after n.land rest q).1) q

from_bit_xor : {d : Dialect} {ts rest : List Lexeme} {a : Expression} → Reads d (n.level n.bit_xor) ts a rest → AfterComma rest → Reads d n.comma ts a rest
from_bit_xor {rest = rest} p q = from_bit_or (up n.bit_or p (level_after n.bit_or rest q).1) q

from_bit_and : {d : Dialect} {ts rest : List Lexeme} {a : Expression} → Reads d (n.level n.bit_and) ts a rest → AfterComma rest → Reads d n.comma ts a rest
from_bit_and {rest = rest} p q = from_bit_xor (up n.bit_xor p (level_after n.bit_xor rest q).1) q

from_equality : {d : Dialect} {ts rest : List Lexeme} {a : Expression} → Reads d (n.level n.equality) ts a rest → AfterComma rest → Reads d n.comma ts a rest
from_equality {rest = rest} p q = from_bit_and (up n.bit_and p (level_after n.bit_and rest q).1) q

from_relation : {d : Dialect} {ts rest : List Lexeme} {a : Expression} → Reads d (n.level n.relation) ts a rest → AfterComma rest → Reads d n.comma ts a rest
from_relation {rest = rest} p q = from_equality (up n.equality p (level_after n.equality rest q).1) q

from_shift : {d : Dialect} {ts rest : List Lexeme} {a : Expression} → Reads d (n.level n.shift) ts a rest → AfterComma rest → Reads d n.comma ts a rest
from_shift {rest = rest} p q = from_relation (up n.relation p (level_after n.relation rest q).1) q

from_sum : {d : Dialect} {ts rest : List Lexeme} {a : Expression} → Reads d (n.level n.sum) ts a rest → AfterComma rest → Reads d n.comma ts a rest
from_sum {rest = rest} p q = from_shift (up n.shift p (level_after n.shift rest q).1) q

from_product : {d : Dialect} {ts rest : List Lexeme} {a : Expression} → Reads d (n.level n.product) ts a rest → AfterComma rest → Reads d n.comma ts a rest
from_product {rest = rest} p q = from_sum (up n.sum p (level_after n.sum rest q).1) q

pub from_level : (k : Level) {d : Dialect} {ts rest : List Lexeme} {a : Expression} → Reads d (n.level k) ts a rest → AfterComma rest → Reads d n.comma ts a rest
from_level n.product p q = from_product p q
from_level n.sum p q = from_sum p q
from_level n.shift p q = from_shift p q
from_level n.relation p q = from_relation p q
from_level n.equality p q = from_equality p q
from_level n.bit_and p q = from_bit_and p q
from_level n.bit_xor p q = from_bit_xor p q
from_level n.bit_or p q = from_bit_or p q
from_level n.land p q = from_land p q
from_level n.lor p q = from_lor p q
