-- The first token of what is read.
use Rattle.std.proofs.Common.{◌≡◌, ℕ, true, false, List, ◌∷◌, refl, codes}
use Rattle.mc_lex.specs.declared.token.Dialect.{Dialect}
use Rattle.mc_span.specs.declared.span.Span.{Span}
use Rattle.mc_tree.specs.declared.expressions.unary_operator.UnaryOperator.{UnaryOperator}
use Rattle.mc_tree.specs.declared.expressions.step_operator.StepOperator.{StepOperator}
use Rattle.mc_tree.specs.Tree.{Expression, Declarator, Specifiers}
use Rattle.mc_grammar.specs.Words.{Lexeme, is_punctuator, is_name, begins_specifiers, sees, sees_specifiers}
use Rattle.mc_grammar.specs.Operators.{IsStep, IsUnary}
use Rattle.mc_grammar.specs.Operators as o
use Rattle.mc_grammar.specs.Counts.{for_item}
use Rattle.mc_grammar.specs.Nonterminal.{Nonterminal, Level, operand}
use Rattle.mc_grammar.specs.Nonterminal as n
use Rattle.mc_grammar.specs.Expressions.{Reads, ReadsStars, ReadsDeclarator, ReadsSpecifiers}
use Rattle.mc_grammar.specs.Expressions as r
use Rattle.laws_grammar.proofs.Known.{punctuator, named, named_no_type, typed, word, word_is}

-- ---- no expression begins with specifiers

a_punctuator : (text : List ℕ) (x : Lexeme) → is_punctuator text x ≡ true → begins_specifiers x ≡ false
a_punctuator text x e = rw (punctuator text x e).kind_is refl

a_name : (x : Lexeme) → is_name x ≡ true → begins_specifiers x ≡ false
a_name x e = rw (named x e, named_no_type x e) refl

a_step : {x : Lexeme} {operator : StepOperator} → IsStep x operator → begins_specifiers x ≡ false
a_step (o.increment {x = x} e) = a_punctuator (codes "++") x e
a_step (o.decrement {x = x} e) = a_punctuator (codes "--") x e

a_unary : {x : Lexeme} {operator : UnaryOperator} → IsUnary x operator → begins_specifiers x ≡ false
a_unary (o.plus {x = x} e) = a_punctuator (codes "+") x e
a_unary (o.minus {x = x} e) = a_punctuator (codes "-") x e
a_unary (o.complement {x = x} e) = a_punctuator (codes "~") x e
a_unary (o.not {x = x} e) = a_punctuator (codes "!") x e
a_unary (o.dereference {x = x} e) = a_punctuator (codes "*") x e
a_unary (o.address {x = x} e) = a_punctuator (codes "&") x e

-- nothing is said of the rest of a repetition
abbrev Starts : Nonterminal → List Lexeme → Type 0
Starts (n.operations k a) ts = Unit {0}
Starts (n.suffixes a) ts = Unit {0}
Starts _ ts = sees_specifiers ts ≡ false

operand_starts : (k : Level) (ts : List Lexeme) → Starts (operand k) ts → sees_specifiers ts ≡ false
operand_starts n.product ts e = e
operand_starts n.sum ts e = e
operand_starts n.shift ts e = e
operand_starts n.relation ts e = e
operand_starts n.equality ts e = e
operand_starts n.bit_and ts e = e
operand_starts n.bit_xor ts e = e
operand_starts n.bit_or ts e = e
operand_starts n.land ts e = e
operand_starts n.lor ts e = e

pub starts : {d : Dialect} {m : Nonterminal} {ts rest : List Lexeme} {a : Expression} → Reads d m ts a rest → Starts m ts
starts (r.comma_one p e) = starts p
starts (r.comma p e q) = starts p
starts (r.assign_cond p e) = starts p
starts (r.assign p e q) = starts p
starts (r.cond_level p e) = starts p
starts (r.cond p e q f u) = starts p
starts (r.level {k = k} {ts = ts} p q) = operand_starts k ts (starts p)
starts (r.operation e p q) = tt
starts (r.operations_end e) = tt
starts (r.cast_unary e p) = starts p
starts (r.cast {x = x} e f p g q) = a_punctuator (codes "(") x e
starts (r.unary_postfix e p) = starts p
starts (r.prefix_step e p) = a_step e
starts (r.unary e p) = a_unary e
starts (r.postfix p q) = starts p
starts (r.index e p f q) = tt
starts (r.member e f q) = tt
starts (r.postfix_step e q) = tt
starts (r.suffixes_end e) = tt
starts (r.named {x = x} e f) = a_name x e
starts (r.constant e) = rw e refl
starts (r.character e) = rw e refl
starts (r.parenthesized {x = x} e f p g) = a_punctuator (codes "(") x e
starts (r.call_empty {x = x} e f g) = a_name x e
starts (r.call {x = x} e f g p h) = a_name x e

-- ---- no declarator begins with a `;`

stars_start : {before end : Span} {ts mid : List Lexeme} {x : Lexeme} {k : ℕ} → ReadsStars before ts k end (x ∷ mid) → is_name x ≡ true → sees (codes ";") ts ≡ false
stars_start (r.star {x = x} e p) f = let k = punctuator (codes "*") x e in rw (k.kind_is, k.text_is) refl
stars_start {x = x} (r.no_star e) f = rw (named x f) refl

pub declarator_starts : {d : Dialect} {ts rest : List Lexeme} {one : Declarator} → ReadsDeclarator d ts one rest → sees (codes ";") ts ≡ false
declarator_starts (r.object p e f q) = stars_start p e
declarator_starts (r.function p e q) = stars_start p e

-- ---- the specifiers of an item begin with one

pub specifiers_start : {d : Dialect} {x : Lexeme} {ts rest : List Lexeme} {s : Specifiers} → ReadsSpecifiers d false (x ∷ ts) s rest → for_item s ≡ true → begins_specifiers x ≡ true
specifiers_start (r.specifiers_end e) h = absurd (cc)
specifiers_start (r.word e p) h = rw (word_is e).0 refl
specifiers_start (r.typedef_name {x = x} e p) h = let k = typed x e in rw (k.0, k.1) refl
specifiers_start (r.structure_tag {x = x} e f g p) h = let k = word (codes "struct") x e in rw (k.kind_is, k.text_is) refl
specifiers_start (r.structure {x = x} e f g p i q) h = let k = word (codes "struct") x e in rw (k.kind_is, k.text_is) refl
specifiers_start (r.untagged_structure {x = x} e f p g q) h = let k = word (codes "struct") x e in rw (k.kind_is, k.text_is) refl
specifiers_start (r.enumeration_tag {x = x} e f g p) h = let k = word (codes "enum") x e in rw (k.kind_is, k.text_is) refl
specifiers_start (r.enumeration {x = x} e f g p i q) h = let k = word (codes "enum") x e in rw (k.kind_is, k.text_is) refl
specifiers_start (r.untagged_enumeration {x = x} e f p g q) h = let k = word (codes "enum") x e in rw (k.kind_is, k.text_is) refl
