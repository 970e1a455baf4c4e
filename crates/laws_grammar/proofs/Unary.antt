-- What an operand that is assigned to looks like, and what a `unary` begins with.
use Rattle.std.proofs.Common.{◌≡◌, true, false, List, refl, codes}
use Rattle.mc_lex.specs.declared.token.Dialect.{Dialect}
use Rattle.mc_tree.specs.Tree.{Expression, Parameters}
use Rattle.mc_grammar.specs.Words.{Lexeme, sees, sees_cast}
use Rattle.mc_grammar.specs.Operators as o
use Rattle.mc_grammar.specs.Nonterminal as n
use Rattle.mc_grammar.specs.Expressions.{is_unary, Reads, ReadsParameters}
use Rattle.mc_grammar.specs.Expressions as r
use Rattle.laws_grammar.proofs.Known.{punctuator, named}

suffixes_unary : {d : Dialect} {ts rest : List Lexeme} {a b : Expression} → Reads d (n.suffixes a) ts b rest → is_unary a ≡ true → is_unary b ≡ true
suffixes_unary (r.index e p f q) u = suffixes_unary q refl
suffixes_unary (r.member e f q) u = suffixes_unary q refl
suffixes_unary (r.postfix_step e q) u = suffixes_unary q refl
suffixes_unary (r.suffixes_end e) u = u

primary_unary : {d : Dialect} {ts rest : List Lexeme} {a : Expression} → Reads d n.primary ts a rest → is_unary a ≡ true
primary_unary (r.named e f) = refl
primary_unary (r.constant e) = refl
primary_unary (r.character e) = refl
primary_unary (r.parenthesized e f p g) = refl
primary_unary (r.call_empty e f g) = refl
primary_unary (r.call e f g p h) = refl

-- the tree of a `unary` has the form of one
pub unary_tree : {d : Dialect} {ts rest : List Lexeme} {a : Expression} → Reads d n.unary ts a rest → is_unary a ≡ true
unary_tree (r.unary_postfix e (r.postfix p q)) = suffixes_unary q (primary_unary p)
unary_tree (r.prefix_step e p) = refl
unary_tree (r.unary e p) = refl

primary_begins : {d : Dialect} {ts rest : List Lexeme} {a : Expression} → Reads d n.primary ts a rest → sees_cast ts ≡ false
primary_begins (r.named {x = x} e f) = rw (named x e) refl
primary_begins (r.constant e) = rw e refl
primary_begins (r.character e) = rw e refl
primary_begins (r.parenthesized e f p g) = rw (e, f) refl
primary_begins (r.call_empty {x = x} e f g) = rw (named x e) refl
primary_begins (r.call {x = x} e f g p h) = rw (named x e) refl

-- a `unary` does not begin as a cast does
pub unary_begins : {d : Dialect} {ts rest : List Lexeme} {a : Expression} → Reads d n.unary ts a rest → sees_cast ts ≡ false
unary_begins (r.unary_postfix e (r.postfix p q)) = primary_begins p
unary_begins (r.prefix_step {x = x} (o.increment e) p) = let k = punctuator (codes "++") x e in rw (k.kind_is, k.text_is) refl
unary_begins (r.prefix_step {x = x} (o.decrement e) p) = let k = punctuator (codes "--") x e in rw (k.kind_is, k.text_is) refl
unary_begins (r.unary {x = x} (o.plus e) p) = let k = punctuator (codes "+") x e in rw (k.kind_is, k.text_is) refl
unary_begins (r.unary {x = x} (o.minus e) p) = let k = punctuator (codes "-") x e in rw (k.kind_is, k.text_is) refl
unary_begins (r.unary {x = x} (o.complement e) p) = let k = punctuator (codes "~") x e in rw (k.kind_is, k.text_is) refl
unary_begins (r.unary {x = x} (o.not e) p) = let k = punctuator (codes "!") x e in rw (k.kind_is, k.text_is) refl
unary_begins (r.unary {x = x} (o.dereference e) p) = let k = punctuator (codes "*") x e in rw (k.kind_is, k.text_is) refl
unary_begins (r.unary {x = x} (o.address e) p) = let k = punctuator (codes "&") x e in rw (k.kind_is, k.text_is) refl

pub parameters_begin : {d : Dialect} {ts rest : List Lexeme} {ps : Parameters} → ReadsParameters d ts ps rest → sees (codes "(") ts ≡ true
parameters_begin (r.empty_parameters e f) = e
parameters_begin (r.void_parameters e f g) = e
parameters_begin (r.listed_parameters e f g p h) = e
