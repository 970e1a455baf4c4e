-- With which token an expression begins.
use Rattle.std.proofs.Common.{◌≡◌, ℕ, Bool, true, false, not, ◌&&◌, List, ◌∷◌, refl, sym, codes, true≢false, arith}
use Rattle.std.specs.Str.{bytes_eq}
use Rattle.mc_lex.specs.declared.token.Dialect.{Dialect}
use Rattle.mc_lex.specs.declared.token.TokenKind.{TokenKind}
use Rattle.mc_lex.specs.declared.token.TokenKind.TheVariants as kind
use Rattle.mc_tree.specs.Tree.{Expression, Expressions}
use Rattle.mc_grammar.specs.Words.{Lexeme, is_identifier_kind, is_punctuator, is_keyword, is_name, begins_specifiers, next_is, sees_cast, sees_specifiers}
use Rattle.mc_grammar.specs.Operators.{IsStep, IsUnary, is_prefix}
use Rattle.mc_grammar.specs.Operators as o
use Rattle.mc_grammar.specs.Nonterminal.{Nonterminal, takes}
use Rattle.mc_grammar.specs.Nonterminal as n
use Rattle.mc_grammar.specs.Expressions.{Reads, ReadsExpressions}
use Rattle.mc_grammar.specs.Expressions as r
use Rattle.mc_grammar.proofs.Lengths.{operand_takes}
use Rattle.reread_law_texts.proofs.Weave.Next.{signed, of_sign}

zero_one : ◌≡◌ {A = ℕ} 0 1 → ⊥
zero_one e = omega (arith, e)

-- a test that no token meets with which an expression begins
pub record NoStart (test : Lexeme → Bool) : Type 0 where
  pub word : (x : Lexeme) → is_name x ≡ true → test x ≡ false
  pub constant : (x : Lexeme) (value : ℕ) (decimal unsigned : Bool) (longs : ℕ) → x.token.kind ≡ kind.Constant value decimal unsigned longs → test x ≡ false
  pub character : (x : Lexeme) (value : _) → x.token.kind ≡ kind.Character value → test x ≡ false
  pub parenthesis : (start : ℕ) (mark : Bool) → test (signed (codes "(") start mark) ≡ false
  pub increment : (start : ℕ) (mark : Bool) → test (signed (codes "++") start mark) ≡ false
  pub decrement : (start : ℕ) (mark : Bool) → test (signed (codes "--") start mark) ≡ false
  pub plus : (start : ℕ) (mark : Bool) → test (signed (codes "+") start mark) ≡ false
  pub minus : (start : ℕ) (mark : Bool) → test (signed (codes "-") start mark) ≡ false
  pub complement : (start : ℕ) (mark : Bool) → test (signed (codes "~") start mark) ≡ false
  pub negation : (start : ℕ) (mark : Bool) → test (signed (codes "!") start mark) ≡ false
  pub star : (start : ℕ) (mark : Bool) → test (signed (codes "*") start mark) ≡ false
  pub address : (start : ℕ) (mark : Bool) → test (signed (codes "&") start mark) ≡ false

abbrev Fails : (Lexeme → Bool) → Lexeme → Type 0
Fails test x = test x ≡ false

step_fails : (test : Lexeme → Bool) → NoStart test → (x : Lexeme) {operator : _} → IsStep x operator → test x ≡ false
step_fails test h x (o.increment e) = of_sign (Fails test) (codes "++") x e h.increment
step_fails test h x (o.decrement e) = of_sign (Fails test) (codes "--") x e h.decrement

unary_fails : (test : Lexeme → Bool) → NoStart test → (x : Lexeme) {operator : _} → IsUnary x operator → test x ≡ false
unary_fails test h x (o.plus e) = of_sign (Fails test) (codes "+") x e h.plus
unary_fails test h x (o.minus e) = of_sign (Fails test) (codes "-") x e h.minus
unary_fails test h x (o.complement e) = of_sign (Fails test) (codes "~") x e h.complement
unary_fails test h x (o.not e) = of_sign (Fails test) (codes "!") x e h.negation
unary_fails test h x (o.dereference e) = of_sign (Fails test) (codes "*") x e h.star
unary_fails test h x (o.address e) = of_sign (Fails test) (codes "&") x e h.address

pub no_start : (test : Lexeme → Bool) → NoStart test → {d : Dialect} {m : Nonterminal} {ts rest : List Lexeme} {a : Expression} → takes m ≡ 1 → Reads d m ts a rest → next_is test ts ≡ false
no_start test h g (r.comma_one p e) = no_start test h refl p
no_start test h g (r.comma p e q) = no_start test h refl p
no_start test h g (r.assign_cond p e) = no_start test h refl p
no_start test h g (r.assign p e q) = no_start test h refl p
no_start test h g (r.cond_level p e) = no_start test h refl p
no_start test h g (r.cond p e q f v) = no_start test h refl p
no_start test h g (r.level {k = k} p q) = no_start test h (operand_takes k) p
no_start test h g (r.operation e p q) = absurd (zero_one g)
no_start test h g (r.operations_end e) = absurd (zero_one g)
no_start test h g (r.cast_unary e p) = no_start test h refl p
no_start test h g (r.cast {x = x} e f p v q) = of_sign (Fails test) (codes "(") x e h.parenthesis
no_start test h g (r.unary_postfix e p) = no_start test h refl p
no_start test h g (r.prefix_step {x = x} e p) = step_fails test h x e
no_start test h g (r.unary {x = x} e p) = unary_fails test h x e
no_start test h g (r.postfix p q) = no_start test h refl p
no_start test h g (r.index e p f q) = absurd (zero_one g)
no_start test h g (r.member e f p) = absurd (zero_one g)
no_start test h g (r.postfix_step e p) = absurd (zero_one g)
no_start test h g (r.suffixes_end e) = absurd (zero_one g)
no_start test h g (r.named {x = x} e f) = h.word x e
no_start test h g (r.constant {x = x} e) = h.constant x _ _ _ _ e
no_start test h g (r.character {x = x} e) = h.character x _ e
no_start test h g (r.parenthesized {x = x} e f p v) = of_sign (Fails test) (codes "(") x e h.parenthesis
no_start test h g (r.call_empty {x = x} e f v) = h.word x e
no_start test h g (r.call {x = x} e f v p w) = h.word x e

pub no_list_start : (test : Lexeme → Bool) → NoStart test → {d : Dialect} {ts rest : List Lexeme} {all : Expressions} → ReadsExpressions d ts all rest → next_is test ts ≡ false
no_list_start test h (r.last_expression p e) = no_start test h refl p
no_list_start test h (r.more_expressions p e q) = no_start test h refl p

-- ---- the tests

pub both : (a b : Bool) → (a && b) ≡ true → (a ≡ true) × (b ≡ true)
both true b e = (refl, e)
both false b e = absurd (true≢false (sym e))

identifier_kind : (k : TokenKind) → is_identifier_kind k ≡ true → k ≡ kind.Identifier
identifier_kind kind.Identifier e = refl
identifier_kind kind.Keyword e = absurd (true≢false (sym e))
identifier_kind kind.Punctuator e = absurd (true≢false (sym e))
identifier_kind (kind.Constant value decimal unsigned longs) e = absurd (true≢false (sym e))
identifier_kind (kind.Character value) e = absurd (true≢false (sym e))

pub name_kind : (x : Lexeme) → is_name x ≡ true → x.token.kind ≡ kind.Identifier
name_kind x e = identifier_kind x.token.kind (both (is_identifier_kind x.token.kind) (not x.names_type) e).0

not_true : (b : Bool) → not b ≡ true → b ≡ false
not_true true e = absurd (true≢false (sym e))
not_true false e = refl

pub name_mark : (x : Lexeme) → is_name x ≡ true → x.names_type ≡ false
name_mark x e = not_true x.names_type (both (is_identifier_kind x.token.kind) (not x.names_type) e).1

pub specifiers_no_start : NoStart begins_specifiers
specifiers_no_start = record {
  word = λ x e. rw (name_kind x e, name_mark x e) refl;
  constant = λ x value decimal unsigned longs e. rw e refl;
  character = λ x value e. rw e refl;
  parenthesis = λ start mark. refl;
  increment = λ start mark. refl;
  decrement = λ start mark. refl;
  plus = λ start mark. refl;
  minus = λ start mark. refl;
  complement = λ start mark. refl;
  negation = λ start mark. refl;
  star = λ start mark. refl;
  address = λ start mark. refl;
}

pub keyword_no_start : (text : List ℕ) → NoStart (is_keyword text)
keyword_no_start text = record {
  word = λ x e. rw (name_kind x e) refl;
  constant = λ x value decimal unsigned longs e. rw e refl;
  character = λ x value e. rw e refl;
  parenthesis = λ start mark. refl;
  increment = λ start mark. refl;
  decrement = λ start mark. refl;
  plus = λ start mark. refl;
  minus = λ start mark. refl;
  complement = λ start mark. refl;
  negation = λ start mark. refl;
  star = λ start mark. refl;
  address = λ start mark. refl;
}

-- a punctuator of this text begins no expression
abbrev Differs : List ℕ → List ℕ → Type 0
Differs text other = bytes_eq other text ≡ false

pub sign_no_start : (text : List ℕ) → Differs text (codes "(") → Differs text (codes "++") → Differs text (codes "--") → Differs text (codes "+") → Differs text (codes "-") → Differs text (codes "~")
    → Differs text (codes "!") → Differs text (codes "*") → Differs text (codes "&") → NoStart (is_punctuator text)
sign_no_start text a b c d e f g i j = record {
  word = λ x h. rw (name_kind x h) refl;
  constant = λ x value decimal unsigned longs h. rw h refl;
  character = λ x value h. rw h refl;
  parenthesis = λ start mark. a;
  increment = λ start mark. b;
  decrement = λ start mark. c;
  plus = λ start mark. d;
  minus = λ start mark. e;
  complement = λ start mark. f;
  negation = λ start mark. g;
  star = λ start mark. i;
  address = λ start mark. j;
}

pub closing_no_start : NoStart (is_punctuator (codes ")"))
closing_no_start = sign_no_start (codes ")") refl refl refl refl refl refl refl refl refl

pub bracket_no_start : NoStart (is_punctuator (codes "]"))
bracket_no_start = sign_no_start (codes "]") refl refl refl refl refl refl refl refl refl

pub open_brace_no_start : NoStart (is_punctuator (codes "{"))
open_brace_no_start = sign_no_start (codes "{") refl refl refl refl refl refl refl refl refl

pub close_brace_no_start : NoStart (is_punctuator (codes "}"))
close_brace_no_start = sign_no_start (codes "}") refl refl refl refl refl refl refl refl refl

pub semicolon_no_start : NoStart (is_punctuator (codes ";"))
semicolon_no_start = sign_no_start (codes ";") refl refl refl refl refl refl refl refl refl

-- ---- what the choices of the grammar look at

-- no type name, so no cast
pub no_specifiers : {d : Dialect} {m : Nonterminal} {ts rest : List Lexeme} {a : Expression} → takes m ≡ 1 → Reads d m ts a rest → sees_specifiers ts ≡ false
no_specifiers g p = no_start begins_specifiers specifiers_no_start g p

abbrev NoCast : Lexeme → Type 0
NoCast x = (ts : List Lexeme) → sees_cast (x ∷ ts) ≡ false

step_no_cast : (x : Lexeme) {operator : _} → IsStep x operator → NoCast x
step_no_cast x (o.increment e) = of_sign NoCast (codes "++") x e (λ start mark ts. refl)
step_no_cast x (o.decrement e) = of_sign NoCast (codes "--") x e (λ start mark ts. refl)

unary_no_cast : (x : Lexeme) {operator : _} → IsUnary x operator → NoCast x
unary_no_cast x (o.plus e) = of_sign NoCast (codes "+") x e (λ start mark ts. refl)
unary_no_cast x (o.minus e) = of_sign NoCast (codes "-") x e (λ start mark ts. refl)
unary_no_cast x (o.complement e) = of_sign NoCast (codes "~") x e (λ start mark ts. refl)
unary_no_cast x (o.not e) = of_sign NoCast (codes "!") x e (λ start mark ts. refl)
unary_no_cast x (o.dereference e) = of_sign NoCast (codes "*") x e (λ start mark ts. refl)
unary_no_cast x (o.address e) = of_sign NoCast (codes "&") x e (λ start mark ts. refl)

primary_no_cast : {d : Dialect} {ts rest : List Lexeme} {a : Expression} → Reads d n.primary ts a rest → sees_cast ts ≡ false
primary_no_cast (r.named {x = x} e f) = rw (name_kind x e) refl
primary_no_cast (r.constant e) = rw e refl
primary_no_cast (r.character e) = rw e refl
primary_no_cast (r.parenthesized {x = x} {ts = ts} e f p v) = rw (e, f) refl
primary_no_cast (r.call_empty {x = x} e f v) = rw (name_kind x e) refl
primary_no_cast (r.call {x = x} e f v p w) = rw (name_kind x e) refl

postfix_no_cast : {d : Dialect} {ts rest : List Lexeme} {a : Expression} → Reads d n.postfix ts a rest → sees_cast ts ≡ false
postfix_no_cast (r.postfix p q) = primary_no_cast p

pub no_cast : {d : Dialect} {ts rest : List Lexeme} {a : Expression} → Reads d n.unary ts a rest → sees_cast ts ≡ false
no_cast (r.unary_postfix e p) = postfix_no_cast p
no_cast (r.prefix_step {x = x} {ts = ts} e p) = step_no_cast x e ts
no_cast (r.unary {x = x} {ts = ts} e p) = unary_no_cast x e ts

-- no operator before its operand
primary_no_prefix : {d : Dialect} {ts rest : List Lexeme} {a : Expression} → Reads d n.primary ts a rest → next_is is_prefix ts ≡ false
primary_no_prefix (r.named {x = x} e f) = rw (name_kind x e) refl
primary_no_prefix (r.constant e) = rw e refl
primary_no_prefix (r.character e) = rw e refl
primary_no_prefix (r.parenthesized {x = x} e f p v) = of_sign (Fails is_prefix) (codes "(") x e (λ start mark. refl)
primary_no_prefix (r.call_empty {x = x} e f v) = rw (name_kind x e) refl
primary_no_prefix (r.call {x = x} e f v p w) = rw (name_kind x e) refl

pub no_prefix : {d : Dialect} {ts rest : List Lexeme} {a : Expression} → Reads d n.postfix ts a rest → next_is is_prefix ts ≡ false
no_prefix (r.postfix p q) = primary_no_prefix p
