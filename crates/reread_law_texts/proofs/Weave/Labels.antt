-- An expression before a `;` does not begin as a label does: what begins with a name and a `:` ends
-- before that `:`.
use Rattle.std.proofs.Common.{◌≡◌, ℕ, Bool, true, false, List, ◌∷◌, Option, Some, None, refl, sym, ◌∙◌, codes, true≢false}
use Rattle.mc_lex.specs.declared.token.Dialect.{Dialect}
use Rattle.mc_lex.specs.declared.token.TokenKind.TheVariants as kind
use Rattle.mc_tree.specs.Tree.{Expression}
use Rattle.mc_tree.specs.declared.expressions.assignment_operator.AssignmentOperator.{AssignmentOperator}
use Rattle.mc_tree.specs.declared.expressions.binary_operator.BinaryOperator.{BinaryOperator}
use Rattle.mc_grammar.specs.Words.{Lexeme, is_punctuator, is_name, sees, sees_label}
use Rattle.mc_grammar.specs.Operators.{IsStep, IsUnary, operator_at, assignment_at}
use Rattle.mc_grammar.specs.Operators as o
use Rattle.mc_grammar.specs.Nonterminal.{Nonterminal, Level, operand}
use Rattle.mc_grammar.specs.Nonterminal as n
use Rattle.mc_grammar.specs.Expressions.{Reads}
use Rattle.mc_grammar.specs.Expressions as r
use Rattle.reread_law_texts.proofs.Weave.Next.{signed, of_sign, level_after, no_operator, at_colon}
use Rattle.reread_law_texts.proofs.Weave.First.{both, name_kind}

clash : {b : Bool} → b ≡ false → b ≡ true → ⊥
clash e f = absurd (true≢false (sym f ∙ e))

-- a token is not two punctuators
other_sign : (text other : List ℕ) (x : Lexeme) → is_punctuator text x ≡ true → ((start : ℕ) (mark : Bool) → is_punctuator other (signed text start mark) ≡ false) → is_punctuator other x ≡ true → ⊥
other_sign text other x e h f = clash (of_sign (λ x. is_punctuator other x ≡ false) text x e h) f

-- and no name
name_no_sign : (text : List ℕ) (x : Lexeme) (ts : List Lexeme) → sees_label (x ∷ ts) ≡ true → is_punctuator text x ≡ true → ⊥
name_no_sign text x ts h e =
    let g : is_punctuator text x ≡ false = rw (name_kind x (both (is_name x) (sees (codes ":") ts) h).0) refl in
    clash g e

name_no_step : (x : Lexeme) (ts : List Lexeme) {operator : _} → sees_label (x ∷ ts) ≡ true → IsStep x operator → ⊥
name_no_step x ts h (o.increment e) = name_no_sign (codes "++") x ts h e
name_no_step x ts h (o.decrement e) = name_no_sign (codes "--") x ts h e

name_no_unary : (x : Lexeme) (ts : List Lexeme) {operator : _} → sees_label (x ∷ ts) ≡ true → IsUnary x operator → ⊥
name_no_unary x ts h (o.plus e) = name_no_sign (codes "+") x ts h e
name_no_unary x ts h (o.minus e) = name_no_sign (codes "-") x ts h e
name_no_unary x ts h (o.complement e) = name_no_sign (codes "~") x ts h e
name_no_unary x ts h (o.not e) = name_no_sign (codes "!") x ts h e
name_no_unary x ts h (o.dereference e) = name_no_sign (codes "*") x ts h e
name_no_unary x ts h (o.address e) = name_no_sign (codes "&") x ts h e

step_no_colon : (x : Lexeme) {operator : _} → IsStep x operator → is_punctuator (codes ":") x ≡ true → ⊥
step_no_colon x (o.increment e) f = other_sign (codes "++") (codes ":") x e (λ start mark. refl) f
step_no_colon x (o.decrement e) f = other_sign (codes "--") (codes ":") x e (λ start mark. refl) f

some_none : {A : Type 0} {a : A} {one : Option A} → one ≡ None → one ≡ Some a → ⊥
some_none e f = absurd (cc)

assignment_no_colon : (x : Lexeme) {operator : AssignmentOperator} → assignment_at x ≡ Some operator → is_punctuator (codes ":") x ≡ true → ⊥
assignment_no_colon x e f = some_none (of_sign (λ x. assignment_at x ≡ None) (codes ":") x f (λ start mark. refl)) e

operator_no_colon : (k : Level) (x : Lexeme) (ts : List Lexeme) {operator : BinaryOperator} → operator_at k x ≡ Some operator → is_punctuator (codes ":") x ≡ true → ⊥
operator_no_colon k x ts e f = some_none (no_operator k (x ∷ ts) (level_after k (x ∷ ts) (at_colon x ts f))) e

constant_no_name : (x : Lexeme) {value : ℕ} {decimal unsigned : Bool} {longs : ℕ} → x.token.kind ≡ kind.Constant value decimal unsigned longs → is_name x ≡ true → ⊥
constant_no_name x e h = let g : is_name x ≡ false = rw e refl in clash g h

character_no_name : (x : Lexeme) {value : _} → x.token.kind ≡ kind.Character value → is_name x ≡ true → ⊥
character_no_name x e h = let g : is_name x ≡ false = rw e refl in clash g h

abbrev Colon : Nonterminal → List Lexeme → List Lexeme → Type 0
Colon (n.operations k a) ts rest = sees (codes ":") ts ≡ true → sees (codes ":") rest ≡ true
Colon (n.suffixes a) ts rest = sees (codes ":") ts ≡ true → sees (codes ":") rest ≡ true
Colon _ ts rest = sees_label ts ≡ true → sees (codes ":") rest ≡ true

operand_colon : (k : Level) (ts rest : List Lexeme) → Colon (operand k) ts rest → sees_label ts ≡ true → sees (codes ":") rest ≡ true
operand_colon n.product ts rest h = h
operand_colon n.sum ts rest h = h
operand_colon n.shift ts rest h = h
operand_colon n.relation ts rest h = h
operand_colon n.equality ts rest h = h
operand_colon n.bit_and ts rest h = h
operand_colon n.bit_xor ts rest h = h
operand_colon n.bit_or ts rest h = h
operand_colon n.land ts rest h = h
operand_colon n.lor ts rest h = h

colon : {d : Dialect} {m : Nonterminal} {ts rest : List Lexeme} {a : Expression} → Reads d m ts a rest → Colon m ts rest
colon (r.comma_one p e) = colon p
colon (r.comma {x = x} p e q) = λ h. absurd (other_sign (codes ",") (codes ":") x e (λ start mark. refl) (colon p h))
colon (r.assign_cond p e) = colon p
colon (r.assign {x = x} p e q) = λ h. absurd (assignment_no_colon x e (colon p h))
colon (r.cond_level p e) = colon p
colon (r.cond {x = x} p e q f v) = λ h. absurd (other_sign (codes "?") (codes ":") x e (λ start mark. refl) (colon p h))
colon (r.level {k = k} {ts = ts} {mid = mid} p q) = λ h. colon q (operand_colon k ts mid (colon p) h)
colon (r.operation {k = k} {x = x} {ts = ts} e p q) = λ h. absurd (operator_no_colon k x ts e h)
colon (r.operations_end e) = λ h. h
colon (r.cast_unary e p) = colon p
colon (r.cast {x = x} {ts = ts} e f p v q) = λ h. absurd (name_no_sign (codes "(") x ts h e)
colon (r.unary_postfix e p) = colon p
colon (r.prefix_step {x = x} {ts = ts} e p) = λ h. absurd (name_no_step x ts h e)
colon (r.unary {x = x} {ts = ts} e p) = λ h. absurd (name_no_unary x ts h e)
colon (r.postfix p q) = λ h. colon q (colon p h)
colon (r.index {x = x} e p f q) = λ h. absurd (other_sign (codes "[") (codes ":") x e (λ start mark. refl) h)
colon (r.member {x = x} e f q) = λ h. absurd (other_sign (codes ".") (codes ":") x e (λ start mark. refl) h)
colon (r.postfix_step {x = x} e q) = λ h. absurd (step_no_colon x e h)
colon (r.suffixes_end e) = λ h. h
colon (r.named {x = x} {ts = ts} e f) = λ h. (both (is_name x) (sees (codes ":") ts) h).1
colon (r.constant {x = x} {ts = ts} e) = λ h. absurd (constant_no_name x e (both (is_name x) (sees (codes ":") ts) h).0)
colon (r.character {x = x} {ts = ts} e) = λ h. absurd (character_no_name x e (both (is_name x) (sees (codes ":") ts) h).0)
colon (r.parenthesized {x = x} {ts = ts} e f p v) = λ h. absurd (name_no_sign (codes "(") x ts h e)
colon (r.call_empty {x = x} {y = y} {z = z} {rest = rest} e f v) = λ h. absurd (other_sign (codes "(") (codes ":") y f (λ start mark. refl) (both (is_name x) (sees (codes ":") (y ∷ z ∷ rest)) h).1)
colon (r.call {x = x} {y = y} {ts = ts} e f v p u) = λ h. absurd (other_sign (codes "(") (codes ":") y f (λ start mark. refl) (both (is_name x) (sees (codes ":") (y ∷ ts)) h).1)

not_label : (b : Bool) (ts : List Lexeme) → sees_label ts ≡ b → (sees_label ts ≡ true → ⊥) → sees_label ts ≡ false
not_label true ts e h = absurd (h e)
not_label false ts e h = e

pub no_label : {d : Dialect} {x : Lexeme} {ts rest : List Lexeme} {a : Expression} → Reads d n.comma ts a (x ∷ rest) → is_punctuator (codes ";") x ≡ true → sees_label ts ≡ false
no_label {x = x} {ts = ts} p e = not_label (sees_label ts) ts refl (λ h. other_sign (codes ";") (codes ":") x e (λ start mark. refl) (colon p h))
