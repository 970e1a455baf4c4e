-- What a token is that passes a test, and which other tests it therefore fails.
use Rattle.std.proofs.Common.{◌≡◌, ℕ, Bool, true, false, ◌&&◌, ◌||◌, not, List, Some, None, refl, codes}
use Rattle.std.specs.Str.{bytes_eq}
use Rattle.std.proofs.lemmas.Slice.Eq.{bytes_eq-Decides}
use Rattle.mc_lex.specs.declared.token.TokenKind.{TokenKind}
use Rattle.mc_lex.specs.declared.token.TokenKind.TheVariants as kind
use Rattle.mc_tree.specs.declared.expressions.unary_operator.UnaryOperator.{UnaryOperator}
use Rattle.mc_tree.specs.declared.expressions.step_operator.StepOperator.{StepOperator}
use Rattle.mc_tree.specs.declared.expressions.assignment_operator.AssignmentOperator.{AssignmentOperator}
use Rattle.mc_tree.specs.declared.declarations.specifier_word.SpecifierWord.{SpecifierWord}
use Rattle.mc_grammar.specs.Words.{Lexeme, is_punctuator_kind, is_keyword_kind, is_identifier_kind, is_punctuator, is_keyword, is_name, is_type_name, is_tag, is_specifier_word}
use Rattle.mc_grammar.specs.Operators.{IsStep, IsUnary, IsSpecifierWord, operator_at, assignment_at, is_prefix, is_suffix}
use Rattle.mc_grammar.specs.Operators as o
use Rattle.mc_grammar.specs.Nonterminal.{Level}
use Rattle.mc_grammar.specs.Nonterminal as n
use Rattle.mc_grammar.specs.steps.Next.{step_at, unary_at, word_at}

pub and_left : (a b : Bool) → (a && b) ≡ true → a ≡ true
and_left true b e = refl
and_left false b e = e

pub and_right : (a b : Bool) → (a && b) ≡ true → b ≡ true
and_right true b e = e
and_right false b e = absurd (cc)

pub fails : (a : Bool) → (a ≡ true → ⊥) → a ≡ false
fails true h = absurd (h refl)
fails false h = refl

kind_of_punctuator : (k : TokenKind) → is_punctuator_kind k ≡ true → k ≡ kind.Punctuator
kind_of_punctuator kind.Punctuator e = refl
kind_of_punctuator kind.Identifier e = absurd (cc)
kind_of_punctuator kind.Keyword e = absurd (cc)
kind_of_punctuator (kind.Constant a b c d) e = absurd (cc)
kind_of_punctuator (kind.Character a) e = absurd (cc)

kind_of_keyword : (k : TokenKind) → is_keyword_kind k ≡ true → k ≡ kind.Keyword
kind_of_keyword kind.Keyword e = refl
kind_of_keyword kind.Identifier e = absurd (cc)
kind_of_keyword kind.Punctuator e = absurd (cc)
kind_of_keyword (kind.Constant a b c d) e = absurd (cc)
kind_of_keyword (kind.Character a) e = absurd (cc)

kind_of_identifier : (k : TokenKind) → is_identifier_kind k ≡ true → k ≡ kind.Identifier
kind_of_identifier kind.Identifier e = refl
kind_of_identifier kind.Keyword e = absurd (cc)
kind_of_identifier kind.Punctuator e = absurd (cc)
kind_of_identifier (kind.Constant a b c d) e = absurd (cc)
kind_of_identifier (kind.Character a) e = absurd (cc)

-- a token of this kind and this text
pub record Is (k : TokenKind) (text : List ℕ) (x : Lexeme) : Type 0 where
  pub kind_is : x.token.kind ≡ k
  pub text_is : x.token.text ≡ text

pub punctuator : (text : List ℕ) (x : Lexeme) → is_punctuator text x ≡ true → Is kind.Punctuator text x
punctuator text x e = record {
  kind_is = kind_of_punctuator x.token.kind (and_left (is_punctuator_kind x.token.kind) (bytes_eq x.token.text text) e);
  text_is = (bytes_eq-Decides x.token.text text).0 (and_right (is_punctuator_kind x.token.kind) (bytes_eq x.token.text text) e);
}

pub word : (text : List ℕ) (x : Lexeme) → is_keyword text x ≡ true → Is kind.Keyword text x
word text x e = record {
  kind_is = kind_of_keyword x.token.kind (and_left (is_keyword_kind x.token.kind) (bytes_eq x.token.text text) e);
  text_is = (bytes_eq-Decides x.token.text text).0 (and_right (is_keyword_kind x.token.kind) (bytes_eq x.token.text text) e);
}

pub named : (x : Lexeme) → is_name x ≡ true → x.token.kind ≡ kind.Identifier
named x e = kind_of_identifier x.token.kind (and_left (is_identifier_kind x.token.kind) (not x.names_type) e)

not_true : (b : Bool) → not b ≡ true → b ≡ false
not_true true e = absurd (cc)
not_true false e = refl

pub named_no_type : (x : Lexeme) → is_name x ≡ true → x.names_type ≡ false
named_no_type x e = not_true x.names_type (and_right (is_identifier_kind x.token.kind) (not x.names_type) e)

pub typed : (x : Lexeme) → is_type_name x ≡ true → (x.token.kind ≡ kind.Identifier) × (x.names_type ≡ true)
typed x e = (kind_of_identifier x.token.kind (and_left (is_identifier_kind x.token.kind) x.names_type e), and_right (is_identifier_kind x.token.kind) x.names_type e)

pub tagged : (x : Lexeme) → is_tag x ≡ true → x.token.kind ≡ kind.Identifier
tagged x e = kind_of_identifier x.token.kind e

-- operators before an operand
pub step_prefix : {x : Lexeme} {operator : StepOperator} → IsStep x operator → is_prefix x ≡ true
step_prefix (o.increment {x = x} e) = let k = punctuator (codes "++") x e in rw (k.kind_is, k.text_is) refl
step_prefix (o.decrement {x = x} e) = let k = punctuator (codes "--") x e in rw (k.kind_is, k.text_is) refl

pub index_suffix : (x : Lexeme) → is_punctuator (codes "[") x ≡ true → is_suffix x ≡ true
index_suffix x e = rw e refl

pub member_suffix : (x : Lexeme) → is_punctuator (codes ".") x ≡ true → (is_suffix x ≡ true) × (is_punctuator (codes "[") x ≡ false)
member_suffix x e = let k = punctuator (codes ".") x e in rw (k.kind_is, k.text_is) (refl, refl)

pub step_suffix : {x : Lexeme} {operator : StepOperator} → IsStep x operator → (is_suffix x ≡ true) × (is_punctuator (codes "[") x ≡ false) × (is_punctuator (codes ".") x ≡ false)
step_suffix (o.increment {x = x} e) = let k = punctuator (codes "++") x e in rw (k.kind_is, k.text_is) (refl, refl, refl)
step_suffix (o.decrement {x = x} e) = let k = punctuator (codes "--") x e in rw (k.kind_is, k.text_is) (refl, refl, refl)

pub step_is : {x : Lexeme} {operator : StepOperator} → IsStep x operator → step_at x ≡ Some operator
step_is (o.increment {x = x} e) = let k = punctuator (codes "++") x e in rw (k.kind_is, k.text_is) refl
step_is (o.decrement {x = x} e) = let k = punctuator (codes "--") x e in rw (k.kind_is, k.text_is) refl

pub unary_is : {x : Lexeme} {operator : UnaryOperator} → IsUnary x operator → (is_prefix x ≡ true) × (step_at x ≡ None) × (unary_at x ≡ Some operator)
unary_is (o.plus {x = x} e) = let k = punctuator (codes "+") x e in rw (k.kind_is, k.text_is) (refl, refl, refl)
unary_is (o.minus {x = x} e) = let k = punctuator (codes "-") x e in rw (k.kind_is, k.text_is) (refl, refl, refl)
unary_is (o.complement {x = x} e) = let k = punctuator (codes "~") x e in rw (k.kind_is, k.text_is) (refl, refl, refl)
unary_is (o.not {x = x} e) = let k = punctuator (codes "!") x e in rw (k.kind_is, k.text_is) (refl, refl, refl)
unary_is (o.dereference {x = x} e) = let k = punctuator (codes "*") x e in rw (k.kind_is, k.text_is) (refl, refl, refl)
unary_is (o.address {x = x} e) = let k = punctuator (codes "&") x e in rw (k.kind_is, k.text_is) (refl, refl, refl)

pub word_is : {x : Lexeme} {w : SpecifierWord} → IsSpecifierWord x w → (is_specifier_word x ≡ true) × (word_at x ≡ Some w)
word_is (o.typedef {x = x} e) = let k = word (codes "typedef") x e in rw (k.kind_is, k.text_is) (refl, refl)
word_is (o.static {x = x} e) = let k = word (codes "static") x e in rw (k.kind_is, k.text_is) (refl, refl)
word_is (o.extern {x = x} e) = let k = word (codes "extern") x e in rw (k.kind_is, k.text_is) (refl, refl)
word_is (o.const {x = x} e) = let k = word (codes "const") x e in rw (k.kind_is, k.text_is) (refl, refl)
word_is (o.void {x = x} e) = let k = word (codes "void") x e in rw (k.kind_is, k.text_is) (refl, refl)
word_is (o.bool {x = x} e) = let k = word (codes "_Bool") x e in rw (k.kind_is, k.text_is) (refl, refl)
word_is (o.char {x = x} e) = let k = word (codes "char") x e in rw (k.kind_is, k.text_is) (refl, refl)
word_is (o.short {x = x} e) = let k = word (codes "short") x e in rw (k.kind_is, k.text_is) (refl, refl)
word_is (o.int {x = x} e) = let k = word (codes "int") x e in rw (k.kind_is, k.text_is) (refl, refl)
word_is (o.long {x = x} e) = let k = word (codes "long") x e in rw (k.kind_is, k.text_is) (refl, refl)
word_is (o.signed {x = x} e) = let k = word (codes "signed") x e in rw (k.kind_is, k.text_is) (refl, refl)
word_is (o.unsigned {x = x} e) = let k = word (codes "unsigned") x e in rw (k.kind_is, k.text_is) (refl, refl)

-- a token that assigns is no token that does not
no_sign : (text : List ℕ) (x : Lexeme) {operator : AssignmentOperator} → assignment_at x ≡ Some operator → (Is kind.Punctuator text x → assignment_at x ≡ None) → is_punctuator text x ≡ false
no_sign text x e f = fails (is_punctuator text x) (λ h. let g = f (punctuator text x h) in absurd (cc))

-- after an assignment operator no operation goes on
pub assigns : (k : Level) (x : Lexeme) {operator : AssignmentOperator} → assignment_at x ≡ Some operator → operator_at k x ≡ None
assigns n.product x e =
    rw (no_sign (codes "*") x e (λ k. rw (k.kind_is, k.text_is) refl), no_sign (codes "/") x e (λ k. rw (k.kind_is, k.text_is) refl), no_sign (codes "%") x e (λ k. rw (k.kind_is, k.text_is) refl)) refl
assigns n.sum x e = rw (no_sign (codes "+") x e (λ k. rw (k.kind_is, k.text_is) refl), no_sign (codes "-") x e (λ k. rw (k.kind_is, k.text_is) refl)) refl
assigns n.shift x e = rw (no_sign (codes "<<") x e (λ k. rw (k.kind_is, k.text_is) refl), no_sign (codes ">>") x e (λ k. rw (k.kind_is, k.text_is) refl)) refl
assigns n.relation x e =
    rw (
      no_sign (codes "<") x e (λ k. rw (k.kind_is, k.text_is) refl),
      no_sign (codes ">") x e (λ k. rw (k.kind_is, k.text_is) refl),
      no_sign (codes "<=") x e (λ k. rw (k.kind_is, k.text_is) refl),
      no_sign (codes ">=") x e (λ k. rw (k.kind_is, k.text_is) refl),
    ) refl
assigns n.equality x e = rw (no_sign (codes "==") x e (λ k. rw (k.kind_is, k.text_is) refl), no_sign (codes "!=") x e (λ k. rw (k.kind_is, k.text_is) refl)) refl
assigns n.bit_and x e = rw (no_sign (codes "&") x e (λ k. rw (k.kind_is, k.text_is) refl)) refl
assigns n.bit_xor x e = rw (no_sign (codes "^") x e (λ k. rw (k.kind_is, k.text_is) refl)) refl
assigns n.bit_or x e = rw (no_sign (codes "|") x e (λ k. rw (k.kind_is, k.text_is) refl)) refl
assigns n.land x e = rw (no_sign (codes "&&") x e (λ k. rw (k.kind_is, k.text_is) refl)) refl
assigns n.lor x e = rw (no_sign (codes "||") x e (λ k. rw (k.kind_is, k.text_is) refl)) refl

pub assigns_no_question : (x : Lexeme) {operator : AssignmentOperator} → assignment_at x ≡ Some operator → is_punctuator (codes "?") x ≡ false
assigns_no_question x e = no_sign (codes "?") x e (λ k. rw (k.kind_is, k.text_is) refl)

-- a token that is no prefix operator is none of its kinds
none_of : (a b c d e f g h : Bool) → (a || b || c || d || e || f || g || h) ≡ false
    → (a ≡ false) × (b ≡ false) × (c ≡ false) × (d ≡ false) × (e ≡ false) × (f ≡ false) × (g ≡ false) × (h ≡ false)
none_of false false false false false false false false p = (refl, refl, refl, refl, refl, refl, refl, refl)
none_of true b c d e f g h p = absurd (cc)
none_of false true c d e f g h p = absurd (cc)
none_of false false true d e f g h p = absurd (cc)
none_of false false false true e f g h p = absurd (cc)
none_of false false false false true f g h p = absurd (cc)
none_of false false false false false true g h p = absurd (cc)
none_of false false false false false false true h p = absurd (cc)
none_of false false false false false false false true p = absurd (cc)

pub no_prefix : (x : Lexeme) → is_prefix x ≡ false → (step_at x ≡ None) × (unary_at x ≡ None)
no_prefix x e =
    let n = none_of (is_punctuator (codes "++") x) (is_punctuator (codes "--") x) (is_punctuator (codes "+") x) (is_punctuator (codes "-") x) (is_punctuator (codes "~") x) (is_punctuator (codes "!") x)
    (is_punctuator (codes "*") x) (is_punctuator (codes "&") x) e in
    (rw (n.0, n.1) refl, rw (n.2, n.3, n.4, n.5, n.6, n.7) refl)
