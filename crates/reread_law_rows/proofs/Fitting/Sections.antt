-- Stretches of tokens with balanced brackets.
use Rattle.std.proofs.Common.{◌≡◌, ℕ, Bool, true, false, not, ◌&&◌, ◌||◌, List, [], ◌∷◌, ◌++◌, Some, None, refl, sym, ap, ◌∙◌, subst, codes, true≢false}
use Rattle.std.specs.Str.{bytes_eq}
use Rattle.std.proofs.lemmas.Slice.Eq.{bytes_eq-Decides}
use Rattle.mc_lex.specs.declared.token.TokenKind.{TokenKind}
use Rattle.mc_lex.specs.declared.token.TokenKind.TheVariants as kind
use Rattle.mc_lex.specs.Tokens.{Tok}
use Rattle.mc_tree.specs.declared.expressions.unary_operator.UnaryOperator.{UnaryOperator}
use Rattle.mc_tree.specs.declared.expressions.step_operator.StepOperator.{StepOperator}
use Rattle.mc_tree.specs.declared.expressions.binary_operator.BinaryOperator.{BinaryOperator}
use Rattle.mc_tree.specs.declared.expressions.binary_operator.BinaryOperator.TheVariants as binary
use Rattle.mc_tree.specs.declared.expressions.assignment_operator.AssignmentOperator.{AssignmentOperator}
use Rattle.mc_tree.specs.declared.expressions.assignment_operator.AssignmentOperator.TheVariants as assign
use Rattle.mc_tree.specs.declared.declarations.specifier_word.SpecifierWord.{SpecifierWord}
use Rattle.mc_grammar.specs.Words.{Lexeme, is_name, is_punctuator_kind, is_keyword_kind, is_identifier_kind, is_punctuator, is_keyword, is_type_name}
use Rattle.mc_grammar.specs.Operators.{IsStep, IsUnary, IsSpecifierWord, operator_at, assignment_at}
use Rattle.mc_grammar.specs.Operators as o
use Rattle.mc_grammar.specs.Nonterminal.{Level}
use Rattle.mc_grammar.specs.Nonterminal as n
use Rattle.mc_grammar.proofs.Spelling.{found, none}
use Rattle.reread_law_texts.proofs.Weave.Next.{signed, of_sign}
use Rattle.reread_pieces.specs.Words.{is, is_name as names, is_identifier, is_one_of, specifiers}
use Rattle.reread_law_rows.specs.inserted.Fits.{is_bracket, is_pair, IsBalanced}
use Rattle.reread_law_rows.specs.inserted.Fits as fit
use Rattle.reread_law_rows.proofs.Fitting.Words.{Clear, AreClear, neither}

-- ---- lists

pub assoc : (a b c : List Tok) → (a ++ b) ++ c ≡ a ++ (b ++ c)
assoc [] b c = refl
assoc (x ∷ a) b c = ap (λ us. x ∷ us) (assoc a b c)

append_balanced : {a b : List Tok} → IsBalanced a → IsBalanced b → IsBalanced (a ++ b)
append_balanced fit.nothing q = q
append_balanced (fit.other e p) q = fit.other e (append_balanced p q)
append_balanced {b = more} (fit.pair x y inside ts e p r) q =
    subst (λ us. IsBalanced (x ∷ us)) (sym (assoc inside (y ∷ ts) more)) (fit.pair x y inside (ts ++ more) e p (append_balanced r q))

-- ---- stretches

pub record Section (from inside rest : List Tok) : Type 0 where
  pub all : from ≡ inside ++ rest
  pub balanced : IsBalanced inside
  pub clear : AreClear rest

pub empty : {ts : List Tok} → AreClear ts → Section ts [] ts
empty h = record { all = refl; balanced = fit.nothing; clear = h }

pub token : (x : Tok) {ts : List Tok} → is_bracket x ≡ false → AreClear (x ∷ ts) → Section (x ∷ ts) (x ∷ []) ts
token x e h = record { all = refl; balanced = fit.other e fit.nothing; clear = h.1 }

pub join : {a i b j c : List Tok} → Section a i b → Section b j c → Section a (i ++ j) c
join {i = i} {j = j} {c = c} p q =
    record {
      all = p.all ∙ ap (λ us. i ++ us) q.all ∙ sym (assoc i j c);
      balanced = append_balanced p.balanced q.balanced;
      clear = q.clear;
    }

-- a token before a stretch, and after one
pub put : (x : Tok) {ts i rest : List Tok} → is_bracket x ≡ false → Section ts i rest → Section (x ∷ ts) (x ∷ i) rest
put x e p = record { all = ap (λ us. x ∷ us) p.all; balanced = fit.other e p.balanced; clear = p.clear }

pub add : (x : Tok) {from i ts : List Tok} → is_bracket x ≡ false → Section from i (x ∷ ts) → Section from (i ++ x ∷ []) ts
add x e p = join p (token x e p.clear)

pub enclosed : (x y : Tok) {ts i rest : List Tok} → is_pair x y ≡ true → Section ts i (y ∷ rest) → Section (x ∷ ts) (x ∷ i ++ y ∷ []) rest
enclosed x y {i = i} {rest = rest} e p =
    record {
      all = ap (λ us. x ∷ us) (p.all ∙ sym (assoc i (y ∷ []) rest));
      balanced = fit.pair x y i [] e p.balanced fit.nothing;
      clear = p.clear.1;
    }

-- some stretch
pub record Some_ (from rest : List Tok) : Type 0 where
  pub inside : List Tok
  pub is : Section from inside rest

pub some : {from i rest : List Tok} → Section from i rest → Some_ from rest
some {i = i} p = record { inside = i; is = p }

pub no_token : {ts : List Tok} → AreClear ts → Some_ ts ts
no_token h = some (empty h)

pub plain : (x : Lexeme) {ts : List Tok} → is_bracket x.token ≡ false → AreClear (x.token ∷ ts) → Some_ (x.token ∷ ts) ts
plain x e h = some (token x.token e h)

pub chain : {a b c : List Tok} → Some_ a b → (AreClear b → Some_ b c) → Some_ a c
chain p q = some (join p.is (q p.is.clear).is)

between : (x y : Lexeme) {ts rest : List Tok} → is_pair x.token y.token ≡ true → AreClear (x.token ∷ ts) → (AreClear ts → Some_ ts (y.token ∷ rest)) → Some_ (x.token ∷ ts) rest
between x y e h p = some (enclosed x.token y.token e (p h.1).is)

pub are_round : (x y : Lexeme) → is_punctuator (codes "(") x ≡ true → is_punctuator (codes ")") y ≡ true → is_pair x.token y.token ≡ true
are_round x y e f =
    of_sign (λ x. is_pair x.token y.token ≡ true) (codes "(") x e
    (λ start mark. of_sign (λ y. is_pair (signed (codes "(") start mark).token y.token ≡ true) (codes ")") y f (λ start mark. refl))

pub are_square : (x y : Lexeme) → is_punctuator (codes "[") x ≡ true → is_punctuator (codes "]") y ≡ true → is_pair x.token y.token ≡ true
are_square x y e f =
    of_sign (λ x. is_pair x.token y.token ≡ true) (codes "[") x e
    (λ start mark. of_sign (λ y. is_pair (signed (codes "[") start mark).token y.token ≡ true) (codes "]") y f (λ start mark. refl))

pub are_curly : (x y : Lexeme) → is_punctuator (codes "{") x ≡ true → is_punctuator (codes "}") y ≡ true → is_pair x.token y.token ≡ true
are_curly x y e f =
    of_sign (λ x. is_pair x.token y.token ≡ true) (codes "{") x e
    (λ start mark. of_sign (λ y. is_pair (signed (codes "{") start mark).token y.token ≡ true) (codes "}") y f (λ start mark. refl))

pub round : (x y : Lexeme) {ts rest : List Tok} → is_punctuator (codes "(") x ≡ true → is_punctuator (codes ")") y ≡ true → AreClear (x.token ∷ ts) → (AreClear ts → Some_ ts (y.token ∷ rest)) → Some_ (x.token ∷ ts) rest
round x y e f h p = between x y (are_round x y e f) h p

pub square : (x y : Lexeme) {ts rest : List Tok} → is_punctuator (codes "[") x ≡ true → is_punctuator (codes "]") y ≡ true → AreClear (x.token ∷ ts) → (AreClear ts → Some_ ts (y.token ∷ rest)) → Some_ (x.token ∷ ts) rest
square x y e f h p = between x y (are_square x y e f) h p

pub curly : (x y : Lexeme) {ts rest : List Tok} → is_punctuator (codes "{") x ≡ true → is_punctuator (codes "}") y ≡ true → AreClear (x.token ∷ ts) → (AreClear ts → Some_ ts (y.token ∷ rest)) → Some_ (x.token ∷ ts) rest
curly x y e f h p = between x y (are_curly x y e f) h p

-- ---- tokens that are no brackets

-- no bracket, no `;`, no name before a `(` of its own, and no first or second word of a declaration
pub record Mild (t : Tok) : Type 0 where
  pub bracket : is_bracket t ≡ false
  pub semicolon : is (codes ";") t ≡ false
  pub name : names t ≡ false
  pub identifier : is_identifier t ≡ false
  pub specifier : is_one_of specifiers t ≡ false

abbrev pub sample : List ℕ → Tok
sample text = record { kind = kind.Punctuator; text = text; start = 0 }

abbrev is_harsh : List ℕ → Bool
is_harsh text = is_bracket (sample text) || (is (codes ";") (sample text) || (names (sample text) || is_one_of specifiers (sample text)))

pub sign : (text : List ℕ) (x : Lexeme) → is_punctuator text x ≡ true → is_harsh text ≡ false → Mild x.token
sign text x e h =
    let a = neither (is_bracket (sample text)) _ h in
    let b = neither (is (codes ";") (sample text)) _ a.1 in
    let c = neither (names (sample text)) _ b.1 in
    of_sign (λ x. Mild x.token) text x e (λ start mark. record { bracket = a.0; semicolon = b.0; name = c.0; identifier = refl; specifier = c.1 })

pub operator_mild : (k : Level) (x : Lexeme) {operator : BinaryOperator} → operator_at k x ≡ Some operator → Mild x.token
unfolding specifiers
operator_mild n.product x e =
    found (λ a. Mild x.token) (is_punctuator (codes "*") x) binary.Multiply _ (λ f. sign (codes "*") x f refl)
    (found (λ a. Mild x.token) (is_punctuator (codes "/") x) binary.Divide _ (λ f. sign (codes "/") x f refl)
    (found (λ a. Mild x.token) (is_punctuator (codes "%") x) binary.Remainder None (λ f. sign (codes "%") x f refl)
    (none (λ a. Mild x.token)))) e
operator_mild n.sum x e =
    found (λ a. Mild x.token) (is_punctuator (codes "+") x) binary.Add _ (λ f. sign (codes "+") x f refl)
    (found (λ a. Mild x.token) (is_punctuator (codes "-") x) binary.Subtract None (λ f. sign (codes "-") x f refl)
    (none (λ a. Mild x.token))) e
operator_mild n.shift x e =
    found (λ a. Mild x.token) (is_punctuator (codes "<<") x) binary.ShiftLeft _ (λ f. sign (codes "<<") x f refl)
    (found (λ a. Mild x.token) (is_punctuator (codes ">>") x) binary.ShiftRight None (λ f. sign (codes ">>") x f refl)
    (none (λ a. Mild x.token))) e
operator_mild n.relation x e =
    found (λ a. Mild x.token) (is_punctuator (codes "<") x) binary.Less _ (λ f. sign (codes "<") x f refl)
    (found (λ a. Mild x.token) (is_punctuator (codes ">") x) binary.Greater _ (λ f. sign (codes ">") x f refl)
    (found (λ a. Mild x.token) (is_punctuator (codes "<=") x) binary.LessOrEqual _ (λ f. sign (codes "<=") x f refl)
    (found (λ a. Mild x.token) (is_punctuator (codes ">=") x) binary.GreaterOrEqual None (λ f. sign (codes ">=") x f refl)
    (none (λ a. Mild x.token))))) e
operator_mild n.equality x e =
    found (λ a. Mild x.token) (is_punctuator (codes "==") x) binary.Equal _ (λ f. sign (codes "==") x f refl)
    (found (λ a. Mild x.token) (is_punctuator (codes "!=") x) binary.Unequal None (λ f. sign (codes "!=") x f refl)
    (none (λ a. Mild x.token))) e
operator_mild n.bit_and x e =
    found (λ a. Mild x.token) (is_punctuator (codes "&") x) binary.BitAnd None (λ f. sign (codes "&") x f refl)
    (none (λ a. Mild x.token)) e
operator_mild n.bit_xor x e =
    found (λ a. Mild x.token) (is_punctuator (codes "^") x) binary.BitXor None (λ f. sign (codes "^") x f refl)
    (none (λ a. Mild x.token)) e
operator_mild n.bit_or x e =
    found (λ a. Mild x.token) (is_punctuator (codes "|") x) binary.BitOr None (λ f. sign (codes "|") x f refl)
    (none (λ a. Mild x.token)) e
operator_mild n.land x e =
    found (λ a. Mild x.token) (is_punctuator (codes "&&") x) binary.And None (λ f. sign (codes "&&") x f refl)
    (none (λ a. Mild x.token)) e
operator_mild n.lor x e =
    found (λ a. Mild x.token) (is_punctuator (codes "||") x) binary.Or None (λ f. sign (codes "||") x f refl)
    (none (λ a. Mild x.token)) e

pub assignment_mild : (x : Lexeme) {operator : AssignmentOperator} → assignment_at x ≡ Some operator → Mild x.token
unfolding specifiers
assignment_mild x e =
    found (λ a. Mild x.token) (is_punctuator (codes "=") x) assign.Assign _ (λ f. sign (codes "=") x f refl)
    (found (λ a. Mild x.token) (is_punctuator (codes "*=") x) assign.Multiply _ (λ f. sign (codes "*=") x f refl)
    (found (λ a. Mild x.token) (is_punctuator (codes "/=") x) assign.Divide _ (λ f. sign (codes "/=") x f refl)
    (found (λ a. Mild x.token) (is_punctuator (codes "%=") x) assign.Remainder _ (λ f. sign (codes "%=") x f refl)
    (found (λ a. Mild x.token) (is_punctuator (codes "+=") x) assign.Add _ (λ f. sign (codes "+=") x f refl)
    (found (λ a. Mild x.token) (is_punctuator (codes "-=") x) assign.Subtract _ (λ f. sign (codes "-=") x f refl)
    (found (λ a. Mild x.token) (is_punctuator (codes "<<=") x) assign.ShiftLeft _ (λ f. sign (codes "<<=") x f refl)
    (found (λ a. Mild x.token) (is_punctuator (codes ">>=") x) assign.ShiftRight _ (λ f. sign (codes ">>=") x f refl)
    (found (λ a. Mild x.token) (is_punctuator (codes "&=") x) assign.BitAnd _ (λ f. sign (codes "&=") x f refl)
    (found (λ a. Mild x.token) (is_punctuator (codes "^=") x) assign.BitXor _ (λ f. sign (codes "^=") x f refl)
    (found (λ a. Mild x.token) (is_punctuator (codes "|=") x) assign.BitOr None (λ f. sign (codes "|=") x f refl)
    (none (λ a. Mild x.token)))))))))))) e

pub step_mild : (x : Lexeme) {operator : StepOperator} → IsStep x operator → Mild x.token
unfolding specifiers
step_mild x (o.increment e) = sign (codes "++") x e refl
step_mild x (o.decrement e) = sign (codes "--") x e refl

pub unary_mild : (x : Lexeme) {operator : UnaryOperator} → IsUnary x operator → Mild x.token
unfolding specifiers
unary_mild x (o.plus e) = sign (codes "+") x e refl
unary_mild x (o.minus e) = sign (codes "-") x e refl
unary_mild x (o.complement e) = sign (codes "~") x e refl
unary_mild x (o.not e) = sign (codes "!") x e refl
unary_mild x (o.dereference e) = sign (codes "*") x e refl
unary_mild x (o.address e) = sign (codes "&") x e refl

pub comma_mild : (x : Lexeme) → is_punctuator (codes ",") x ≡ true → Mild x.token
unfolding specifiers
comma_mild x e = sign (codes ",") x e refl

pub question_mild : (x : Lexeme) → is_punctuator (codes "?") x ≡ true → Mild x.token
unfolding specifiers
question_mild x e = sign (codes "?") x e refl

pub member_mild : (x : Lexeme) → is_punctuator (codes ".") x ≡ true → Mild x.token
unfolding specifiers
member_mild x e = sign (codes ".") x e refl

pub star_mild : (x : Lexeme) → is_punctuator (codes "*") x ≡ true → Mild x.token
unfolding specifiers
star_mild x e = sign (codes "*") x e refl

pub equals_mild : (x : Lexeme) → is_punctuator (codes "=") x ≡ true → Mild x.token
unfolding specifiers
equals_mild x e = sign (codes "=") x e refl

-- ---- other tokens

pub keyword_no_sign : (k : TokenKind) → is_keyword_kind k ≡ true → is_punctuator_kind k ≡ false
keyword_no_sign kind.Keyword e = refl
keyword_no_sign kind.Identifier e = refl
keyword_no_sign kind.Punctuator e = absurd (true≢false (sym e))
keyword_no_sign (kind.Constant value decimal unsigned longs) e = refl
keyword_no_sign (kind.Character value) e = refl

pub identifier_no_sign : (k : TokenKind) → is_identifier_kind k ≡ true → is_punctuator_kind k ≡ false
identifier_no_sign kind.Identifier e = refl
identifier_no_sign kind.Keyword e = refl
identifier_no_sign kind.Punctuator e = absurd (true≢false (sym e))
identifier_no_sign (kind.Constant value decimal unsigned longs) e = refl
identifier_no_sign (kind.Character value) e = refl

pub left_of : (a b : Bool) → (a && b) ≡ true → a ≡ true
left_of true b e = refl
left_of false b e = e

pub right_of : (a b : Bool) → (a && b) ≡ true → b ≡ true
right_of true b e = e
right_of false b e = absurd (true≢false (sym e))

pub keyword_kind : (text : List ℕ) (x : Lexeme) → is_keyword text x ≡ true → is_punctuator_kind x.token.kind ≡ false
keyword_kind text x e = keyword_no_sign x.token.kind (left_of (is_keyword_kind x.token.kind) (bytes_eq x.token.text text) e)

pub keyword_text : (text : List ℕ) (x : Lexeme) → is_keyword text x ≡ true → x.token.text ≡ text
keyword_text text x e = (bytes_eq-Decides x.token.text text).0 (right_of (is_keyword_kind x.token.kind) (bytes_eq x.token.text text) e)

pub sign_text : (text : List ℕ) (x : Lexeme) → is_punctuator text x ≡ true → x.token.text ≡ text
sign_text text x e = (bytes_eq-Decides x.token.text text).0 (right_of (is_punctuator_kind x.token.kind) (bytes_eq x.token.text text) e)

pub keyword_free : (text : List ℕ) (x : Lexeme) → is_keyword text x ≡ true → Clear x.token → is_bracket x.token ≡ false
keyword_free text x e c = c.bracket (keyword_kind text x e)

-- an identifier, whatever it names
pub identifier_free : (x : Lexeme) → is_identifier_kind x.token.kind ≡ true → Clear x.token → is_bracket x.token ≡ false
identifier_free x e c = c.bracket (identifier_no_sign x.token.kind e)

pub name_free : (x : Lexeme) → is_name x ≡ true → Clear x.token → is_bracket x.token ≡ false
name_free x e c = identifier_free x (left_of (is_identifier_kind x.token.kind) (not x.names_type) e) c

pub type_free : (x : Lexeme) → is_type_name x ≡ true → Clear x.token → is_bracket x.token ≡ false
type_free x e c = identifier_free x (left_of (is_identifier_kind x.token.kind) x.names_type e) c

pub word_free : {x : Lexeme} {w : SpecifierWord} → IsSpecifierWord x w → Clear x.token → is_bracket x.token ≡ false
word_free {x = x} (o.typedef e) c = keyword_free (codes "typedef") x e c
word_free {x = x} (o.static e) c = keyword_free (codes "static") x e c
word_free {x = x} (o.extern e) c = keyword_free (codes "extern") x e c
word_free {x = x} (o.const e) c = keyword_free (codes "const") x e c
word_free {x = x} (o.void e) c = keyword_free (codes "void") x e c
word_free {x = x} (o.bool e) c = keyword_free (codes "_Bool") x e c
word_free {x = x} (o.char e) c = keyword_free (codes "char") x e c
word_free {x = x} (o.short e) c = keyword_free (codes "short") x e c
word_free {x = x} (o.int e) c = keyword_free (codes "int") x e c
word_free {x = x} (o.long e) c = keyword_free (codes "long") x e c
word_free {x = x} (o.signed e) c = keyword_free (codes "signed") x e c
word_free {x = x} (o.unsigned e) c = keyword_free (codes "unsigned") x e c

pub semicolon_free : (x : Lexeme) → is_punctuator (codes ";") x ≡ true → is_bracket x.token ≡ false
semicolon_free x e = of_sign (λ x. is_bracket x.token ≡ false) (codes ";") x e (λ start mark. refl)

pub colon_free : (x : Lexeme) → is_punctuator (codes ":") x ≡ true → is_bracket x.token ≡ false
colon_free x e = of_sign (λ x. is_bracket x.token ≡ false) (codes ":") x e (λ start mark. refl)
