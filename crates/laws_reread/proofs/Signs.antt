-- What the kind of a token says of its text.
use Rattle.std.proofs.Common.{◌≡◌, ℕ, Bool, true, false, ◌&&◌, ◌||◌, List, [], ◌∷◌, Ok, refl, sym, ap, ◌∙◌, codes, true≢false}
use Rattle.std.specs.Str.{bytes_eq}
use Rattle.mc_lex.specs.declared.token.Dialect.{Dialect}
use Rattle.mc_lex.specs.declared.token.TokenKind.{TokenKind}
use Rattle.mc_lex.specs.declared.token.TokenKind.TheVariants as kind
use Rattle.mc_lex.specs.declared.candidate.Class.{Class}
use Rattle.mc_lex.specs.declared.candidate.Class.TheVariants as class
use Rattle.mc_lex.specs.declared.fault_kind.FaultKind.TheVariants as fault_kind
use Rattle.mc_lex.specs.Tokens.{Tok}
use Rattle.mc_lex.specs.Words.{one_of}
use Rattle.mc_lex.specs.Scans.{Means}
use Rattle.mc_lex.specs.steps.Scanner.{punctuators_and_openings, outside_punctuators_and_openings, kind_of}
use Rattle.mc_lex.proofs.Texts.{passes}
use Rattle.mc_lex.proofs.Candidates.{Stands, stood, one_class}
use Rattle.mc_grammar.specs.Words.{Lexeme, is_punctuator_kind, is_identifier_kind, is_punctuator}
use Rattle.reread_pieces.specs.Words.{is}
use Rattle.reread_law_rows.specs.inserted.Fits.{is_bracket, is_pair}
use Rattle.reread_law_rows.specs.fitting.Laws.{MeanTheirKinds}
use Rattle.reread_law_printed.specs.placed.Heads.{is_apart}
use Rattle.reread_law_rows.proofs.Fitting.Sections.{identifier_no_sign, sign_text}
use Rattle.reread_law_rows.proofs.Fitting.Words.{is_any_punctuator, sign_kind, no, neither}

-- ---- signs are punctuators

abbrev pub brackets : List (List ℕ)
brackets = codes "(" ∷ codes ")" ∷ codes "[" ∷ codes "]" ∷ codes "{" ∷ codes "}" ∷ []

abbrev pub signs : List (List ℕ)
signs = codes ";" ∷ codes "*" ∷ brackets

are_punctuators : (text : List ℕ) → one_of signs text ≡ true → one_of punctuators_and_openings text ≡ true
unfolding punctuators_and_openings
are_punctuators text e = passes is_any_punctuator signs text refl e

not_sign : (d : Dialect) (k : Class) (text : List ℕ) (one : TokenKind) → Stands k text → kind_of d k text ≡ Ok one → is_punctuator_kind one ≡ false → one_of signs text ≡ true → ⊥
unfolding kind_of
not_sign d class.Punctuator text one s e h f =
    let same : one ≡ kind.Punctuator = sign_kind (one_of outside_punctuators_and_openings text) one e in
    true≢false (sym (ap is_punctuator_kind same) ∙ h)
not_sign d class.Word text one s e h f = let same : class.Word ≡ class.Punctuator = one_class class.Word class.Punctuator text s (are_punctuators text f) in cc
not_sign d class.Number text one s e h f = let same : class.Number ≡ class.Punctuator = one_class class.Number class.Punctuator text s (are_punctuators text f) in cc
not_sign d class.Character text one s e h f = let same : class.Character ≡ class.Punctuator = one_class class.Character class.Punctuator text s (are_punctuators text f) in cc

-- A token that is no punctuator has no text of a sign.
abbrev pub Clear : Tok → Type 0
Clear t = is_punctuator_kind t.kind ≡ false → one_of signs t.text ≡ false

abbrev pub AreClear : List Tok → Type 0
AreClear [] = Unit {0}
AreClear (t ∷ ts) = Clear t × AreClear ts

clear : (d : Dialect) (t : Tok) → Means d t.text (Ok t.kind) → Clear t
clear d t m h = let s = stood d t.text (Ok t.kind) m in no (one_of signs t.text) (λ f. not_sign d s.class t.text t.kind s.stands s.kind h f)

pub are_clear : (d : Dialect) (ts : List Tok) → MeanTheirKinds d ts → AreClear ts
are_clear d [] h = tt
are_clear d (t ∷ ts) h = (clear d t h.0, are_clear d ts h.1)

-- ---- texts

trim : (a b c d e f : Bool) → (a || (b || (c || (d || (e || (f || false)))))) ≡ (a || b || c || d || e || f)
trim true b c d e f = refl
trim false true c d e f = refl
trim false false true d e f = refl
trim false false false true e f = refl
trim false false false false true f = refl
trim false false false false false true = refl
trim false false false false false false = refl

pub no_bracket : (t : Tok) → one_of brackets t.text ≡ false → is_bracket t ≡ false
no_bracket t e =
    sym (trim (is (codes "(") t) (is (codes ")") t) (is (codes "[") t) (is (codes "]") t) (is (codes "{") t) (is (codes "}") t)) ∙ e

or_false : (a b c : Bool) → a ≡ false → b ≡ false → c ≡ false → (a || b || c) ≡ false
or_false a b c e f g = rw (e, f, g) refl

pub no_sign : (t : Tok) → one_of signs t.text ≡ false → is_apart t ≡ false
no_sign t e =
    let a = neither (is (codes ";") t) _ e in
    let b = neither (is (codes "*") t) _ a.1 in
    or_false (is_bracket t) (is (codes ";") t) (is (codes "*") t) (no_bracket t b.1) a.0 b.0

-- that no bracket is one of them
pub record NoneOf (text : List ℕ) : Type 0 where
  pub close : bytes_eq text (codes ")") ≡ false
  pub brace : bytes_eq text (codes "{") ≡ false

pub none_of : (text : List ℕ) → one_of brackets text ≡ false → NoneOf text
none_of text e =
    let a = neither (bytes_eq text (codes "(")) _ e in
    let b = neither (bytes_eq text (codes ")")) _ a.1 in
    let c = neither (bytes_eq text (codes "[")) _ b.1 in
    let d = neither (bytes_eq text (codes "]")) _ c.1 in
    let f = neither (bytes_eq text (codes "{")) _ d.1 in
    record { close = b.0; brace = f.0 }

-- ---- pairs

abbrev pub belong : List ℕ → List ℕ → Bool
belong a b =
    bytes_eq a (codes "(") && bytes_eq b (codes ")")
    || bytes_eq a (codes "[") && bytes_eq b (codes "]")
    || bytes_eq a (codes "{") && bytes_eq b (codes "}")

pub are_pair : (one other : List ℕ) → belong one other ≡ true → (x y : Lexeme) → is_punctuator one x ≡ true → is_punctuator other y ≡ true → is_pair x.token y.token ≡ true
are_pair one other h x y e f = ap (λ l. belong l y.token.text) (sign_text one x e) ∙ ap (λ r. belong one r) (sign_text other y f) ∙ h

-- an identifier is no `;`, and no bracket
pub no_semicolon : (x : Lexeme) → is_identifier_kind x.token.kind ≡ true → Clear x.token → is (codes ";") x.token ≡ false
no_semicolon x e c = (neither (is (codes ";") x.token) _ (c (identifier_no_sign x.token.kind e))).0

pub free_name : (x : Lexeme) → is_identifier_kind x.token.kind ≡ true → Clear x.token → is_bracket x.token ≡ false
free_name x e c =
    let a = neither (is (codes ";") x.token) _ (c (identifier_no_sign x.token.kind e)) in
    no_bracket x.token (neither (is (codes "*") x.token) _ a.1).1
