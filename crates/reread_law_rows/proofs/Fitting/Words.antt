-- What the text of a token says of it.
use Rattle.std.proofs.Common.{◌≡◌, ℕ, Bool, true, false, ◌||◌, List, [], ◌∷◌, Option, Result, Ok, Err, refl, sym, ap, ◌∙◌, codes, true≢false, if◌then◌else◌}
use Rattle.mc_lex.specs.declared.token.Dialect.{Dialect}
use Rattle.mc_lex.specs.declared.token.TokenKind.{TokenKind}
use Rattle.mc_lex.specs.declared.token.TokenKind.TheVariants as kind
use Rattle.mc_lex.specs.declared.candidate.Class.{Class}
use Rattle.mc_lex.specs.declared.candidate.Class.TheVariants as class
use Rattle.mc_lex.specs.declared.fault.LexFault.{LexFault}
use Rattle.mc_lex.specs.declared.fault_kind.FaultKind.{FaultKind}
use Rattle.mc_lex.specs.declared.fault_kind.FaultKind.TheVariants as fault_kind
use Rattle.mc_lex.specs.Tokens.{Tok}
use Rattle.mc_lex.specs.Words.{one_of, is_word, keywords, word_kind}
use Rattle.mc_lex.specs.Scans.{Means, Scans}
use Rattle.mc_lex.specs.Scans as r
use Rattle.mc_lex.specs.steps.Scanner.{punctuators_and_openings, outside_punctuators_and_openings, kind_of}
use Rattle.mc_lex.proofs.Texts.{passes}
use Rattle.mc_lex.proofs.Candidates.{Stands, stood, one_class}
use Rattle.mc_grammar.specs.Words.{is_punctuator_kind, is_keyword_kind}
use Rattle.reread_pieces.specs.Words.{is, is_name, is_identifier, is_one_of, specifiers}
use Rattle.reread_law_rows.specs.inserted.Fits.{is_bracket}
use Rattle.reread_law_rows.specs.fitting.Laws.{MeanTheirKinds}

-- ---- tables of texts

abbrev signs : List (List ℕ)
signs = codes "(" ∷ codes ")" ∷ codes "[" ∷ codes "]" ∷ codes "{" ∷ codes "}" ∷ codes ";" ∷ codes ":" ∷ []

abbrev words : List (List ℕ)
words = codes "if" ∷ codes "switch" ∷ codes "while" ∷ codes "for" ∷ specifiers

pub no : (b : Bool) → (b ≡ true → ⊥) → b ≡ false
no true h = absurd (h refl)
no false h = refl

pub neither : (a b : Bool) → (a || b) ≡ false → (a ≡ false) × (b ≡ false)
neither true b e = absurd (true≢false e)
neither false b e = (refl, e)

are_words : (text : List ℕ) → one_of words text ≡ true → is_word text ≡ true
unfolding specifiers
are_words text e = passes is_word words text refl e

abbrev is_kept_word : List ℕ → Bool
is_kept_word text = one_of keywords text

are_keywords : (text : List ℕ) → one_of words text ≡ true → one_of keywords text ≡ true
unfolding specifiers keywords
are_keywords text e = passes is_kept_word words text refl e

abbrev pub is_any_punctuator : List ℕ → Bool
is_any_punctuator text = one_of punctuators_and_openings text

are_punctuators : (text : List ℕ) → one_of signs text ≡ true → one_of punctuators_and_openings text ≡ true
unfolding punctuators_and_openings
are_punctuators text e = passes is_any_punctuator signs text refl e

-- ---- kinds

pub ok_same : (a b : TokenKind) → ◌≡◌ {A = Result TokenKind FaultKind} (Ok a) (Ok b) → a ≡ b
ok_same a b e = cc

pub sign_kind : (b : Bool) (k : TokenKind) → ◌≡◌ {A = Result TokenKind FaultKind} (if b then Err fault_kind.OutsideWord else Ok kind.Punctuator) (Ok k) → k ≡ kind.Punctuator
sign_kind true k e = absurd (cc)
sign_kind false k e = sym (ok_same kind.Punctuator k e)

keyword_first : (d : Dialect) (text : List ℕ) (k : TokenKind) → one_of keywords text ≡ true → word_kind d text ≡ Ok k → k ≡ kind.Keyword
keyword_first d text k h e = sym (ok_same kind.Keyword k (sym (rw h refl) ∙ e))

not_sign : (d : Dialect) (k : Class) (text : List ℕ) (one : TokenKind) → Stands k text → kind_of d k text ≡ Ok one → is_punctuator_kind one ≡ false → one_of signs text ≡ true → ⊥
unfolding kind_of
not_sign d class.Punctuator text one s e h f =
    let same : one ≡ kind.Punctuator = sign_kind (one_of outside_punctuators_and_openings text) one e in
    true≢false (sym (ap is_punctuator_kind same) ∙ h)
not_sign d class.Word text one s e h f = let same : class.Word ≡ class.Punctuator = one_class class.Word class.Punctuator text s (are_punctuators text f) in cc
not_sign d class.Number text one s e h f = let same : class.Number ≡ class.Punctuator = one_class class.Number class.Punctuator text s (are_punctuators text f) in cc
not_sign d class.Character text one s e h f = let same : class.Character ≡ class.Punctuator = one_class class.Character class.Punctuator text s (are_punctuators text f) in cc

not_word : (d : Dialect) (k : Class) (text : List ℕ) (one : TokenKind) → Stands k text → kind_of d k text ≡ Ok one → is_keyword_kind one ≡ false → one_of words text ≡ true → ⊥
unfolding kind_of
not_word d class.Word text one s e h f = true≢false (sym (ap is_keyword_kind (keyword_first d text one (are_keywords text f) e)) ∙ h)
not_word d class.Punctuator text one s e h f = let same : class.Punctuator ≡ class.Word = one_class class.Punctuator class.Word text s (are_words text f) in cc
not_word d class.Number text one s e h f = let same : class.Number ≡ class.Word = one_class class.Number class.Word text s (are_words text f) in cc
not_word d class.Character text one s e h f = let same : class.Character ≡ class.Word = one_class class.Character class.Word text s (are_words text f) in cc

-- ---- tokens

-- A token that is no punctuator has no text of a bracket, of `;` or of `:`, and one that is no
-- keyword is no word of specifiers, and none of those before a `(` of their own.
pub record Clear (t : Tok) : Type 0 where
  pub bracket : is_punctuator_kind t.kind ≡ false → is_bracket t ≡ false
  pub brace : is_punctuator_kind t.kind ≡ false → is (codes "{") t ≡ false
  pub semicolon : is_punctuator_kind t.kind ≡ false → is (codes ";") t ≡ false
  pub colon : is_punctuator_kind t.kind ≡ false → is (codes ":") t ≡ false
  pub specifier : is_keyword_kind t.kind ≡ false → is_one_of specifiers t ≡ false
  pub name : is_keyword_kind t.kind ≡ false → is_name t ≡ is_identifier t

record NoSign (t : Tok) : Type 0 where
  bracket : is_bracket t ≡ false
  brace : is (codes "{") t ≡ false
  semicolon : is (codes ";") t ≡ false
  colon : is (codes ":") t ≡ false

no_sign : (t : Tok) → one_of signs t.text ≡ false → NoSign t
no_sign t e =
    let a = neither (is (codes "(") t) _ e in
    let b = neither (is (codes ")") t) _ a.1 in
    let c = neither (is (codes "[") t) _ b.1 in
    let d = neither (is (codes "]") t) _ c.1 in
    let f = neither (is (codes "{") t) _ d.1 in
    let g = neither (is (codes "}") t) _ f.1 in
    let h = neither (is (codes ";") t) _ g.1 in
    let i = neither (is (codes ":") t) _ h.1 in
    record { bracket = rw (a.0, b.0, c.0, d.0, f.0, g.0) refl; brace = f.0; semicolon = h.0; colon = i.0 }

record NoWord (t : Tok) : Type 0 where
  specifier : is_one_of specifiers t ≡ false
  name : is_name t ≡ is_identifier t

or_false : (b : Bool) → (b || false || false || false || false) ≡ b
or_false true = refl
or_false false = refl

no_word : (t : Tok) → one_of words t.text ≡ false → NoWord t
no_word t e =
    let a = neither (is (codes "if") t) _ e in
    let b = neither (is (codes "switch") t) _ a.1 in
    let c = neither (is (codes "while") t) _ b.1 in
    let d = neither (is (codes "for") t) _ c.1 in
    record { specifier = d.1; name = rw (a.0, b.0, c.0, d.0) (or_false (is_identifier t)) }

clear : (d : Dialect) (t : Tok) → Means d t.text (Ok t.kind) → Clear t
clear d t m =
    let s = stood d t.text (Ok t.kind) m in
    let sign : (is_punctuator_kind t.kind ≡ false) → NoSign t = λ h. no_sign t (no (one_of signs t.text) (λ f. not_sign d s.class t.text t.kind s.stands s.kind h f)) in
    let word : (is_keyword_kind t.kind ≡ false) → NoWord t = λ h. no_word t (no (one_of words t.text) (λ f. not_word d s.class t.text t.kind s.stands s.kind h f)) in
    record {
      bracket = λ h. (sign h).bracket;
      brace = λ h. (sign h).brace;
      semicolon = λ h. (sign h).semicolon;
      colon = λ h. (sign h).colon;
      specifier = λ h. (word h).specifier;
      name = λ h. (word h).name;
    }

abbrev pub AreClear : List Tok → Type 0
AreClear [] = Unit {0}
AreClear (t ∷ ts) = Clear t × AreClear ts

pub are_clear : (d : Dialect) (ts : List Tok) → MeanTheirKinds d ts → AreClear ts
are_clear d [] h = tt
are_clear d (t ∷ ts) h = (clear d t h.0, are_clear d ts h.1)

pub scanned : {d : Dialect} {before bs : List ℕ} {ts : List Tok} {stop : Option LexFault} → Scans d before bs ts stop → MeanTheirKinds d ts
scanned (r.ends before) = tt
scanned (r.gap before text after bs ts stop e g s) = scanned s
scanned (r.token before text after bs one ts stop e l s) = (l.means, scanned s)
scanned (r.stops before bs why s) = tt
