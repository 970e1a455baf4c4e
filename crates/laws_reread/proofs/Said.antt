-- The tokens of what is spelled.
use Rattle.std.proofs.Common.{◌≡◌, ℕ, Bool, true, false, not, ◌&&◌, ◌||◌, List, [], ◌∷◌, ◌++◌, refl, sym, ap, subst, ◌∙◌, codes, true≢false}
use Rattle.std.specs.List.{list_all, list_any}
use Rattle.std.specs.Str.{bytes_eq}
use Rattle.mc_lex.specs.Tokens.{Tok}
use Rattle.mc_lex.specs.Words.{one_of}
use Rattle.mc_grammar.specs.Words.{Lexeme, is_identifier_kind, is_punctuator, retag}
use Rattle.mc_grammar.specs.Spelling.{Spelled, IsSpelled, Spells, Punctuator, Keyword, Identifier, TypedefName, Tag, Constant, Character, Typedef}
use Rattle.mc_grammar.specs.Spelling as spelling
use Rattle.reread_pieces.specs.Words.{is}
use Rattle.reread_law_rows.specs.inserted.Fits.{is_bracket, IsBalanced, first_is}
use Rattle.reread_law_rows.specs.inserted.Fits as fit
use Rattle.reread_law_printed.specs.parts.Stands.{is_brace}
use Rattle.reread_law_printed.specs.placed.Heads.{has_body, is_apart}
use Rattle.laws_reread.proofs.Signs.{Clear, AreClear, brackets, signs, belong, no_bracket, no_sign, none_of, are_pair}
use Rattle.laws_reread.proofs.Stretch.{IsFree, begins_brace, Stretch, empty, free, round, square, curly, NoBrace, NoBraces, is_close, holds_body}
use Rattle.reread_law_texts.proofs.Tokens.{tk, retag_tokens}
use Rattle.reread_law_rows.proofs.Fitting.Sections.{keyword_kind, identifier_no_sign, left_of, sign_text}
use Rattle.reread_law_rows.proofs.Fitting.Words.{neither}

pub assoc : (a b c : List Tok) → (a ++ b) ++ c ≡ a ++ (b ++ c)
assoc [] b c = refl
assoc (x ∷ a) b c = ap (λ us. x ∷ us) (assoc a b c)

-- ---- typedef names

retag_clear : (name : List ℕ) (ts : List Lexeme) → AreClear (tk ts) → AreClear (tk (retag name ts))
retag_clear name ts k = subst (λ us. AreClear us) (sym (retag_tokens name ts)) k

-- ---- the tokens

abbrev pub inside : {all : List Spelled} {ts rest : List Lexeme} → Spells all ts rest → List Tok
inside spelling.nothing = []
inside (spelling.token {x = x} e p) = x.token ∷ inside p
inside (spelling.last_comma {x = x} e f p) = x.token ∷ inside p
inside (spelling.in_force p) = inside p

pub splits : {all : List Spelled} {ts rest : List Lexeme} (p : Spells all ts rest) → tk ts ≡ inside p ++ tk rest
splits spelling.nothing = refl
splits (spelling.token {x = x} e p) = ap (λ us. x.token ∷ us) (splits p)
splits (spelling.last_comma {x = x} e f p) = ap (λ us. x.token ∷ us) (splits p)
splits (spelling.in_force {name = name} {ts = ts} p) = sym (retag_tokens name ts) ∙ splits p

clear_later : (front rest : List Tok) → AreClear (front ++ rest) → AreClear rest
clear_later [] rest h = h
clear_later (x ∷ front) rest h = clear_later front rest h.1

pub cleared : {from : List Tok} (front rest : List Tok) → from ≡ front ++ rest → AreClear from → AreClear rest
cleared front rest e h = clear_later front rest (subst (λ us. AreClear us) e h)

-- ---- one token

comma_bracket : (x : Lexeme) → is_punctuator (codes ",") x ≡ true → is_bracket x.token ≡ false
comma_bracket x e = no_bracket x.token (ap (λ l. one_of brackets l) (sign_text (codes ",") x e))

-- no punctuator, and a token
abbrev pub IsWord : Spelled → Type 0
IsWord (Punctuator text) = ⊥
IsWord (Typedef name) = ⊥
IsWord _ = Unit {0}

word_sign : (one : Spelled) (x : Lexeme) → IsSpelled one x → IsWord one → Clear x.token → one_of signs x.token.text ≡ false
word_sign (Punctuator text) x e h c = absurd h
word_sign (Keyword text) x e h c = c (keyword_kind text x e)
word_sign (Identifier name) x e h c = c (identifier_no_sign x.token.kind (left_of (is_identifier_kind x.token.kind) (not x.names_type) e.0))
word_sign (TypedefName name) x e h c = c (identifier_no_sign x.token.kind (left_of (is_identifier_kind x.token.kind) x.names_type e.0))
word_sign (Tag name) x e h c = c (identifier_no_sign x.token.kind e.0)
word_sign (Constant value decimal unsigned longs) x e h c = c (rw e refl)
word_sign (Character value) x e h c = c (rw e refl)
word_sign (Typedef name) x e h c = absurd h

word_bracket : (x : Lexeme) → one_of signs x.token.text ≡ false → one_of brackets x.token.text ≡ false
word_bracket x e = let a = neither (is (codes ";") x.token) _ e in (neither (is (codes "*") x.token) _ a.1).1

-- what a token that is spelled so has of brackets
free_bracket : (one : Spelled) (x : Lexeme) → IsSpelled one x → IsFree one → Clear x.token → one_of brackets x.token.text ≡ false
free_bracket (Punctuator text) x e h c = ap (λ l. one_of brackets l) (sign_text text x e) ∙ h
free_bracket (Keyword text) x e h c = word_bracket x (word_sign (Keyword text) x e tt c)
free_bracket (Identifier name) x e h c = word_bracket x (word_sign (Identifier name) x e tt c)
free_bracket (TypedefName name) x e h c = word_bracket x (word_sign (TypedefName name) x e tt c)
free_bracket (Tag name) x e h c = word_bracket x (word_sign (Tag name) x e tt c)
free_bracket (Constant value decimal unsigned longs) x e h c = word_bracket x (word_sign (Constant value decimal unsigned longs) x e tt c)
free_bracket (Character value) x e h c = word_bracket x (word_sign (Character value) x e tt c)
free_bracket (Typedef name) x e h c = absurd e

-- whether it is a `)`, and whether it is a `{`
record Signs (one : Spelled) (all : List Spelled) (t : Tok) : Type 0 where
  close : is (codes ")") t ≡ is_close one
  brace : is (codes "{") t ≡ begins_brace (one ∷ all)

signs_of : (one : Spelled) (all : List Spelled) (x : Lexeme) → IsSpelled one x → Clear x.token → Signs one all x.token
signs_of (Punctuator text) all x e c = let same = sign_text text x e in record { close = ap (λ l. bytes_eq l (codes ")")) same; brace = ap (λ l. bytes_eq l (codes "{")) same }
signs_of (Keyword text) all x e c = let n = none_of x.token.text (free_bracket (Keyword text) x e tt c) in record { close = n.close; brace = n.brace }
signs_of (Identifier name) all x e c = let n = none_of x.token.text (free_bracket (Identifier name) x e tt c) in record { close = n.close; brace = n.brace }
signs_of (TypedefName name) all x e c = let n = none_of x.token.text (free_bracket (TypedefName name) x e tt c) in record { close = n.close; brace = n.brace }
signs_of (Tag name) all x e c = let n = none_of x.token.text (free_bracket (Tag name) x e tt c) in record { close = n.close; brace = n.brace }
signs_of (Constant value decimal unsigned longs) all x e c =
    let n = none_of x.token.text (free_bracket (Constant value decimal unsigned longs) x e tt c) in record { close = n.close; brace = n.brace }
signs_of (Character value) all x e c = let n = none_of x.token.text (free_bracket (Character value) x e tt c) in record { close = n.close; brace = n.brace }
signs_of (Typedef name) all x e c = absurd e

-- ---- no `{`

brace_free : (one : Spelled) (x : Lexeme) → IsSpelled one x → NoBrace one → Clear x.token → is_brace x.token ≡ false
brace_free (Punctuator text) x e h c = ap (λ l. bytes_eq l (codes "{")) (sign_text text x e) ∙ h
brace_free (Keyword text) x e h c = (signs_of (Keyword text) [] x e c).brace
brace_free (Identifier name) x e h c = (signs_of (Identifier name) [] x e c).brace
brace_free (TypedefName name) x e h c = (signs_of (TypedefName name) [] x e c).brace
brace_free (Tag name) x e h c = (signs_of (Tag name) [] x e c).brace
brace_free (Constant value decimal unsigned longs) x e h c = (signs_of (Constant value decimal unsigned longs) [] x e c).brace
brace_free (Character value) x e h c = (signs_of (Character value) [] x e c).brace
brace_free (Typedef name) x e h c = absurd e

put_braceless : (x : Tok) (ts : List Tok) → is_brace x ≡ false → list_all (λ t. not (is_brace t)) ts ≡ true → list_all (λ t. not (is_brace t)) (x ∷ ts) ≡ true
put_braceless x ts e h = rw (e, h) refl

pub braceless : {all : List Spelled} {ts rest : List Lexeme} (p : Spells all ts rest) → NoBraces all → AreClear (tk ts) → list_all (λ t. not (is_brace t)) (inside p) ≡ true
braceless spelling.nothing h k = refl
braceless (spelling.token {one = one} {x = x} e p) h k = put_braceless x.token (inside p) (brace_free one x e h.0 k.0) (braceless p h.1 k.1)
braceless (spelling.last_comma {x = x} e f p) h k = put_braceless x.token (inside p) (brace_free (Punctuator (codes ",")) x e refl k.0) (braceless p h k.1)
braceless (spelling.in_force {name = name} {ts = ts} p) h k = braceless p h.1 (retag_clear name ts k)

-- ---- words alone

abbrev pub AreWords : List Spelled → Type 0
AreWords [] = Unit {0}
AreWords (one ∷ all) = IsWord one × AreWords all

put_plain : (x : Tok) (ts : List Tok) → is_apart x ≡ false → list_any is_apart ts ≡ false → list_any is_apart (x ∷ ts) ≡ false
put_plain x ts e h = rw (e, h) refl

comma_apart : (x : Lexeme) → is_punctuator (codes ",") x ≡ true → is_apart x.token ≡ false
comma_apart x e = no_sign x.token (ap (λ l. one_of signs l) (sign_text (codes ",") x e))

pub plain : {all : List Spelled} {ts rest : List Lexeme} (p : Spells all ts rest) → AreWords all → AreClear (tk ts) → list_any is_apart (inside p) ≡ false
plain spelling.nothing h k = refl
plain (spelling.token {one = one} {x = x} e p) h k = put_plain x.token (inside p) (no_sign x.token (word_sign one x e h.0 k.0)) (plain p h.1 k.1)
plain (spelling.last_comma {x = x} e f p) h k = put_plain x.token (inside p) (comma_apart x e) (plain p h k.1)
plain (spelling.in_force p) h k = absurd h.0

-- ---- no body

pub first_or_later : (t : Tok) (ts : List Tok) → has_body (t ∷ ts) ≡ (is (codes ")") t && first_is (codes "{") ts || has_body ts)
first_or_later t [] = no_both (is (codes ")") t)
  where
    no_both : (b : Bool) → false ≡ (b && false || false)
    no_both true = refl
    no_both false = refl
first_or_later t (u ∷ ts) = refl

record Bodiless (all : List Spelled) (ts : List Tok) : Type 0 where
  first : begins_brace all ≡ false → first_is (codes "{") ts ≡ false
  later : has_body ts ≡ false

one_way : (a b c f h : Bool) → (a && b || c) ≡ false → (b ≡ false → f ≡ false) → h ≡ false → (a && f || h) ≡ false
one_way true true c f h e g k = absurd (true≢false e)
one_way true false c f h e g k = rw (g refl, k) refl
one_way false b c f h e g k = k

later_of : (a c : Bool) → (a || c) ≡ false → c ≡ false
later_of a c e = (neither a c e).1

bodiless_token : (one : Spelled) (all : List Spelled) (t : Tok) (ts : List Tok) → Signs one all t → holds_body (one ∷ all) ≡ false → Bodiless all ts → Bodiless (one ∷ all) (t ∷ ts)
bodiless_token one all t ts s h k =
    record {
      first = λ e. s.brace ∙ e;
      later = first_or_later t ts ∙ ap (λ b. b && first_is (codes "{") ts || has_body ts) s.close
          ∙ one_way (is_close one) (begins_brace all) (holds_body all) (first_is (codes "{") ts) (has_body ts) h k.first k.later;
    }

comma_signs : (all : List Spelled) (x : Lexeme) → is_punctuator (codes ",") x ≡ true → Signs (Punctuator (codes ",")) all x.token
comma_signs all x e = let same = sign_text (codes ",") x e in record { close = ap (λ l. bytes_eq l (codes ")")) same; brace = ap (λ l. bytes_eq l (codes "{")) same }

bodiless_comma : (all : List Spelled) (x : Lexeme) (ts : List Tok) → is_punctuator (codes ",") x ≡ true → Bodiless all ts → Bodiless all (x.token ∷ ts)
bodiless_comma all x ts e k =
    let s = comma_signs all x e in
    record {
      first = λ f. s.brace;
      later = first_or_later x.token ts ∙ ap (λ b. b && first_is (codes "{") ts || has_body ts) s.close ∙ k.later;
    }

bodiless : {all : List Spelled} {ts rest : List Lexeme} (p : Spells all ts rest) → holds_body all ≡ false → AreClear (tk ts) → Bodiless all (inside p)
bodiless spelling.nothing h k = record { first = λ e. refl; later = refl }
bodiless (spelling.token {one = one} {all = all} {x = x} e p) h k =
    bodiless_token one all x.token (inside p) (signs_of one all x e k.0) h (bodiless p (later_of (is_close one && begins_brace all) (holds_body all) h) k.1)
bodiless (spelling.last_comma {all = all} {x = x} e f p) h k = bodiless_comma all x (inside p) e (bodiless p h k.1)
bodiless (spelling.in_force {name = name} {ts = ts} p) h k =
    let later = bodiless p h (retag_clear name ts k) in record { first = λ e. later.first e; later = later.later }

pub holds_none : {all : List Spelled} {ts rest : List Lexeme} (p : Spells all ts rest) → holds_body all ≡ false → AreClear (tk ts) → has_body (inside p) ≡ false
holds_none p h k = (bodiless p h k).later

-- ---- balance

pub append_balanced : {a b : List Tok} → IsBalanced a → IsBalanced b → IsBalanced (a ++ b)
append_balanced fit.nothing q = q
append_balanced (fit.other e p) q = fit.other e (append_balanced p q)
append_balanced {b = more} (fit.pair x y middle ts e p r) q =
    subst (λ us. IsBalanced (x ∷ us)) (sym (assoc middle (y ∷ ts) more)) (fit.pair x y middle (ts ++ more) e p (append_balanced r q))

record Cut {all : List Spelled} {ts rest : List Lexeme} (p : Spells all ts rest) (later : List Spelled) : Type 0 where
  left : List Lexeme
  front : List Tok
  goes : Spells later left rest
  parts : inside p ≡ front ++ inside goes
  balanced : IsBalanced front
  clear : AreClear (tk left)

-- one token, where it is a sign
record Next {text : List ℕ} {all : List Spelled} {ts rest : List Lexeme} (p : Spells (Punctuator text ∷ all) ts rest) : Type 0 where
  left : List Lexeme
  commas : List Tok
  sign : Lexeme
  said : is_punctuator text sign ≡ true
  goes : Spells all left rest
  parts : inside p ≡ commas ++ sign.token ∷ inside goes
  balanced : IsBalanced commas
  clear : AreClear (tk left)

next : {text : List ℕ} {all : List Spelled} {ts rest : List Lexeme} (p : Spells (Punctuator text ∷ all) ts rest) → AreClear (tk ts) → Next p
next (spelling.token {x = x} {ts = ts} e p) k = record { left = ts; commas = []; sign = x; said = e; goes = p; parts = refl; balanced = fit.nothing; clear = k.1 }
next (spelling.last_comma {x = x} e f p) k =
    let n = next p k.1 in
    record {
      left = n.left;
      commas = x.token ∷ n.commas;
      sign = n.sign;
      said = n.said;
      goes = n.goes;
      parts = ap (λ us. x.token ∷ us) n.parts;
      balanced = fit.other (comma_bracket x e) n.balanced;
      clear = n.clear;
    }

after_free : {one : Spelled} {all : List Spelled} {ts rest : List Lexeme} (p : Spells (one ∷ all) ts rest) → IsFree one → AreClear (tk ts) → Cut p all
after_free (spelling.token {one = one} {x = x} {ts = ts} e p) h k =
    record { left = ts; front = x.token ∷ []; goes = p; parts = refl; balanced = fit.other (no_bracket x.token (free_bracket one x e h k.0)) fit.nothing; clear = k.1 }
after_free (spelling.last_comma {x = x} e f p) h k =
    let n = after_free p h k.1 in
    record {
      left = n.left;
      front = x.token ∷ n.front;
      goes = n.goes;
      parts = ap (λ us. x.token ∷ us) n.parts;
      balanced = fit.other (comma_bracket x e) n.balanced;
      clear = n.clear;
    }
after_free (spelling.in_force {name = name} {ts = ts} p) h k = record { left = retag name ts; front = []; goes = p; parts = refl; balanced = fit.nothing; clear = retag_clear name ts k }

around : (a b c d e : List Tok) (x y : Tok) {p q r s : List Tok} → p ≡ a ++ x ∷ q → q ≡ b ++ r → r ≡ c ++ y ∷ s → s ≡ d ++ e → p ≡ (a ++ x ∷ ((b ++ c) ++ y ∷ d)) ++ e
around a b c d e x y f g h k =
    f ∙ ap (λ us. a ++ x ∷ us) (g ∙ ap (λ us. b ++ us) (h ∙ ap (λ us. c ++ y ∷ us) k) ∙ sym (assoc b c (y ∷ (d ++ e))) ∙ sym (assoc (b ++ c) (y ∷ d) e)) ∙ sym (assoc a (x ∷ ((b ++ c) ++ y ∷ d)) e)

abbrev Cuts : List Spelled → List Spelled → Type 0
Cuts all later = (ts rest : List Lexeme) (p : Spells all ts rest) → AreClear (tk ts) → Cut p later

enclose : (one other : List ℕ) {all mid later : List Spelled} {ts rest : List Lexeme} → belong one other ≡ true → (p : Spells (Punctuator one ∷ all) ts rest) → AreClear (tk ts)
    → Cuts all (Punctuator other ∷ mid) → Cuts mid later → Cut p later
enclose one other h p k s t =
    let a = next p k in
    let b = s _ _ a.goes a.clear in
    let c = next b.goes b.clear in
    let d = t _ _ c.goes c.clear in
    let x = a.sign.token in
    let y = c.sign.token in
    record {
      left = d.left;
      front = a.commas ++ x ∷ ((b.front ++ c.commas) ++ y ∷ d.front);
      goes = d.goes;
      parts = around a.commas b.front c.commas d.front (inside d.goes) x y a.parts b.parts c.parts d.parts;
      balanced = append_balanced {b = x ∷ ((b.front ++ c.commas) ++ y ∷ d.front)} a.balanced (fit.pair x y (b.front ++ c.commas) d.front (are_pair one other h a.sign c.sign a.said c.said) (append_balanced b.balanced c.balanced) d.balanced);
      clear = d.clear;
    }

cut : {b n : Bool} {all later : List Spelled} → Stretch b n all later → Cuts all later
cut empty ts rest p k = record { left = ts; front = []; goes = p; parts = refl; balanced = fit.nothing; clear = k }
cut (free e s) ts rest p k =
    let a = after_free p e k in
    let d = cut s _ _ a.goes a.clear in
    record {
      left = d.left;
      front = a.front ++ d.front;
      goes = d.goes;
      parts = a.parts ∙ ap (λ us. a.front ++ us) d.parts ∙ sym (assoc a.front d.front (inside d.goes));
      balanced = append_balanced a.balanced d.balanced;
      clear = d.clear;
    }
cut (round s f t) ts rest p k = enclose (codes "(") (codes ")") refl p k (cut s) (cut t)
cut (square s t) ts rest p k = enclose (codes "[") (codes "]") refl p k (cut s) (cut t)
cut (curly e s t) ts rest p k = enclose (codes "{") (codes "}") refl p k (cut s) (cut t)

commas_balanced : {ts rest : List Lexeme} (p : Spells [] ts rest) → IsBalanced (inside p)
commas_balanced spelling.nothing = fit.nothing
commas_balanced (spelling.last_comma {x = x} e f p) = fit.other (comma_bracket x e) (commas_balanced p)

pub balanced : {b n : Bool} {all : List Spelled} {ts rest : List Lexeme} → Stretch b n all [] → (p : Spells all ts rest) → AreClear (tk ts) → IsBalanced (inside p)
balanced s p k = let c = cut s _ _ p k in subst (λ us. IsBalanced us) (sym c.parts) (append_balanced c.balanced (commas_balanced c.goes))
