-- With which token a statement begins and ends.
use Rattle.std.proofs.Common.{◌≡◌, ℕ, Bool, true, false, ◌&&◌, List, [], ◌∷◌, ◌++◌, refl, sym, ap, ◌∙◌, codes, true≢false}
use Rattle.std.specs.Str.{bytes_eq}
use Rattle.mc_lex.specs.declared.token.Dialect.{Dialect}
use Rattle.mc_lex.specs.declared.token.TokenKind.{TokenKind}
use Rattle.mc_lex.specs.declared.token.TokenKind.TheVariants as kind
use Rattle.mc_lex.specs.Tokens.{Tok}
use Rattle.mc_tree.specs.Tree.{Expression}
use Rattle.mc_grammar.specs.Words.{Lexeme, is_punctuator_kind, is_keyword_kind, is_punctuator, is_keyword}
use Rattle.mc_grammar.specs.Nonterminal as n
use Rattle.mc_grammar.specs.Expressions.{Reads}
use Rattle.reread_law_texts.proofs.Weave.Next.{of_sign}
use Rattle.reread_law_texts.proofs.Weave.First.{no_start, open_brace_no_start}
use Rattle.reread_pieces.specs.Words.{is, is_name}
use Rattle.reread_law_texts.specs.alike.Moves.{end_of}
use Rattle.reread_law_rows.specs.inserted.Fits.{StartsAt, EndsAt, last_is, first_is}
use Rattle.reread_law_rows.proofs.Fitting.Words.{AreClear}
use Rattle.reread_law_rows.proofs.Fitting.Sections.{Section, sample, left_of, right_of, keyword_text}
use Rattle.reread_law_rows.proofs.Fitting.Spots.{At, Spot, past, last_snoc, last_of_both, ends_append, ends_last}
use Rattle.reread_law_texts.proofs.Tokens.{tk}

-- These tokens end at this byte, neither with a name nor with `:`.
pub record Ending (e : ℕ) (i : List Tok) : Type 0 where
  pub end : EndsAt e i
  pub name : last_is is_name i ≡ false
  pub colon : last_is (is (codes ":")) i ≡ false

pub ending_append : (e : ℕ) (xs ys : List Tok) → Ending e ys → Ending e (xs ++ ys)
ending_append e xs ys h =
    record {
      end = ends_append e xs ys h.end;
      name = last_of_both is_name e xs ys h.end ∙ h.name;
      colon = last_of_both (is (codes ":")) e xs ys h.end ∙ h.colon;
    }

pub ending_sign : (xs : List Tok) (y : Tok) → is_name y ≡ false → is (codes ":") y ≡ false → Ending (end_of y) (xs ++ y ∷ [])
ending_sign xs y e f = record { end = ends_last xs y; name = last_snoc is_name xs y ∙ e; colon = last_snoc (is (codes ":")) xs y ∙ f }

pub after_ending : {tokens from i rest : List Tok} (e : ℕ) → At tokens from → Section from i rest → Ending e i → Spot tokens rest
after_ending e s p h = past e s p h.end h.name

pub sign_colon : (text : List ℕ) (x : Lexeme) → is_punctuator text x ≡ true → is (codes ":") (sample text) ≡ false → is (codes ":") x.token ≡ false
sign_colon text x e h = of_sign (λ x. is (codes ":") x.token ≡ false) text x e (λ start mark. h)

pub is_sign : (text : List ℕ) (x : Lexeme) → is_punctuator text x ≡ true → is text x.token ≡ true
is_sign text x e = right_of (is_punctuator_kind x.token.kind) (bytes_eq x.token.text text) e

pub is_word : (text : List ℕ) (x : Lexeme) → is_keyword text x ≡ true → is text x.token ≡ true
is_word text x e = right_of (is_keyword_kind x.token.kind) (bytes_eq x.token.text text) e

-- ---- keywords

keyword_is : (k : TokenKind) → is_keyword_kind k ≡ true → k ≡ kind.Keyword
keyword_is kind.Keyword e = refl
keyword_is kind.Identifier e = absurd (true≢false (sym e))
keyword_is kind.Punctuator e = absurd (true≢false (sym e))
keyword_is (kind.Constant value decimal unsigned longs) e = absurd (true≢false (sym e))
keyword_is (kind.Character value) e = absurd (true≢false (sym e))

abbrev worded : TokenKind → List ℕ → ℕ → Tok
worded k text start = record { kind = k; text = text; start = start }

pub keyword_name : (text : List ℕ) (x : Lexeme) → is_keyword text x ≡ true → is_name (worded kind.Keyword text 0) ≡ false → is_name x.token ≡ false
keyword_name text x e h =
    ap (λ k. is_name (worded k x.token.text x.token.start)) (keyword_is x.token.kind (left_of (is_keyword_kind x.token.kind) (bytes_eq x.token.text text) e))
    ∙ ap (λ t. is_name (worded kind.Keyword t x.token.start)) (keyword_text text x e) ∙ h

-- ---- first tokens

pub starts_by : {x : Tok} {us i rest : List Tok} (e : ℕ) → Section (x ∷ us) i rest → EndsAt e i → StartsAt x.start i
starts_by {i = []} e p h = absurd h
starts_by {x = x} {us = us} {i = t ∷ ts} {rest = rest} e p h =
    let all : x ∷ us ≡ t ∷ (ts ++ rest) = p.all in
    let same : x ≡ t = cc in
    ap (λ t. t.start) (sym same)

pub first_by : (text : List ℕ) {from i rest : List Tok} (e : ℕ) → Section from i rest → EndsAt e i → first_is text from ≡ first_is text i
first_by text {i = []} e p h = absurd h
first_by text {i = t ∷ ts} e p h = ap (first_is text) p.all

brace_by : (b c : Bool) → (b && c) ≡ false → (b ≡ false → c ≡ false) → c ≡ false
brace_by true c e f = e
brace_by false c e f = f refl

pub brace_first : {d : Dialect} {ts rest : List Lexeme} {a : Expression} → Reads d n.comma ts a rest → AreClear (tk ts) → first_is (codes "{") (tk ts) ≡ false
brace_first {ts = []} p h = refl
brace_first {ts = x ∷ ts} p h = brace_by (is_punctuator_kind x.token.kind) (is (codes "{") x.token) (no_start (is_punctuator (codes "{")) open_brace_no_start refl p) h.0.brace
