-- Where stretches of tokens stand among all tokens of a text, and expressions that fit there.
use Rattle.std.proofs.Common.{◌≡◌, ℕ, Bool, true, false, List, [], ◌∷◌, ◌++◌, refl, sym, ap, ◌∙◌, subst}
use Rattle.mc_span.specs.declared.span.Span.{Span}
use Rattle.mc_lex.specs.Tokens.{Tok}
use Rattle.mc_tree.specs.Tree.{Expression, Expressions, span_of}
use Rattle.mc_grammar.specs.Words.{Lexeme, is_punctuator}
use Rattle.mc_grammar.specs.Places.{end_of_expressions}
use Rattle.reread_law_texts.proofs.Weave.Next.{of_sign}
use Rattle.reread_pieces.specs.Words.{is_name}
use Rattle.reread_law_texts.specs.alike.Moves.{end_of}
use Rattle.reread_law_rows.specs.inserted.Fits.{StartsAt, EndsAt, StandsAmong, last_is, IsOperandAmong}
use Rattle.reread_law_rows.specs.fitting.Fitting.{FitsIn, FitInExpressions}
use Rattle.reread_law_rows.proofs.Fitting.Sections.{Section, assoc, join, sample}

-- ---- first and last tokens

pub last_snoc : (test : Tok → Bool) (xs : List Tok) (x : Tok) → last_is test (xs ++ x ∷ []) ≡ test x
last_snoc test [] x = refl
last_snoc test (y ∷ []) x = refl
last_snoc test (y ∷ z ∷ xs) x = last_snoc test (z ∷ xs) x

last_append : (test : Tok → Bool) (xs : List Tok) (y : Tok) (ys : List Tok) → last_is test (xs ++ y ∷ ys) ≡ last_is test (y ∷ ys)
last_append test [] y ys = refl
last_append test (x ∷ []) y ys = refl
last_append test (x ∷ z ∷ xs) y ys = last_append test (z ∷ xs) y ys

-- the last of two stretches, the second of which has one
pub last_of_both : (test : Tok → Bool) (e : ℕ) (xs ys : List Tok) → EndsAt e ys → last_is test (xs ++ ys) ≡ last_is test ys
last_of_both test e xs [] h = absurd h
last_of_both test e xs (y ∷ ys) h = last_append test xs y ys

pub starts_append : (s : ℕ) (i j : List Tok) → StartsAt s i → StartsAt s (i ++ j)
starts_append s [] j h = absurd h
starts_append s (x ∷ i) j h = h

pub ends_put : (e : ℕ) (x : Tok) (j : List Tok) → EndsAt e j → EndsAt e (x ∷ j)
ends_put e x [] h = absurd h
ends_put e x (y ∷ j) h = h

pub ends_append : (e : ℕ) (i j : List Tok) → EndsAt e j → EndsAt e (i ++ j)
ends_append e [] j h = h
ends_append e (x ∷ i) j h = ends_put e x (i ++ j) (ends_append e i j h)

pub ends_last : (i : List Tok) (x : Tok) → EndsAt (end_of x) (i ++ x ∷ [])
ends_last i x = ends_append (end_of x) i (x ∷ []) refl

-- ---- among all tokens

-- these tokens are the last of all
pub record At (tokens ts : List Tok) : Type 0 where
  pub before : List Tok
  pub all : tokens ≡ before ++ ts

-- and no name stands directly before them
pub record Spot (tokens ts : List Tok) : Type 0 where
  pub before : List Tok
  pub all : tokens ≡ before ++ ts
  pub free : last_is is_name before ≡ false

abbrev pub at : {tokens ts : List Tok} → Spot tokens ts → At tokens ts
at s = record { before = s.before; all = s.all }

abbrev pub next : {tokens ts : List Tok} {x : Tok} → At tokens (x ∷ ts) → At tokens ts
next {ts = ts} {x = x} s = record { before = s.before ++ x ∷ []; all = s.all ∙ sym (assoc s.before (x ∷ []) ts) }

abbrev pub after : {tokens ts : List Tok} {x : Tok} → At tokens (x ∷ ts) → is_name x ≡ false → Spot tokens ts
after {ts = ts} {x = x} s e = record { before = s.before ++ x ∷ []; all = s.all ∙ sym (assoc s.before (x ∷ []) ts); free = last_snoc is_name s.before x ∙ e }

abbrev pub over : {tokens from i rest : List Tok} → At tokens from → Section from i rest → At tokens rest
over {i = i} {rest = rest} s p = record { before = s.before ++ i; all = s.all ∙ ap (λ us. s.before ++ us) p.all ∙ sym (assoc s.before i rest) }

abbrev pub past : {tokens from i rest : List Tok} (e : ℕ) → At tokens from → Section from i rest → EndsAt e i → last_is is_name i ≡ false → Spot tokens rest
past {i = i} {rest = rest} e s p h f =
    record { before = s.before ++ i; all = s.all ∙ ap (λ us. s.before ++ us) p.all ∙ sym (assoc s.before i rest); free = last_of_both is_name e s.before i h ∙ f }

abbrev pub stands : {tokens from i rest : List Tok} (span : Span) → At tokens from → Section from i rest → StartsAt span.start i → EndsAt span.end i → StandsAmong tokens span
stands {i = i} {rest = rest} span s p h k = record { before = s.before; inside = i; after = rest; all = s.all ∙ ap (λ us. s.before ++ us) p.all ∙ sym (assoc s.before i rest); start = h; end = k }

pub sign_name : (text : List ℕ) (x : Lexeme) → is_punctuator text x ≡ true → is_name (sample text) ≡ false → is_name x.token ≡ false
sign_name text x e h = of_sign (λ x. is_name x.token ≡ false) text x e (λ start mark. h)

-- ---- expressions

pub record Node (tokens from rest : List Tok) (a : Expression) : Type 0 where
  pub inside : List Tok
  pub section : Section from inside rest
  pub start : StartsAt (span_of a).start inside
  pub end : EndsAt (span_of a).end inside
  pub fits : FitsIn tokens a

pub record Nodes (tokens from rest : List Tok) (place : Span) (all : Expressions) : Type 0 where
  pub inside : List Tok
  pub section : Section from inside rest
  pub end : EndsAt (end_of_expressions place all).end inside
  pub fits : FitInExpressions tokens all

operand : {tokens from i rest : List Tok} (span : Span) → Spot tokens from → Section from i rest → StartsAt span.start i → EndsAt span.end i → IsOperandAmong tokens span
operand span s p h k = record { place = stands span (at s) p h k; balanced = p.balanced; before = s.free }

pub whole : {tokens from i rest : List Tok} (a : Expression) → Spot tokens from → Section from i rest → StartsAt (span_of a).start i → EndsAt (span_of a).end i → (IsOperandAmong tokens (span_of a) → FitsIn tokens a) → Node tokens from rest a
whole {i = i} a s p h k f = record { inside = i; section = p; start = h; end = k; fits = f (operand (span_of a) s p h k) }

-- an expression that begins with another one
pub grown : {tokens from mid rest j : List Tok} (a b : Expression) → Spot tokens from → Node tokens from mid a → Section mid j rest → EndsAt (span_of b).end j → (span_of b).start ≡ (span_of a).start → (IsOperandAmong tokens (span_of b) → FitsIn tokens b)
    → Node tokens from rest b
grown {j = j} a b s first p k same f =
    whole b s (join first.section p) (subst (λ n. StartsAt n (first.inside ++ j)) (sym same) (starts_append (span_of a).start first.inside j first.start)) (ends_append (span_of b).end first.inside j k) f
