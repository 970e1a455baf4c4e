-- What stands directly before a row, by the row before it, and by the token before it.
use Rattle.std.proofs.Common.{◌≡◌, ◌≤◌, ◌<◌, ◌⊎◌, inl, inr, ℕ, true, false, List, [], ◌∷◌, ◌++◌, length, codes, refl, sym, ap, subst, ◌∙◌, arith, true≢false}
use Rattle.mc_span.specs.declared.span.Span.{Span}
use Rattle.mc_lex.specs.Tokens.{Tok}
use Rattle.reread_pieces.specs.declared.site.Before.{Before}
use Rattle.reread_pieces.specs.declared.site.Before.TheVariants as before
use Rattle.reread_pieces.specs.declared.piece.What.{What}
use Rattle.reread_pieces.specs.declared.piece.What.TheVariants as what
use Rattle.reread_pieces.specs.Words.{is, is_name}
use Rattle.reread_pieces.specs.Rows.{is_after_statement, is_colon}
use Rattle.reread_pieces.specs.Rows as site
use Rattle.reread_pieces.specs.Pieces.{Here, before_after}
use Rattle.reread_law_texts.specs.alike.Moves.{FollowFrom, end_of}
use Rattle.reread_law_rows.specs.inserted.Fits.{Fits, IsOperandAmong, IsLabelAmong, IsSwitchAmong, last_is, first_is}
use Rattle.reread_law_printed.specs.parts.Parts.{place_by}
use Rattle.reread_law_printed.proofs.Parts.Cut.{has_text}
use Rattle.reread_law_printed.proofs.Parts.Trace.{At, FirstAt, last_end}
use Rattle.reread_law_printed.specs.placed.Needs.{AfterBy}
use Rattle.reread_law_printed.specs.placed.Separate.{IsLater, IsDirectlyIn, IsBeforeLabel, ComesAfter}
use Rattle.reread_law_printed.proofs.Placed.AfterSpots.{end_snoc, last_snoc, first_front, same_start, last_before, at_start, at_end, not_empty}
use Rattle.reread_law_printed.proofs.Placed.AfterTokens.{Next}

-- what stands before a place directly after a row
abbrev pub row_before : What → Before
row_before (what.Registers n) = before.Registers
row_before (what.Statement b) = before.Statement
row_before w = before.Other

-- A row with no token between it and these tokens, which those that have passed are followed by. A
-- text begins as after an end at its first byte.
abbrev pub PlacedAt : What → Span → List Tok → List Tok → Type 0
PlacedAt what.Source span passed ts = ⊥
PlacedAt (what.Opening b) span passed ts = ⊥
PlacedAt what.Closing span passed ts = last_end passed ≡ 0
PlacedAt (what.Registers n) span passed ts = Unit {0}
PlacedAt (what.Entry b) span passed ts = Unit {0}
PlacedAt (what.Exit b) span passed ts = Unit {0}
PlacedAt (what.Label r b) span passed ts = last_end passed ≡ span.end
PlacedAt (what.Default r b) span passed ts = last_end passed ≡ span.end
PlacedAt what.StatementEnd span passed ts = last_end passed ≡ span.end
PlacedAt what.ReturnEnd span passed ts = last_end passed ≡ span.end
PlacedAt what.OperandEnd span passed ts = last_end passed ≡ span.end
PlacedAt (what.Declaration b) span passed ts = FirstAt span.start ts
PlacedAt (what.Statement b) span passed ts =
    FirstAt span.start ts × (first_is (codes "{") ts ≡ false)
PlacedAt (what.Return b) span passed ts = FirstAt span.start ts
PlacedAt (what.Decision r base) span passed ts = FirstAt span.start ts
PlacedAt (what.Condition r t f) span passed ts = FirstAt span.start ts
PlacedAt (what.Switch r) span passed ts = FirstAt span.start ts
PlacedAt what.Value span passed ts = last_is (is (codes ":")) passed ≡ false
PlacedAt (what.ValueEnd b) span passed ts = last_is (is (codes ":")) passed ≡ false

-- Since a counted statement began, a token has passed.
abbrev pub HasBegun : What → Span → ℕ → Type 0
HasBegun (what.Statement b) span last = span.start < last
HasBegun v span last = Unit {0}

-- directly after a token, which is the last of those that have passed
pub record AfterToken (b : Before) (v : What) (span : Span) (passed : List Tok) : Type 0 where
  pub statement : is_after_statement b ≡ false
  pub colon_is : is_colon b ≡ last_is (is (codes ":")) passed
  pub no_name : last_is is_name passed ≡ false → site.is_name b ≡ false
  pub begun : HasBegun v span (last_end passed)

-- What stands before a place where this was the last row.
abbrev pub Known : Before → What → Span → List Tok → List Tok → Type 0
Known b v span passed ts =
    ((b ≡ row_before v) × PlacedAt v span passed ts) ⊎ AfterToken b v span passed

-- ---- what rows leave

no_colon : (v : What) → is_colon (row_before v) ≡ false
no_colon (what.Registers n) = refl
no_colon (what.Statement b) = refl
no_colon v = refl

no_name : (v : What) → site.is_name (row_before v) ≡ false
no_name (what.Registers n) = refl
no_name (what.Statement b) = refl
no_name v = refl

none_left : (n : ℕ) → 0 < n → n ≡ 0 → ⊥
none_left n lt e = omega (arith, lt, e)

too_late : (a b : ℕ) → a < b → a ≡ b → ⊥
too_late a b lt e = omega (arith, lt, e)

module _ (tokens : List Tok) (follow : FollowFrom 0 tokens) (passed ts : List Tok) (all : tokens ≡ passed ++ ts) where
  -- ---- what may stand after a row

  -- a counted statement, and its end
  later_row : (v : What) (span : Span) (w : What) (other : Span) → IsLater v span w other → PlacedAt v span passed ts
      → (FirstAt span.start ts → span.start < place_by w other → ⊥) → is_after_statement (row_before v) ≡ false
  later_row (what.Statement c) span w other later p never = absurd (never p.0 later)
  later_row v span w other later p never = refl

  -- a label
  label_row : (v : What) (span other : Span) → IsBeforeLabel v span other → PlacedAt v span passed ts → 0 < last_end passed → last_end passed ≡ other.end
      → other.start < other.end → last_is (is (codes ":")) passed ≡ true → ⊥
  label_row v span other = by_row v
    where
      at_first : (first : FirstAt span.start ts) → span.start ≤ other.start → last_end passed ≡ other.end → other.start < other.end → ⊥
      at_first first before end some = let late = last_before tokens follow passed ts all span.start first in omega (arith, late, before, end, some)

      at_last : last_end passed ≡ span.end → span.end ≤ other.start → last_end passed ≡ other.end → other.start < other.end → ⊥
      at_last last before end some = omega (arith, last, before, end, some)

      by_row : (v : What) → IsBeforeLabel v span other → PlacedAt v span passed ts → 0 < last_end passed → last_end passed ≡ other.end
          → other.start < other.end → last_is (is (codes ":")) passed ≡ true → ⊥
      by_row what.Source before p lt end some colon = p
      by_row (what.Opening b) before p lt end some colon = p
      by_row what.Closing before p lt end some colon = none_left (last_end passed) lt p
      by_row (what.Registers n) before p lt end some colon = before
      by_row (what.Entry b) before p lt end some colon = before
      by_row (what.Exit b) before p lt end some colon = before
      by_row (what.Label r b) before p lt end some colon = at_last p before end some
      by_row (what.Default r b) before p lt end some colon = at_last p before end some
      by_row what.StatementEnd before p lt end some colon = at_last p before end some
      by_row what.ReturnEnd before p lt end some colon = at_last p before end some
      by_row what.OperandEnd before p lt end some colon = at_last p before end some
      by_row (what.Declaration b) before p lt end some colon = at_first p before end some
      by_row (what.Statement b) before p lt end some colon = at_first p.0 before end some
      by_row (what.Return b) before p lt end some colon = at_first p before end some
      by_row (what.Decision r base) before p lt end some colon = at_first p before end some
      by_row (what.Condition r t f) before p lt end some colon = at_first p before end some
      by_row (what.Switch r) before p lt end some colon = at_first p before end some
      by_row what.Value before p lt end some colon = true≢false (sym colon ∙ p)
      by_row (what.ValueEnd b) before p lt end some colon = true≢false (sym colon ∙ p)

  -- the value of a `return`, and its exit
  direct_row : (v : What) (span other : Span) → IsDirectlyIn v span other → is_after_statement (row_before v) ≡ true
  direct_row (what.Statement b) span other e = refl
  direct_row v span other e = absurd e

  direct_token : (v : What) (span other : Span) → IsDirectlyIn v span other → HasBegun v span (last_end passed) → FirstAt other.start ts → ⊥
  direct_token (what.Statement b) span other e begun first =
      let late = last_before tokens follow passed ts all other.start first in
      let same : span.start ≡ other.start = ap (λ (s : Span). s.start) e in
      omega (arith, late, same, begun)
  direct_token v span other e begun first = e

  module _ (b : Before) (v : What) (span : Span) where
    not_after : (w : What) (other : Span) → IsLater v span w other → (FirstAt span.start ts → span.start < place_by w other → ⊥) → Known b v span passed ts
        → is_after_statement b ≡ false
    not_after w other later never (inl two) = ap is_after_statement two.0 ∙ later_row v span w other later two.1 never
    not_after w other later never (inr k) = k.statement

    pub directly : (other : Span) → IsDirectlyIn v span other → FirstAt other.start ts → Known b v span passed ts → is_after_statement b ≡ true
    directly other d first (inl two) = ap is_after_statement two.0 ∙ direct_row v span other d
    directly other d first (inr k) = absurd (direct_token v span other d k.begun first)

    after_colon : (other : Span) → IsBeforeLabel v span other → 0 < last_end passed → last_end passed ≡ other.end → IsLabelAmong tokens other → Known b v span passed ts
        → is_colon b ≡ true
    after_colon other d lt end q known = by_known (at_end tokens follow passed ts all other q.place (is (codes ":")) lt end ∙ q.colon) known
      where
        by_known : last_is (is (codes ":")) passed ≡ true → Known b v span passed ts → is_colon b ≡ true
        by_known colon (inl two) = absurd (label_row v span other d two.1 lt end (not_empty tokens follow other q.place) colon)
        by_known colon (inr k) = k.colon_is ∙ colon

    no_colon_before : (other : Span) → 0 < last_end passed → last_end passed ≡ other.end → IsSwitchAmong tokens other → Known b v span passed ts → is_colon b ≡ false
    no_colon_before other lt end q (inl two) = ap is_colon two.0 ∙ no_colon v
    no_colon_before other lt end q (inr k) = k.colon_is ∙ (at_end tokens follow passed ts all other q.place (is (codes ":")) lt end ∙ q.end)

    no_name_before : (other : Span) → FirstAt other.start ts → IsOperandAmong tokens other → Known b v span passed ts → site.is_name b ≡ false
    no_name_before other first q (inl two) = ap site.is_name two.0 ∙ no_name v
    no_name_before other first q (inr k) =
        let two = at_start tokens follow passed ts all other q.place first in
        k.no_name (ap (last_is is_name) two.0 ∙ q.before)

  -- ---- a row, and what is known after it

  module _ (h : Here) (v : What) (span : Span) (known : Known h.before v span passed ts) (floor last : ℕ) (same : last_end passed ≡ last) where
    last_some : 0 < last → 0 < last_end passed
    last_some lt = omega (arith, lt, same)

    pub row_may : (w : What) (other : Span) (end : ℕ) → At floor last w other end ts → Fits tokens w other → ComesAfter v span w other → AfterBy h w
    row_may (what.Label r b) other end at fits d = after_colon h.before v span other d (last_some at.0) (same ∙ at.2) fits known
    row_may (what.Default r b) other end at fits d = no_colon_before h.before v span other (last_some at.0) (same ∙ at.2) fits known
    row_may (what.Statement b) other end at fits d =
        not_after h.before v span (what.Statement b) other d (λ first lt. too_late span.start other.start lt (same_start span.start other.start ts first at)) known
    row_may what.StatementEnd other end at fits d =
        let last_is : last_end passed ≡ other.end = same ∙ at.2 in
        not_after h.before v span what.StatementEnd other d
        (λ first lt. let late = last_before tokens follow passed ts all span.start first in omega (arith, late, lt, last_is)) known
    row_may (what.Return b) other end at fits d = directly h.before v span other d at known
    row_may (what.Decision r base) other end at fits d = no_name_before h.before v span other at fits known
    row_may (what.Condition r t f) other end at fits d = no_name_before h.before v span other at fits known
    row_may (what.Switch r) other end at fits d = no_name_before h.before v span other at fits known
    row_may what.Source other end at fits d = tt
    row_may (what.Opening b) other end at fits d = absurd at
    row_may what.Value other end at fits d = absurd at
    row_may w other end at fits d = tt

    pub row_known : (w : What) (other : Span) (end : ℕ) (t : Tok) → At floor last w other end ts → Fits tokens w other → (before_after w t ≡ row_before w) × PlacedAt w other passed ts
    row_known what.Source other end t at fits = absurd at
    row_known (what.Opening b) other end t at fits = absurd at
    row_known what.Closing other end t at fits = absurd at
    row_known what.Value other end t at fits = absurd at
    row_known (what.ValueEnd b) other end t at fits = absurd at
    row_known (what.Registers n) other end t at fits = (refl, tt)
    row_known (what.Entry b) other end t at fits = (refl, tt)
    row_known (what.Exit b) other end t at fits = (refl, tt)
    row_known (what.Label r b) other end t at fits = (refl, same ∙ at.2)
    row_known (what.Default r b) other end t at fits = (refl, same ∙ at.2)
    row_known what.StatementEnd other end t at fits = (refl, same ∙ at.2)
    row_known what.ReturnEnd other end t at fits = (refl, same ∙ at.2)
    row_known what.OperandEnd other end t at fits = (refl, same ∙ at.2)
    row_known (what.Statement b) other end t at fits =
        let two = at_start tokens follow passed ts all other fits.place at in
        (refl, (at, ap (first_is (codes "{")) two.1 ∙ (first_front other.start (codes "{") fits.place.inside fits.place.after fits.place.start ∙ fits.brace)))
    row_known (what.Declaration b) other end t at fits = (refl, at)
    row_known (what.Return b) other end t at fits = (refl, at)
    row_known (what.Decision r base) other end t at fits = (refl, at)
    row_known (what.Condition r on_true on_false) other end t at fits = (refl, at)
    row_known (what.Switch r) other end t at fits = (refl, at)

-- ---- a token, and what is known after it

module _ (tokens : List Tok) (follow : FollowFrom 0 tokens) (passed : List Tok) (t : Tok) (ts : List Tok) (all : tokens ≡ passed ++ t ∷ ts) (v : What) (span : Span) where
  -- a `{` of the source
  brace_row : (v : What) → is (codes "{") t ≡ true → PlacedAt v span passed (t ∷ ts) → is_after_statement (row_before v) ≡ false
  brace_row (what.Statement b) e p = absurd (true≢false (sym e ∙ p.1))
  brace_row v e p = refl

  pub brace_may : (b : Before) → is (codes "{") t ≡ true → Known b v span passed (t ∷ ts) → is_after_statement b ≡ false
  brace_may b e (inl two) = ap is_after_statement two.0 ∙ brace_row v e two.1
  brace_may b e (inr k) = k.statement

  begun_row : (v : What) → PlacedAt v span passed (t ∷ ts) → HasBegun v span (end_of t)
  begun_row (what.Statement b) p =
      let text : 0 < length t.text = has_text 0 passed t ts (subst (FollowFrom 0) all follow) in
      let first : t.start ≡ span.start = p.0 in
      omega (arith, text, first)
  begun_row v p = tt

  begun_token : (v : What) → HasBegun v span (last_end passed) → HasBegun v span (end_of t)
  begun_token (what.Statement b) lt =
      let before = last_before tokens follow passed (t ∷ ts) all t.start refl in
      omega (arith, lt, before)
  begun_token v lt = tt

  has_begun : {b : Before} → Known b v span passed (t ∷ ts) → HasBegun v span (end_of t)
  has_begun (inl two) = begun_row v two.1
  has_begun (inr k) = begun_token v k.begun

  pub token_known : (b c : Before) → Next c (is (codes ":") t) (is_name t) → Known b v span passed (t ∷ ts) → AfterToken c v span (passed ++ t ∷ [])
  token_known b c next known = record {
    statement = next.statement;
    colon_is = next.colon_is ∙ sym (last_snoc (is (codes ":")) passed t);
    no_name = λ e. next.no_name (sym (last_snoc is_name passed t) ∙ e);
    begun = subst (HasBegun v span) (sym (end_snoc passed t)) (has_begun known);
  }
