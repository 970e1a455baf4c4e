-- What stands directly before each part.
use Rattle.std.proofs.Common.{◌≡◌, inl, inr, ℕ, false, List, [], ◌∷◌, ◌++◌, codes, refl, sym, ◌∙◌, append_assoc}
use Rattle.std.specs.List.{AllByRecursion as Each}
use Rattle.std.proofs.lemmas.List.Elements.{recursion_from_All}
use Rattle.mc_span.specs.declared.span.Span.{Span}
use Rattle.mc_lex.specs.Tokens.{Tok}
use Rattle.reread_pieces.specs.declared.bracket.Bracket.{Bracket}
use Rattle.reread_pieces.specs.declared.bracket.Bracket.TheVariants as bracket
use Rattle.reread_pieces.specs.declared.piece.What.{What}
use Rattle.reread_pieces.specs.declared.piece.What.TheVariants as what
use Rattle.reread_pieces.specs.Words.{is}
use Rattle.reread_pieces.specs.Pieces.{Here, before_after}
use Rattle.reread_law_texts.specs.alike.Moves.{FollowFrom}
use Rattle.reread_law_rows.specs.inserted.Rows.{Row, rows_of}
use Rattle.reread_law_printed.specs.spelled.Words.{kind_in}
use Rattle.reread_law_printed.specs.parts.Parts.{Part, own, row_part, row_texts, words_of, is_row}
use Rattle.reread_law_printed.specs.parts.Marks as marks
use Rattle.reread_law_printed.specs.parts.Shaped.{after_part}
use Rattle.reread_law_printed.proofs.Parts.Tied.{Fit}
use Rattle.reread_law_printed.proofs.Parts.Trace.{Trace, IsOwn, last_end, traced}
use Rattle.reread_law_printed.proofs.Parts.Trace as trace
use Rattle.reread_law_printed.specs.placed.Needs.{AfterBy, After, Along}
use Rattle.reread_law_printed.specs.placed.Separate.{AreSeparateAfter}
use Rattle.reread_law_printed.specs.placed.Laws.{begun, PartsComeAfter}
use Rattle.reread_law_printed.proofs.Placed.AfterSpots.{end_snoc, last_snoc}
use Rattle.reread_law_printed.proofs.Placed.AfterTokens.{IsKept, IsBy, parts_kept, next_token, not_colon, brace_by}
use Rattle.reread_law_printed.proofs.Placed.AfterRows.{Known, directly, row_may, row_known, brace_may, token_known}

no_row : (w : What) → IsOwn w → is_row w ≡ false
no_row _ trace.source = refl
no_row _ trace.opens = refl
no_row _ trace.closes = refl

module _ (tokens source : List Tok) (follow : FollowFrom 0 tokens) where
  abbrev Kind : Tok → Type 0
  Kind t = kind_in source t.text ≡ t.kind

  opening_may : (h : Here) (v : What) (span : Span) (passed : List Tok) (t : Tok) (ts : List Tok) → tokens ≡ passed ++ t ∷ ts → Known h.before v span passed (t ∷ ts)
      → (b : Bracket) → IsBy (what.Opening b) t → AfterBy h (what.Opening b)
  opening_may h v span passed t ts all known bracket.Brace by = brace_may tokens follow passed t ts all v span h.before (brace_by t by) known
  opening_may h v span passed t ts all known b by = tt

  own_may : (h : Here) (v : What) (span : Span) (passed : List Tok) (t : Tok) (ts : List Tok) → tokens ≡ passed ++ t ∷ ts → Known h.before v span passed (t ∷ ts)
      → (w : What) → IsOwn w → IsBy w t → AfterBy h w
  own_may h v span passed t ts all known _ trace.source by = tt
  own_may h v span passed t ts all known _ (trace.opens {b = b}) by = opening_may h v span passed t ts all known b by
  own_may h v span passed t ts all known _ trace.closes by = tt

  comes_after : {floor last : ℕ} {qs : List Part} {rows : List Row} {ts : List Tok} → Trace floor last qs rows ts → Each IsKept qs
      → (v : What) (span : Span) → AreSeparateAfter tokens v span rows → Each (Fit tokens) rows → Each Kind ts
      → (passed : List Tok) → tokens ≡ passed ++ ts → last_end passed ≡ last
      → (h : Here) (at : ℕ) → Known h.before v span passed ts → Along source After h at qs
  comes_after trace.ends kept v span separate fit kinds passed all same h at known = tt
  comes_after (trace.copy {w = w} {t = t} {qs = qs} {ts = ts} i tr) kept v span separate fit kinds passed all same h at known =
      let first = kept.0 in
      let by : IsBy w t = first (no_row w i) in (
        own_may h v span passed t ts all known w i by,
        comes_after tr kept.1 v span separate fit kinds.1 (passed ++ t ∷ []) (all ∙ sym (append_assoc passed (t ∷ []) ts)) (end_snoc passed t)
            (after_part source h at (own w t) (words_of qs)) (marks.after at (t.text ∷ []))
            (inr (token_known tokens follow passed t ts all v span h.before (before_after w (marks.token source at t.text)) (next_token source at t kinds.0 w by) known)),
      )
  comes_after (trace.row {floor = floor} {last = last} type {w = w} {span = other} {end = end} {qs = qs} {ts = ts} place tr) kept v span separate fit kinds passed all same h at known = (
    row_may tokens follow passed ts all h v span known floor last same w other end place fit.0 separate.0,
    comes_after tr kept.1 w other separate.2 fit.1 kinds passed all same (after_part source h at (row_part type w) (words_of qs)) (marks.after at (row_texts type w))
        (inl (row_known tokens follow passed ts all h v span known floor last same w other end (marks.first_token source at (row_texts type w)) place fit.0)),
  )
  comes_after (trace.word type {span = other} {t = t} {qs = qs} {ts = ts} text start tr) kept v span separate fit kinds passed all same h at known = (
    directly tokens follow passed (t ∷ ts) all h.before v span other separate.0 start known,
    comes_after tr kept.1 what.Value other separate.2 fit.1 kinds.1 (passed ++ t ∷ []) (all ∙ sym (append_assoc passed (t ∷ []) ts)) (end_snoc passed t)
        (after_part source h at (row_part type what.Value) (words_of qs)) (marks.after at (row_texts type what.Value))
        (inl (refl, last_snoc (is (codes ":")) passed t ∙ not_colon t (codes "return") refl text)),
  )
  comes_after (trace.semicolon type {b = b} {span = other} {t = t} {qs = qs} {ts = ts} text tr) kept v span separate fit kinds passed all same h at known = (
    tt,
    comes_after tr kept.1 (what.ValueEnd b) other separate.2 fit.1 kinds.1 (passed ++ t ∷ []) (all ∙ sym (append_assoc passed (t ∷ []) ts)) (end_snoc passed t)
        (after_part source h at (row_part type (what.ValueEnd b)) (words_of qs)) (marks.after at (row_texts type (what.ValueEnd b)))
        (inl (refl, last_snoc (is (codes ":")) passed t ∙ not_colon t (codes ";") refl text)),
  )

pub come_after : PartsComeAfter
come_after source tokens tree stands kinds separate =
    comes_after tokens source stands.follow (traced tokens tree stands) (parts_kept tokens tree) what.Closing (record { start = 0; end = 0 }) separate
    (recursion_from_All (Fit tokens) (rows_of tree) stands.fit) kinds [] refl refl (begun source tokens tree) 0 (inl (refl, refl))
