-- An absent `default` is directly followed by the end of its statement.
use Rattle.std.proofs.Common.{◌≡◌, ◌≤◌, ℕ, List, [], ◌∷◌, ap, subst, ◌∙◌, arith}
use Rattle.mc_span.specs.declared.span.Span.{Span}
use Rattle.mc_lex.specs.Tokens.{Tok}
use Rattle.reread_pieces.specs.declared.piece.What.{What}
use Rattle.reread_pieces.specs.declared.piece.What.TheVariants as what
use Rattle.reread_law_texts.specs.alike.Moves.{FollowFrom}
use Rattle.reread_law_rows.specs.inserted.Rows.{Row, rows_of}
use Rattle.mc_probe.specs.Tree as p
use Rattle.reread_law_printed.specs.parts.Parts.{Part, parts_of}
use Rattle.reread_law_printed.specs.parts.Laws.{Stands}
use Rattle.reread_law_printed.proofs.Parts.Trace.{IsOwn, source, opens, closes, At, AtEnd, Trace, ends, copy, row, semicolon, traced}
use Rattle.reread_law_printed.proofs.Parts.Trace as trace
use Rattle.reread_law_printed.specs.placed.Separate.{AreSeparateAfter, AreSeparate}
use Rattle.reread_law_printed.proofs.Placed.InsideState.{NextEnds, EndsBy, DefaultsEnd}

value_no_end : what.Value ≡ what.StatementEnd → ⊥
value_no_end e = cc

exit_no_end : (b : ℕ) → what.ValueEnd b ≡ what.StatementEnd → ⊥
exit_no_end b e = cc

at_end : (floor last : ℕ) (w : What) (span : Span) (end : ℕ) (ts : List Tok) → At floor last w span end ts → w ≡ what.StatementEnd → last ≤ span.end
at_end floor last w span end ts at e =
    let a : AtEnd floor last span.end = subst (λ x. At floor last x span end ts) e at in
    let same = a.2 in
    omega (arith, same)

-- The end of a statement does not stand before the tokens that stand before it.
not_before : {floor last : ℕ} {qs : List Part} {r : Row} {rows : List Row} {ts : List Tok} → Trace floor last qs (r ∷ rows) ts → r.what ≡ what.StatementEnd → FollowFrom last ts → last ≤ r.span.end
not_before (copy {t = t} i tr) e f = let more = not_before tr e f.2 in let place = f.0 in omega (arith, more, place)
not_before (row {floor = floor} {last = last} type {w = w} {span = span} {end = end} {ts = ts} at tr) e f = at_end floor last w span end ts at e
not_before (trace.word type text start tr) e f = absurd (value_no_end e)
not_before (semicolon type {b = b} text tr) e f = absurd (exit_no_end b e)

next_ends : {floor last : ℕ} {qs : List Part} {r : Row} {rows : List Row} {ts : List Tok} → Trace floor last qs (r ∷ rows) ts → r.what ≡ what.StatementEnd → last ≡ r.span.end → FollowFrom last ts → NextEnds qs
next_ends (copy {t = t} i tr) e same f =
    let more = not_before tr e f.2 in
    let place = f.0 in
    let text = f.1 in
    absurd (omega (arith, more, place, text, same))
next_ends (row type at tr) e same f = e
next_ends (trace.word type text start tr) e same f = absurd (value_no_end e)
next_ends (semicolon type {b = b} text tr) e same f = absurd (exit_no_end b e)

own_ends : {w : What} → IsOwn w → (qs : List Part) → EndsBy w qs
own_ends source qs = tt
own_ends opens qs = tt
own_ends closes qs = tt

module _ (tokens : List Tok) where
  default_ends : {below : ℕ} {qs : List Part} {rows : List Row} {ts : List Tok} (floor last r b : ℕ) (span : Span) → AtEnd floor last span.end → Trace below last qs rows ts
      → AreSeparateAfter tokens (what.Default r b) span rows → FollowFrom last ts → NextEnds qs
  default_ends {rows = []} floor last r b span at tr sep f = absurd sep
  default_ends {rows = s ∷ rows} floor last r b span at tr sep f =
      let ends = sep.1 in
      let same = at.2 in
      next_ends tr ends.0 (same ∙ ap (λ (x : Span). x.end) ends.1) f

  row_ends : {below : ℕ} {qs : List Part} {rows : List Row} (floor last end : ℕ) (w : What) (span : Span) (ts : List Tok) → At floor last w span end ts → Trace below last qs rows ts
      → AreSeparateAfter tokens w span rows → FollowFrom last ts → EndsBy w qs
  row_ends floor last end (what.Default r b) span ts at tr sep f = default_ends floor last r b span at tr sep f
  row_ends floor last end w span ts at tr sep f = tt

  defaults : {floor last : ℕ} {qs : List Part} {rows : List Row} {ts : List Tok} (v : What) (place : Span) → Trace floor last qs rows ts → AreSeparateAfter tokens v place rows → FollowFrom last ts → DefaultsEnd qs
  defaults v place ends sep f = tt
  defaults v place (copy {qs = qs} i tr) sep f = (own_ends i qs, defaults v place tr sep f.2)
  defaults v place (row {floor = floor} {last = last} type {w = w} {span = span} {end = end} {ts = ts} at tr) sep f = (row_ends floor last end w span ts at tr sep.2 f, defaults w span tr sep.2 f)
  defaults v place (trace.word type {span = span} text start tr) sep f = (tt, defaults what.Value span tr sep.2 f.2)
  defaults v place (semicolon type {b = b} {span = span} text tr) sep f = (tt, defaults (what.ValueEnd b) span tr sep.2 f.2)

pub defaults_end : (tokens : List Tok) (tree : p.Tree) → Stands tokens tree → AreSeparate tokens (rows_of tree) → DefaultsEnd (parts_of tokens tree)
defaults_end tokens tree h sep = defaults tokens what.Closing (record { start = 0; end = 0 }) (traced tokens tree h) sep h.follow
