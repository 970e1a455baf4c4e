-- The pieces of a printed text: their tokens, their probes, and the text without its probes.
use Rattle.std.proofs.Common.{◌≡◌, ◌≤◌, ◌<◌, ◌+◌, ◌-◌, ◌⊎◌, inl, inr, ℕ, suc, nat_lt, nat_le, nat_eq, Bool, true, false, cond, List, [], ◌∷◌, ◌++◌, length, map, take, drop, codes, refl, sym, ap, subst, ◌∙◌, arith}
use Rattle.std.proofs.lemmas.Bool.{eq-eqb}
use Rattle.std.proofs.lemmas.Bool.Decides.{nat_tests}
use Rattle.std.proofs.lemmas.List.Elements.{recursion_from_All}
use Rattle.std.specs.List.{AllByRecursion as Each}
use Rattle.mc_span.specs.declared.span.Span.{Span}
use Rattle.mc_lex.specs.declared.token.TokenKind.{TokenKind}
use Rattle.mc_lex.specs.declared.token.TokenKind.TheVariants.{Keyword}
use Rattle.mc_lex.specs.Tokens.{Tok}
use Rattle.mc_lex.proofs.Texts.{same_text}
use Rattle.reread_pieces.specs.declared.piece.What.{What}
use Rattle.reread_pieces.specs.declared.without.Stand.{Stand}
use Rattle.reread_pieces.specs.declared.without.Stand.TheVariants.{Opens, Closes, Own, Nowhere}
use Rattle.reread_pieces.specs.declared.piece.What.TheVariants as what
use Rattle.reread_pieces.specs.Words.{is}
use Rattle.reread_pieces.specs.Pieces.{Mark}
use Rattle.reread_pieces.specs.Plain.{place_after, first_start, laid, placed}
use Rattle.reread_pieces.specs.Plain as plain
use Rattle.reread_probes.specs.Probes.{is_own, next_start, probes_from}
use Rattle.reread_law_texts.specs.alike.Moves.{FollowFrom, end_of, without_place}
use Rattle.reread_law_texts.specs.brackets.Signs.{Sign, poured, before}
use Rattle.mc_print.specs.Insertions.{value_exit}
use Rattle.reread_law_rows.specs.inserted.Rows.{Row}
use Rattle.reread_law_rows.specs.inserted.Signs.{signs_of}
use Rattle.reread_law_rows.specs.inserted.Seats.{probe_rows, AreThere}
use Rattle.mc_lex.specs.Words.{probe_names}
use Rattle.reread_law_texts.specs.weave.Brackets.{sign}
use Rattle.reread_law_printed.specs.spelled.Words.{kind_in, IsInserted, word, inserted_words}
use Rattle.reread_law_printed.proofs.Spelled.Printed.{kinds_kept}
use Rattle.reread_law_printed.specs.parts.Parts.{Part, own, row_part, row_texts}
use Rattle.reread_law_printed.specs.parts.Marks.{after, mark_of, marks_from, own_tokens}
use Rattle.reread_law_printed.specs.parts.Laws.{OwnTokensAreAlike, ProbesAreThere, PlainIsPoured}
use Rattle.reread_law_printed.proofs.Parts.Trace.{IsOwn, source, opens, closes, At, AtEnd, FirstAt, FirstBefore, floor_after, Trace, ends, copy, row, semicolon, traced}
use Rattle.reread_law_printed.proofs.Parts.Trace as trace
use Rattle.reread_law_texts.proofs.Tokens.{is_before, not_before}

-- ---- lists

abbrev head_or : Tok → List Tok → Tok
head_or x [] = x
head_or x (y ∷ l) = y

abbrev tail_of : List Tok → List Tok
tail_of [] = []
tail_of (y ∷ l) = l

-- ---- ends that 32 bits hold

ends_at : (at : ℕ) (t : Tok) → at ≡ t.start → end_of t ≤ 4294967295 → place_after at (length t.text) ≡ end_of t
ends_at at t e short = ap (λ n. place_after n (length t.text)) e ∙ by_test (nat_le (end_of t) 4294967295) (grind (arith, nat_tests))
  where
    by_test : (b : Bool) → b ≡ true → cond b (end_of t) 4294967295 ≡ end_of t
    by_test true h = refl
    by_test false h = absurd (cc)

module _ (tokens : List Tok) where
  abbrev Marks : ℕ → List Part → List Mark
  Marks at qs = marks_from tokens at qs

  -- ---- a token of the source

  record Stays (at : ℕ) (w : What) (t : Tok) (ms : List Mark) (ts : List Tok) : Type 0 where
    pub start : at ≡ t.start
    pub later : own_tokens ms ≡ ts

  of_equal : (k : TokenKind) (text : List ℕ) (at : ℕ) (w : What) (t : Tok) (ms : List Mark) (ts : List Tok)
      → record { kind = k; text = text; start = at } ∷ own_tokens ms ≡ t ∷ ts → Stays at w t ms ts
  of_equal k text at w t ms ts e =
      let first : Tok = record { kind = k; text = text; start = at } in
      record { start = ap (λ l. (head_or t l).start) e; later = ap tail_of e }

  of_own : (at : ℕ) (w : What) (t : Tok) (ms : List Mark) (ts : List Tok) → IsOwn w → own_tokens (mark_of tokens at (own w t) ∷ ms) ≡ t ∷ ts → Stays at w t ms ts
  of_own at _ t ms ts source e = of_equal _ _ at what.Source t ms ts e
  of_own at _ t ms ts (opens {b = b}) e = of_equal _ _ at (what.Opening b) t ms ts e
  of_own at _ t ms ts closes e = of_equal _ _ at what.Closing t ms ts e

  own_probes : (at last : ℕ) (w : What) (t : Tok) (ms : List Mark) → IsOwn w → probes_from last (mark_of tokens at (own w t) ∷ ms) ≡ probes_from (place_after at (length t.text)) ms
  own_probes at last _ t ms source = refl
  own_probes at last _ t ms opens = refl
  own_probes at last _ t ms closes = refl

  six : (t : Tok) → is (codes "return") t ≡ true → length t.text ≡ 6
  six t e = ap length (same_text t.text (codes "return") e)

  one : (t : Tok) → is (codes ";") t ≡ true → length t.text ≡ 1
  one t e = ap length (same_text t.text (codes ";") e)

  -- ---- probes

  next_is : (ms : List Mark) → next_start ms ≡ first_start (own_tokens ms)
  next_is [] = refl
  next_is (m ∷ ms) = by_stand (plain.stand_of m.row) (plain.kind_of m) (next_is ms)
    where
      by_stand : (s : Stand) (k : TokenKind) → next_start ms ≡ first_start (own_tokens ms)
          → cond (is_own s) m.token.start (next_start ms)
          ≡ first_start (cond (is_own s) (record { kind = k; text = plain.text_of m; start = plain.start_by s m.token.start 0 } ∷ own_tokens ms) (own_tokens ms))
      by_stand Own k more = refl
      by_stand Opens k more = more
      by_stand Closes k more = more
      by_stand Nowhere k more = more

  before_end : (n end : ℕ) (ts : List Tok) → n ≡ first_start ts → FirstBefore end ts → nat_lt n end ≡ true
  before_end n end [] e h = absurd h
  before_end n end (t ∷ ts) e h = ap (λ k. nat_lt k end) e ∙ is_before t.start end h

  at_start : (n start : ℕ) (ts : List Tok) → n ≡ first_start ts → FirstAt start ts → nat_eq n start ≡ true
  at_start n start [] e h = absurd h
  at_start n start (t ∷ ts) e h = eq-eqb n start (e ∙ h)

  -- a row leaves no token of the source
  row_none : (type : List (List ℕ)) (w : What) (span : Span) (end floor last at : ℕ) (ms : List Mark) (ts : List Tok) → At floor last w span end ts
      → own_tokens (mark_of tokens at (row_part type w) ∷ ms) ≡ own_tokens ms
  row_none type what.Source span end floor last at ms ts h = absurd h
  row_none type (what.Opening b) span end floor last at ms ts h = absurd h
  row_none type what.Closing span end floor last at ms ts h = absurd h
  row_none type what.Value span end floor last at ms ts h = absurd h
  row_none type (what.ValueEnd b) span end floor last at ms ts h = absurd h
  row_none type w span end floor last at ms ts h = refl

  module _ (at last : ℕ) (ms : List Mark) (ts : List Tok) (rows : List Row) where
    -- the probe of one row
    row_probe : (type : List (List ℕ)) (w : What) (span : Span) (end floor : ℕ) → At floor last w span end ts → own_tokens (mark_of tokens at (row_part type w) ∷ ms) ≡ ts
        → (own_tokens ms ≡ ts → AreThere (probe_rows rows) (probes_from last ms))
        → AreThere (probe_rows (record { what = w; span = span; end = end } ∷ rows)) (probes_from last (mark_of tokens at (row_part type w) ∷ ms))
    row_probe type what.Source span end floor h e k = absurd h
    row_probe type (what.Opening b) span end floor h e k = absurd h
    row_probe type what.Closing span end floor h e k = absurd h
    row_probe type what.Value span end floor h e k = absurd h
    row_probe type (what.ValueEnd b) span end floor h e k = absurd h
    row_probe type (what.Registers n) span end floor h e k = ((refl, before_end (next_start ms) end ts (next_is ms ∙ ap first_start e) h), k e)
    row_probe type (what.Entry b) span end floor h e k = ((refl, before_end (next_start ms) end ts (next_is ms ∙ ap first_start e) h), k e)
    row_probe type (what.Exit b) span end floor h e k = ((refl, before_end (next_start ms) end ts (next_is ms ∙ ap first_start e) h), k e)
    row_probe type (what.Label r b) span end floor h e k = ((refl, eq-eqb last span.end h.2), k e)
    row_probe type (what.Default r b) span end floor h e k = ((refl, eq-eqb last span.end h.2), k e)
    row_probe type (what.Declaration b) span end floor h e k = ((refl, at_start (next_start ms) span.start ts (next_is ms ∙ ap first_start e) h), k e)
    row_probe type (what.Statement b) span end floor h e k = ((refl, at_start (next_start ms) span.start ts (next_is ms ∙ ap first_start e) h), k e)
    row_probe type (what.Return b) span end floor h e k = ((refl, at_start (next_start ms) span.start ts (next_is ms ∙ ap first_start e) h), k e)
    row_probe type (what.Decision r base) span end floor h e k = ((refl, at_start (next_start ms) span.start ts (next_is ms ∙ ap first_start e) h), k e)
    row_probe type (what.Condition r on_true on_false) span end floor h e k = ((refl, at_start (next_start ms) span.start ts (next_is ms ∙ ap first_start e) h), k e)
    row_probe type (what.Switch r) span end floor h e k = ((refl, at_start (next_start ms) span.start ts (next_is ms ∙ ap first_start e) h), k e)
    row_probe type what.StatementEnd span end floor h e k = k e
    row_probe type what.ReturnEnd span end floor h e k = k e
    row_probe type what.OperandEnd span end floor h e k = k e

  abbrev Short : Tok → Type 0
  Short t = end_of t ≤ 4294967295

  there : {floor last : ℕ} {qs : List Part} {rows : List Row} {ts : List Tok} → Trace floor last qs rows ts → (at : ℕ) → Each Short ts
      → own_tokens (Marks at qs) ≡ ts → AreThere (probe_rows rows) (probes_from last (Marks at qs))
  there ends at short e = tt
  there (copy {last = last} {w = w} {t = t} {qs = qs} {rows = rows} {ts = ts} i tr) at short e =
      let ms : List Mark = Marks (after at (t.text ∷ [])) qs in
      let o = of_own at w t ms ts i e in
      subst (AreThere (probe_rows rows)) (sym (own_probes at last w t ms i ∙ ap (λ n. probes_from n ms) (ends_at at t o.start short.0)))
      (there tr (after at (t.text ∷ [])) short.1 o.later)
  there (row {floor = floor} {last = last} type {w = w} {span = span} {end = end} {qs = qs} {rows = rows} {ts = ts} h tr) at short e =
      let next : ℕ = after at (row_texts type w) in
      row_probe at last (Marks next qs) ts rows type w span end floor h e (λ e. there tr next short e)
  there (trace.word {last = last} type {span = span} {t = t} {qs = qs} {rows = rows} {ts = ts} text start tr) at short e =
      let next : ℕ = after at (row_texts type what.Value) in
      let ms : List Mark = Marks next qs in
      let o = of_equal _ _ at what.Value t ms ts e in
      let end : place_after at 6 ≡ end_of t = ap (λ n. place_after at n) (sym (six t text)) ∙ ends_at at t o.start short.0 in
      ((refl, eq-eqb at span.start (o.start ∙ start)), subst (λ n. AreThere (probe_rows rows) (probes_from n ms)) (sym end) (there tr next short.1 o.later))
  there (semicolon {last = last} type {b = b} {span = span} {t = t} {qs = qs} {rows = rows} {ts = ts} text tr) at short e =
      let next : ℕ = after at (row_texts type (what.ValueEnd b)) in
      let ms : List Mark = Marks next qs in
      let o = of_equal _ _ at (what.ValueEnd b) t ms ts e in
      let end : place_after at 1 ≡ end_of t = ap (λ n. place_after at n) (sym (one t text)) ∙ ends_at at t o.start short.0 in
      ((refl, refl), subst (λ n. AreThere (probe_rows rows) (probes_from n ms)) (sym end) (there tr next short.1 o.later))

  -- ---- brackets that are poured in

  abbrev Over : ℕ → List Sign → Type 0
  Over n [] = Unit {0}
  Over n (s ∷ signs) = n < s.place

  abbrev From : ℕ → List Tok → Type 0
  From n [] = Unit {0}
  From n (t ∷ ts) = n ≤ t.start

  abbrev cut : ℕ → Sign → List Sign → List Tok → List Tok
  cut n s signs ts = take n ts ++ s.token ∷ poured signs (drop n ts)

  pour_copy : (signs : List Sign) (t : Tok) (ts : List Tok) → Over t.start signs → poured signs (t ∷ ts) ≡ t ∷ poured signs ts
  pour_copy [] t ts h = refl
  pour_copy (s ∷ signs) t ts h = ap (λ b. cut (cond b (suc (before s.place ts)) 0) s signs (t ∷ ts)) (is_before t.start s.place h)

  none_before : (n : ℕ) (ts : List Tok) → From n ts → before n ts ≡ 0
  none_before n [] h = refl
  none_before n (t ∷ ts) h = ap (λ b. cond b (suc (before n ts)) 0) (not_before t.start n h)

  cut_none : (s : Sign) (signs : List Sign) (ts : List Tok) → cut 0 s signs ts ≡ s.token ∷ poured signs ts
  cut_none s signs [] = refl
  cut_none s signs (t ∷ ts) = refl

  pour_put : (s : Sign) (signs : List Sign) (ts : List Tok) → From s.place ts → poured (s ∷ signs) ts ≡ s.token ∷ poured signs ts
  pour_put s signs ts h = ap (λ n. cut n s signs ts) (none_before s.place ts h) ∙ cut_none s signs ts

  first_from : (n last : ℕ) (ts : List Tok) → FirstAt n ts → FollowFrom last ts → last ≤ n
  first_from n last [] h f = absurd h
  first_from n last (t ∷ ts) h f = let place = f.0 in omega (arith, h, place)

  from_first : (n : ℕ) (ts : List Tok) → FirstAt n ts → From n ts
  from_first n [] h = absurd h
  from_first n (t ∷ ts) h = omega (arith, h)

  from_follow : (n : ℕ) (ts : List Tok) → FollowFrom n ts → From n ts
  from_follow n [] h = tt
  from_follow n (t ∷ ts) h = h.0

  row_over : (w : What) (span : Span) (end floor last n : ℕ) (rows : List Row) (ts : List Tok) → At floor last w span end ts → n < last → FollowFrom last ts
      → Over n (signs_of rows) → Over n (signs_of (record { what = w; span = span; end = end } ∷ rows))
  row_over (what.Statement b) span end floor last n rows ts h lt f k = let le = first_from span.start last ts h f in omega (arith, lt, le)
  row_over (what.Decision r base) span end floor last n rows ts h lt f k = let le = first_from span.start last ts h f in omega (arith, lt, le)
  row_over (what.Condition r on_true on_false) span end floor last n rows ts h lt f k = let le = first_from span.start last ts h f in omega (arith, lt, le)
  row_over (what.Switch r) span end floor last n rows ts h lt f k = let le = first_from span.start last ts h f in omega (arith, lt, le)
  row_over what.StatementEnd span end floor last n rows ts h lt f k = let same = h.2 in omega (arith, lt, same)
  row_over what.OperandEnd span end floor last n rows ts h lt f k = let same = h.2 in omega (arith, lt, same)
  row_over w span end floor last n rows ts h lt f k = k

  over : {floor last : ℕ} {qs : List Part} {rows : List Row} {ts : List Tok} → Trace floor last qs rows ts → (n : ℕ) → n < last → FollowFrom last ts → Over n (signs_of rows)
  over ends n lt f = tt
  over (copy {last = last} {t = t} i tr) n lt f = let place = f.0 in over tr n (omega (arith, lt, place)) f.2
  over (row {floor = floor} {last = last} type {w = w} {span = span} {end = end} {rows = rows} {ts = ts} h tr) n lt f = row_over w span end floor last n rows ts h lt f (over tr n lt f)
  over (trace.word {last = last} type {t = t} text start tr) n lt f = let place = f.0 in over tr n (omega (arith, lt, place)) f.2
  over (semicolon {last = last} type {t = t} text tr) n lt f = let place = f.0 in over tr n (omega (arith, lt, place)) f.2

  over_token : {floor : ℕ} {qs : List Part} {rows : List Row} {ts : List Tok} (t : Tok) → Trace floor (end_of t) qs rows ts → 0 < length t.text → FollowFrom (end_of t) ts → Over t.start (signs_of rows)
  over_token t tr text f = over tr t.start (omega (arith, text)) f

  -- ---- the text without its probes

  -- No end stands where something is opened.
  abbrev Gap : ℕ → ℕ → Type 0
  Gap last floor = (last < floor) ⊎ (last ≡ 0)

  same_place : (a b : ℕ) (ts : List Tok) → FirstAt a ts → FirstAt b ts → a ≡ b
  same_place a b [] h k = absurd h
  same_place a b (t ∷ ts) h k = sym h ∙ k

  not_closed : (floor last end : ℕ) → AtEnd floor last end → Gap last floor → ⊥
  not_closed floor last end h (inl lt) = let low = h.1 in let same = h.2 in omega (arith, lt, low, same)
  not_closed floor last end h (inr none) = let some = h.0 in omega (arith, some, none)

  put_first : (text : List ℕ) (start n : ℕ) (signs : List Sign) (ts : List Tok) → FirstAt start ts → FirstAt n ts
      → first_start (poured (record { place = start; token = sign text start } ∷ signs) ts) ≡ n
  put_first text start n signs ts h k = ap first_start (pour_put (record { place = start; token = sign text start }) signs ts (from_first start ts h)) ∙ same_place start n ts h k

  row_starts : (w : What) (span : Span) (end floor last n : ℕ) (rows : List Row) (ts : List Tok) → At floor last w span end ts → Gap last floor → FirstAt n ts
      → (Gap last (floor_after w span floor) → first_start (poured (signs_of rows) ts) ≡ n)
      → first_start (poured (signs_of (record { what = w; span = span; end = end } ∷ rows)) ts) ≡ n
  row_starts (what.Statement b) span end floor last n rows ts h gap at k = put_first _ span.start n (signs_of rows) ts h at
  row_starts (what.Decision r base) span end floor last n rows ts h gap at k = put_first _ span.start n (signs_of rows) ts h at
  row_starts (what.Condition r on_true on_false) span end floor last n rows ts h gap at k = put_first _ span.start n (signs_of rows) ts h at
  row_starts (what.Switch r) span end floor last n rows ts h gap at k = put_first _ span.start n (signs_of rows) ts h at
  row_starts what.StatementEnd span end floor last n rows ts h gap at k = absurd (not_closed floor last span.end h gap)
  row_starts what.OperandEnd span end floor last n rows ts h gap at k = absurd (not_closed floor last span.end h gap)
  row_starts w span end floor last n rows ts h gap at k = k gap

  starts : {floor last : ℕ} {qs : List Part} {rows : List Row} {ts : List Tok} → Trace floor last qs rows ts → (n : ℕ) → Gap last floor → FollowFrom last ts → FirstAt n ts
      → first_start (poured (signs_of rows) ts) ≡ n
  starts ends n gap f h = absurd h
  starts (copy {t = t} {rows = rows} {ts = ts} i tr) n gap f h = ap first_start (pour_copy (signs_of rows) t ts (over_token t tr f.1 f.2)) ∙ h
  starts (row {floor = floor} {last = last} type {w = w} {span = span} {end = end} {rows = rows} {ts = ts} h tr) n gap f at =
      row_starts w span end floor last n rows ts h gap at (λ gap. starts tr n gap f at)
  starts (trace.word type {t = t} {rows = rows} {ts = ts} text start tr) n gap f h = ap first_start (pour_copy (signs_of rows) t ts (over_token t tr f.1 f.2)) ∙ h
  starts (semicolon type {t = t} {rows = rows} {ts = ts} text tr) n gap f h = ap first_start (pour_copy (signs_of rows) t ts (over_token t tr f.1 f.2)) ∙ h

  after_low : (at : ℕ) (texts : List (List ℕ)) → at ≤ after at texts
  after_low at [] = omega arith
  after_low at (text ∷ texts) = let more = after_low (at + length text + 1) texts in omega (arith, more)

  low : {floor last : ℕ} {qs : List Part} {rows : List Row} {ts : List Tok} → Trace floor last qs rows ts → (at n : ℕ) → own_tokens (Marks at qs) ≡ ts → FirstAt n ts → at ≤ n
  low ends at n e h = absurd h
  low (copy {w = w} {t = t} {qs = qs} {ts = ts} i tr) at n e h =
      let o = of_own at w t (Marks (after at (t.text ∷ [])) qs) ts i e in
      let start = o.start in
      omega (arith, start, h)
  low (row {floor = floor} {last = last} type {w = w} {span = span} {end = end} {qs = qs} {ts = ts} h tr) at n e k =
      let next : ℕ = after at (row_texts type w) in
      let less = after_low at (row_texts type w) in
      let more = low tr next n (sym (row_none type w span end floor last at (Marks next qs) ts h) ∙ e) k in
      omega (arith, less, more)
  low (trace.word type {t = t} {qs = qs} {ts = ts} text start tr) at n e h =
      let o = of_equal _ _ at what.Value t (Marks (after at (row_texts type what.Value)) qs) ts e in
      let start = o.start in
      omega (arith, start, h)
  low (semicolon type {b = b} {t = t} {qs = qs} {ts = ts} text tr) at n e h =
      let o = of_equal _ _ at (what.ValueEnd b) t (Marks (after at (row_texts type (what.ValueEnd b))) qs) ts e in
      let start = o.start in
      omega (arith, start, h)

  gap_later : (last at next : ℕ) → Gap last at → at ≤ next → Gap last next
  gap_later last at next (inl lt) le = inl (omega (arith, lt, le))
  gap_later last at next (inr none) le = inr none

  gap_token : (at n : ℕ) (texts : List (List ℕ)) (t : Tok) → at ≡ t.start → length t.text ≡ n → Gap (end_of t) (after (at + n + 1) texts)
  gap_token at n texts t start size = let more = after_low (at + n + 1) texts in inl (omega (arith, start, size, more))

  after_both : (at : ℕ) (texts others : List (List ℕ)) → after at (texts ++ others) ≡ after (after at texts) others
  after_both at [] others = refl
  after_both at (text ∷ texts) others = after_both (at + length text + 1) texts others

  word_gap : (at : ℕ) (type : List (List ℕ)) (t : Tok) → at ≡ t.start → length t.text ≡ 6 → Gap (end_of t) (after at (row_texts type what.Value))
  word_gap at type t start size =
      let more = after_low (at + 1 + 1) type in
      let e : after at (row_texts type what.Value) ≡ after (at + 1 + 1) type + 6 + 1 + 1 + 1 = after_both (at + 1 + 1) type (codes "mcdc_v" ∷ codes "=" ∷ []) in
      inl (omega (arith, start, size, more, e))

  own_plain : (at last : ℕ) (w : What) (t : Tok) (ms : List Mark) (ts : List Tok) → IsOwn w → own_tokens (mark_of tokens at (own w t) ∷ ms) ≡ t ∷ ts
      → placed (laid last (mark_of tokens at (own w t) ∷ ms)) ≡ t ∷ placed (laid (place_after at (length t.text)) ms)
  own_plain at last _ t ms ts source e = ap (λ l. head_or t l ∷ placed (laid (place_after at (length t.text)) ms)) e
  own_plain at last _ t ms ts opens e = ap (λ l. head_or t l ∷ placed (laid (place_after at (length t.text)) ms)) e
  own_plain at last _ t ms ts closes e = ap (λ l. head_or t l ∷ placed (laid (place_after at (length t.text)) ms)) e

  module _ (at last : ℕ) (ms : List Mark) (ts : List Tok) (rows : List Row) (follow : FollowFrom last ts) (same : placed (laid last ms) ≡ poured (signs_of rows) ts) where
    -- something is opened
    plain_open : (text : List ℕ) (span : Span) → FirstAt span.start ts → first_start (poured (signs_of rows) ts) ≡ span.start
        → sign text (first_start (placed (laid last ms))) ∷ placed (laid last ms) ≡ poured (record { place = span.start; token = sign text span.start } ∷ signs_of rows) ts
    plain_open text span h first =
        ap (λ l. sign text (first_start l) ∷ l) same
        ∙ (ap (λ n. sign text n ∷ poured (signs_of rows) ts) first
        ∙ sym (pour_put (record { place = span.start; token = sign text span.start }) (signs_of rows) ts (from_first span.start ts h)))

    -- something is closed
    plain_close : (text : List ℕ) (span : Span) → last ≡ span.end
        → sign text (last - 1) ∷ placed (laid last ms) ≡ poured (record { place = span.end; token = sign text (span.end - 1) } ∷ signs_of rows) ts
    plain_close text span e =
        ap (λ l. sign text (last - 1) ∷ l) same
        ∙ (ap (λ n. sign text (n - 1) ∷ poured (signs_of rows) ts) e
        ∙ sym (pour_put (record { place = span.end; token = sign text (span.end - 1) }) (signs_of rows) ts (subst (λ n. From n ts) e (from_follow last ts follow))))

    plain_row : (type : List (List ℕ)) (w : What) (span : Span) (end floor : ℕ) → At floor last w span end ts
        → ((n : ℕ) → FirstAt n ts → floor_after w span floor ≡ n → first_start (poured (signs_of rows) ts) ≡ n)
        → placed (laid last (mark_of tokens at (row_part type w) ∷ ms)) ≡ poured (signs_of (record { what = w; span = span; end = end } ∷ rows)) ts
    plain_row type what.Source span end floor h k = absurd h
    plain_row type (what.Opening b) span end floor h k = absurd h
    plain_row type what.Closing span end floor h k = absurd h
    plain_row type what.Value span end floor h k = absurd h
    plain_row type (what.ValueEnd b) span end floor h k = absurd h
    plain_row type (what.Statement b) span end floor h k = plain_open _ span h (k span.start h refl)
    plain_row type (what.Decision r base) span end floor h k = plain_open _ span h (k span.start h refl)
    plain_row type (what.Condition r on_true on_false) span end floor h k = plain_open _ span h (k span.start h refl)
    plain_row type (what.Switch r) span end floor h k = plain_open _ span h (k span.start h refl)
    plain_row type what.StatementEnd span end floor h k = plain_close _ span h.2
    plain_row type what.OperandEnd span end floor h k = plain_close _ span h.2
    plain_row type w span end floor h k = same

  is_plain : {floor last : ℕ} {qs : List Part} {rows : List Row} {ts : List Tok} → Trace floor last qs rows ts → (at : ℕ) → Each Short ts → FollowFrom last ts → Gap last at
      → own_tokens (Marks at qs) ≡ ts → placed (laid last (Marks at qs)) ≡ poured (signs_of rows) ts
  is_plain ends at short f gap e = refl
  is_plain (copy {last = last} {w = w} {t = t} {qs = qs} {rows = rows} {ts = ts} i tr) at short f gap e =
      let next : ℕ = after at (t.text ∷ []) in
      let o = of_own at w t (Marks next qs) ts i e in
      own_plain at last w t (Marks next qs) ts i e
      ∙ (ap (λ n. t ∷ placed (laid n (Marks next qs))) (ends_at at t o.start short.0)
      ∙ (ap (λ l. t ∷ l) (is_plain tr next short.1 f.2 (gap_token at (length t.text) [] t o.start refl) o.later)
      ∙ sym (pour_copy (signs_of rows) t ts (over_token t tr f.1 f.2))))
  is_plain (row {floor = floor} {last = last} type {w = w} {span = span} {end = end} {qs = qs} {rows = rows} {ts = ts} h tr) at short f gap e =
      let next : ℕ = after at (row_texts type w) in
      let own : own_tokens (Marks next qs) ≡ ts = sym (row_none type w span end floor last at (Marks next qs) ts h) ∙ e in
      let less = after_low at (row_texts type w) in
      let wide = gap_later last at next gap less in
      plain_row at last (Marks next qs) ts rows f (is_plain tr next short f wide own) type w span end floor h
      (λ n k same. starts tr n (gap_later last next (floor_after w span floor) wide (subst (λ m. next ≤ m) (sym same) (low tr next n own k))) f k)
  is_plain (trace.word {last = last} type {t = t} {qs = qs} {rows = rows} {ts = ts} text start tr) at short f gap e =
      let next : ℕ = after at (row_texts type what.Value) in
      let ms : List Mark = Marks next qs in
      let o = of_equal _ _ at what.Value t ms ts e in
      let end : place_after at 6 ≡ end_of t = ap (λ n. place_after at n) (sym (six t text)) ∙ ends_at at t o.start short.0 in
      ap (λ l. head_or t l ∷ placed (laid (place_after at 6) ms)) e
      ∙ (ap (λ n. t ∷ placed (laid n ms)) end
      ∙ (ap (λ l. t ∷ l) (is_plain tr next short.1 f.2 (word_gap at type t o.start (six t text)) o.later)
      ∙ sym (pour_copy (signs_of rows) t ts (over_token t tr f.1 f.2))))
  is_plain (semicolon {last = last} type {b = b} {t = t} {qs = qs} {rows = rows} {ts = ts} text tr) at short f gap e =
      let next : ℕ = after at (row_texts type (what.ValueEnd b)) in
      let ms : List Mark = Marks next qs in
      let o = of_equal _ _ at (what.ValueEnd b) t ms ts e in
      let end : place_after at 1 ≡ end_of t = ap (λ n. place_after at n) (sym (one t text)) ∙ ends_at at t o.start short.0 in
      ap (λ l. head_or t l ∷ placed (laid (place_after at 1) ms)) e
      ∙ (ap (λ n. t ∷ placed (laid n ms)) end
      ∙ (ap (λ l. t ∷ l) (is_plain tr next short.1 f.2 (gap_token at 1 (value_exit b) t o.start (one t text)) o.later)
      ∙ sym (pour_copy (signs_of rows) t ts (over_token t tr f.1 f.2))))

  -- ---- the tokens of the source at their places

  abbrev Kind : Tok → Type 0
  Kind t = kind_in tokens t.text ≡ t.kind

  abbrev placeless : TokenKind → List ℕ → Tok
  placeless k text = record { kind = k; text = text; start = 0 }

  own_alike : (at : ℕ) (w : What) (t : Tok) (ms : List Mark) → IsOwn w
      → map without_place (own_tokens (mark_of tokens at (own w t) ∷ ms)) ≡ placeless (kind_in tokens t.text) t.text ∷ map without_place (own_tokens ms)
  own_alike at _ t ms source = refl
  own_alike at _ t ms opens = refl
  own_alike at _ t ms closes = refl

  same_token : (k : TokenKind) (text : List ℕ) (t : Tok) → t.kind ≡ k → t.text ≡ text → without_place t ≡ placeless k text
  same_token k text t e f = ap (λ k. placeless k t.text) e ∙ ap (placeless k) f

  are_alike : {floor last : ℕ} {qs : List Part} {rows : List Row} {ts : List Tok} → Trace floor last qs rows ts → (at : ℕ) → Each Kind ts → kind_in tokens (codes "return") ≡ Keyword
      → map without_place ts ≡ map without_place (own_tokens (Marks at qs))
  are_alike ends at kinds k = refl
  are_alike (copy {w = w} {t = t} {qs = qs} {ts = ts} i tr) at kinds k =
      let ms : List Mark = Marks (after at (t.text ∷ [])) qs in
      ap (λ x. x ∷ map without_place ts) (same_token (kind_in tokens t.text) t.text t (sym kinds.0) refl)
      ∙ (ap (λ l. placeless (kind_in tokens t.text) t.text ∷ l) (are_alike tr (after at (t.text ∷ [])) kinds.1 k)
      ∙ sym (own_alike at w t ms i))
  are_alike (row {floor = floor} {last = last} type {w = w} {span = span} {end = end} {qs = qs} {ts = ts} h tr) at kinds k =
      let next : ℕ = after at (row_texts type w) in
      are_alike tr next kinds k ∙ ap (map without_place) (sym (row_none type w span end floor last at (Marks next qs) ts h))
  are_alike (trace.word type {t = t} {qs = qs} {ts = ts} text start tr) at kinds k =
      let same : t.text ≡ codes "return" = same_text t.text (codes "return") text in
      let next : ℕ = after at (row_texts type what.Value) in
      ap (λ x. x ∷ map without_place ts) (same_token Keyword (codes "return") t (sym kinds.0 ∙ (ap (kind_in tokens) same ∙ k)) same)
      ∙ ap (λ l. placeless Keyword (codes "return") ∷ l) (are_alike tr next kinds.1 k)
  are_alike (semicolon type {b = b} {t = t} {qs = qs} {ts = ts} text tr) at kinds k =
      let same : t.text ≡ codes ";" = same_text t.text (codes ";") text in
      let next : ℕ = after at (row_texts type (what.ValueEnd b)) in
      ap (λ x. x ∷ map without_place ts) (same_token (kind_in tokens (codes ";")) (codes ";") t (sym kinds.0 ∙ ap (kind_in tokens) same) same)
      ∙ ap (λ l. placeless (kind_in tokens (codes ";")) (codes ";") ∷ l) (are_alike tr next kinds.1 k)

-- ---- whole texts

return_inserted : IsInserted (codes "return") Keyword
unfolding inserted_words probe_names
return_inserted = word (codes "return") refl

pub alike_told : OwnTokensAreAlike
alike_told text tokens tree scan h =
    let kinds = kinds_kept text tokens scan in
    are_alike tokens (traced tokens tree h) 0 (recursion_from_All (Kind tokens) tokens kinds.0) (kinds.1 (codes "return") Keyword return_inserted)

pub probes_told : ProbesAreThere
probes_told kinds tokens tree h short e = there kinds (traced tokens tree h) 0 (recursion_from_All (λ (t : Tok). end_of t ≤ 4294967295) tokens short) e

pub plain_told : PlainIsPoured
plain_told kinds tokens tree h short e = is_plain kinds (traced tokens tree h) 0 (recursion_from_All (λ (t : Tok). end_of t ≤ 4294967295) tokens short) h.follow (inr refl) e
