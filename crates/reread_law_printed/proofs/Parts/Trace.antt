-- The parts of a text with the rows and the tokens that they come from, one after the other.
use Rattle.std.proofs.Common.{◌≡◌, ◌≤◌, ◌<◌, ◌+◌, ◌-◌, ℕ, nat_lt, nat_eq, Bool, true, false, cond, List, [], ◌∷◌, ◌++◌, length, map, Option, Some, None, codes, refl, sym, ap, subst, ◌∙◌, arith, append_assoc}
use Rattle.std.proofs.lemmas.List.{append_cancel_right}
use Rattle.std.specs.List.{AllByRecursion as Each}
use Rattle.std.proofs.lemmas.List.Elements.{recursion_from_All}
use Rattle.mc_span.specs.declared.span.Span.{Span}
use Rattle.mc_lex.specs.Tokens.{Tok}
use Rattle.reread_pieces.specs.declared.bracket.Bracket.{Bracket}
use Rattle.reread_pieces.specs.declared.bracket.Bracket.TheVariants as bracket
use Rattle.reread_pieces.specs.declared.piece.What.{What}
use Rattle.reread_pieces.specs.declared.piece.What.TheVariants as what
use Rattle.reread_pieces.specs.Words.{is}
use Rattle.mc_probe.specs.Tree as p
use Rattle.reread_law_texts.specs.alike.Moves.{FollowFrom, end_of}
use Rattle.reread_law_rows.specs.inserted.Rows.{Row, entry_row, exit_row, rows_in_statements, rows_in_function, rows_in_functions, rows_of}
use Rattle.reread_law_rows.specs.inserted.Fits.{StartsAt, EndsAt, StandsAmong}
use Rattle.reread_law_printed.specs.parts.Parts.{Part, Parts, what_of, own, copied, upto, into_body, row_part, place_by, place_of, without_first, put, inserted, all_put, body_rows, exit_put, body, type_at, parts_in_function, parts_in_functions, parts_of}
use Rattle.reread_law_printed.specs.parts.Stands.{past_by, AreInOrder, IsFunctionAmong, AreAmong}
use Rattle.reread_law_printed.specs.parts.Laws.{Stands}
use Rattle.reread_law_printed.proofs.Parts.Tied.{Inner, inner_rows, added, Fit, FitsAll, FitAll, all_fit}
use Rattle.reread_law_printed.proofs.Parts.Walked.{tied_body}
use Rattle.reread_law_printed.proofs.Parts.Cut.{past_place, Left, left_upto, left_later, beyond, follow_after, first_place, found, not_past, has_text}
use Rattle.reread_law_printed.proofs.Parts.Runs.{TokenAt, token_left, of_return, of_semicolon, met, after_brace, after_exit, of_function, State, name_place, opening_place, closing_place, follows_body, whole_body, at_body}
use Rattle.reread_law_printed.proofs.Parts.Runs as runs
use Rattle.reread_law_printed.proofs.Parts.Told.{copied_is}

-- ---- where a row stands

pub data IsOwn : What → Type 0 where
  source : IsOwn what.Source
  opens : {b : Bracket} → IsOwn (what.Opening b)
  closes : IsOwn what.Closing

abbrev pub FirstAt : ℕ → List Tok → Type 0
FirstAt n [] = ⊥
FirstAt n (t ∷ ts) = t.start ≡ n

abbrev pub FirstBefore : ℕ → List Tok → Type 0
FirstBefore n [] = ⊥
FirstBefore n (t ∷ ts) = t.start < n

-- An end stands where the last token ends, and not before the rows that were opened there.
abbrev pub AtEnd : ℕ → ℕ → ℕ → Type 0
AtEnd floor last end = (0 < last) × (floor ≤ end) × (last ≡ end)

-- A row by its place: `last` is where the last token before it ends, and these are those after it.
abbrev pub At : ℕ → ℕ → What → Span → ℕ → List Tok → Type 0
At floor last (what.Registers n) span end ts = FirstBefore end ts
At floor last (what.Entry b) span end ts = FirstBefore end ts
At floor last (what.Exit b) span end ts = FirstBefore end ts
At floor last (what.Label r b) span end ts = AtEnd floor last span.end
At floor last (what.Default r b) span end ts = AtEnd floor last span.end
At floor last what.StatementEnd span end ts = AtEnd floor last span.end
At floor last what.OperandEnd span end ts = AtEnd floor last span.end
At floor last what.ReturnEnd span end ts = AtEnd floor last span.end
At floor last (what.Declaration b) span end ts = FirstAt span.start ts
At floor last (what.Statement b) span end ts = FirstAt span.start ts
At floor last (what.Return b) span end ts = FirstAt span.start ts
At floor last (what.Decision r base) span end ts = FirstAt span.start ts
At floor last (what.Condition r t f) span end ts = FirstAt span.start ts
At floor last (what.Switch r) span end ts = FirstAt span.start ts
At floor last _ span end ts = ⊥

-- rows that are opened here end later
abbrev pub floor_after : What → Span → ℕ → ℕ
floor_after (what.Statement b) span floor = span.start
floor_after (what.Decision r base) span floor = span.start
floor_after (what.Condition r t f) span floor = span.start
floor_after (what.Switch r) span floor = span.start
floor_after _ span floor = floor

pub data Trace : ℕ → ℕ → List Part → List Row → List Tok → Type 0 where
  ends : {floor last : ℕ} → Trace floor last [] [] []
  copy : {floor last : ℕ} {w : What} {t : Tok} {qs : List Part} {rows : List Row} {ts : List Tok}
      → IsOwn w → Trace 0 (end_of t) qs rows ts → Trace floor last (own w t ∷ qs) rows (t ∷ ts)
  row : {floor last : ℕ} (type : List (List ℕ)) {w : What} {span : Span} {end : ℕ} {qs : List Part} {rows : List Row} {ts : List Tok}
      → At floor last w span end ts → Trace (floor_after w span floor) last qs rows ts
      → Trace floor last (row_part type w ∷ qs) (record { what = w; span = span; end = end } ∷ rows) ts
  word : {floor last : ℕ} (type : List (List ℕ)) {span : Span} {end : ℕ} {t : Tok} {qs : List Part} {rows : List Row} {ts : List Tok}
      → is (codes "return") t ≡ true → t.start ≡ span.start → Trace 0 (end_of t) qs rows ts
      → Trace floor last (row_part type what.Value ∷ qs) (record { what = what.Value; span = span; end = end } ∷ rows) (t ∷ ts)
  semicolon : {floor last : ℕ} (type : List (List ℕ)) {b : ℕ} {span : Span} {end : ℕ} {t : Tok} {qs : List Part} {rows : List Row} {ts : List Tok}
      → is (codes ";") t ≡ true → Trace 0 (end_of t) qs rows ts
      → Trace floor last (row_part type (what.ValueEnd b) ∷ qs) (record { what = what.ValueEnd b; span = span; end = end } ∷ rows) (t ∷ ts)

-- ---- a place among the tokens

abbrev pub last_end : List Tok → ℕ
last_end [] = 0
last_end (t ∷ []) = end_of t
last_end (t ∷ u ∷ ts) = last_end (u ∷ ts)

end_last : (xs : List Tok) (t : Tok) → last_end (xs ++ t ∷ []) ≡ end_of t
end_last [] t = refl
end_last (x ∷ []) t = refl
end_last (x ∷ y ∷ xs) t = end_last (y ∷ xs) t

-- the last token of a list
pub record LastOf (at : ℕ) (l : List Tok) : Type 0 where
  pub front : List Tok
  pub token : Tok
  pub all : l ≡ front ++ token ∷ []
  pub end : end_of token ≡ at

pub last_of : (at : ℕ) (l : List Tok) → EndsAt at l → LastOf at l
last_of at [] h = absurd h
last_of at (t ∷ []) h = record { front = []; token = t; all = refl; end = h }
last_of at (t ∷ u ∷ ts) h =
    let more = last_of at (u ∷ ts) h in
    record { front = t ∷ more.front; token = more.token; all = ap (λ l. t ∷ l) more.all; end = more.end }

own_is : (t : Tok) → IsOwn (what_of t)
own_is t = copied_is IsOwn (λ b. opens) closes source t

module _ (tokens : List Tok) (follow : FollowFrom 0 tokens) where
  pub record Position (last : ℕ) (ts : List Tok) : Type 0 where
    pub passed : List Tok
    pub all : tokens ≡ passed ++ ts
    pub end : last_end passed ≡ last

  one_on : (last : ℕ) (t : Tok) (ts : List Tok) → Position last (t ∷ ts) → Position (end_of t) ts
  one_on last t ts q = record {
    passed = q.passed ++ t ∷ [];
    all = q.all ∙ sym (append_assoc q.passed (t ∷ []) ts);
    end = end_last q.passed t;
  }

  -- ---- tokens that are copied

  trace_upto : (place floor last : ℕ) (next : Parts) (rows : List Row) (ts : List Tok) → Position last ts
      → ((below now : ℕ) → below ≤ floor → Position now (past_place place ts) → Trace below now (next (past_place place ts)) rows (past_place place ts))
      → Trace floor last (upto place next ts) rows ts
  trace_upto place floor last next rows [] q k = k floor last (omega arith) q
  trace_upto place floor last next rows (t ∷ ts) q k = by_test (nat_lt t.start place) k (λ k. trace_upto place 0 (end_of t) next rows ts (one_on last t ts q) k)
    where
      by_test : (b : Bool)
          → ((below now : ℕ) → below ≤ floor → Position now (cond b (past_place place ts) (t ∷ ts))
          → Trace below now (next (cond b (past_place place ts) (t ∷ ts))) rows (cond b (past_place place ts) (t ∷ ts)))
          → (((below now : ℕ) → below ≤ 0 → Position now (past_place place ts) → Trace below now (next (past_place place ts)) rows (past_place place ts))
          → Trace 0 (end_of t) (upto place next ts) rows ts)
          → Trace floor last (cond b (copied t ∷ upto place next ts) (next (t ∷ ts))) rows (t ∷ ts)
      by_test true k more = copy (own_is t) (more (λ below now le r. k below now (omega (arith, le)) r))
      by_test false k more = k floor last (omega arith) q

  trace_into : (floor last : ℕ) (next : Parts) (rows : List Row) (ts : List Tok) → Position last ts
      → ((below now : ℕ) → below ≤ floor → Position now (after_brace ts) → Trace below now (next (after_brace ts)) rows (after_brace ts))
      → Trace floor last (into_body next ts) rows ts
  trace_into floor last next rows [] q k = k floor last (omega arith) q
  trace_into floor last next rows (t ∷ ts) q k = by_test (is (codes "{") t) k (λ k. trace_into 0 (end_of t) next rows ts (one_on last t ts q) k)
    where
      by_test : (b : Bool)
          → ((below now : ℕ) → below ≤ floor → Position now (cond b ts (after_brace ts)) → Trace below now (next (cond b ts (after_brace ts))) rows (cond b ts (after_brace ts)))
          → (((below now : ℕ) → below ≤ 0 → Position now (after_brace ts) → Trace below now (next (after_brace ts)) rows (after_brace ts))
          → Trace 0 (end_of t) (into_body next ts) rows ts)
          → Trace floor last (cond b (own (what.Opening bracket.Body) t ∷ next ts) (copied t ∷ into_body next ts)) rows (t ∷ ts)
      by_test true k more = copy opens (k 0 (end_of t) (omega arith) (one_on last t ts q))
      by_test false k more = copy (own_is t) (more (λ below now le r. k below now (omega (arith, le)) r))

  trace_rest : (floor last : ℕ) (ts : List Tok) → Trace floor last (map copied ts) [] ts
  trace_rest floor last [] = ends
  trace_rest floor last (t ∷ ts) = copy (own_is t) (trace_rest 0 (end_of t) ts)

  -- ---- where the rows of a body stand

  pub starts_at : (span : Span) → StandsAmong tokens span → TokenAt tokens span.start
  starts_at span q = by_inside q.inside refl
    where
      by_inside : (l : List Tok) → q.inside ≡ l → TokenAt tokens span.start
      by_inside [] e = absurd (subst (StartsAt span.start) e q.start)
      by_inside (t ∷ ts) e = record {
        ahead = q.before;
        token = t;
        rest = ts ++ q.after;
        all = q.all ∙ (ap (λ l. (q.before ++ l) ++ q.after) e ∙ append_assoc q.before (t ∷ ts) q.after);
        start = subst (StartsAt span.start) e q.start;
      }

  first_at : (span : Span) (from : ℕ) (ts : List Tok) → Left tokens from ts → from ≤ span.start → StandsAmong tokens span → FirstAt span.start (past_place span.start ts)
  first_at span from ts h le q =
      let t = starts_at span q in
      subst (FirstAt span.start) (sym (token_left tokens follow ts from span.start h le t)) t.start

  pub record EndAt (span : Span) : Type 0 where
    pub ahead : List Tok
    pub token : Tok
    pub rest : List Tok
    pub all : tokens ≡ ahead ++ token ∷ rest
    pub end : end_of token ≡ span.end

  pub ends_at : (span : Span) → StandsAmong tokens span → EndAt span
  ends_at span q =
      let l = last_of span.end q.inside q.end in
      record {
        ahead = q.before ++ l.front;
        token = l.token;
        rest = q.after;
        all = q.all
            ∙ (ap (λ l. (q.before ++ l) ++ q.after) l.all
            ∙ (ap (λ l. l ++ q.after) (sym (append_assoc q.before l.front (l.token ∷ [])))
            ∙ append_assoc (q.before ++ l.front) (l.token ∷ []) q.after));
        end = l.end;
      }

  last_at : (span : Span) (from last : ℕ) (ts : List Tok) → Left tokens from ts → from ≤ span.end → StandsAmong tokens span → Position last (past_place span.end ts)
      → (0 < last) × (last ≡ span.end)
  last_at span from last ts h le q here =
      let e = ends_at span q in
      let follows : FollowFrom 0 (e.ahead ++ e.token ∷ e.rest) = subst (FollowFrom 0) e.all follow in
      let end : end_of e.token ≡ span.end = e.end in
      let text : 0 < length e.token.text = has_text 0 e.ahead e.token e.rest follows in
      let later : FollowFrom span.end e.rest = subst (λ n. FollowFrom n e.rest) end (follow_after 0 e.ahead e.token e.rest follows) in
      let same : past_place span.end ts ≡ e.rest =
      sym (h span.end le) ∙ (ap (past_place span.end) e.all ∙ (beyond 0 span.end e.ahead e.token e.rest follows (omega (arith, end)) ∙ not_past span.end e.rest later)) in
      let whole : here.passed ++ e.rest ≡ (e.ahead ++ e.token ∷ []) ++ e.rest =
      ap (λ l. here.passed ++ l) (sym same) ∙ (sym here.all ∙ (e.all ∙ sym (append_assoc e.ahead (e.token ∷ []) e.rest))) in
      let passed : here.passed ≡ e.ahead ++ e.token ∷ [] = append_cancel_right here.passed (e.ahead ++ e.token ∷ []) e.rest whole in
      let last_is : last ≡ span.end = sym here.end ∙ (ap last_end passed ∙ (end_last e.ahead e.token ∙ end)) in
      (omega (arith, last_is, end, text), last_is)

  end_at : (span : Span) (floor from last : ℕ) (ts : List Tok) → floor ≤ from → Left tokens from ts → from ≤ span.end → StandsAmong tokens span → Position last (past_place span.end ts)
      → AtEnd floor last span.end
  end_at span floor from last ts low h le q here = let two = last_at span from last ts h le q here in (two.0, omega (arith, low, le), two.1)

  -- ---- the rows of a body

  -- what is known where some rows end
  pub record Ends (to : ℕ) (floor last : ℕ) (l : List Tok) : Type 0 where
    pub left : Left tokens to l
    pub low : floor ≤ to
    pub here : Position last l

  module _ (type : List (List ℕ)) (next : Parts) (later : List Row) (to : ℕ)
      (k : (floor last : ℕ) (l : List Tok) → Ends to floor last l → Trace floor last (next l) later l) where
    abbrev Goes : List Row → Type 0
    Goes rows =
        (from floor last : ℕ) (ts : List Tok) → Each (FitAll tokens) rows → Each (λ (r : Row). Inner r.what) rows → AreInOrder from rows to → floor ≤ from
        → Left tokens from ts → Position last ts → Trace floor last (inserted type rows next ts) (rows ++ later) ts

    -- a row that takes no token
    plain : (w : What) (span : Span) (end : ℕ) (rows : List Row) (floor last : ℕ) (ts : List Tok) → Goes rows
        → At floor last w span end ts → Each (FitAll tokens) rows → Each (λ (r : Row). Inner r.what) rows → AreInOrder (place_by w span) rows to
        → floor_after w span floor ≤ place_by w span → Left tokens (place_by w span) ts → Position last ts
        → Trace floor last (row_part type w ∷ inserted type rows next ts) (record { what = w; span = span; end = end } ∷ (rows ++ later)) ts
    plain w span end rows floor last ts goes at fit inner order low left here =
        row type at (goes (place_by w span) (floor_after w span floor) last ts fit inner order low left here)

    taken_word : (span : Span) (end : ℕ) (rows : List Row) (floor last : ℕ) (ts : List Tok) (t : Tok) (rest : List Tok) → ts ≡ t ∷ rest → Goes rows
        → is (codes "return") t ≡ true → t.start ≡ span.start → Each (FitAll tokens) rows → Each (λ (r : Row). Inner r.what) rows → AreInOrder (span.start + 6) rows to
        → Left tokens (span.start + 6) (without_first true ts) → Position last ts
        → Trace floor last (put type what.Value (inserted type rows next) ts) (record { what = what.Value; span = span; end = end } ∷ (rows ++ later)) ts
    taken_word span end rows floor last ts t rest e goes text start fit inner order left here =
        subst (λ l. Trace floor last (put type what.Value (inserted type rows next) l) (record { what = what.Value; span = span; end = end } ∷ (rows ++ later)) l) (sym e)
        (word type text start (goes (span.start + 6) 0 (end_of t) rest fit inner order (omega arith) (subst (λ l. Left tokens (span.start + 6) (without_first true l)) e left)
        (one_on last t rest (subst (Position last) e here))))

    taken_end : (b : ℕ) (span : Span) (end : ℕ) (rows : List Row) (floor last : ℕ) (ts : List Tok) (t : Tok) (rest : List Tok) → ts ≡ t ∷ rest → Goes rows
        → is (codes ";") t ≡ true → Each (FitAll tokens) rows → Each (λ (r : Row). Inner r.what) rows → AreInOrder span.end rows to
        → Left tokens span.end (without_first true ts) → Position last ts
        → Trace floor last (put type (what.ValueEnd b) (inserted type rows next) ts) (record { what = what.ValueEnd b; span = span; end = end } ∷ (rows ++ later)) ts
    taken_end b span end rows floor last ts t rest e goes text fit inner order left here =
        subst (λ l. Trace floor last (put type (what.ValueEnd b) (inserted type rows next) l) (record { what = what.ValueEnd b; span = span; end = end } ∷ (rows ++ later)) l) (sym e)
        (semicolon type text (goes span.end 0 (end_of t) rest fit inner order (omega arith) (subst (λ l. Left tokens span.end (without_first true l)) e left)
        (one_on last t rest (subst (Position last) e here))))

    same : (n : ℕ) → n ≤ n
    same n = omega arith

    one_row : (w : What) (span : Span) (end : ℕ) (rows : List Row) (from floor last : ℕ) (ts : List Tok) → Goes rows → Inner w → FitsAll tokens w span
        → Each (FitAll tokens) rows → Each (λ (r : Row). Inner r.what) rows → from ≤ place_by w span → AreInOrder (past_by w span) rows to → floor ≤ from
        → Left tokens from ts → Position last (past_place (place_by w span) ts)
        → Trace floor last (put type w (inserted type rows next) (past_place (place_by w span) ts)) (record { what = w; span = span; end = end } ∷ (rows ++ later)) (past_place (place_by w span) ts)
    one_row what.Source span end rows from floor last ts goes i f fit inner le order low left here = absurd (cc)
    one_row (what.Opening b) span end rows from floor last ts goes i f fit inner le order low left here = absurd (cc)
    one_row what.Closing span end rows from floor last ts goes i f fit inner le order low left here = absurd (cc)
    one_row (what.Registers n) span end rows from floor last ts goes i f fit inner le order low left here = absurd (cc)
    one_row (what.Entry b) span end rows from floor last ts goes i f fit inner le order low left here = absurd (cc)
    one_row (what.Exit b) span end rows from floor last ts goes i f fit inner le order low left here = absurd (cc)
    one_row (what.Declaration b) span end rows from floor last ts goes i f fit inner le order low left here =
        plain (what.Declaration b) span end rows floor last _ goes (first_at span from ts left le f.place) fit inner order (omega (arith, low, le)) (left_upto tokens ts from span.start left le) here
    one_row (what.Label r b) span end rows from floor last ts goes i f fit inner le order low left here =
        plain (what.Label r b) span end rows floor last _ goes (end_at span floor from last ts low left le f.place here) fit inner order (omega (arith, low, le)) (left_upto tokens ts from span.end left le) here
    one_row (what.Default r b) span end rows from floor last ts goes i f fit inner le order low left here =
        plain (what.Default r b) span end rows floor last _ goes (end_at span floor from last ts low left le f.place here) fit inner order (omega (arith, low, le)) (left_upto tokens ts from span.end left le) here
    one_row (what.Statement b) span end rows from floor last ts goes i f fit inner le order low left here =
        plain (what.Statement b) span end rows floor last _ goes (first_at span from ts left le f.place) fit inner order (same span.start) (left_upto tokens ts from span.start left le) here
    one_row what.StatementEnd span end rows from floor last ts goes i f fit inner le order low left here =
        plain what.StatementEnd span end rows floor last _ goes (end_at span floor from last ts low left le f.place here) fit inner order (omega (arith, low, le)) (left_upto tokens ts from span.end left le) here
    one_row what.Value span end rows from floor last ts goes i f fit inner le order low left here =
        let q = of_return tokens follow span f.value f.stands in
        let m = met tokens follow what.Value span ts from f left le in
        taken_word span end rows floor last _ q.0.token q.0.rest (token_left tokens follow ts from span.start left le q.0) goes q.1 q.0.start fit inner order m.1 here
    one_row (what.ValueEnd b) span end rows from floor last ts goes i f fit inner le order low left here =
        let q = of_semicolon tokens follow span f.value f.stands in
        let m = met tokens follow (what.ValueEnd b) span ts from f left le in
        taken_end b span end rows floor last _ q.0.token q.0.rest (token_left tokens follow ts from (span.end - 1) left le q.0) goes q.1 fit inner order m.1 here
    one_row (what.Return b) span end rows from floor last ts goes i f fit inner le order low left here =
        plain (what.Return b) span end rows floor last _ goes (first_at span from ts left le f.place) fit inner order (omega (arith, low, le)) (left_upto tokens ts from span.start left le) here
    one_row what.ReturnEnd span end rows from floor last ts goes i f fit inner le order low left here =
        plain what.ReturnEnd span end rows floor last _ goes (end_at span floor from last ts low left le f.place here) fit inner order (omega (arith, low, le)) (left_upto tokens ts from span.end left le) here
    one_row (what.Decision r base) span end rows from floor last ts goes i f fit inner le order low left here =
        plain (what.Decision r base) span end rows floor last _ goes (first_at span from ts left le f.place) fit inner order (same span.start) (left_upto tokens ts from span.start left le) here
    one_row (what.Condition r on_true on_false) span end rows from floor last ts goes i f fit inner le order low left here =
        plain (what.Condition r on_true on_false) span end rows floor last _ goes (first_at span from ts left le f.place) fit inner order (same span.start) (left_upto tokens ts from span.start left le) here
    one_row (what.Switch r) span end rows from floor last ts goes i f fit inner le order low left here =
        plain (what.Switch r) span end rows floor last _ goes (first_at span from ts left le f.place) fit inner order (same span.start) (left_upto tokens ts from span.start left le) here
    one_row what.OperandEnd span end rows from floor last ts goes i f fit inner le order low left here =
        plain what.OperandEnd span end rows floor last _ goes (end_at span floor from last ts low left le f.place here) fit inner order (omega (arith, low, le)) (left_upto tokens ts from span.end left le) here

    pub trace_rows : (rows : List Row) → Goes rows
    trace_rows [] from floor last ts fit inner order low left here =
        k floor last ts (record { left = left_later tokens ts from to left order; low = omega (arith, low, order); here = here })
    trace_rows (r ∷ rows) from floor last ts fit inner order low left here =
        trace_upto (place_of r) floor last (put type r.what (inserted type rows next)) (r ∷ (rows ++ later)) ts here
        (λ below now le q. one_row r.what r.span r.end rows from below now ts (trace_rows rows) inner.0 fit.0 fit.1 inner.1 order.0 order.1 (omega (arith, le, low)) left q)

  -- ---- functions

  first_before : (place : ℕ) (xs : List Tok) (t : Tok) (ts : List Tok) → FollowFrom place (xs ++ t ∷ ts) → FirstBefore (end_of t) (xs ++ t ∷ ts)
  first_before place [] t ts h = let text = h.1 in omega (arith, text)
  first_before place (x ∷ xs) t ts h =
      let text = h.1 in
      let later = first_place (end_of x) xs t ts h.2 in
      omega (arith, text, later)

  trace_front : (f : p.Function) (b : Bool) (e : Option ℕ) (next : Parts) (rows : List Row) (floor last : ℕ) (ts : List Tok) → FirstBefore f.closing.end ts
      → Trace floor last (next ts) rows ts
      → Trace floor last (all_put (cond b (entry_row f e []) (record { what = what.Registers f.registers; span = f.name_span; end = f.closing.end } ∷ entry_row f e [])) next ts)
      (cond b (entry_row f e rows) (record { what = what.Registers f.registers; span = f.name_span; end = f.closing.end } ∷ entry_row f e rows)) ts
  trace_front f true None next rows floor last ts h t = t
  trace_front f true (Some b) next rows floor last ts h t = row [] h t
  trace_front f false None next rows floor last ts h t = row [] h t
  trace_front f false (Some b) next rows floor last ts h t = row [] h (row [] h t)

  trace_exit : (f : p.Function) (e : Option ℕ) (next : Parts) (later : List Row) (floor last : ℕ) (l : List Tok) → FirstBefore f.closing.end (past_place f.closing.start l)
      → Position last l
      → ((below now : ℕ) → below ≤ floor → Position now (after_exit e f.closing l) → Trace below now (next (after_exit e f.closing l)) later (after_exit e f.closing l))
      → Trace floor last (exit_put e f.closing next l) (exit_row f e later) l
  trace_exit f None next later floor last l h here k = k floor last (omega arith) here
  trace_exit f (Some b) next later floor last l h here k =
      trace_upto f.closing.start floor last (put [] (what.Exit b) next) (exit_row f (Some b) later) l here
      (λ below now le q. row [] h (k below now le q))

  module _ (f : p.Function) (from : ℕ) (suffix ts : List Tok) (s : State tokens follow from suffix ts) (q : IsFunctionAmong suffix f) where
    at_closing : (l : List Tok) → Left tokens f.closing.start l → FirstBefore f.closing.end (past_place f.closing.start l)
    at_closing l h =
        let start : q.closing.start ≡ f.closing.start = q.closing_start in
        let end : end_of q.closing ≡ f.closing.end = q.closing_end in
        let place = closing_place tokens follow f from suffix ts s q in
        let follows = follows_body tokens follow f from suffix ts s q in
        let text : 0 < length q.closing.text = has_text (end_of q.opening) q.inside q.closing q.after follows in
        let e : past_place f.closing.start l ≡ q.closing ∷ q.after =
        sym (h f.closing.start (omega arith))
        ∙ (whole_body tokens follow f from suffix ts s q f.closing.start (omega (arith, place, start))
        ∙ (ap (λ n. past_place n (q.inside ++ q.closing ∷ q.after)) (sym start) ∙ found (end_of q.opening) q.inside q.closing q.after follows)) in
        subst (FirstBefore f.closing.end) (sym e) (omega (arith, text, end))

    trace_function : (next : Parts) (later : List Row) (floor last : ℕ) → Position last ts → floor ≤ from → Each (FitAll tokens) (body_rows f)
        → ((below now : ℕ) (l : List Tok) → State tokens follow (end_of q.closing) q.after l → Position now l → below ≤ end_of q.closing → Trace below now (next l) later l)
        → Trace floor last (parts_in_function f next ts) (rows_in_function f later) ts
    trace_function next later floor last here low fit k =
        let type : List (List ℕ) = type_at f.name_span.start ts in
        let named : List Tok = past_place f.name_span.end ts in
        let rows : List Row = rows_in_function f later in
        trace_upto f.name_span.end floor last (into_body (body type f next)) rows ts here
        (λ below now le here. trace_into below now (body type f next) rows named here
        (λ below now less here. in_body type below now (omega (arith, low, le, less)) here))
      where
        first : FirstBefore f.closing.end (q.inside ++ q.closing ∷ q.after)
        first = subst (λ n. FirstBefore n (q.inside ++ q.closing ∷ q.after)) q.closing_end (first_before (end_of q.opening) q.inside q.closing q.after (follows_body tokens follow f from suffix ts s q))

        at_exit : (floor last : ℕ) (l : List Tok) → Ends f.closing.start floor last l → Trace floor last (exit_put f.exit f.closing next l) (exit_row f f.exit later) l
        at_exit floor last l h =
            let start : q.closing.start ≡ f.closing.start = q.closing_start in
            let below_closing = h.low in
            trace_exit f f.exit next later floor last l (at_closing l h.left) h.here
            (λ below now le here. k below now (after_exit f.exit f.closing l) (runs.next tokens follow f from suffix ts s q l h.left) here (omega (arith, le, below_closing, start)))

        in_rows : (type : List (List ℕ)) (floor last : ℕ) → floor ≤ from → Position last (after_brace (past_place f.name_span.end ts))
            → Trace floor last (inserted type (body_rows f) (exit_put f.exit f.closing next) (after_brace (past_place f.name_span.end ts))) (body_rows f ++ exit_row f f.exit later)
            (after_brace (past_place f.name_span.end ts))
        in_rows type floor last low here =
            let e = at_body tokens follow f from suffix ts s q in
            let a = name_place tokens follow f from suffix ts s q in
            let b = opening_place tokens follow f from suffix ts s q in
            trace_rows type (exit_put f.exit f.closing next) (exit_row f f.exit later) f.closing.start at_exit (body_rows f)
            (end_of q.opening) floor last (after_brace (past_place f.name_span.end ts)) fit (inner_rows (tied_body f.body)) q.in_order (omega (arith, low, a, b))
            (subst (Left tokens (end_of q.opening)) (sym e) (whole_body tokens follow f from suffix ts s q)) here

        in_body : (type : List (List ℕ)) (floor last : ℕ) → floor ≤ from → Position last (after_brace (past_place f.name_span.end ts))
            → Trace floor last (body type f next (after_brace (past_place f.name_span.end ts))) (rows_in_function f later) (after_brace (past_place f.name_span.end ts))
        in_body type floor last low here =
            let l : List Tok = after_brace (past_place f.name_span.end ts) in
            let e : l ≡ q.inside ++ q.closing ∷ q.after = at_body tokens follow f from suffix ts s q in
            trace_front f (nat_eq f.registers 0) f.entry (inserted type (body_rows f) (exit_put f.exit f.closing next)) (rows_in_statements f.body (exit_row f f.exit later)) floor last l
            (subst (FirstBefore f.closing.end) (sym e) first)
            (subst (λ r. Trace floor last (inserted type (body_rows f) (exit_put f.exit f.closing next) l) r l) (sym (added (tied_body f.body) (exit_row f f.exit later)))
            (in_rows type floor last low here))

  trace_functions : (fs : List p.Function) (from floor last : ℕ) (suffix ts : List Tok) → State tokens follow from suffix ts → Position last ts → floor ≤ from → AreAmong fs suffix
      → Each (Fit tokens) (rows_in_functions fs []) → Trace floor last (parts_in_functions fs ts) (rows_in_functions fs []) ts
  trace_functions [] from floor last suffix ts s here low q fit = trace_rest floor last ts
  trace_functions (f ∷ rest) from floor last suffix ts s here low q fit =
      let two = of_function (Fit tokens) f (rows_in_functions rest []) fit in
      let both = all_fit tokens (tied_body f.body) [] two.0 in
      trace_function f from suffix ts s q.0 (parts_in_functions rest) (rows_in_functions rest []) floor last here low (both.1 tt)
      (λ below now l n here le. trace_functions rest (end_of q.0.closing) below now q.0.after l n here le q.1 two.1)

pub traced : (tokens : List Tok) (tree : p.Tree) → Stands tokens tree → Trace 0 0 (parts_of tokens tree) (rows_of tree) tokens
traced tokens tree h =
    let begin : State tokens h.follow 0 tokens tokens = record { follows = h.follow; whole = λ s le. refl; here = λ s le. refl } in
    let here : Position tokens h.follow 0 tokens = record { passed = []; all = refl; end = refl } in
    trace_functions tokens h.follow tree.program.functions 0 0 0 tokens tokens begin here (omega arith) h.functions (recursion_from_All (Fit tokens) (rows_of tree) h.fit)
