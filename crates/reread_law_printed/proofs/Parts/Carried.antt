-- The parts of a text whose tokens stand at other places.
use Rattle.std.proofs.Common.{◌≡◌, ◌≤◌, ◌<◌, ◌+◌, ◌-◌, ℕ, nat_lt, nat_eq, Bool, true, false, cond, List, [], ◌∷◌, ◌++◌, length, map, Option, Some, None, codes, refl, sym, ap, subst, ◌∙◌, arith, append_assoc}
use Rattle.std.specs.List.{AllByRecursion as Each}
use Rattle.std.proofs.lemmas.List.Elements.{recursion_from_All}
use Rattle.mc_span.specs.declared.span.Span.{Span}
use Rattle.mc_lex.specs.Tokens.{Tok}
use Rattle.mc_lex.specs.Words.{one_of}
use Rattle.reread_pieces.specs.declared.bracket.Bracket.TheVariants as bracket
use Rattle.reread_pieces.specs.declared.piece.What.{What}
use Rattle.reread_pieces.specs.declared.piece.What.TheVariants as what
use Rattle.reread_pieces.specs.Words.{is}
use Rattle.mc_probe.specs.Tree as p
use Rattle.reread_law_texts.specs.alike.Moves.{Move, Fits, AllFit, FollowFrom, end_of, moved_span, moved_token, moved_tokens}
use Rattle.mc_print.specs.Pens.{since, ends_item, last_item, type_words}
use Rattle.reread_law_rows.specs.inserted.Rows.{Row, entry_row, rows_in_functions, rows_of}
use Rattle.reread_law_printed.specs.parts.Parts.{Parts, own, copied, upto, into_body, row_part, place_by, place_of, takes_token, without_first, put, inserted, all_put, body_rows, exit_put, body, type_at, parts_in_function, parts_in_functions}
use Rattle.reread_law_printed.specs.parts.Stands.{IsFunctionAmong, AreAmong}
use Rattle.reread_law_printed.specs.parts.Moved.{moved_row, IsMoved, AreMoved}
use Rattle.reread_law_printed.specs.parts.Laws.{PartsMove}
use Rattle.reread_law_printed.proofs.Parts.Tied.{Inner, inner_rows, Fit, FitsAll, FitAll, all_fit}
use Rattle.reread_law_printed.proofs.Parts.Walked.{tied_body}
use Rattle.reread_law_printed.proofs.Parts.Cut.{past_place, up_to, taken, first_place}
use Rattle.reread_law_printed.proofs.Parts.Runs.{of_semicolon, one_byte, after_brace, after_exit, of_function}
use Rattle.reread_law_printed.proofs.Parts.Trace.{starts_at, ends_at}
use Rattle.reread_law_texts.proofs.Tokens.{is_before, not_before}

-- ---- lists

module _ (P : Tok → Type 0) where
  each_past : (at : ℕ) (ts : List Tok) → Each P ts → Each P (past_place at ts)
  each_past at [] h = h
  each_past at (t ∷ ts) h = by_test (nat_lt t.start at) (each_past at ts h.1)
    where
      by_test : (b : Bool) → Each P (past_place at ts) → Each P (cond b (past_place at ts) (t ∷ ts))
      by_test true more = more
      by_test false more = h

  each_brace : (ts : List Tok) → Each P ts → Each P (after_brace ts)
  each_brace [] h = h
  each_brace (t ∷ ts) h = by_test (is (codes "{") t) (each_brace ts h.1)
    where
      by_test : (b : Bool) → Each P (after_brace ts) → Each P (cond b ts (after_brace ts))
      by_test true more = h.1
      by_test false more = more

  each_without : (b : Bool) (ts : List Tok) → Each P ts → Each P (without_first b ts)
  each_without true [] h = h
  each_without true (t ∷ ts) h = h.1
  each_without false ts h = h

  each_exit : (e : Option ℕ) (closing : Span) (ts : List Tok) → Each P ts → Each P (after_exit e closing ts)
  each_exit None closing ts h = h
  each_exit (Some b) closing ts h = each_past closing.start ts h

module _ (m : Move) where
  abbrev moved : List Tok → List Tok
  moved ts = moved_tokens m ts

  -- ---- texts

  same_since : (found ts : List Tok) → since (moved found) (moved ts) ≡ moved (since found ts)
  same_since found [] = refl
  same_since found (t ∷ ts) = by_test (ends_item t) (λ l. same_since l ts)
    where
      by_test : (b : Bool) → ((l : List Tok) → since (moved l) (moved ts) ≡ moved (since l ts)) → since (cond b (moved ts) (moved found)) (moved ts) ≡ moved (since (cond b ts found) ts)
      by_test true more = more ts
      by_test false more = more found

  same_words : (ts : List Tok) → type_words (moved ts) ≡ type_words ts
  same_words [] = refl
  same_words (t ∷ ts) = ap (λ l. cond (one_of (codes "static" ∷ codes "extern" ∷ codes "const" ∷ []) t.text) l (t.text ∷ l)) (same_words ts)

  same_without : (b : Bool) (ts : List Tok) → without_first b (moved ts) ≡ moved (without_first b ts)
  same_without true [] = refl
  same_without true (t ∷ ts) = refl
  same_without false ts = refl

  -- ---- tokens that are copied

  -- A token starts before a place in the one text as it does in the other.
  abbrev Same : ℕ → ℕ → Tok → Type 0
  Same at place t = nat_lt (m.start t.start) place ≡ nat_lt t.start at

  same_front : (at place : ℕ) (ts : List Tok) → Each (Same at place) ts → up_to place (moved ts) ≡ moved (up_to at ts)
  same_front at place [] h = refl
  same_front at place (t ∷ ts) h =
      ap (λ b. cond b (moved_token m t ∷ up_to place (moved ts)) []) h.0
      ∙ by_test (nat_lt t.start at) (same_front at place ts h.1)
    where
      by_test : (b : Bool) → up_to place (moved ts) ≡ moved (up_to at ts) → cond b (moved_token m t ∷ up_to place (moved ts)) [] ≡ moved (cond b (t ∷ up_to at ts) [])
      by_test true more = ap (λ l. moved_token m t ∷ l) more
      by_test false more = refl

  same_type : (at place : ℕ) (ts : List Tok) → Each (Same at place) ts → type_at place (moved ts) ≡ type_at at ts
  same_type at place ts h =
      ap (λ l. type_words (last_item l)) (sym (taken place (moved ts)) ∙ same_front at place ts h)
      ∙ (ap type_words (same_since (up_to at ts) (up_to at ts))
      ∙ (same_words (last_item (up_to at ts))
      ∙ ap (λ l. type_words (last_item l)) (taken at ts)))

  same_upto : (at place : ℕ) (next other : Parts) (ts : List Tok) → Each (Same at place) ts → other (moved (past_place at ts)) ≡ next (past_place at ts)
      → upto place other (moved ts) ≡ upto at next ts
  same_upto at place next other [] h k = k
  same_upto at place next other (t ∷ ts) h k =
      ap (λ b. cond b (copied t ∷ upto place other (moved ts)) (other (moved (t ∷ ts)))) h.0
      ∙ by_test (nat_lt t.start at) k (λ k. same_upto at place next other ts h.1 k)
    where
      by_test : (b : Bool) → other (moved (cond b (past_place at ts) (t ∷ ts))) ≡ next (cond b (past_place at ts) (t ∷ ts))
          → (other (moved (past_place at ts)) ≡ next (past_place at ts) → upto place other (moved ts) ≡ upto at next ts)
          → cond b (copied t ∷ upto place other (moved ts)) (other (moved (t ∷ ts))) ≡ cond b (copied t ∷ upto at next ts) (next (t ∷ ts))
      by_test true k more = ap (λ l. copied t ∷ l) (more k)
      by_test false k more = k

  same_into : (next other : Parts) (ts : List Tok) → other (moved (after_brace ts)) ≡ next (after_brace ts) → into_body other (moved ts) ≡ into_body next ts
  same_into next other [] k = k
  same_into next other (t ∷ ts) k = by_test (is (codes "{") t) k (λ k. same_into next other ts k)
    where
      by_test : (b : Bool) → other (moved (cond b ts (after_brace ts))) ≡ next (cond b ts (after_brace ts))
          → (other (moved (after_brace ts)) ≡ next (after_brace ts) → into_body other (moved ts) ≡ into_body next ts)
          → cond b (own (what.Opening bracket.Body) t ∷ other (moved ts)) (copied t ∷ into_body other (moved ts))
          ≡ cond b (own (what.Opening bracket.Body) t ∷ next ts) (copied t ∷ into_body next ts)
      by_test true k more = ap (λ l. own (what.Opening bracket.Body) t ∷ l) k
      by_test false k more = ap (λ l. copied t ∷ l) (more k)

  same_rest : (ts : List Tok) → map copied (moved ts) ≡ map copied ts
  same_rest [] = refl
  same_rest (t ∷ ts) = ap (λ l. copied t ∷ l) (same_rest ts)

  -- ---- places of tokens

  moved_place : (place : ℕ) (xs : List Tok) (y : Tok) (ys : List Tok) → FollowFrom place (moved (xs ++ y ∷ ys)) → place ≤ m.start y.start
  moved_place place [] y ys h = h.0
  moved_place place (x ∷ xs) y ys h = let first = h.0 in let later = moved_place (end_of (moved_token m x)) xs y ys h.2 in omega (arith, first, later)

  moved_text : (place : ℕ) (xs : List Tok) (y : Tok) (ys : List Tok) → FollowFrom place (moved (xs ++ y ∷ ys)) → 0 < length y.text
  moved_text place [] y ys h = h.1
  moved_text place (x ∷ xs) y ys h = moved_text (end_of (moved_token m x)) xs y ys h.2

  -- both before, both not
  both_before : (at place : ℕ) (t : Tok) → t.start < at → m.start t.start < place → Same at place t
  both_before at place t h k = is_before (m.start t.start) place k ∙ sym (is_before t.start at h)

  both_after : (at place : ℕ) (t : Tok) → at ≤ t.start → place ≤ m.start t.start → Same at place t
  both_after at place t h k = not_before (m.start t.start) place k ∙ sym (not_before t.start at h)

  all_after : (at place from other : ℕ) (ts : List Tok) → at ≤ from → place ≤ other → FollowFrom from ts → FollowFrom other (moved ts) → Each (Same at place) ts
  all_after at place from other [] h k f g = tt
  all_after at place from other (t ∷ ts) h k f g =
      let a = f.0 in
      let b = g.0 in (
        both_after at place t (omega (arith, h, a)) (omega (arith, k, b)),
        all_after at place (end_of t) (end_of (moved_token m t)) ts (omega (arith, h, a)) (omega (arith, k, b)) f.2 g.2,
      )

  same_start : (from other : ℕ) (xs : List Tok) (y : Tok) (ys : List Tok) → FollowFrom from (xs ++ y ∷ ys) → FollowFrom other (moved (xs ++ y ∷ ys))
      → Each (Same y.start (m.start y.start)) (xs ++ y ∷ ys)
  same_start from other [] y ys f g =
      (both_after y.start (m.start y.start) y (omega arith) (omega arith), all_after y.start (m.start y.start) (end_of y) (end_of (moved_token m y)) ys (omega arith) (omega arith) f.2 g.2)
  same_start from other (x ∷ xs) y ys f g =
      let a = first_place (end_of x) xs y ys f.2 in
      let b = moved_place (end_of (moved_token m x)) xs y ys g.2 in
      let c = f.1 in (
        both_before y.start (m.start y.start) x (omega (arith, a, c)) (omega (arith, b, c)),
        same_start (end_of x) (end_of (moved_token m x)) xs y ys f.2 g.2,
      )

  same_end : (from other : ℕ) (xs : List Tok) (y : Tok) (ys : List Tok) → FollowFrom from (xs ++ y ∷ ys) → FollowFrom other (moved (xs ++ y ∷ ys))
      → Each (Same (end_of y) (end_of (moved_token m y))) (xs ++ y ∷ ys)
  same_end from other [] y ys f g =
      let text = f.1 in
      (both_before (end_of y) (end_of (moved_token m y)) y (omega (arith, text)) (omega (arith, text)), all_after (end_of y) (end_of (moved_token m y)) (end_of y) (end_of (moved_token m y)) ys (omega arith) (omega arith) f.2 g.2)
  same_end from other (x ∷ xs) y ys f g =
      let a = first_place (end_of x) xs y ys f.2 in
      let b = moved_place (end_of (moved_token m x)) xs y ys g.2 in
      let c = f.1 in (
        both_before (end_of y) (end_of (moved_token m y)) x (omega (arith, a, c)) (omega (arith, b, c)),
        same_end (end_of x) (end_of (moved_token m x)) xs y ys f.2 g.2,
      )

  fit_of : (xs : List Tok) (y : Tok) (ys : List Tok) → AllFit m (xs ++ y ∷ ys) → Fits m y
  fit_of [] y ys h = h.0
  fit_of (x ∷ xs) y ys h = fit_of xs y ys h.1

  module _ (tokens : List Tok) (follow : FollowFrom 0 tokens) (fits : AllFit m tokens) (follows : FollowFrom 0 (moved tokens)) where
    record In (ts : List Tok) : Type 0 where
      pub ahead : List Tok
      pub all : tokens ≡ ahead ++ ts

    in_after : (xs ys : List Tok) → In (xs ++ ys) → In ys
    in_after xs ys i = record { ahead = i.ahead ++ xs; all = i.all ∙ sym (append_assoc i.ahead xs ys) }

    start_in : (y : Tok) (ys : List Tok) → In (y ∷ ys) → (at : ℕ) → y.start ≡ at → Each (Same at (m.start at)) tokens
    start_in y ys i at e =
        let all : Each (Same y.start (m.start y.start)) (i.ahead ++ y ∷ ys) = same_start 0 0 i.ahead y ys (subst (FollowFrom 0) i.all follow) (subst (λ l. FollowFrom 0 (moved l)) i.all follows) in
        subst (λ n. Each (Same n (m.start n)) tokens) e (subst (Each (Same y.start (m.start y.start))) (sym i.all) all)

    end_is : (y : Tok) (ys : List Tok) → In (y ∷ ys) → (at : ℕ) → end_of y ≡ at → end_of (moved_token m y) ≡ m.end at
    end_is y ys i at e = sym (fit_of i.ahead y ys (subst (AllFit m) i.all fits)) ∙ ap m.end e

    end_in : (y : Tok) (ys : List Tok) → In (y ∷ ys) → (at : ℕ) → end_of y ≡ at → Each (Same at (m.end at)) tokens
    end_in y ys i at e =
        let all : Each (Same (end_of y) (end_of (moved_token m y))) (i.ahead ++ y ∷ ys) = same_end 0 0 i.ahead y ys (subst (FollowFrom 0) i.all follow) (subst (λ l. FollowFrom 0 (moved l)) i.all follows) in
        let whole : Each (Same (end_of y) (end_of (moved_token m y))) tokens = subst (Each (Same (end_of y) (end_of (moved_token m y)))) (sym i.all) all in
        subst (λ n. Each (Same at n) tokens) (end_is y ys i at e) (subst (λ n. Each (Same n (end_of (moved_token m y))) tokens) e whole)

    -- ---- the places of rows

    less_one : (a n e : ℕ) → a + n ≡ e → n ≡ 1 → a ≡ e - 1
    less_one a n e h one = omega (arith, h, one)

    same_row : (w : What) (span : Span) → Inner w → FitsAll tokens w span → Each (Same (place_by w span) (place_by w (moved_span m span))) tokens
    same_row what.Source span i f = absurd (cc)
    same_row (what.Opening b) span i f = absurd (cc)
    same_row what.Closing span i f = absurd (cc)
    same_row (what.Registers n) span i f = absurd (cc)
    same_row (what.Entry b) span i f = absurd (cc)
    same_row (what.Exit b) span i f = absurd (cc)
    same_row (what.Declaration b) span i f = let q = starts_at tokens follow span f.place in start_in q.token q.rest (record { ahead = q.ahead; all = q.all }) span.start q.start
    same_row (what.Label r b) span i f = let q = ends_at tokens follow span f.place in end_in q.token q.rest (record { ahead = q.ahead; all = q.all }) span.end q.end
    same_row (what.Default r b) span i f = let q = ends_at tokens follow span f.place in end_in q.token q.rest (record { ahead = q.ahead; all = q.all }) span.end q.end
    same_row (what.Statement b) span i f = let q = starts_at tokens follow span f.place in start_in q.token q.rest (record { ahead = q.ahead; all = q.all }) span.start q.start
    same_row what.StatementEnd span i f = let q = ends_at tokens follow span f.place in end_in q.token q.rest (record { ahead = q.ahead; all = q.all }) span.end q.end
    same_row what.Value span i f = let q = starts_at tokens follow span f.stands.place in start_in q.token q.rest (record { ahead = q.ahead; all = q.all }) span.start q.start
    same_row (what.ValueEnd b) span i f =
        let q = of_semicolon tokens follow span f.value f.stands in
        let here : In (q.0.token ∷ q.0.rest) = record { ahead = q.0.ahead; all = q.0.all } in
        let one = one_byte q.0.token q.1 in
        let end : end_of (moved_token m q.0.token) ≡ m.end span.end = end_is q.0.token q.0.rest here span.end q.2 in
        let start : m.start q.0.token.start ≡ m.end span.end - 1 = less_one (m.start q.0.token.start) (length q.0.token.text) (m.end span.end) end one in
        let all = start_in q.0.token q.0.rest here q.0.token.start refl in
        subst (λ n. Each (Same n (m.end span.end - 1)) tokens) q.0.start (subst (λ n. Each (Same q.0.token.start n) tokens) start all)
    same_row (what.Return b) span i f = let q = starts_at tokens follow span f.place in start_in q.token q.rest (record { ahead = q.ahead; all = q.all }) span.start q.start
    same_row what.ReturnEnd span i f = let q = ends_at tokens follow span f.place in end_in q.token q.rest (record { ahead = q.ahead; all = q.all }) span.end q.end
    same_row (what.Decision r base) span i f = let q = starts_at tokens follow span f.place in start_in q.token q.rest (record { ahead = q.ahead; all = q.all }) span.start q.start
    same_row (what.Condition r on_true on_false) span i f = let q = starts_at tokens follow span f.place in start_in q.token q.rest (record { ahead = q.ahead; all = q.all }) span.start q.start
    same_row (what.Switch r) span i f = let q = starts_at tokens follow span f.place in start_in q.token q.rest (record { ahead = q.ahead; all = q.all }) span.start q.start
    same_row what.OperandEnd span i f = let q = ends_at tokens follow span f.place in end_in q.token q.rest (record { ahead = q.ahead; all = q.all }) span.end q.end

    -- ---- rows

    same_put : (type : List (List ℕ)) (w : What) (next other : Parts) (ts : List Tok) → other (moved (without_first (takes_token w) ts)) ≡ next (without_first (takes_token w) ts)
        → put type w other (moved ts) ≡ put type w next ts
    same_put type w next other ts k = ap (λ l. row_part type w ∷ l) (ap other (same_without (takes_token w) ts) ∙ k)

    same_inserted : (type : List (List ℕ)) (rows : List Row) (next other : Parts) (ts : List Tok) → Each (FitAll tokens) rows → Each (λ (r : Row). Inner r.what) rows
        → ((P : Tok → Type 0) → Each P tokens → Each P ts)
        → ((l : List Tok) → ((P : Tok → Type 0) → Each P tokens → Each P l) → other (moved l) ≡ next l)
        → inserted type (map (moved_row m) rows) other (moved ts) ≡ inserted type rows next ts
    same_inserted type [] next other ts fit inner within k = k ts within
    same_inserted type (r ∷ rows) next other ts fit inner within k =
        let place : ℕ = place_of r in
        let there : ℕ = place_by r.what (moved_span m r.span) in
        let front : List Tok = past_place place ts in
        same_upto place there (put type r.what (inserted type rows next)) (put type r.what (inserted type (map (moved_row m) rows) other)) ts
        (within (Same place there) (same_row r.what r.span inner.0 fit.0))
        (same_put type r.what (inserted type rows next) (inserted type (map (moved_row m) rows) other) front
        (same_inserted type rows next other (without_first (takes_token r.what) front) fit.1 inner.1
        (λ P all. each_without P (takes_token r.what) front (each_past P place ts (within P all))) k))

    -- ---- functions

    abbrev front_with : p.Function → ℕ → Option ℕ → Parts → Parts
    front_with f n e next ts = all_put (cond (nat_eq n 0) (entry_row f e []) (record { what = what.Registers n; span = f.name_span; end = f.closing.end } ∷ entry_row f e [])) next ts

    same_front_rows : (f g : p.Function) (n : ℕ) (e : Option ℕ) (next other : Parts) (ts us : List Tok) → other us ≡ next ts → front_with g n e other us ≡ front_with f n e next ts
    same_front_rows f g n e next other ts us k = by_both (nat_eq n 0) e
      where
        by_both : (b : Bool) (e : Option ℕ)
            → all_put (cond b (entry_row g e []) (record { what = what.Registers n; span = g.name_span; end = g.closing.end } ∷ entry_row g e [])) other us
            ≡ all_put (cond b (entry_row f e []) (record { what = what.Registers n; span = f.name_span; end = f.closing.end } ∷ entry_row f e [])) next ts
        by_both true None = k
        by_both true (Some b) = ap (λ l. row_part [] (what.Entry b) ∷ l) k
        by_both false None = ap (λ l. row_part [] (what.Registers n) ∷ l) k
        by_both false (Some b) = ap (λ l. row_part [] (what.Registers n) ∷ row_part [] (what.Entry b) ∷ l) k

    same_exit : (e : Option ℕ) (closing : Span) (next other : Parts) (ts : List Tok) → Each (Same closing.start (m.start closing.start)) ts
        → other (moved (after_exit e closing ts)) ≡ next (after_exit e closing ts)
        → exit_put e (moved_span m closing) other (moved ts) ≡ exit_put e closing next ts
    same_exit None closing next other ts h k = k
    same_exit (Some b) closing next other ts h k =
        same_upto closing.start (m.start closing.start) (put [] (what.Exit b) next) (put [] (what.Exit b) other) ts h (ap (λ l. row_part [] (what.Exit b) ∷ l) k)

    module _ (f g : p.Function) (i : IsMoved m f g) (suffix : List Tok) (here : In suffix) (q : IsFunctionAmong suffix f) where
      abbrev inner : List Tok
      inner = q.inside ++ q.closing ∷ q.after

      abbrev front : List Tok
      front = q.parameters ++ q.opening ∷ inner

      at_name : In (q.name ∷ front)
      at_name = in_after q.before (q.name ∷ front) (subst In q.all here)

      at_closing : In (q.closing ∷ q.after)
      at_closing =
          in_after q.inside (q.closing ∷ q.after)
          (in_after (q.opening ∷ []) inner
          (in_after q.parameters (q.opening ∷ inner)
          (in_after (q.name ∷ []) front at_name)))

      at_after : In q.after
      at_after = in_after (q.closing ∷ []) q.after at_closing

      same_function : (next other : Parts) (ts : List Tok) → Each (FitAll tokens) (body_rows f)
          → ((P : Tok → Type 0) → Each P tokens → Each P ts)
          → ((l : List Tok) → ((P : Tok → Type 0) → Each P tokens → Each P l) → other (moved l) ≡ next l)
          → parts_in_function g other (moved ts) ≡ parts_in_function f next ts
      same_function next other ts fit within k =
          let type : List (List ℕ) = type_at f.name_span.start ts in
          let named : List Tok = past_place f.name_span.end ts in
          let opened : List Tok = after_brace named in
          let start : g.name_span.start ≡ m.start f.name_span.start = ap (λ s. s.start) i.name in
          let end : g.name_span.end ≡ m.end f.name_span.end = ap (λ s. s.end) i.name in
          let types : type_at g.name_span.start (moved ts) ≡ type =
          ap (λ n. type_at n (moved ts)) start
          ∙ same_type f.name_span.start (m.start f.name_span.start) ts (within (Same f.name_span.start (m.start f.name_span.start)) (start_in q.name front at_name f.name_span.start q.name_start)) in
          let exit : (l : List Tok) → ((P : Tok → Type 0) → Each P tokens → Each P l) → exit_put g.exit g.closing other (moved l) ≡ exit_put f.exit f.closing next l = λ l w.
          ap (λ e. exit_put e g.closing other (moved l)) i.exit
          ∙ (ap (λ c. exit_put f.exit c other (moved l)) i.closing
          ∙ same_exit f.exit f.closing next other l (w (Same f.closing.start (m.start f.closing.start)) (start_in q.closing q.after at_closing f.closing.start q.closing_start))
          (k (after_exit f.exit f.closing l) (λ P all. each_exit P f.exit f.closing l (w P all)))) in
          let rows : inserted type (body_rows g) (exit_put g.exit g.closing other) (moved opened) ≡ inserted type (body_rows f) (exit_put f.exit f.closing next) opened =
          ap (λ r. inserted type r (exit_put g.exit g.closing other) (moved opened)) i.rows
          ∙ same_inserted type (body_rows f) (exit_put f.exit f.closing next) (exit_put g.exit g.closing other) opened fit (inner_rows (tied_body f.body))
          (λ P all. each_brace P named (each_past P f.name_span.end ts (within P all))) exit in
          let whole : body type g other (moved opened) ≡ body type f next opened =
          ap (λ n. front_with g n g.entry (inserted type (body_rows g) (exit_put g.exit g.closing other)) (moved opened)) i.registers
          ∙ (ap (λ e. front_with g f.registers e (inserted type (body_rows g) (exit_put g.exit g.closing other)) (moved opened)) i.entry
          ∙ same_front_rows f g f.registers f.entry (inserted type (body_rows f) (exit_put f.exit f.closing next)) (inserted type (body_rows g) (exit_put g.exit g.closing other)) opened (moved opened) rows) in
          ap (λ n. upto n (into_body (body (type_at g.name_span.start (moved ts)) g other)) (moved ts)) end
          ∙ (ap (λ t. upto (m.end f.name_span.end) (into_body (body t g other)) (moved ts)) types
          ∙ same_upto f.name_span.end (m.end f.name_span.end) (into_body (body type f next)) (into_body (body type g other)) ts
          (within (Same f.name_span.end (m.end f.name_span.end)) (end_in q.name front at_name f.name_span.end q.name_end))
          (same_into (body type f next) (body type g other) named whole))

    same_functions : (fs gs : List p.Function) (suffix ts : List Tok) → AreMoved m fs gs → In suffix → AreAmong fs suffix → Each (Fit tokens) (rows_in_functions fs [])
        → ((P : Tok → Type 0) → Each P tokens → Each P ts) → parts_in_functions gs (moved ts) ≡ parts_in_functions fs ts
    same_functions [] [] suffix ts i here q fit within = same_rest ts
    same_functions [] (g ∷ gs) suffix ts i here q fit within = absurd i
    same_functions (f ∷ fs) [] suffix ts i here q fit within = absurd i
    same_functions (f ∷ fs) (g ∷ gs) suffix ts i here q fit within =
        let two = of_function (Fit tokens) f (rows_in_functions fs []) fit in
        let both = all_fit tokens (tied_body f.body) [] two.0 in
        same_function f g i.0 suffix here q.0 (parts_in_functions fs) (parts_in_functions gs) ts (both.1 tt) within
        (λ l w. same_functions fs gs q.0.after l i.1 (at_after f g i.0 suffix here q.0) q.1 two.1 w)

pub parts_move : PartsMove
parts_move m tokens tree other h fits follows moved =
    same_functions m tokens h.follow fits follows tree.program.functions other.program.functions tokens tokens moved (record { ahead = []; all = refl }) h.functions
    (recursion_from_All (Fit tokens) (rows_of tree) h.fit) (λ P all. all)
