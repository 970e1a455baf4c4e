-- What stands at the front of the bodies.
use Rattle.std.proofs.Common.{◌≡◌, ℕ, nat_lt, nat_eq, Bool, true, false, cond, ◌||◌, List, [], ◌∷◌, ◌++◌, map, Option, Some, None, codes, refl, sym, ap, subst}
use Rattle.std.specs.List.{AllByRecursion as Each}
use Rattle.std.proofs.lemmas.List.Elements.{recursion_from_All}
use Rattle.mc_span.specs.declared.span.Span.{Span}
use Rattle.mc_lex.specs.Tokens.{Tok}
use Rattle.reread_pieces.specs.declared.bracket.Bracket.TheVariants as bracket
use Rattle.reread_pieces.specs.declared.site.Before.{Before}
use Rattle.reread_pieces.specs.declared.site.Before.TheVariants as before
use Rattle.reread_pieces.specs.declared.piece.What.{What}
use Rattle.reread_pieces.specs.declared.piece.What.TheVariants as what
use Rattle.reread_pieces.specs.Words.{is, is_name}
use Rattle.reread_pieces.specs.Rows.{is_front, is_at_front}
use Rattle.reread_pieces.specs.Pieces.{Here, before_after}
use Rattle.mc_probe.specs.Tree as p
use Rattle.reread_law_texts.specs.alike.Moves.{FollowFrom, end_of}
use Rattle.reread_law_rows.specs.inserted.Rows.{Row, entry_row, rows_in_functions, rows_of}
use Rattle.reread_law_printed.specs.parts.Parts.{Parts, what_of, own, copied, upto, into_body, row_part, row_texts, takes_token, without_first, put, inserted, all_put, body_rows, exit_put, body, type_at, parts_in_function, parts_in_functions, place_of, words_of}
use Rattle.reread_law_printed.specs.parts.Marks as marks
use Rattle.reread_law_printed.specs.parts.Marks.{first_token}
use Rattle.reread_law_printed.specs.parts.Shaped.{after_part}
use Rattle.reread_law_printed.specs.parts.Stands.{IsFunctionAmong, AreAmong}
use Rattle.reread_law_printed.proofs.Parts.Cut.{past_place}
use Rattle.reread_law_printed.proofs.Parts.Runs.{Runs, after_row, after_brace, after_exit, of_function, State, at_body, in_function}
use Rattle.reread_law_printed.proofs.Parts.Tied.{Inner, inner_rows, Fit, FitAll, all_fit}
use Rattle.reread_law_printed.proofs.Parts.Walked.{tied_body}
use Rattle.reread_law_printed.specs.placed.Needs.{FrontBy, Front, Along}
use Rattle.reread_law_printed.specs.placed.Laws.{HaveEntries, FrontsAreKept}

-- ---- what stands before

at_front : (b : Before) → is_front b ≡ false → is_at_front b ≡ false
at_front before.Front e = absurd (cc)
at_front b e = refl

-- what is known after a token that is copied, and where it may stand
record Plain (h : Here) (t : Tok) (w : What) : Type 0 where
  pub after : is_front (before_after w t) ≡ false
  pub may : is_front h.before ≡ false → FrontBy h w

source_after : (t : Tok) → is_front (before_after what.Source t) ≡ false
source_after t = by_tests (is (codes ":") t) (is (codes ")") t) (is_name t)
  where
    by_tests : (a b c : Bool) → is_front (cond a before.Colon (cond b before.Parenthesis (cond c before.Name before.Other))) ≡ false
    by_tests true b c = refl
    by_tests false true c = refl
    by_tests false false true = refl
    by_tests false false false = refl

plain_token : (h : Here) (t u : Tok) → Plain h u (what_of t)
plain_token h t u = by_tests (is (codes "(") t) (is (codes "[") t) (is (codes "{") t) (is (codes ")") t || is (codes "]") t || is (codes "}") t)
  where
    by_tests : (a b c d : Bool) → Plain h u (cond a (what.Opening bracket.Parenthesis) (cond b (what.Opening bracket.Square) (cond c (what.Opening bracket.Brace) (cond d what.Closing what.Source))))
    by_tests true b c d = record { after = refl; may = λ e. tt }
    by_tests false true c d = record { after = refl; may = λ e. tt }
    by_tests false false true d = record { after = refl; may = λ e. tt }
    by_tests false false false true = record { after = source_after u; may = λ e. tt }
    by_tests false false false false = record { after = source_after u; may = λ e. at_front h.before e }

plain_row : (h : Here) (w : What) (u : Tok) → Inner w → Plain h u w
plain_row h what.Source u i = absurd (cc)
plain_row h (what.Opening b) u i = absurd (cc)
plain_row h what.Closing u i = absurd (cc)
plain_row h (what.Registers n) u i = absurd (cc)
plain_row h (what.Entry b) u i = absurd (cc)
plain_row h (what.Exit b) u i = absurd (cc)
plain_row h (what.Declaration b) u i = record { after = refl; may = λ e. e }
plain_row h w u i = record { after = refl; may = λ e. tt }

module _ (source : List Tok) where
  -- what becomes of these tokens, where nothing of the front stands before them
  abbrev Kept : Parts → List Tok → Type 0
  Kept next ts = (h : Here) (at : ℕ) → is_front h.before ≡ false → Along source Front h at (next ts)

  kept_upto : (place : ℕ) (next : Parts) (ts : List Tok) → Kept next (past_place place ts) → Kept (upto place next) ts
  kept_upto place next [] k h at e = k h at e
  kept_upto place next (t ∷ ts) k h at e =
      let one : Plain h (marks.token source at t.text) (what_of t) = plain_token h t (marks.token source at t.text) in
      by_test (nat_lt t.start place) k (one.may e)
      (λ k. kept_upto place next ts k (after_part source h at (copied t) (words_of (upto place next ts))) (marks.after at (t.text ∷ [])) one.after)
    where
      by_test : (b : Bool) → Kept next (cond b (past_place place ts) (t ∷ ts)) → FrontBy h (what_of t)
          → (Kept next (past_place place ts) → Along source Front (after_part source h at (copied t) (words_of (upto place next ts))) (marks.after at (t.text ∷ [])) (upto place next ts))
          → Along source Front h at (cond b (copied t ∷ upto place next ts) (next (t ∷ ts)))
      by_test true k may more = (may, more k)
      by_test false k may more = k h at e

  kept_rest : (ts : List Tok) → Kept (map copied) ts
  kept_rest [] h at e = tt
  kept_rest (t ∷ ts) h at e =
      let one : Plain h (marks.token source at t.text) (what_of t) = plain_token h t (marks.token source at t.text) in
      (one.may e, kept_rest ts (after_part source h at (copied t) (words_of (map copied ts))) (marks.after at (t.text ∷ [])) one.after)

  kept_put : (type : List (List ℕ)) (w : What) (next : Parts) (ts : List Tok) → Inner w → Kept next (without_first (takes_token w) ts) → Kept (put type w next) ts
  kept_put type w next ts i k h at e =
      let one : Plain h (first_token source at (row_texts type w)) w = plain_row h w (first_token source at (row_texts type w)) i in
      (one.may e, k (after_part source h at (row_part type w) (words_of (next (without_first (takes_token w) ts)))) (marks.after at (row_texts type w)) one.after)

  kept_inserted : (type : List (List ℕ)) (rows : List Row) (next : Parts) (N : List Tok → Type 0) → Each (λ (r : Row). Inner r.what) rows
      → ((l : List Tok) → N l → Kept next l) → (ts : List Tok) → Runs rows N ts → Kept (inserted type rows next) ts
  kept_inserted type [] next N i k ts runs = k ts runs
  kept_inserted type (r ∷ rows) next N i k ts runs =
      kept_upto (place_of r) (put type r.what (inserted type rows next)) ts
      (kept_put type r.what (inserted type rows next) (past_place (place_of r) ts) i.0 (kept_inserted type rows next N i.1 k (after_row r.what r.span ts) runs.1))

  kept_exit : (e : Option ℕ) (closing : Span) (next : Parts) (l : List Tok) → Kept next (after_exit e closing l) → Kept (exit_put e closing next) l
  kept_exit None closing next l k = k
  kept_exit (Some b) closing next l k =
      kept_upto closing.start (put [] (what.Exit b) next) l
      (λ h at e. (e, k (after_part source h at (row_part [] (what.Exit b)) (words_of (next (past_place closing.start l)))) (marks.after at (row_texts [] (what.Exit b))) refl))

  -- ---- a body

  -- what follows the `{` of a body
  abbrev Begun : Parts → List Tok → Type 0
  Begun next ts = (h : Here) (at : ℕ) → h.before ≡ before.Front → Along source Front h at (next ts)

  abbrev Some_ : List Tok → Type 0
  Some_ [] = ⊥
  Some_ (t ∷ ts) = Unit {0}

  kept_into : (next : Parts) (ts : List Tok) → Some_ (after_brace ts) → Begun next (after_brace ts) → Kept (into_body next) ts
  kept_into next [] some k h at e = absurd some
  kept_into next (t ∷ ts) some k h at e =
      let one : Plain h (marks.token source at t.text) (what_of t) = plain_token h t (marks.token source at t.text) in
      by_test (is (codes "{") t) some k (one.may e)
      (λ some k. kept_into next ts some k (after_part source h at (copied t) (words_of (into_body next ts))) (marks.after at (t.text ∷ [])) one.after)
    where
      by_test : (b : Bool) → Some_ (cond b ts (after_brace ts)) → Begun next (cond b ts (after_brace ts)) → FrontBy h (what_of t)
          → (Some_ (after_brace ts) → Begun next (after_brace ts)
          → Along source Front (after_part source h at (copied t) (words_of (into_body next ts))) (marks.after at (t.text ∷ [])) (into_body next ts))
          → Along source Front h at (cond b (own (what.Opening bracket.Body) t ∷ next ts) (copied t ∷ into_body next ts))
      by_test true some k may more = (tt, k (after_part source h at (own (what.Opening bracket.Body) t) (words_of (next ts))) (marks.after at (t.text ∷ [])) refl)
      by_test false some k may more = (may, more some k)

  begun_entry : (b : ℕ) (next : Parts) (ts : List Tok) → Kept next ts → (h : Here) (at : ℕ) → is_front h.before ≡ true → Along source Front h at (put [] (what.Entry b) next ts)
  begun_entry b next ts k h at e = (e, k (after_part source h at (row_part [] (what.Entry b)) (words_of (next ts))) (marks.after at (row_texts [] (what.Entry b))) refl)

  begun_front : (f : p.Function) (c : Bool) (o : Option ℕ) (b : ℕ) (next : Parts) (ts : List Tok) → o ≡ Some b → Kept next ts
      → Begun (all_put (cond c (entry_row f o []) (record { what = what.Registers f.registers; span = f.name_span; end = f.closing.end } ∷ entry_row f o [])) next) ts
  begun_front f c None b next ts e k h at front = absurd (cc)
  begun_front f true (Some a) b next ts e k h at front = begun_entry a next ts k h at (ap is_front front)
  begun_front f false (Some a) b next ts e k h at front = (
    ap is_at_front front,
    begun_entry a next ts k (after_part source h at (row_part [] (what.Registers f.registers)) (words_of (put [] (what.Entry a) next ts))) (marks.after at (row_texts [] (what.Registers f.registers))) refl,
  )

  module _ (tokens : List Tok) (follow : FollowFrom 0 tokens) where
    module _ (f : p.Function) (from : ℕ) (suffix ts : List Tok) (s : State tokens follow from suffix ts) (q : IsFunctionAmong suffix f) where
      some_left : Some_ (after_brace (past_place f.name_span.end ts))
      some_left = subst Some_ (sym (at_body tokens follow f from suffix ts s q)) (some_body q.inside)
        where
          some_body : (xs : List Tok) → Some_ (xs ++ q.closing ∷ q.after)
          some_body [] = tt
          some_body (x ∷ xs) = tt

      kept_function : (b : ℕ) (next : Parts) → f.entry ≡ Some b → Each (FitAll tokens) (body_rows f)
          → ((l : List Tok) → State tokens follow (end_of q.closing) q.after l → Kept next l) → Kept (parts_in_function f next) ts
      kept_function b next e fit k =
          let type : List (List ℕ) = type_at f.name_span.start ts in
          let l : List Tok = after_brace (past_place f.name_span.end ts) in
          let rows : Kept (inserted type (body_rows f) (exit_put f.exit f.closing next)) l =
          kept_inserted type (body_rows f) (exit_put f.exit f.closing next) (λ l. Kept next (after_exit f.exit f.closing l)) (inner_rows (tied_body f.body))
          (λ l n. kept_exit f.exit f.closing next l n) l
          (in_function tokens follow f from suffix ts s q (λ l. Kept next (after_exit f.exit f.closing l)) fit (λ l state. k (after_exit f.exit f.closing l) state)) in
          kept_upto f.name_span.end (into_body (body type f next)) ts
          (kept_into (body type f next) (past_place f.name_span.end ts) some_left
          (begun_front f (nat_eq f.registers 0) f.entry b (inserted type (body_rows f) (exit_put f.exit f.closing next)) l e rows))

    kept_functions : (fs : List p.Function) (from : ℕ) (suffix ts : List Tok) → State tokens follow from suffix ts → AreAmong fs suffix → HaveEntries fs
        → Each (Fit tokens) (rows_in_functions fs []) → Kept (parts_in_functions fs) ts
    kept_functions [] from suffix ts s q entries fit = kept_rest ts
    kept_functions (f ∷ rest) from suffix ts s q entries fit =
        let two = of_function (Fit tokens) f (rows_in_functions rest []) fit in
        let both = all_fit tokens (tied_body f.body) [] two.0 in
        let one = entries.0 in
        kept_function f from suffix ts s q.0 one.0 (parts_in_functions rest) one.1 (both.1 tt)
        (λ l state. kept_functions rest (end_of q.0.closing) q.0.after l state q.1 entries.1 two.1)

pub fronts_kept : FrontsAreKept
fronts_kept source tokens tree h at stands entries before =
    let begin : State tokens stands.follow 0 tokens tokens = record { follows = stands.follow; whole = λ s le. refl; here = λ s le. refl } in
    kept_functions source tokens stands.follow tree.program.functions 0 tokens tokens begin stands.functions entries (recursion_from_All (Fit tokens) (rows_of tree) stands.fit) h at before
