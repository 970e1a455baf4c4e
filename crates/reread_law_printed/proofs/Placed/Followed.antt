-- What follows each part of a text: what the table never puts before another row, and where tokens
-- of the source stand.
use Rattle.std.proofs.Common.{◌≡◌, ℕ, nat_eq, Bool, true, false, cond, List, [], ◌∷◌, ◌++◌, Option, Some, None, refl, sym, ap, subst, ◌∙◌, arith}
use Rattle.std.specs.List.{AllByRecursion as Each}
use Rattle.std.proofs.lemmas.List.Elements.{recursion_from_All}
use Rattle.mc_lex.specs.declared.token.Dialect.TheVariants.{Plain}
use Rattle.mc_lex.specs.Tokens.{Tok}
use Rattle.reread_pieces.specs.declared.piece.What.TheVariants as what
use Rattle.reread_law_printed.specs.spelled.Words.{IsToken}
use Rattle.reread_law_printed.proofs.Spelled.Meanings.{tokens_mean}
use Rattle.mc_probe.specs.Tree as p
use Rattle.reread_law_texts.specs.alike.Moves.{FollowFrom, end_of}
use Rattle.reread_law_rows.specs.inserted.Rows.{Row, entry_row, exit_row, rows_in_statements, rows_in_functions, rows_of}
use Rattle.reread_law_printed.specs.parts.Parts.{Parts, into_body, inserted, body_rows, exit_put, body, type_at, parts_in_function, parts_in_functions, parts_of}
use Rattle.reread_law_printed.specs.parts.Stands.{IsFunctionAmong, AreAmong}
use Rattle.reread_law_printed.proofs.Parts.Cut.{past_place, Left, found}
use Rattle.reread_law_printed.proofs.Parts.Runs.{after_brace, after_exit, of_function, State, closing_place, follows_body, whole_body, at_body}
use Rattle.reread_law_printed.proofs.Parts.Runs as runs
use Rattle.reread_law_printed.proofs.Parts.Tied.{added, inner_rows, Fit, FitAll, all_fit}
use Rattle.reread_law_printed.proofs.Parts.Walked.{tied_body}
use Rattle.reread_law_printed.proofs.Parts.Ended.{all_close}
use Rattle.reread_law_printed.specs.placed.Needs.{IsOwnWord}
use Rattle.reread_law_printed.specs.placed.Laws.{begun, KindsStay, PartsAreFollowed}
use Rattle.reread_law_printed.proofs.Placed.FollowedParts.{AllKept, kept_past, kept_brace, kept_exit, all_followed, Good, good_upto, good_rest, IsMore, comes_exit, good_into, ahead_front, good_exit, keeps_exit}
use Rattle.reread_law_printed.proofs.Placed.FollowedRows.{all_go_on, Separate, separate_from, separate_right, Done, good_rows}

module _ (source : List Tok) (means : Each (IsToken Plain) source) (tokens : List Tok) (follow : FollowFrom 0 tokens) where
  -- ---- the rows of a function among those of a program

  separate_front : (f : p.Function) (c : Bool) (o : Option ℕ) (l : List Row)
      → Separate tokens (cond c (entry_row f o l) (record { what = what.Registers f.registers; span = f.name_span; end = f.closing.end } ∷ entry_row f o l)) → Separate tokens l
  separate_front f true None l h = h
  separate_front f true (Some b) l h = separate_from tokens (what.Entry b) f.name_span l h
  separate_front f false None l h = separate_from tokens (what.Registers f.registers) f.name_span l h
  separate_front f false (Some b) l h = separate_from tokens (what.Entry b) f.name_span l h.2

  separate_exit : (f : p.Function) (o : Option ℕ) (l : List Row) → Separate tokens (exit_row f o l) → Separate tokens l
  separate_exit f None l h = h
  separate_exit f (Some b) l h = separate_from tokens (what.Exit b) f.name_span l h

  -- ---- a function

  module _ (f : p.Function) (from : ℕ) (suffix ts : List Tok) (s : State tokens follow from suffix ts) (q : IsFunctionAmong suffix f) where
    at_closing : (l : List Tok) → Left tokens f.closing.start l → past_place f.closing.start l ≡ q.closing ∷ q.after
    at_closing l h =
        let start : q.closing.start ≡ f.closing.start = q.closing_start in
        let place = closing_place tokens follow f from suffix ts s q in
        let follows = follows_body tokens follow f from suffix ts s q in
        sym (h f.closing.start (omega arith))
        ∙ (whole_body tokens follow f from suffix ts s q f.closing.start (omega (arith, place, start))
        ∙ (ap (λ n. past_place n (q.inside ++ q.closing ∷ q.after)) (sym start) ∙ found (end_of q.opening) q.inside q.closing q.after follows))

    more_left : IsMore (after_brace (past_place f.name_span.end ts))
    more_left = subst IsMore (sym (at_body tokens follow f from suffix ts s q)) (more q.inside)
      where
        more : (xs : List Tok) → IsMore (xs ++ q.closing ∷ q.after)
        more [] = tt
        more (x ∷ xs) = tt

    good_function : (fs : List p.Function) (later : List Row) → Each (FitAll tokens) (body_rows f) → Separate tokens (body_rows f ++ exit_row f f.exit later) → AllKept source ts
        → ((l : List Tok) → State tokens follow (end_of q.closing) q.after l → AllKept source l → Good source l (parts_in_functions fs l))
        → Good source ts (parts_in_function f (parts_in_functions fs) ts)
    good_function fs later fit sep kept k =
        let next : Parts = parts_in_functions fs in
        let type : List (List ℕ) = type_at f.name_span.start ts in
        let named : List Tok = past_place f.name_span.end ts in
        let l : List Tok = after_brace named in
        let kept_named : AllKept source named = kept_past source f.name_span.end ts kept in
        let e : l ≡ q.inside ++ q.closing ∷ q.after = at_body tokens follow f from suffix ts s q in
        let left : Left tokens (end_of q.opening) l = subst (Left tokens (end_of q.opening)) (sym e) (whole_body tokens follow f from suffix ts s q) in
        let rows : Good source l (inserted type (body_rows f) (exit_put f.exit f.closing next) l) =
        good_rows source means tokens follow type (exit_put f.exit f.closing next) (exit_row f f.exit later) f.closing.start done (body_rows f) (end_of q.opening) l
        fit (inner_rows (tied_body f.body)) (all_go_on (tied_body f.body) [] tt) q.in_order sep left (kept_brace source named kept_named) in
        good_upto source f.name_span.end (into_body (body type f next)) ts kept
        (good_into source means (body type f next) named kept_named more_left
        (ahead_front source means f (nat_eq f.registers 0) f.entry (inserted type (body_rows f) (exit_put f.exit f.closing next)) l rows.ahead))
      where
        done : (l : List Tok) → Left tokens f.closing.start l → AllKept source l → Done source means tokens follow l (exit_put f.exit f.closing (parts_in_functions fs) l)
        done l left kept =
            let e = at_closing l left in
            record {
              good = good_exit source means f.exit f.closing (parts_in_functions fs) l kept
                  (λ b. comes_exit source b fs q.closing q.after (past_place f.closing.start l) e q.closing_is)
                  (k (after_exit f.exit f.closing l) (runs.next tokens follow f from suffix ts s q l left) (kept_exit source f.exit f.closing l kept));
              keeps = keeps_exit source means f.exit f.closing fs q.closing q.after l kept e q.closing_is;
            }

  good_functions : (fs : List p.Function) (from : ℕ) (suffix ts : List Tok) → State tokens follow from suffix ts → AreAmong fs suffix
      → Each (Fit tokens) (rows_in_functions fs []) → Separate tokens (rows_in_functions fs []) → AllKept source ts → Good source ts (parts_in_functions fs ts)
  good_functions [] from suffix ts s q fit sep kept = good_rest source ts kept
  good_functions (f ∷ rest) from suffix ts s q fit sep kept =
      let later : List Row = rows_in_functions rest [] in
      let exit : List Row = exit_row f f.exit later in
      let inner : List Row = rows_in_statements f.body exit in
      let two = of_function (Fit tokens) f later fit in
      let both = all_fit tokens (tied_body f.body) [] two.0 in
      let own : Separate tokens inner = separate_front f (nat_eq f.registers 0) f.entry inner sep in
      let split : Separate tokens (body_rows f ++ exit) = subst (Separate tokens) (added (tied_body f.body) exit) own in
      let others : Separate tokens later = separate_exit f f.exit later (separate_right tokens (body_rows f) exit split) in
      good_function f from suffix ts s q.0 rest later (both.1 tt) split kept
      (λ l state kept. good_functions rest (end_of q.0.closing) q.0.after l state q.1 two.1 others kept)

-- ---- all parts

all_kept : (source ts : List Tok) → Each IsOwnWord ts → KindsStay source ts → AllKept source ts
all_kept source [] own kinds = tt
all_kept source (t ∷ ts) own kinds = ((own.0, kinds.0), all_kept source ts own.1 kinds.1)

pub followed : PartsAreFollowed
followed text source tokens tree scan own stands balanced kinds separate =
    let means : Each (IsToken Plain) source = recursion_from_All (IsToken Plain) source (tokens_mean scan) in
    let begin : State tokens stands.follow 0 tokens tokens = record { follows = stands.follow; whole = λ s le. refl; here = λ s le. refl } in
    let good = good_functions source means tokens stands.follow tree.program.functions 0 tokens tokens begin stands.functions
    (recursion_from_All (Fit tokens) (rows_of tree) stands.fit)
    (separate_from tokens what.Closing (record { start = 0; end = 0 }) (rows_of tree) separate) (all_kept source tokens own kinds) in
    all_followed source [] (parts_of tokens tree) (all_close tokens tree stands balanced) good.ahead (begun source tokens tree) 0
