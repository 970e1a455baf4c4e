-- What is opened in a text of functions is closed.
use Rattle.std.proofs.Common.{◌≡◌, ◌≤◌, ◌<◌, ◌+◌, inl, ℕ, nat_eq, Bool, true, false, cond, not, List, [], ◌∷◌, ◌++◌, length, map, Option, Some, None, codes, refl, sym, ap, subst, ◌∙◌, arith, append-nil}
use Rattle.std.specs.List.{AllByRecursion as Each, list_all}
use Rattle.std.proofs.lemmas.List.Elements.{recursion_from_All}
use Rattle.mc_lex.specs.Tokens.{Tok}
use Rattle.mc_lex.proofs.Texts.{same_text, both, is_false}
use Rattle.reread_pieces.specs.declared.bracket.Bracket.{Bracket}
use Rattle.reread_pieces.specs.declared.bracket.Bracket.TheVariants as bracket
use Rattle.reread_pieces.specs.declared.piece.What.{What}
use Rattle.reread_pieces.specs.declared.piece.What.TheVariants as what
use Rattle.reread_pieces.specs.Words.{is}
use Rattle.mc_probe.specs.Tree as p
use Rattle.reread_law_texts.specs.alike.Moves.{FollowFrom, end_of}
use Rattle.reread_law_rows.specs.inserted.Rows.{entry_row, rows_in_functions, rows_of}
use Rattle.reread_law_printed.specs.parts.Parts.{Part, Parts, what_of, own, copied, into_body, put, inserted, all_put, body_rows, exit_put, body, type_at, parts_in_function, parts_in_functions}
use Rattle.reread_law_printed.specs.parts.Stands.{is_brace, IsFunctionAmong, AreAmong}
use Rattle.reread_law_printed.specs.parts.Closed.{closes_with, AllClose, AreBalanced}
use Rattle.reread_law_printed.specs.parts.Laws.{PartsClose}
use Rattle.reread_law_printed.proofs.Parts.Tied.{Fit, FitAll, all_fit}
use Rattle.reread_law_printed.proofs.Parts.Walked.{tied_body}
use Rattle.reread_law_printed.proofs.Parts.Cut.{past_place, up_to, Left, left_later, left_upto, found, has_text, not_past, joined}
use Rattle.reread_law_printed.proofs.Parts.Runs.{after_exit, of_function, State, name_place, closing_place, follows_front, follows_body, whole_body}
use Rattle.reread_law_printed.proofs.Parts.Runs as runs
use Rattle.reread_law_printed.proofs.Parts.Closing.{own_after, own_run, and_then, Neutral, neutral_token, no_bracket, balanced, what_by, up_further, up_none, up_start, up_end, IsOwnBracket, Frame, token_step, close_upto, begun, finished, some_is, none_not, end_from, order_end, close_rows}
use Rattle.reread_law_texts.proofs.Tokens.{is_before}

-- ---- with more below

after_base : (w : What) (text : List ℕ) (u v base : List Bracket) → own_after w text u ≡ Some v → own_after w text (u ++ base) ≡ Some (v ++ base)
after_base (what.Opening b) text u v base e = ap (λ l. Some (l ++ base)) (some_is (b ∷ u) v e)
after_base what.Closing text [] v base e = absurd (none_not v e)
after_base what.Closing text (b ∷ u) v base e = by_test (closes_with text (Some b)) e
  where
    by_test : (c : Bool) → cond c (Some u) None ≡ Some v → cond c (Some (u ++ base)) None ≡ Some (v ++ base)
    by_test true e = ap (λ l. Some (l ++ base)) (some_is u v e)
    by_test false e = absurd (none_not v e)
after_base w text u v base e = ap (λ l. Some (l ++ base)) (some_is u v e)

own_base : (xs ys : List Tok) (u v base : List Bracket) → own_run xs u ≡ Some v → own_run (xs ++ ys) (u ++ base) ≡ own_run ys (v ++ base)
own_base [] ys u v base e = ap (λ l. own_run ys (l ++ base)) (some_is u v e)
own_base (t ∷ xs) ys u v base e = by_after (own_after (what_of t) t.text u) refl e (λ w e. own_base xs ys w v base e)
  where
    by_after : (o : Option (List Bracket)) → own_after (what_of t) t.text u ≡ o → and_then o (own_run xs) ≡ Some v
        → ((w : List Bracket) → own_run xs w ≡ Some v → own_run (xs ++ ys) (w ++ base) ≡ own_run ys (v ++ base))
        → and_then (own_after (what_of t) t.text (u ++ base)) (own_run (xs ++ ys)) ≡ own_run ys (v ++ base)
    by_after None f e more = absurd (none_not v e)
    by_after (Some w) f e more = ap (λ o. and_then o (own_run (xs ++ ys))) (after_base (what_of t) t.text u w base f) ∙ more w e

-- ---- tokens outside of bodies

abbrev outside : List Bracket
outside = []

-- what is copied at the end
close_rest : (u : List Bracket) (ts : List Tok) → Each IsOwnBracket u → own_run ts u ≡ Some [] → AllClose u (map copied ts)
close_rest u [] own e = some_is u [] e
close_rest u (t ∷ ts) own e = by_after (own_after (what_of t) t.text u) refl e (λ v own e. close_rest v ts own e)
  where
    by_after : (o : Option (List Bracket)) → own_after (what_of t) t.text u ≡ o → and_then o (own_run ts) ≡ Some []
        → ((v : List Bracket) → Each IsOwnBracket v → own_run ts v ≡ Some [] → AllClose v (map copied ts))
        → AllClose u (copied t ∷ map copied ts)
    by_after None f e more = absurd (none_not [] e)
    by_after (Some v) f e more =
        let s = token_step outside u v t own (inl refl) f in
        let whole : AllClose (u ++ []) (copied t ∷ map copied ts) = (s.may, subst (λ bs. AllClose bs (map copied ts)) (sym (s.after ∙ append-nil v)) (more v s.own e)) in
        subst (λ bs. AllClose bs (copied t ∷ map copied ts)) (append-nil u) whole

-- into a body
close_into : (next : Parts) (xs : List Tok) (t : Tok) (ts : List Tok) (u : List Bracket) → list_all (λ t. not (is_brace t)) xs ≡ true → is (codes "{") t ≡ true
    → Each IsOwnBracket u → own_run xs u ≡ Some [] → AllClose (bracket.Body ∷ []) (next ts) → AllClose (u ++ outside) (into_body next (xs ++ t ∷ ts))
close_into next [] t ts u brace e own run k =
    subst (λ v. AllClose (v ++ outside) (into_body next (t ∷ ts))) (sym (some_is u [] run))
    (subst (AllClose outside) (sym (ap (λ b. cond b (own_part ∷ next ts) (copied t ∷ into_body next ts)) e)) (tt, k))
  where
    own_part : Part
    own_part = record { what = what.Opening bracket.Body; texts = t.text ∷ [] }
close_into next (x ∷ xs) t ts u brace e own run k =
    let two = both (not (is_brace x)) (list_all (λ t. not (is_brace t)) xs) brace in
    subst (AllClose (u ++ outside)) (sym (ap (λ b. cond b (record { what = what.Opening bracket.Body; texts = x.text ∷ [] } ∷ next (xs ++ t ∷ ts)) (copied x ∷ into_body next (xs ++ t ∷ ts))) (is_false (is_brace x) two.0)))
    (by_after (own_after (what_of x) x.text u) refl run (λ v own run. close_into next xs t ts v two.1 e own run k))
  where
    by_after : (o : Option (List Bracket)) → own_after (what_of x) x.text u ≡ o → and_then o (own_run xs) ≡ Some []
        → ((v : List Bracket) → Each IsOwnBracket v → own_run xs v ≡ Some [] → AllClose (v ++ outside) (into_body next (xs ++ t ∷ ts)))
        → AllClose (u ++ outside) (copied x ∷ into_body next (xs ++ t ∷ ts))
    by_after None f run more = absurd (none_not [] run)
    by_after (Some v) f run more =
        let s = token_step outside u v x own (inl refl) f in
        (s.may, subst (λ bs. AllClose bs (into_body next (xs ++ t ∷ ts))) (sym s.after) (more v s.own run))

close_front : (f : p.Function) (b : Bool) (e : Option ℕ) (next : Parts) (bs : List Bracket) (ts : List Tok) → AllClose bs (next ts)
    → AllClose bs (all_put (cond b (entry_row f e []) (record { what = what.Registers f.registers; span = f.name_span; end = f.closing.end } ∷ entry_row f e [])) next ts)
close_front f true None next bs ts k = k
close_front f true (Some b) next bs ts k = (tt, k)
close_front f false None next bs ts k = (tt, k)
close_front f false (Some b) next bs ts k = (tt, (tt, k))

-- ---- functions

module _ (tokens : List Tok) (follow : FollowFrom 0 tokens) where
  -- What is open here is closed before the tokens that are left of the source.
  record Ready (from : ℕ) (u : List Bracket) (suffix ts : List Tok) : Type 0 where
    pub upto : (n : ℕ) → from ≤ n → own_run (up_to n ts) u ≡ own_run (up_to n suffix) []
    pub whole : own_run ts u ≡ own_run suffix []
    pub own : Each IsOwnBracket u

  own_all : (v : List Bracket) → Each IsOwnBracket v → Each IsOwnBracket (v ++ bracket.Body ∷ [])
  own_all [] h = (refl, tt)
  own_all (b ∷ v) h = (h.0, own_all v h.1)

  module _ (f : p.Function) (from : ℕ) (suffix ts : List Tok) (s : State tokens follow from suffix ts) (q : IsFunctionAmong suffix f)
      (before : Neutral q.before) (name : what_of q.name ≡ what.Source) (parameters : Neutral q.parameters) (inside : Neutral q.inside) where
    abbrev rest : List Tok
    rest = q.inside ++ q.closing ∷ q.after

    closing_is : what_of q.closing ≡ what.Closing
    closing_is = what_by q.closing (codes "}") (same_text q.closing.text (codes "}") q.closing_is)

    closing_run : (l : List Tok) → own_run (q.closing ∷ l) (bracket.Body ∷ []) ≡ own_run l []
    closing_run l =
        ap (λ w. and_then (own_after w q.closing.text (bracket.Body ∷ [])) (own_run l)) closing_is
        ∙ ap (λ x. and_then (own_after what.Closing x (bracket.Body ∷ [])) (own_run l)) (same_text q.closing.text (codes "}") q.closing_is)

    -- the frame of a body, after it
    at_end : (v : List Bracket) (l : List Tok) → Left tokens f.closing.start l → Frame f.closing.start (bracket.Body ∷ []) v l → Ready (end_of q.closing) (v ++ bracket.Body ∷ []) q.after l
    at_end v l left fr =
        let n : ℕ = f.closing.start in
        let start : q.closing.start ≡ n = q.closing_start in
        let place = closing_place tokens follow f from suffix ts s q in
        let follows = follows_body tokens follow f from suffix ts s q in
        let text : 0 < length q.closing.text = has_text (end_of q.opening) q.inside q.closing q.after follows in
        let here : past_place n l ≡ q.closing ∷ q.after =
        sym (left n (omega arith))
        ∙ (whole_body tokens follow f from suffix ts s q n (omega (arith, place, start))
        ∙ (ap (λ k. past_place k rest) (sym start) ∙ found (end_of q.opening) q.inside q.closing q.after follows)) in
        record {
          upto = λ k le.
              ap (λ x. own_run x (v ++ bracket.Body ∷ [])) (up_further n k l (omega (arith, start, le)))
              ∙ (own_base (up_to n l) (up_to k (past_place n l)) v [] (bracket.Body ∷ []) fr.run
              ∙ (ap (λ x. own_run (up_to k x) (bracket.Body ∷ [])) here
              ∙ (ap (λ b. own_run (cond b (q.closing ∷ up_to k q.after) []) (bracket.Body ∷ [])) (is_before q.closing.start k (omega (arith, text, le)))
              ∙ closing_run (up_to k q.after))));
          whole =
              ap (λ x. own_run x (v ++ bracket.Body ∷ [])) (sym (joined n l))
              ∙ (own_base (up_to n l) (past_place n l) v [] (bracket.Body ∷ []) fr.run
              ∙ (ap (λ x. own_run x (bracket.Body ∷ [])) here ∙ closing_run q.after));
          own = own_all v fr.own;
        }

    close_exit : (e : Option ℕ) (next : Parts) (v : List Bracket) (l : List Tok) → Left tokens f.closing.start l → Frame f.closing.start (bracket.Body ∷ []) v l
        → ((w : List Bracket) → Left tokens f.closing.start (after_exit e f.closing l) → Frame f.closing.start (bracket.Body ∷ []) w (after_exit e f.closing l) → AllClose (w ++ bracket.Body ∷ []) (next (after_exit e f.closing l)))
        → AllClose (v ++ bracket.Body ∷ []) (exit_put e f.closing next l)
    close_exit None next v l left fr k = k v left fr
    close_exit (Some b) next v l left fr k =
        let n : ℕ = f.closing.start in
        close_upto n n (bracket.Body ∷ []) v (put [] (what.Exit b) next) l (omega arith) fr
        (λ w fr2.
        let none : w ≡ [] = finished tokens follow n (bracket.Body ∷ []) w (past_place n l) (up_none n l) fr2 in
        subst (λ x. AllClose (x ++ bracket.Body ∷ []) (put [] (what.Exit b) next (past_place n l))) (sym none)
        (refl, k [] (left_upto tokens l n n left (omega arith)) (subst (λ x. Frame n (bracket.Body ∷ []) x (past_place n l)) none fr2)))

    close_function : (u : List Bracket) (next : Parts) → Ready from u suffix ts → Each (FitAll tokens) (body_rows f)
        → ((v : List Bracket) (l : List Tok) → State tokens follow (end_of q.closing) q.after l → Ready (end_of q.closing) v q.after l → AllClose v (next l))
        → AllClose u (parts_in_function f next ts)
    close_function u next ready fit k =
        let n : ℕ = f.name_span.end in
        let end : end_of q.name ≡ n = q.name_end in
        let first = name_place tokens follow f from suffix ts s q in
        let front : List Tok = q.parameters ++ q.opening ∷ rest in
        let fronts : FollowFrom from (q.before ++ q.name ∷ front) = subst (FollowFrom from) q.all s.follows in
        let until : up_to n suffix ≡ q.before ++ q.name ∷ [] =
        ap (up_to n) q.all ∙ (ap (λ k. up_to k (q.before ++ q.name ∷ front)) (sym end) ∙ up_end from q.before q.name front fronts) in
        let run : own_run (up_to n ts) u ≡ Some [] =
        ready.upto n (omega (arith, first, end))
        ∙ (ap (λ x. own_run x []) until
        ∙ (before (q.name ∷ []) [] ∙ neutral_token q.name name [] [])) in
        let frame : Frame n outside u ts = record { run = run; free = inl refl; own = ready.own } in
        let type : List (List ℕ) = type_at f.name_span.start ts in
        let named : List Tok = past_place n ts in
        let here : named ≡ front = sym (s.here n (omega (arith, first, end))) ∙ at_front in
        subst (λ bs. AllClose bs (parts_in_function f next ts)) (append-nil u)
        (close_upto n n outside u (into_body (body type f next)) ts (omega arith) frame
        (λ v fr.
        subst (λ x. AllClose (x ++ outside) (into_body (body type f next) named)) (sym (finished tokens follow n outside v named (up_none n ts) fr))
        (subst (λ l. AllClose outside (into_body (body type f next) l)) (sym here)
        (close_into (body type f next) q.parameters q.opening rest [] q.no_brace q.opening_is tt (ap (λ l. own_run l []) (sym (append-nil q.parameters)) ∙ parameters [] []) (in_body type)))))
      where
        at_front : past_place f.name_span.end tokens ≡ q.parameters ++ q.opening ∷ rest
        at_front =
            let end : end_of q.name ≡ f.name_span.end = q.name_end in
            runs.whole_front tokens follow f from suffix ts s q f.name_span.end (omega (arith, end))
            ∙ not_past f.name_span.end (q.parameters ++ q.opening ∷ rest) (subst (λ n. FollowFrom n (q.parameters ++ q.opening ∷ rest)) end (follows_front tokens follow f from suffix ts s q))

        after_rows : (v : List Bracket) (l : List Tok) → Left tokens (end_from (end_of q.opening) (body_rows f)) l → Frame f.closing.start (bracket.Body ∷ []) v l
            → AllClose (v ++ bracket.Body ∷ []) (exit_put f.exit f.closing next l)
        after_rows v l left fr =
            let here : Left tokens f.closing.start l = left_later tokens l (end_from (end_of q.opening) (body_rows f)) f.closing.start left (order_end (end_of q.opening) f.closing.start (body_rows f) q.in_order) in
            close_exit f.exit next v l here fr
            (λ w h fr2. k (w ++ bracket.Body ∷ []) (after_exit f.exit f.closing l) (runs.next tokens follow f from suffix ts s q l here) (at_end w (after_exit f.exit f.closing l) h fr2))

        in_body : (type : List (List ℕ)) → AllClose (bracket.Body ∷ []) (body type f next rest)
        in_body type =
            let n : ℕ = f.closing.start in
            let follows = follows_body tokens follow f from suffix ts s q in
            let until : up_to n rest ≡ q.inside = ap (λ k. up_to k rest) (sym q.closing_start) ∙ up_start (end_of q.opening) q.inside q.closing q.after follows in
            close_front f (nat_eq f.registers 0) f.entry (inserted type (body_rows f) (exit_put f.exit f.closing next)) (bracket.Body ∷ []) rest
            (close_rows tokens follow (tied_body f.body) type (exit_put f.exit f.closing next) [] n (bracket.Body ∷ []) [] (end_of q.opening) rest fit q.in_order
            (whole_body tokens follow f from suffix ts s q) (begun tokens follow n (bracket.Body ∷ []) rest (subst Neutral (sym until) inside) (inl refl)) after_rows)

  close_functions : (fs : List p.Function) (from : ℕ) (u : List Bracket) (suffix ts : List Tok) → State tokens follow from suffix ts → Ready from u suffix ts
      → (q : AreAmong fs suffix) → AreBalanced fs suffix q → Each (Fit tokens) (rows_in_functions fs []) → AllClose u (parts_in_functions fs ts)
  close_functions [] from u suffix ts s ready q b fit =
      close_rest u ts ready.own (ready.whole ∙ (ap (λ l. own_run l []) (sym (append-nil suffix)) ∙ balanced b [] []))
  close_functions (f ∷ rest) from u suffix ts s ready q b fit =
      let two = of_function (Fit tokens) f (rows_in_functions rest []) fit in
      let fits = all_fit tokens (tied_body f.body) [] two.0 in
      close_function f from suffix ts s q.0 (balanced b.0) (no_bracket q.0.name b.1) (balanced b.2) (balanced b.3) u (parts_in_functions rest) ready (fits.1 tt)
      (λ v l s2 r. close_functions rest (end_of q.0.closing) v q.0.after l s2 r q.1 b.4 two.1)

pub all_close : PartsClose
all_close tokens tree h b =
    let begin : State tokens h.follow 0 tokens tokens = record { follows = h.follow; whole = λ s le. refl; here = λ s le. refl } in
    let ready : Ready tokens h.follow 0 [] tokens tokens = record { upto = λ n le. refl; whole = refl; own = tt } in
    close_functions tokens h.follow tree.program.functions 0 [] tokens tokens begin ready h.functions b (recursion_from_All (Fit tokens) (rows_of tree) h.fit)
