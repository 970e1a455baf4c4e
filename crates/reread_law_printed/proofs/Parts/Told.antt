-- Which parts are rows, and which tokens of the source.
use Rattle.std.proofs.Common.{◌≡◌, ℕ, nat_lt, nat_eq, Bool, true, false, cond, ◌||◌, List, [], ◌∷◌, ◌++◌, map, Option, Some, None, codes, refl, sym, ap, ◌∙◌}
use Rattle.std.proofs.lemmas.List.{map-append}
use Rattle.std.specs.List.{AllByRecursion as Each}
use Rattle.mc_span.specs.declared.span.Span.{Span}
use Rattle.mc_lex.specs.Tokens.{Tok}
use Rattle.mc_lex.proofs.Texts.{same_text}
use Rattle.reread_pieces.specs.declared.bracket.Bracket.{Bracket}
use Rattle.reread_pieces.specs.declared.bracket.Bracket.TheVariants as bracket
use Rattle.reread_pieces.specs.declared.piece.What.{What}
use Rattle.reread_pieces.specs.declared.piece.What.TheVariants as what
use Rattle.reread_pieces.specs.Words.{is}
use Rattle.mc_probe.specs.Tree as p
use Rattle.mc_print.specs.Pens.{texts_of}
use Rattle.reread_law_rows.specs.inserted.Rows.{Row, register_row, entry_row, exit_row, rows_in_statements, rows_in_function, rows_in_functions}
use Rattle.reread_law_printed.specs.parts.Parts.{Part, Parts, what_of, own, copied, upto, into_body, place_of, takes_token, without_first, put, inserted, all_put, body_rows, exit_put, body, type_at, parts_in_function, parts_in_functions, is_row, rows_among, own_texts}
use Rattle.reread_law_printed.specs.parts.Laws.{RowsOfParts, OwnTokensStay}
use Rattle.reread_law_printed.proofs.Parts.Tied.{IsRow, added, rows_are}
use Rattle.reread_law_printed.proofs.Parts.Walked.{tied_body}
use Rattle.reread_law_printed.proofs.Parts.Cut.{past_place}
use Rattle.reread_law_printed.proofs.Parts.Runs.{Meets, MeetsEnd, MeetsWord, after_row, Runs, after_brace, after_exit, RunsAll, all_run}

-- ---- a token of the source

pub copied_is : (P : What → Type 0) → ((b : Bracket) → P (what.Opening b)) → P what.Closing → P what.Source → (t : Tok) → P (what_of t)
copied_is P opens closes other t =
    by_tests (is (codes "(") t) (is (codes "[") t) (is (codes "{") t) (is (codes ")") t || is (codes "]") t || is (codes "}") t)
  where
    by_tests : (a b c d : Bool) → P (cond a (what.Opening bracket.Parenthesis) (cond b (what.Opening bracket.Square) (cond c (what.Opening bracket.Brace) (cond d what.Closing what.Source))))
    by_tests true b c d = opens bracket.Parenthesis
    by_tests false true c d = opens bracket.Square
    by_tests false false true d = opens bracket.Brace
    by_tests false false false true = closes
    by_tests false false false false = other

abbrev whats : List Row → List What
whats rows = map (λ (r : Row). r.what) rows

-- ---- rows

rows_copied : (t : Tok) (qs : List Part) → rows_among (copied t ∷ qs) ≡ rows_among qs
rows_copied t qs = copied_is (λ w. rows_among (own w t ∷ qs) ≡ rows_among qs) (λ b. refl) refl refl t

rows_upto : (at : ℕ) (next : Parts) (whole : List What) → ((ts : List Tok) → rows_among (next ts) ≡ whole) → (ts : List Tok) → rows_among (upto at next ts) ≡ whole
rows_upto at next whole h [] = h []
rows_upto at next whole h (t ∷ ts) = by_test (nat_lt t.start at) (rows_upto at next whole h ts)
  where
    by_test : (b : Bool) → rows_among (upto at next ts) ≡ whole → rows_among (cond b (copied t ∷ upto at next ts) (next (t ∷ ts))) ≡ whole
    by_test true more = rows_copied t (upto at next ts) ∙ more
    by_test false more = h (t ∷ ts)

rows_into : (next : Parts) (whole : List What) → ((ts : List Tok) → rows_among (next ts) ≡ whole) → (ts : List Tok) → rows_among (into_body next ts) ≡ whole
rows_into next whole h [] = h []
rows_into next whole h (t ∷ ts) = by_test (is (codes "{") t) (rows_into next whole h ts)
  where
    by_test : (b : Bool) → rows_among (into_body next ts) ≡ whole → rows_among (cond b (own (what.Opening bracket.Body) t ∷ next ts) (copied t ∷ into_body next ts)) ≡ whole
    by_test true more = h ts
    by_test false more = rows_copied t (into_body next ts) ∙ more

rows_put : (type : List (List ℕ)) (w : What) (next : Parts) (whole : List What) → is_row w ≡ true → ((ts : List Tok) → rows_among (next ts) ≡ whole)
    → (ts : List Tok) → rows_among (put type w next ts) ≡ w ∷ whole
rows_put type w next whole e h ts =
    let later : List Tok = without_first (takes_token w) ts in
    ap (λ b. cond b (w ∷ rows_among (next later)) (rows_among (next later))) e ∙ ap (λ l. w ∷ l) (h later)

rows_inserted : (type : List (List ℕ)) (rows : List Row) (next : Parts) (whole : List What) → Each IsRow rows → ((ts : List Tok) → rows_among (next ts) ≡ whole)
    → (ts : List Tok) → rows_among (inserted type rows next ts) ≡ whats rows ++ whole
rows_inserted type [] next whole e h ts = h ts
rows_inserted type (r ∷ rows) next whole e h ts =
    rows_upto (place_of r) (put type r.what (inserted type rows next)) (r.what ∷ (whats rows ++ whole))
    (rows_put type r.what (inserted type rows next) (whats rows ++ whole) e.0 (rows_inserted type rows next whole e.1 h)) ts

rows_exit : (f : p.Function) (e : Option ℕ) (next : Parts) (later : List Row) → ((ts : List Tok) → rows_among (next ts) ≡ whats later)
    → (ts : List Tok) → rows_among (exit_put e f.closing next ts) ≡ whats (exit_row f e later)
rows_exit f None next later h ts = h ts
rows_exit f (Some b) next later h ts = rows_upto f.closing.start (put [] (what.Exit b) next) (what.Exit b ∷ whats later) (rows_put [] (what.Exit b) next (whats later) refl h) ts

rows_front : (f : p.Function) (b : Bool) (e : Option ℕ) (next : Parts) (later : List Row) (ts : List Tok) → rows_among (next ts) ≡ whats later
    → rows_among (all_put (cond b (entry_row f e []) (record { what = what.Registers f.registers; span = f.name_span; end = f.closing.end } ∷ entry_row f e [])) next ts)
    ≡ whats (cond b (entry_row f e later) (record { what = what.Registers f.registers; span = f.name_span; end = f.closing.end } ∷ entry_row f e later))
rows_front f true None next later ts h = h
rows_front f true (Some b) next later ts h = ap (λ l. what.Entry b ∷ l) h
rows_front f false None next later ts h = ap (λ l. what.Registers f.registers ∷ l) h
rows_front f false (Some b) next later ts h = ap (λ l. what.Registers f.registers ∷ what.Entry b ∷ l) h

rows_function : (f : p.Function) (next : Parts) (later : List Row) → ((ts : List Tok) → rows_among (next ts) ≡ whats later)
    → (ts : List Tok) → rows_among (parts_in_function f next ts) ≡ whats (rows_in_function f later)
rows_function f next later h ts =
    let type : List (List ℕ) = type_at f.name_span.start ts in
    let exit : List Row = exit_row f f.exit later in
    let inner : List Row = rows_in_statements f.body exit in
    let whole : List Row = register_row f (entry_row f f.entry inner) in
    let kept : Parts = exit_put f.exit f.closing next in
    let join : whats (body_rows f) ++ whats exit ≡ whats inner =
    sym (map-append (λ (r : Row). r.what) (body_rows f) exit) ∙ ap whats (sym (added (tied_body f.body) exit)) in
    rows_upto f.name_span.end (into_body (body type f next)) (whats whole)
    (rows_into (body type f next) (whats whole)
    (λ l. rows_front f (nat_eq f.registers 0) f.entry (inserted type (body_rows f) kept) inner l
    (rows_inserted type (body_rows f) kept (whats exit) (rows_are (tied_body f.body)) (rows_exit f f.exit next later h) l ∙ join))) ts

rows_rest : (ts : List Tok) → rows_among (map copied ts) ≡ []
rows_rest [] = refl
rows_rest (t ∷ ts) = rows_copied t (map copied ts) ∙ rows_rest ts

rows_functions : (fs : List p.Function) (ts : List Tok) → rows_among (parts_in_functions fs ts) ≡ whats (rows_in_functions fs [])
rows_functions [] ts = rows_rest ts
rows_functions (f ∷ rest) ts = rows_function f (parts_in_functions rest) (rows_in_functions rest []) (rows_functions rest) ts

pub rows_told : RowsOfParts
rows_told tokens tree = rows_functions tree.program.functions tokens

-- ---- tokens of the source

-- The tokens among these parts are these.
abbrev Stay : List Part → List Tok → Type 0
Stay qs ts = own_texts qs ≡ texts_of ts

own_copied : (t : Tok) (qs : List Part) → own_texts (copied t ∷ qs) ≡ t.text ∷ own_texts qs
own_copied t qs = copied_is (λ w. own_texts (own w t ∷ qs) ≡ t.text ∷ own_texts qs) (λ b. refl) refl refl t

own_upto : (at : ℕ) (next : Parts) (ts : List Tok) → Stay (next (past_place at ts)) (past_place at ts) → Stay (upto at next ts) ts
own_upto at next [] h = h
own_upto at next (t ∷ ts) h = by_test (nat_lt t.start at) h (λ h. own_upto at next ts h)
  where
    by_test : (b : Bool) → Stay (next (cond b (past_place at ts) (t ∷ ts))) (cond b (past_place at ts) (t ∷ ts))
        → (Stay (next (past_place at ts)) (past_place at ts) → Stay (upto at next ts) ts) → Stay (cond b (copied t ∷ upto at next ts) (next (t ∷ ts))) (t ∷ ts)
    by_test true h more = own_copied t (upto at next ts) ∙ ap (λ l. t.text ∷ l) (more h)
    by_test false h more = h

own_into : (next : Parts) (ts : List Tok) → Stay (next (after_brace ts)) (after_brace ts) → Stay (into_body next ts) ts
own_into next [] h = h
own_into next (t ∷ ts) h = by_test (is (codes "{") t) h (λ h. own_into next ts h)
  where
    by_test : (b : Bool) → Stay (next (cond b ts (after_brace ts))) (cond b ts (after_brace ts))
        → (Stay (next (after_brace ts)) (after_brace ts) → Stay (into_body next ts) ts) → Stay (cond b (own (what.Opening bracket.Body) t ∷ next ts) (copied t ∷ into_body next ts)) (t ∷ ts)
    by_test true h more = ap (λ l. t.text ∷ l) h
    by_test false h more = own_copied t (into_body next ts) ∙ ap (λ l. t.text ∷ l) (more h)

own_word : (type : List (List ℕ)) (next : Parts) (l : List Tok) → MeetsWord l → Stay (next (without_first true l)) (without_first true l) → Stay (put type what.Value next l) l
own_word type next [] m h = absurd m
own_word type next (t ∷ ts) m h = ap (λ x. x ∷ own_texts (next ts)) (sym (same_text t.text (codes "return") m)) ∙ ap (λ l. t.text ∷ l) h

own_end : (type : List (List ℕ)) (b end : ℕ) (next : Parts) (l : List Tok) → MeetsEnd end l → Stay (next (without_first true l)) (without_first true l)
    → Stay (put type (what.ValueEnd b) next l) l
own_end type b end next [] m h = absurd m
own_end type b end next (t ∷ ts) m h = ap (λ x. x ∷ own_texts (next ts)) (sym (same_text t.text (codes ";") m.0)) ∙ ap (λ l. t.text ∷ l) h

own_put : (type : List (List ℕ)) (w : What) (span : Span) (next : Parts) (l : List Tok) → Meets w span l
    → Stay (next (without_first (takes_token w) l)) (without_first (takes_token w) l) → Stay (put type w next l) l
own_put type what.Value span next l m h = own_word type next l m h
own_put type (what.ValueEnd b) span next l m h = own_end type b span.end next l m h
own_put type w span next l m h = h

own_inserted : (type : List (List ℕ)) (rows : List Row) (next : Parts) (N : List Tok → Type 0) (ts : List Tok) → Runs rows N ts
    → ((l : List Tok) → N l → Stay (next l) l) → Stay (inserted type rows next ts) ts
own_inserted type [] next N ts m h = h ts m
own_inserted type (r ∷ rows) next N ts m h =
    own_upto (place_of r) (put type r.what (inserted type rows next)) ts
    (own_put type r.what r.span (inserted type rows next) (past_place (place_of r) ts) m.0
    (own_inserted type rows next N (after_row r.what r.span ts) m.1 h))

own_exit : (e : Option ℕ) (closing : Span) (next : Parts) (l : List Tok) → Stay (next (after_exit e closing l)) (after_exit e closing l) → Stay (exit_put e closing next l) l
own_exit None closing next l h = h
own_exit (Some b) closing next l h = own_upto closing.start (put [] (what.Exit b) next) l h

own_front : (f : p.Function) (b : Bool) (e : Option ℕ) (next : Parts) (ts : List Tok) → Stay (next ts) ts
    → Stay (all_put (cond b (entry_row f e []) (record { what = what.Registers f.registers; span = f.name_span; end = f.closing.end } ∷ entry_row f e [])) next ts) ts
own_front f true None next ts h = h
own_front f true (Some b) next ts h = h
own_front f false None next ts h = h
own_front f false (Some b) next ts h = h

own_rest : (ts : List Tok) → Stay (map copied ts) ts
own_rest [] = refl
own_rest (t ∷ ts) = own_copied t (map copied ts) ∙ ap (λ l. t.text ∷ l) (own_rest ts)

own_functions : (fs : List p.Function) (ts : List Tok) → RunsAll fs ts → Stay (parts_in_functions fs ts) ts
own_functions [] ts m = own_rest ts
own_functions (f ∷ rest) ts m =
    let type : List (List ℕ) = type_at f.name_span.start ts in
    let next : Parts = parts_in_functions rest in
    let kept : Parts = exit_put f.exit f.closing next in
    let named : List Tok = past_place f.name_span.end ts in
    own_upto f.name_span.end (into_body (body type f next)) ts
    (own_into (body type f next) named
    (own_front f (nat_eq f.registers 0) f.entry (inserted type (body_rows f) kept) (after_brace named)
    (own_inserted type (body_rows f) kept (λ l. RunsAll rest (after_exit f.exit f.closing l)) (after_brace named) m
    (λ l n. own_exit f.exit f.closing next l (own_functions rest (after_exit f.exit f.closing l) n)))))

pub own_told : OwnTokensStay
own_told tokens tree h = own_functions tree.program.functions tokens (all_run tokens tree h)
