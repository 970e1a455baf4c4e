-- What the pen meets at each row.
use Rattle.std.proofs.Common.{◌≡◌, ◌≤◌, ◌<◌, ◌+◌, ◌-◌, ℕ, nat_eq, Bool, true, false, cond, not, List, [], ◌∷◌, ◌++◌, length, Option, Some, None, codes, refl, sym, ap, subst, ◌∙◌, arith, append_assoc}
use Rattle.std.specs.List.{AllByRecursion as Each, list_all}
use Rattle.std.proofs.lemmas.List.Elements.{recursion_from_All}
use Rattle.mc_span.specs.declared.span.Span.{Span}
use Rattle.mc_lex.specs.Tokens.{Tok}
use Rattle.mc_lex.proofs.Texts.{same_text, both, is_false}
use Rattle.reread_pieces.specs.declared.piece.What.{What}
use Rattle.reread_pieces.specs.declared.piece.What.TheVariants as what
use Rattle.reread_pieces.specs.Words.{is}
use Rattle.mc_probe.specs.Tree as p
use Rattle.reread_law_texts.specs.alike.Moves.{FollowFrom, end_of}
use Rattle.reread_law_rows.specs.inserted.Rows.{Row, register_row, entry_row, exit_row, rows_in_statements, rows_in_function, rows_in_functions, rows_of}
use Rattle.reread_law_rows.specs.inserted.Fits.{StartsAt, EndsAt, IsReturnAmong, ReturnsAmong}
use Rattle.reread_law_printed.specs.parts.Parts.{place_by, place_of, takes_token, without_first, body_rows}
use Rattle.reread_law_printed.specs.parts.Stands.{past_by, past, AreInOrder, is_brace, IsFunctionAmong, AreAmong}
use Rattle.reread_law_printed.specs.parts.Laws.{Stands}
use Rattle.reread_law_printed.proofs.Parts.Tied.{added, Fit, FitsAll, FitAll, all_fit}
use Rattle.reread_law_printed.proofs.Parts.Walked.{tied_body}
use Rattle.reread_law_printed.proofs.Parts.Cut.{past_place, Left, left_later, left_upto, left_first, found, beyond, follow_after, first_place, not_past}

-- ---- what is met

abbrev pub StartsFrom : ℕ → List Tok → Type 0
StartsFrom at [] = Unit {0}
StartsFrom at (t ∷ ts) = at ≤ t.start

-- the word `return` where a value begins, and its `;` where it ends
abbrev pub MeetsEnd : ℕ → List Tok → Type 0
MeetsEnd end [] = ⊥
MeetsEnd end (t ∷ ts) = (is (codes ";") t ≡ true) × (t.start < end) × StartsFrom end ts

abbrev pub MeetsWord : List Tok → Type 0
MeetsWord [] = ⊥
MeetsWord (t ∷ ts) = is (codes "return") t ≡ true

abbrev pub Meets : What → Span → List Tok → Type 0
Meets what.Value span ts = MeetsWord ts
Meets (what.ValueEnd b) span ts = MeetsEnd span.end ts
Meets w span ts = Unit {0}

-- the tokens after a row
abbrev pub after_row : What → Span → List Tok → List Tok
after_row w span ts = without_first (takes_token w) (past_place (place_by w span) ts)

-- what is met at these rows, and after them
abbrev pub Runs : List Row → (List Tok → Type 0) → List Tok → Type 0
Runs [] N ts = N ts
Runs (r ∷ rows) N ts =
    Meets r.what r.span (past_place (place_of r) ts) × Runs rows N (after_row r.what r.span ts)

-- the tokens after the first `{`
abbrev pub after_brace : List Tok → List Tok
after_brace [] = []
after_brace (t ∷ ts) = cond (is (codes "{") t) ts (after_brace ts)

abbrev pub after_exit : Option ℕ → Span → List Tok → List Tok
after_exit None closing ts = ts
after_exit (Some b) closing ts = past_place closing.start ts

abbrev pub RunsAll : List p.Function → List Tok → Type 0
RunsAll [] ts = Unit {0}
RunsAll (f ∷ rest) ts =
    Runs (body_rows f) (λ l. RunsAll rest (after_exit f.exit f.closing l)) (after_brace (past_place f.name_span.end ts))

-- ---- a token at a place

pub record TokenAt (tokens : List Tok) (place : ℕ) : Type 0 where
  pub ahead : List Tok
  pub token : Tok
  pub rest : List Tok
  pub all : tokens ≡ ahead ++ token ∷ rest
  pub start : token.start ≡ place

pub last_ends : (at : ℕ) (xs : List Tok) (t : Tok) → EndsAt at (xs ++ t ∷ []) → end_of t ≡ at
last_ends at [] t e = e
last_ends at (x ∷ []) t e = e
last_ends at (x ∷ y ∷ xs) t e = last_ends at (y ∷ xs) t e

pub one_byte : (t : Tok) → is (codes ";") t ≡ true → length t.text ≡ 1
one_byte t e = ap length (same_text t.text (codes ";") e)

module _ (tokens : List Tok) (follow : FollowFrom 0 tokens) where
  pub token_left : (ts : List Tok) (from place : ℕ) → Left tokens from ts → from ≤ place → (q : TokenAt tokens place) → past_place place ts ≡ q.token ∷ q.rest
  token_left ts from place h le q =
      let first : past_place q.token.start (q.ahead ++ q.token ∷ q.rest) ≡ q.token ∷ q.rest = found 0 q.ahead q.token q.rest (subst (FollowFrom 0) q.all follow) in
      sym (h place le) ∙ (ap (past_place place) q.all ∙ (ap (λ n. past_place n (q.ahead ++ q.token ∷ q.rest)) (sym q.start) ∙ first))

  -- ---- a `return`

  pub of_return : (span : Span) (value : List Tok) → IsReturnAmong tokens span value → (q : TokenAt tokens span.start) × (is (codes "return") q.token ≡ true)
  of_return span value r =
      let inside : List Tok = r.word ∷ (value ++ r.semicolon ∷ []) in
      let start : r.word.start ≡ span.start = subst (StartsAt span.start) r.tokens_are r.place.start in (
        record {
          ahead = r.place.before;
          token = r.word;
          rest = (value ++ r.semicolon ∷ []) ++ r.place.after;
          all = r.place.all ∙ (ap (λ l. (r.place.before ++ l) ++ r.place.after) r.tokens_are ∙ append_assoc r.place.before inside r.place.after);
          start = start;
        },
        r.word_is,
      )

  less_one : (a n e : ℕ) → a + n ≡ e → n ≡ 1 → a ≡ e - 1
  less_one a n e h one = omega (arith, h, one)

  pub of_semicolon : (span : Span) (value : List Tok) → IsReturnAmong tokens span value → (q : TokenAt tokens (span.end - 1)) × (is (codes ";") q.token ≡ true) × (end_of q.token ≡ span.end)
  of_semicolon span value r =
      let inside : List Tok = (r.word ∷ value) ++ r.semicolon ∷ [] in
      let end : end_of r.semicolon ≡ span.end = last_ends span.end (r.word ∷ value) r.semicolon (subst (EndsAt span.end) r.tokens_are r.place.end) in (
        record {
          ahead = r.place.before ++ (r.word ∷ value);
          token = r.semicolon;
          rest = r.place.after;
          all = r.place.all
              ∙ (ap (λ l. (r.place.before ++ l) ++ r.place.after) r.tokens_are
              ∙ (append_assoc r.place.before inside r.place.after
              ∙ (ap (λ l. r.place.before ++ l) (append_assoc (r.word ∷ value) (r.semicolon ∷ []) r.place.after)
              ∙ sym (append_assoc r.place.before (r.word ∷ value) (r.semicolon ∷ r.place.after)))));
          start = less_one r.semicolon.start (length r.semicolon.text) span.end end (one_byte r.semicolon r.semicolon_is);
        },
        r.semicolon_is,
        end,
      )

  starts_from : (at : ℕ) (ts : List Tok) → FollowFrom at ts → StartsFrom at ts
  starts_from at [] h = tt
  starts_from at (t ∷ ts) h = h.0

  -- ---- one row

  abbrev pub Met : What → Span → List Tok → Type 0
  Met w span l = Meets w span l × Left tokens (past_by w span) (without_first (takes_token w) l)

  met_word : (span : Span) (ts : List Tok) (from : ℕ) → Left tokens from ts → from ≤ span.start → ReturnsAmong tokens span → Met what.Value span (past_place span.start ts)
  met_word span ts from h le fit =
      let q = of_return span fit.value fit.stands in
      let e = token_left ts from span.start h le q.0 in
      let left : Left tokens span.start (q.0.token ∷ q.0.rest) = subst (Left tokens span.start) e (left_upto tokens ts from span.start h le) in
      let same : q.0.token.start ≡ span.start = q.0.start in
      subst (Met what.Value span) (sym e) (q.1, left_first tokens q.0.token q.0.rest span.start (span.start + 6) left (omega arith) (omega (arith, same)))

  met_end : (b : ℕ) (span : Span) (ts : List Tok) (from : ℕ) → Left tokens from ts → from ≤ span.end - 1 → ReturnsAmong tokens span
      → Met (what.ValueEnd b) span (past_place (span.end - 1) ts)
  met_end b span ts from h le fit =
      let q = of_semicolon span fit.value fit.stands in
      let e = token_left ts from (span.end - 1) h le q.0 in
      let left : Left tokens (span.end - 1) (q.0.token ∷ q.0.rest) = subst (Left tokens (span.end - 1)) e (left_upto tokens ts from (span.end - 1) h le) in
      let text = one_byte q.0.token q.1 in
      let end = q.2 in
      let before : q.0.token.start < span.end = omega (arith, text, end) in
      let follows : FollowFrom (end_of q.0.token) q.0.rest = follow_after 0 q.0.ahead q.0.token q.0.rest (subst (FollowFrom 0) q.0.all follow) in
      let later : StartsFrom span.end q.0.rest = starts_from span.end q.0.rest (subst (λ n. FollowFrom n q.0.rest) end follows) in
      subst (Met (what.ValueEnd b) span) (sym e) ((q.1, before, later), left_first tokens q.0.token q.0.rest (span.end - 1) span.end left (omega arith) before)

  pub met : (w : What) (span : Span) (ts : List Tok) (from : ℕ) → FitsAll tokens w span → Left tokens from ts → from ≤ place_by w span → Met w span (past_place (place_by w span) ts)
  met what.Value span ts from fit h le = met_word span ts from h le fit
  met (what.ValueEnd b) span ts from fit h le = met_end b span ts from h le fit
  met w span ts from fit h le = (tt, left_upto tokens ts from (place_by w span) h le)

  -- ---- all rows of a body

  pub runs : (rows : List Row) (from to : ℕ) (ts : List Tok) (N : List Tok → Type 0) → Each (FitAll tokens) rows → AreInOrder from rows to → Left tokens from ts
      → ((l : List Tok) → Left tokens to l → N l) → Runs rows N ts
  runs [] from to ts N fit order h n = n ts (left_later tokens ts from to h order)
  runs (r ∷ rows) from to ts N fit order h n =
      let now = met r.what r.span ts from fit.0 h order.0 in
      (now.0, runs rows (past r) to (after_row r.what r.span ts) N fit.1 order.1 now.1 n)

-- ---- the front of a function

no_brace_in : (xs : List Tok) (t : Tok) (ts : List Tok) → list_all (λ t. not (is_brace t)) xs ≡ true → is (codes "{") t ≡ true → after_brace (xs ++ t ∷ ts) ≡ ts
no_brace_in [] t ts none e = ap (λ b. cond b ts (after_brace ts)) e
no_brace_in (x ∷ xs) t ts none e =
    let two = both (not (is_brace x)) (list_all (λ t. not (is_brace t)) xs) none in
    ap (λ b. cond b (xs ++ t ∷ ts) (after_brace (xs ++ t ∷ ts))) (is_false (is_brace x) two.0) ∙ no_brace_in xs t ts two.1 e

-- ---- the rows of a function among those of a program

module _ (P : Row → Type 0) where
  each_left : (xs ys : List Row) → Each P (xs ++ ys) → Each P xs
  each_left [] ys h = tt
  each_left (x ∷ xs) ys h = (h.0, each_left xs ys h.1)

  each_right : (xs ys : List Row) → Each P (xs ++ ys) → Each P ys
  each_right [] ys h = h
  each_right (x ∷ xs) ys h = each_right xs ys h.1

  after_registers : (f : p.Function) (l : List Row) → Each P (register_row f l) → Each P l
  after_registers f l = by_test (nat_eq f.registers 0)
    where
      by_test : (b : Bool) → Each P (cond b l (record { what = what.Registers f.registers; span = f.name_span; end = f.closing.end } ∷ l)) → Each P l
      by_test true h = h
      by_test false h = h.1

  after_entry : (f : p.Function) (e : Option ℕ) (l : List Row) → Each P (entry_row f e l) → Each P l
  after_entry f None l h = h
  after_entry f (Some b) l h = h.1

  after_exit_row : (f : p.Function) (e : Option ℕ) (l : List Row) → Each P (exit_row f e l) → Each P l
  after_exit_row f None l h = h
  after_exit_row f (Some b) l h = h.1

  pub of_function : (f : p.Function) (later : List Row) → Each P (rows_in_function f later) → Each P (body_rows f) × Each P later
  of_function f later h =
      let exit : List Row = exit_row f f.exit later in
      let inner : List Row = rows_in_statements f.body exit in
      let own : Each P inner = after_entry f f.entry inner (after_registers f (entry_row f f.entry inner) h) in
      let both : Each P (body_rows f ++ exit) = subst (Each P) (added (tied_body f.body) exit) own in
      (each_left (body_rows f) exit both, after_exit_row f f.exit later (each_right (body_rows f) exit both))

-- ---- functions

module _ (tokens : List Tok) (follow : FollowFrom 0 tokens) where
  pub record State (from : ℕ) (suffix ts : List Tok) : Type 0 where
    pub follows : FollowFrom from suffix
    pub whole : Left tokens from suffix
    pub here : Left tokens from ts

  left_exit : (exit : Option ℕ) (f : p.Function) (l : List Tok) → Left tokens f.closing.start l → Left tokens f.closing.start (after_exit exit f.closing l)
  left_exit None f l h = h
  left_exit (Some b) f l h = left_upto tokens l f.closing.start f.closing.start h (omega arith)

  module _ (f : p.Function) (from : ℕ) (suffix ts : List Tok) (s : State from suffix ts) (q : IsFunctionAmong suffix f) where
    abbrev pub inner : List Tok
    inner = q.inside ++ q.closing ∷ q.after

    abbrev pub front : List Tok
    front = q.parameters ++ q.opening ∷ inner

    follows : FollowFrom from (q.before ++ q.name ∷ front)
    follows = subst (FollowFrom from) q.all s.follows

    pub name_place : from ≤ q.name.start
    name_place = first_place from q.before q.name front follows

    pub follows_front : FollowFrom (end_of q.name) front
    follows_front = follow_after from q.before q.name front follows

    pub opening_place : end_of q.name ≤ q.opening.start
    opening_place = first_place (end_of q.name) q.parameters q.opening inner follows_front

    pub follows_body : FollowFrom (end_of q.opening) inner
    follows_body = follow_after (end_of q.name) q.parameters q.opening inner follows_front

    pub closing_place : end_of q.opening ≤ q.closing.start
    closing_place = first_place (end_of q.opening) q.inside q.closing q.after follows_body

    pub follows_after : FollowFrom (end_of q.closing) q.after
    follows_after = follow_after (end_of q.opening) q.inside q.closing q.after follows_body

    pub whole_front : (n : ℕ) → end_of q.name ≤ n → past_place n tokens ≡ past_place n front
    whole_front n le =
        s.whole n (omega (arith, name_place, le)) ∙ (ap (past_place n) q.all ∙ beyond from n q.before q.name front follows le)

    pub whole_body : Left tokens (end_of q.opening) inner
    whole_body n le = whole_front n (omega (arith, opening_place, le)) ∙ beyond (end_of q.name) n q.parameters q.opening inner follows_front le

    pub whole_after : Left tokens (end_of q.closing) q.after
    whole_after n le = whole_body n (omega (arith, closing_place, le)) ∙ beyond (end_of q.opening) n q.inside q.closing q.after follows_body le

    pub at_body : after_brace (past_place f.name_span.end ts) ≡ inner
    at_body =
        let name : end_of q.name ≡ f.name_span.end = q.name_end in
        let here : past_place f.name_span.end ts ≡ front =
        sym (s.here f.name_span.end (omega (arith, name_place, name)))
        ∙ (whole_front f.name_span.end (omega (arith, name))
        ∙ not_past f.name_span.end front (subst (λ n. FollowFrom n front) name follows_front)) in
        ap after_brace here ∙ no_brace_in q.parameters q.opening inner q.no_brace q.opening_is

    pub next : (l : List Tok) → Left tokens f.closing.start l → State (end_of q.closing) q.after (after_exit f.exit f.closing l)
    next l h =
        let start : q.closing.start ≡ f.closing.start = q.closing_start in
        record {
          follows = follows_after;
          whole = whole_after;
          here = left_later tokens (after_exit f.exit f.closing l) f.closing.start (end_of q.closing) (left_exit f.exit f l h) (omega (arith, start));
        }

    pub in_function : (N : List Tok → Type 0) → Each (FitAll tokens) (body_rows f)
        → ((l : List Tok) → State (end_of q.closing) q.after (after_exit f.exit f.closing l) → N l)
        → Runs (body_rows f) N (after_brace (past_place f.name_span.end ts))
    in_function N fit n =
        subst (Runs (body_rows f) N) (sym at_body)
        (runs tokens follow (body_rows f) (end_of q.opening) f.closing.start inner N fit q.in_order whole_body (λ l h. n l (next l h)))

  runs_all : (fs : List p.Function) (from : ℕ) (suffix ts : List Tok) → State from suffix ts → AreAmong fs suffix
      → Each (Fit tokens) (rows_in_functions fs []) → RunsAll fs ts
  runs_all [] from suffix ts s q fit = tt
  runs_all (f ∷ rest) from suffix ts s q fit =
      let two = of_function (Fit tokens) f (rows_in_functions rest []) fit in
      let both = all_fit tokens (tied_body f.body) [] two.0 in
      in_function f from suffix ts s q.0 (λ l. RunsAll rest (after_exit f.exit f.closing l)) (both.1 tt)
      (λ l n. runs_all rest (end_of q.0.closing) q.0.after (after_exit f.exit f.closing l) n q.1 two.1)

pub all_run : (tokens : List Tok) (tree : p.Tree) → Stands tokens tree → RunsAll tree.program.functions tokens
all_run tokens tree h =
    let begin : State tokens h.follow 0 tokens tokens = record { follows = h.follow; whole = λ s le. refl; here = λ s le. refl } in
    runs_all tokens h.follow tree.program.functions 0 tokens tokens begin h.functions (recursion_from_All (Fit tokens) (rows_of tree) h.fit)
