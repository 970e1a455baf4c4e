-- The parts, one after the other, are the text.
use Rattle.std.proofs.Common.{◌≡◌, ◌<◌, ◌+◌, ◌-◌, ℕ, suc, nat_lt, nat_eq, Bool, true, false, cond, List, [], ◌∷◌, ◌++◌, map, length, take, drop, Option, Some, None, codes, refl, sym, ap, subst, ◌∙◌, arith, append_assoc}
use Rattle.mc_span.specs.declared.span.Span.{Span}
use Rattle.mc_lex.specs.Tokens.{Tok}
use Rattle.mc_lex.proofs.Texts.{same_text}
use Rattle.reread_pieces.specs.declared.bracket.Bracket.TheVariants as bracket
use Rattle.reread_pieces.specs.declared.piece.What.{What}
use Rattle.reread_pieces.specs.declared.piece.What.TheVariants as what
use Rattle.reread_pieces.specs.Words.{is}
use Rattle.mc_probe.specs.Tree as p
use Rattle.mc_print.specs.Pens.{Pen, nothing, begun, before, through, texts_of, type_words}
use Rattle.mc_print.specs.Pens as nib
use Rattle.mc_print.specs.Insertions.{hit, registers, value_exit, hit_at, put_registers, put_entry}
use Rattle.mc_print.specs.Texts.{write_function, write_functions}
use Rattle.reread_law_rows.specs.inserted.Rows.{Row, entry_row}
use Rattle.reread_law_printed.specs.parts.Parts.{Part, Parts, copied, upto, into_body, row_texts, row_part, place_by, without_first, put, inserted, all_put, body_rows, exit_put, type_at, parts_in_function, parts_in_functions, words_of}
use Rattle.reread_law_printed.specs.parts.Parts as parts
use Rattle.reread_law_printed.specs.parts.Laws.{WordsOfParts}
use Rattle.reread_law_printed.proofs.Parts.Tied.{step, steps, steps_tied}
use Rattle.reread_law_printed.proofs.Parts.Walked.{tied_body}
use Rattle.reread_law_printed.proofs.Parts.Cut.{past_place, dropped, before_is, passes, stops}
use Rattle.reread_law_printed.proofs.Parts.Runs.{Meets, MeetsEnd, StartsFrom, after_row, Runs, after_brace, after_exit, RunsAll, all_run}
use Rattle.reread_law_texts.proofs.Tokens.{is_before, not_before}

-- ---- lists

two_more : {X : Type 0} (a b c d : List X) → a ++ (b ++ (c ++ d)) ≡ ((a ++ b) ++ c) ++ d
two_more a b c d = sym (append_assoc a b (c ++ d)) ∙ sym (append_assoc (a ++ b) c d)

-- ---- tokens that are copied

words_upto : (at : ℕ) (next : Parts) (ts : List Tok) → words_of (upto at next ts) ≡ texts_of (take (before at ts) ts) ++ words_of (next (drop (before at ts) ts))
words_upto at next [] = refl
words_upto at next (t ∷ ts) = by_test (nat_lt t.start at) (words_upto at next ts)
  where
    by_test : (b : Bool) → words_of (upto at next ts) ≡ texts_of (take (before at ts) ts) ++ words_of (next (drop (before at ts) ts))
        → words_of (cond b (copied t ∷ upto at next ts) (next (t ∷ ts)))
        ≡ texts_of (take (cond b (suc (before at ts)) 0) (t ∷ ts)) ++ words_of (next (drop (cond b (suc (before at ts)) 0) (t ∷ ts)))
    by_test true more = ap (λ l. t.text ∷ l) more
    by_test false more = refl

words_into : (next : Parts) (ts : List Tok) → words_of (into_body next ts) ≡ texts_of (take (through ts) ts) ++ words_of (next (drop (through ts) ts))
words_into next [] = refl
words_into next (t ∷ ts) = by_test (is (codes "{") t) (words_into next ts)
  where
    by_test : (b : Bool) → words_of (into_body next ts) ≡ texts_of (take (through ts) ts) ++ words_of (next (drop (through ts) ts))
        → words_of (cond b (parts.own (what.Opening bracket.Body) t ∷ next ts) (copied t ∷ into_body next ts))
        ≡ texts_of (take (cond b 1 (suc (through ts))) (t ∷ ts)) ++ words_of (next (drop (cond b 1 (suc (through ts))) (t ∷ ts)))
    by_test true more = refl
    by_test false more = ap (λ l. t.text ∷ l) more

words_rest : (ts : List Tok) → words_of (map copied ts) ≡ texts_of (take (length ts) ts)
words_rest [] = refl
words_rest (t ∷ ts) = ap (λ l. t.text ∷ l) (words_rest ts)

braced : (ts : List Tok) → after_brace ts ≡ drop (through ts) ts
braced [] = refl
braced (t ∷ ts) = by_test (is (codes "{") t) (braced ts)
  where
    by_test : (b : Bool) → after_brace ts ≡ drop (through ts) ts → cond b ts (after_brace ts) ≡ drop (cond b 1 (suc (through ts))) (t ∷ ts)
    by_test true more = refl
    by_test false more = more

first_dropped : (ts : List Tok) → without_first true ts ≡ drop 1 ts
first_dropped [] = refl
first_dropped (t ∷ ts) = refl

-- ---- the pen and the parts

-- what is written with what these parts say
abbrev Sum : Pen → List Part → List (List ℕ)
Sum pen qs = pen.written ++ words_of qs

sum_upto : (at : ℕ) (next : Parts) (pen : Pen) → Sum pen (upto at next pen.left) ≡ Sum (nib.upto at pen) (next (nib.upto at pen).left)
sum_upto at next pen =
    ap (λ l. pen.written ++ l) (words_upto at next pen.left)
    ∙ sym (append_assoc pen.written (texts_of (take (before at pen.left) pen.left)) (words_of (next (drop (before at pen.left) pen.left))))

sum_into : (next : Parts) (pen : Pen) → Sum pen (into_body next pen.left) ≡ Sum (nib.into_body pen) (next (nib.into_body pen).left)
sum_into next pen =
    ap (λ l. pen.written ++ l) (words_into next pen.left)
    ∙ sym (append_assoc pen.written (texts_of (take (through pen.left) pen.left)) (words_of (next (drop (through pen.left) pen.left))))

sum_rest : (pen : Pen) → Sum pen (map copied pen.left) ≡ (nib.rest pen).written
sum_rest pen = ap (λ l. pen.written ++ l) (words_rest pen.left)

-- a part with these texts
sum_put : (part : Part) (qs : List Part) (pen : Pen) → Sum pen (part ∷ qs) ≡ Sum (nib.put part.texts pen) qs
sum_put part qs pen = sym (append_assoc pen.written part.texts (words_of qs))

-- ---- one row

record RowSum (type : List (List ℕ)) (w : What) (span : Span) (next : Parts) (pen : Pen) : Type 0 where
  pub sum : Sum pen (upto (place_by w span) (put type w next) pen.left) ≡ Sum (step w span pen) (next (step w span pen).left)
  pub left : (step w span pen).left ≡ after_row w span pen.left
  pub specifiers : (step w span pen).specifiers ≡ pen.specifiers

plain_row : (w : What) (texts : List (List ℕ)) (place : ℕ) (next : Parts) (pen : Pen)
    → Sum pen (upto place (λ ts. record { what = w; texts = texts } ∷ next ts) pen.left)
    ≡ Sum (nib.put texts (nib.upto place pen)) (next (drop (before place pen.left) pen.left))
plain_row w texts place next pen =
    sum_upto place (λ ts. record { what = w; texts = texts } ∷ next ts) pen
    ∙ sum_put (record { what = w; texts = texts }) (next (drop (before place pen.left) pen.left)) (nib.upto place pen)

value_row : (type : List (List ℕ)) (span : Span) (next : Parts) (pen : Pen) → type ≡ type_words pen.specifiers → RowSum type what.Value span next pen
value_row type span next pen same =
    let brace : List (List ℕ) = codes "{" ∷ [] in
    let words : List (List ℕ) = codes "mcdc_v" ∷ codes "=" ∷ [] in
    let cut : List Tok = drop (before span.start pen.left) pen.left in
    let front : List (List ℕ) = pen.written ++ texts_of (take (before span.start pen.left) pen.left) in
    let later : List (List ℕ) = words_of (next (drop 1 cut)) in
    let list : front ++ (((codes "{" ∷ type) ++ words) ++ later) ≡ (((front ++ brace) ++ type) ++ words) ++ later =
    sym (append_assoc front ((codes "{" ∷ type) ++ words) later)
    ∙ ap (λ l. l ++ later) (sym (append_assoc front (codes "{" ∷ type) words)
    ∙ ap (λ l. l ++ words) (sym (append_assoc front brace type))) in
    record {
      sum = sum_upto span.start (put type what.Value next) pen
          ∙ (ap (λ ts. front ++ (((codes "{" ∷ type) ++ words) ++ words_of (next ts))) (first_dropped cut)
          ∙ (list ∙ ap (λ t. (((front ++ brace) ++ t) ++ words) ++ later) same));
      left = sym (ap (without_first true) (dropped span.start pen.left) ∙ first_dropped cut);
      specifiers = refl;
    }

-- up to the end of a `;` is up to its start, and the `;`
abbrev with_first : Parts → Parts
with_first next [] = next []
with_first next (t ∷ ts) = copied t ∷ next ts

none_more : (end : ℕ) (next : Parts) (ts : List Tok) → StartsFrom end ts → upto end next ts ≡ next ts
none_more end next [] h = refl
none_more end next (t ∷ ts) h = ap (λ b. cond b (copied t ∷ upto end next ts) (next (t ∷ ts))) (not_before t.start end h)

one_more : (end : ℕ) (next : Parts) (t : Tok) (ts : List Tok) → t.start < end → upto end next (t ∷ ts) ≡ copied t ∷ upto end next ts
one_more end next t ts lt = ap (λ b. cond b (copied t ∷ upto end next ts) (next (t ∷ ts))) (is_before t.start end lt)

less : (n end : ℕ) → n < end - 1 → n < end
less n end lt = omega (arith, lt)

longer : (end : ℕ) (next : Parts) (ts : List Tok) → MeetsEnd end (past_place (end - 1) ts) → upto end next ts ≡ upto (end - 1) (with_first next) ts
longer end next [] m = absurd m
longer end next (t ∷ ts) m = by_test (nat_lt t.start (end - 1)) refl m (λ m. longer end next ts m)
  where
    by_test : (b : Bool) → nat_lt t.start (end - 1) ≡ b → MeetsEnd end (cond b (past_place (end - 1) ts) (t ∷ ts))
        → (MeetsEnd end (past_place (end - 1) ts) → upto end next ts ≡ upto (end - 1) (with_first next) ts)
        → upto end next (t ∷ ts) ≡ cond b (copied t ∷ upto (end - 1) (with_first next) ts) (with_first next (t ∷ ts))
    by_test true e m more = one_more end next t ts (less t.start end (before_is t.start (end - 1) e)) ∙ ap (λ l. copied t ∷ l) (more m)
    by_test false e m more = one_more end next t ts m.1 ∙ ap (λ l. copied t ∷ l) (none_more end next ts m.2)

no_more : (end : ℕ) (ts : List Tok) → StartsFrom end ts → past_place end ts ≡ ts
no_more end [] h = refl
no_more end (t ∷ ts) h = stops t ts end h

longer_left : (end : ℕ) (ts : List Tok) → MeetsEnd end (past_place (end - 1) ts) → past_place end ts ≡ without_first true (past_place (end - 1) ts)
longer_left end [] m = absurd m
longer_left end (t ∷ ts) m = by_test (nat_lt t.start (end - 1)) refl m (λ m. longer_left end ts m)
  where
    by_test : (b : Bool) → nat_lt t.start (end - 1) ≡ b → MeetsEnd end (cond b (past_place (end - 1) ts) (t ∷ ts))
        → (MeetsEnd end (past_place (end - 1) ts) → past_place end ts ≡ without_first true (past_place (end - 1) ts))
        → past_place end (t ∷ ts) ≡ without_first true (cond b (past_place (end - 1) ts) (t ∷ ts))
    by_test true e m more = passes t ts end (less t.start end (before_is t.start (end - 1) e)) ∙ more m
    by_test false e m more = passes t ts end m.1 ∙ no_more end ts m.2

end_row : (type : List (List ℕ)) (b : ℕ) (span : Span) (next : Parts) (pen : Pen) → MeetsEnd span.end (past_place (span.end - 1) pen.left)
    → RowSum type (what.ValueEnd b) span next pen
end_row type b span next pen m =
    let start : ℕ = span.end - 1 in
    let exit : Parts = λ ts. record { what = what.ValueEnd b; texts = value_exit b } ∷ next ts in
    let front : List (List ℕ) = texts_of (take (before start pen.left) pen.left) in
    let cut : List Tok = drop (before start pen.left) pen.left in
    let met : MeetsEnd span.end cut = subst (MeetsEnd span.end) (dropped start pen.left) m in
    let words : words_of (upto start (put type (what.ValueEnd b) next) pen.left) ≡ words_of (upto span.end exit pen.left) =
    words_upto start (put type (what.ValueEnd b) next) pen.left
    ∙ (ap (λ l. front ++ l) (same_words cut met)
    ∙ (sym (words_upto start (with_first exit) pen.left)
    ∙ ap words_of (sym (longer span.end exit pen.left m)))) in
    record {
      sum = ap (λ l. pen.written ++ l) words ∙ plain_row (what.ValueEnd b) (value_exit b) span.end next pen;
      left = sym (dropped span.end pen.left) ∙ longer_left span.end pen.left m;
      specifiers = refl;
    }
  where
    same_words : (l : List Tok) → MeetsEnd span.end l
        → words_of (put type (what.ValueEnd b) next l) ≡ words_of (with_first (λ ts. record { what = what.ValueEnd b; texts = value_exit b } ∷ next ts) l)
    same_words [] m = absurd m
    same_words (t ∷ ts) m = ap (λ x. x ∷ (value_exit b ++ words_of (next ts))) (sym (same_text t.text (codes ";") m.0))

row_sum : (type : List (List ℕ)) (w : What) (span : Span) (next : Parts) (pen : Pen) → type ≡ type_words pen.specifiers
    → Meets w span (past_place (place_by w span) pen.left) → RowSum type w span next pen
row_sum type what.Value span next pen same m = value_row type span next pen same
row_sum type (what.ValueEnd b) span next pen same m = end_row type b span next pen m
row_sum type w span next pen same m = record {
  sum = plain_row w (row_texts [] w) (place_by w span) next pen;
  left = sym (dropped (place_by w span) pen.left);
  specifiers = refl;
}

-- ---- rows

record RowsSum (type : List (List ℕ)) (rows : List Row) (next : Parts) (N : List Tok → Type 0) (pen : Pen) : Type 0 where
  pub sum : Sum pen (inserted type rows next pen.left) ≡ Sum (steps rows pen) (next (steps rows pen).left)
  pub more : N (steps rows pen).left

rows_sum : (type : List (List ℕ)) (rows : List Row) (next : Parts) (N : List Tok → Type 0) (pen : Pen) → type ≡ type_words pen.specifiers
    → Runs rows N pen.left → RowsSum type rows next N pen
rows_sum type [] next N pen same m = record { sum = refl; more = m }
rows_sum type (r ∷ rows) next N pen same m =
    let one = row_sum type r.what r.span (inserted type rows next) pen same m.0 in
    let now : Pen = step r.what r.span pen in
    let more = rows_sum type rows next N now (same ∙ ap type_words (sym one.specifiers)) (subst (Runs rows N) (sym one.left) m.1) in
    record { sum = one.sum ∙ more.sum; more = more.more }

-- ---- functions

record FrontSum (f : p.Function) (b : Bool) (e : Option ℕ) (next : Parts) (pen now : Pen) : Type 0 where
  pub sum : Sum pen (all_put (cond b (entry_row f e []) (record { what = what.Registers f.registers; span = f.name_span; end = f.closing.end } ∷ entry_row f e [])) next pen.left)
      ≡ Sum now (next now.left)
  pub left : now.left ≡ pen.left
  pub specifiers : now.specifiers ≡ pen.specifiers

front_sum : (f : p.Function) (b : Bool) (e : Option ℕ) (next : Parts) (pen : Pen) → FrontSum f b e next pen (put_entry e (cond b nothing (nib.put (registers f.registers)) pen))
front_sum f true None next pen = record { sum = refl; left = refl; specifiers = refl }
front_sum f true (Some b) next pen = record { sum = sum_put (row_part [] (what.Entry b)) (next pen.left) pen; left = refl; specifiers = refl }
front_sum f false None next pen = record { sum = sum_put (row_part [] (what.Registers f.registers)) (next pen.left) pen; left = refl; specifiers = refl }
front_sum f false (Some b) next pen = record {
  sum = sum_put (row_part [] (what.Registers f.registers)) (row_part [] (what.Entry b) ∷ next pen.left) pen
      ∙ sum_put (row_part [] (what.Entry b)) (next pen.left) (nib.put (registers f.registers) pen);
  left = refl;
  specifiers = refl;
}

exit_sum : (e : Option ℕ) (closing : Span) (next : Parts) (pen : Pen) → Sum pen (exit_put e closing next pen.left) ≡ Sum (hit_at e closing.start pen) (next (hit_at e closing.start pen).left)
exit_sum None closing next pen = refl
exit_sum (Some b) closing next pen = plain_row (what.Exit b) (hit b) closing.start next pen

exit_left : (e : Option ℕ) (closing : Span) (pen : Pen) → after_exit e closing pen.left ≡ (hit_at e closing.start pen).left
exit_left None closing pen = refl
exit_left (Some b) closing pen = dropped closing.start pen.left

record FunctionSum (f : p.Function) (next : Parts) (N : List Tok → Type 0) (pen now : Pen) : Type 0 where
  pub sum : Sum pen (parts_in_function f next pen.left) ≡ Sum now (next now.left)
  pub more : N now.left

function_sum : (f : p.Function) (next : Parts) (N : List Tok → Type 0) (pen : Pen)
    → Runs (body_rows f) (λ l. N (after_exit f.exit f.closing l)) (after_brace (past_place f.name_span.end pen.left))
    → FunctionSum f next N pen (write_function f pen)
function_sum f next N pen m =
    let type : List (List ℕ) = type_at f.name_span.start pen.left in
    let noted : Pen = nib.note f.name_span.start pen in
    let named : Pen = nib.upto f.name_span.end noted in
    let opened : Pen = nib.into_body named in
    let exit : Parts = exit_put f.exit f.closing next in
    let rows : Parts = inserted type (body_rows f) exit in
    let front = front_sum f (nat_eq f.registers 0) f.entry rows opened in
    let ready : Pen = put_entry f.entry (put_registers f.registers opened) in
    let left : after_brace (past_place f.name_span.end pen.left) ≡ ready.left =
    ap after_brace (dropped f.name_span.end pen.left) ∙ (braced named.left ∙ sym front.left) in
    let inner = rows_sum type (body_rows f) exit (λ l. N (after_exit f.exit f.closing l)) ready (ap type_words (sym front.specifiers))
    (subst (Runs (body_rows f) (λ l. N (after_exit f.exit f.closing l))) left m) in
    let done : Pen = steps (body_rows f) ready in
    let whole : FunctionSum f next N pen (hit_at f.exit f.closing.start done) = record {
      sum = sum_upto f.name_span.end (into_body (parts.body type f next)) noted
          ∙ (sum_into (parts.body type f next) named
          ∙ (front.sum ∙ (inner.sum ∙ exit_sum f.exit f.closing next done)));
      more = subst N (exit_left f.exit f.closing done) inner.more;
    } in
    subst (λ d. FunctionSum f next N pen (hit_at f.exit f.closing.start d)) (sym (steps_tied (tied_body f.body) [] ready)) whole

functions_sum : (fs : List p.Function) (pen : Pen) → RunsAll fs pen.left → Sum pen (parts_in_functions fs pen.left) ≡ (nib.rest (write_functions fs pen)).written
functions_sum [] pen m = sum_rest pen
functions_sum (f ∷ rest) pen m =
    let one = function_sum f (parts_in_functions rest) (RunsAll rest) pen m in
    one.sum ∙ functions_sum rest (write_function f pen) one.more

pub words_are : WordsOfParts
words_are tokens tree h = functions_sum tree.program.functions (begun tokens) (all_run tokens tree h)
