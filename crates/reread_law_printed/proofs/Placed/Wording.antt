-- The words of the parts: tokens of the source that are no names of probes, and rows.
use Rattle.std.proofs.Common.{◌≡◌, ℕ, zero, suc, nat_lt, nat_eq, Bool, true, false, cond, ◌||◌, List, [], ◌∷◌, ◌++◌, map, take, Option, Some, None, codes, refl, ap, subst, ◌∙◌}
use Rattle.std.specs.List.{AllByRecursion as Each, list_any}
use Rattle.std.specs.Str.{bytes_eq}
use Rattle.mc_lex.specs.Tokens.{Tok}
use Rattle.mc_lex.specs.Words.{one_of}
use Rattle.reread_pieces.specs.declared.bracket.Bracket.TheVariants as bracket
use Rattle.reread_pieces.specs.declared.word.Word.{Word}
use Rattle.reread_pieces.specs.declared.word.Word.TheVariants as word
use Rattle.reread_pieces.specs.declared.piece.What.{What}
use Rattle.reread_pieces.specs.declared.piece.What.TheVariants as what
use Rattle.reread_pieces.specs.Words.{is, probe_word}
use Rattle.mc_probe.specs.Tree as p
use Rattle.mc_print.specs.Pens.{before, since, ends_item, last_item, type_words}
use Rattle.reread_law_rows.specs.inserted.Rows.{Row, register_row, entry_row, exit_row, rows_in_statements, rows_in_functions}
use Rattle.reread_law_printed.specs.parts.Parts.{Parts, own, copied, upto, into_body, takes_token, without_first, put, inserted, all_put, front_rows, body_rows, exit_put, body, type_at, parts_in_function, parts_in_functions, place_of}
use Rattle.reread_law_printed.specs.parts.Shaped.{AreWords}
use Rattle.reread_law_printed.proofs.Parts.Tied.{added}
use Rattle.reread_law_printed.proofs.Parts.Walked.{tied_body}
use Rattle.reread_law_printed.specs.placed.Needs.{IsSaid, IsOwnWord, IsSpelled, AreSaid}
use Rattle.reread_law_printed.specs.placed.Needs as needs
use Rattle.reread_law_printed.specs.placed.Laws.{PartsAreSpelled}

abbrev Own : List Tok → Type 0
Own ts = Each IsOwnWord ts

abbrev Spelled : Parts → Type 0
Spelled next = (ts : List Tok) → Own ts → Each IsSpelled (next ts)

-- ---- tokens that are copied

spelled_upto : (at : ℕ) (next : Parts) → Spelled next → Spelled (upto at next)
spelled_upto at next k [] h = k [] h
spelled_upto at next k (t ∷ ts) h = by_test (nat_lt t.start at) (spelled_upto at next k ts h.1)
  where
    by_test : (b : Bool) → Each IsSpelled (upto at next ts) → Each IsSpelled (cond b (copied t ∷ upto at next ts) (next (t ∷ ts)))
    by_test true more = let o = h.0 in (needs.token t o.0, more)
    by_test false more = k (t ∷ ts) h

spelled_into : (next : Parts) → Spelled next → Spelled (into_body next)
spelled_into next k [] h = k [] h
spelled_into next k (t ∷ ts) h = by_test (is (codes "{") t) refl (spelled_into next k ts h.1)
  where
    by_test : (b : Bool) → is (codes "{") t ≡ b → Each IsSpelled (into_body next ts)
        → Each IsSpelled (cond b (own (what.Opening bracket.Body) t ∷ next ts) (copied t ∷ into_body next ts))
    by_test true e more = (needs.body t e, k ts h.1)
    by_test false e more = let o = h.0 in (needs.token t o.0, more)

spelled_rest : Spelled (map copied)
spelled_rest [] h = tt
spelled_rest (t ∷ ts) h = let o = h.0 in (needs.token t o.0, spelled_rest ts h.1)

-- ---- rows

own_without : (b : Bool) (ts : List Tok) → Own ts → Own (without_first b ts)
own_without true [] h = h
own_without true (t ∷ ts) h = h.1
own_without false ts h = h

spelled_put : (type : List (List ℕ)) (w : What) (next : Parts) → IsSaid type w → Spelled next → Spelled (put type w next)
spelled_put type w next s k ts h = (needs.row type w s, k (without_first (takes_token w) ts) (own_without (takes_token w) ts h))

of_type : (type : List (List ℕ)) (w : What) → AreWords type → IsSaid [] w → IsSaid type w
of_type type what.Value a s = a
of_type type w a s = s

spelled_inserted : (type : List (List ℕ)) (rows : List Row) (next : Parts) → AreWords type → AreSaid rows → Spelled next → Spelled (inserted type rows next)
spelled_inserted type [] next a s k = k
spelled_inserted type (r ∷ rows) next a s k =
    spelled_upto (place_of r) (put type r.what (inserted type rows next))
    (spelled_put type r.what (inserted type rows next) (of_type type r.what a s.0) (spelled_inserted type rows next a s.1 k))

spelled_front : (rows : List Row) (next : Parts) → AreSaid rows → Spelled next → Spelled (all_put rows next)
spelled_front [] next s k = k
spelled_front (r ∷ rows) next s k = spelled_put [] r.what (all_put rows next) s.0 (spelled_front rows next s.1 k)

spelled_exit : (f : p.Function) (e : Option ℕ) (next : Parts) → AreSaid (exit_row f e []) → Spelled next → Spelled (exit_put e f.closing next)
spelled_exit f None next s k = k
spelled_exit f (Some b) next s k = spelled_upto f.closing.start (put [] (what.Exit b) next) (spelled_put [] (what.Exit b) next s.0 k)

-- ---- the words of a type

own_take : (n : ℕ) (ts : List Tok) → Own ts → Own (take n ts)
own_take zero ts h = tt
own_take (suc n) [] h = tt
own_take (suc n) (t ∷ ts) h = (h.0, own_take n ts h.1)

own_since : (found ts : List Tok) → Own found → Own ts → Own (since found ts)
own_since found [] h k = h
own_since found (t ∷ ts) h k = own_since (cond (ends_item t) ts found) ts (by_test (ends_item t)) k.1
  where
    by_test : (b : Bool) → Own (cond b ts found)
    by_test true = k.1
    by_test false = h

no_word : (test : List ℕ → Bool) (ts : List Tok) → Each (λ (t : Tok). test t.text ≡ false) ts → list_any test (type_words ts) ≡ false
no_word test [] h = refl
no_word test (t ∷ ts) h = by_test (one_of (codes "static" ∷ codes "extern" ∷ codes "const" ∷ []) t.text) (no_word test ts h.1)
  where
    by_test : (b : Bool) → list_any test (type_words ts) ≡ false → list_any test (cond b (type_words ts) (t.text ∷ type_words ts)) ≡ false
    by_test true e = e
    by_test false e = ap (λ b. b || list_any test (type_words ts)) h.0 ∙ e

no_hit : (t : Tok) → probe_word t ≡ word.Other → is (codes "MCDC_H") t ≡ false
no_hit t e = by_test _ (is (codes "MCDC_H") t) e
  where
    by_test : (x : Word) (b : Bool) → cond b word.Hit x ≡ word.Other → b ≡ false
    by_test x true e = absurd (cc)
    by_test x false e = refl

no_hits : (ts : List Tok) → Own ts → Each (λ (t : Tok). bytes_eq t.text (codes "MCDC_H") ≡ false) ts
no_hits [] h = tt
no_hits (t ∷ ts) h = let o = h.0 in (no_hit t o.0, no_hits ts h.1)

no_numbers : (ts : List Tok) → Own ts → Each (λ (t : Tok). bytes_eq t.text (codes "#") ≡ false) ts
no_numbers [] h = tt
no_numbers (t ∷ ts) h = let o = h.0 in (o.1, no_numbers ts h.1)

type_words_are : (at : ℕ) (ts : List Tok) → Own ts → AreWords (type_at at ts)
type_words_are at ts h =
    let front : List Tok = take (before at ts) ts in
    let own : Own (last_item front) = own_since front front (own_take (before at ts) ts h) (own_take (before at ts) ts h) in (
      no_word (λ x. bytes_eq x (codes "#")) (last_item front) (no_numbers (last_item front) own),
      no_word (λ x. bytes_eq x (codes "MCDC_H")) (last_item front) (no_hits (last_item front) own),
    )

-- ---- functions

said_left : (xs ys : List Row) → AreSaid (xs ++ ys) → AreSaid xs
said_left [] ys h = tt
said_left (x ∷ xs) ys h = (h.0, said_left xs ys h.1)

said_right : (xs ys : List Row) → AreSaid (xs ++ ys) → AreSaid ys
said_right [] ys h = h
said_right (x ∷ xs) ys h = said_right xs ys h.1

-- the rows of a function: those at its front, those of its body, its exit, and those that follow
of_front : (f : p.Function) (l : List Row) → AreSaid (register_row f (entry_row f f.entry l)) → AreSaid (front_rows f) × AreSaid l
of_front f l = by_tests (nat_eq f.registers 0) f.entry
  where
    by_tests : (b : Bool) (e : Option ℕ)
        → AreSaid (cond b (entry_row f e l) (record { what = what.Registers f.registers; span = f.name_span; end = f.closing.end } ∷ entry_row f e l))
        → AreSaid (cond b (entry_row f e []) (record { what = what.Registers f.registers; span = f.name_span; end = f.closing.end } ∷ entry_row f e [])) × AreSaid l
    by_tests true None h = (tt, h)
    by_tests true (Some b) h = ((h.0, tt), h.1)
    by_tests false None h = ((h.0, tt), h.1)
    by_tests false (Some b) h = let more = h.1 in ((h.0, (more.0, tt)), more.1)

of_exit : (f : p.Function) (e : Option ℕ) (l : List Row) → AreSaid (exit_row f e l) → AreSaid (exit_row f e []) × AreSaid l
of_exit f None l h = (tt, h)
of_exit f (Some b) l h = ((h.0, tt), h.1)

spelled_functions : (fs : List p.Function) → AreSaid (rows_in_functions fs []) → Spelled (parts_in_functions fs)
spelled_functions [] s = spelled_rest
spelled_functions (f ∷ rest) s =
    let exit : List Row = exit_row f f.exit (rows_in_functions rest []) in
    let one = of_front f (rows_in_statements f.body exit) s in
    let both : AreSaid (body_rows f ++ exit) = subst AreSaid (added (tied_body f.body) exit) one.1 in
    let two = of_exit f f.exit (rows_in_functions rest []) (said_right (body_rows f) exit both) in
    in_function one.0 (said_left (body_rows f) exit both) two.0 (spelled_functions rest two.1)
  where
    in_function : AreSaid (front_rows f) → AreSaid (body_rows f) → AreSaid (exit_row f f.exit []) → Spelled (parts_in_functions rest) → Spelled (parts_in_function f (parts_in_functions rest))
    in_function front inner exit k ts h =
        let type : List (List ℕ) = type_at f.name_span.start ts in
        let next : Parts = exit_put f.exit f.closing (parts_in_functions rest) in
        spelled_upto f.name_span.end (into_body (body type f (parts_in_functions rest)))
        (spelled_into (body type f (parts_in_functions rest))
        (spelled_front (front_rows f) (inserted type (body_rows f) next) front
        (spelled_inserted type (body_rows f) next (type_words_are f.name_span.start ts h) inner (spelled_exit f f.exit (parts_in_functions rest) exit k)))) ts h

pub parts_spelled : PartsAreSpelled
parts_spelled tokens tree own said = spelled_functions tree.program.functions said tokens own
