-- The parts of a text, function by function: what stands before a body, its `{`, what stands at its
-- front, what stands among its tokens, its exit, and its `}`.
use Rattle.std.proofs.Common.{◌≡◌, ◌≤◌, ◌<◌, ◌⊎◌, inl, inr, ℕ, nat_lt, nat_eq, Bool, true, false, cond, ◌||◌, not, List, [], ◌∷◌, ◌++◌, length, map, Option, Some, None, codes, refl, sym, ap, subst, ◌∙◌, arith, append_assoc, append-nil}
use Rattle.std.proofs.lemmas.List.{map-append}
use Rattle.std.specs.List.{AllByRecursion as Each, list_all, list_any}
use Rattle.mc_lex.specs.Tokens.{Tok}
use Rattle.mc_lex.specs.Words.{one_of}
use Rattle.mc_lex.proofs.Texts.{same_text, both, is_false}
use Rattle.reread_pieces.specs.declared.bracket.Bracket.TheVariants as bracket
use Rattle.reread_pieces.specs.declared.piece.What.TheVariants as what
use Rattle.reread_pieces.specs.Words.{is}
use Rattle.mc_probe.specs.Tree as p
use Rattle.mc_print.specs.Pens.{since, ends_item, last_item, type_words}
use Rattle.reread_law_texts.specs.alike.Moves.{FollowFrom, end_of}
use Rattle.reread_law_rows.specs.inserted.Rows.{Row, entry_row, rows_in_functions}
use Rattle.reread_law_rows.specs.inserted.Fits.{is_bracket, last_is}
use Rattle.reread_law_printed.specs.parts.Parts.{Part, Parts, own, copied, upto, into_body, row_part, put, inserted, all_put, front_rows, body_rows, exit_put, body, type_at, parts_in_function, parts_in_functions, place_of}
use Rattle.reread_law_printed.specs.parts.Stands.{past, AreInOrder, is_brace, IsFunctionAmong, AreAmong}
use Rattle.reread_law_printed.proofs.Parts.Tied.{Fit, FitAll, all_fit}
use Rattle.reread_law_printed.proofs.Parts.Walked.{tied_body}
use Rattle.reread_law_printed.proofs.Parts.Cut.{past_place, up_to, Left, left_later, before_is, taken, joined, found, beyond, not_past, has_text}
use Rattle.reread_law_printed.proofs.Parts.Runs.{after_row, met, of_function, State, name_place, closing_place, follows_front, follows_body, follows_after, whole_body, whole_after}
use Rattle.reread_law_printed.proofs.Parts.Closing.{up_start, up_end}
use Rattle.reread_law_printed.specs.placed.Heads.{is_apart, IsHead, HaveHeads}
use Rattle.reread_law_texts.proofs.Tokens.{is_before}

-- ---- the form

-- nothing more
abbrev pub stop : Parts
stop ts = []

-- what stands among the tokens of a body, up to its `}`
abbrev pub middle : List (List ℕ) → p.Function → List Tok → List Part
middle type f ts = inserted type (body_rows f) (upto f.closing.start stop) ts

abbrev pub exit_parts : Option ℕ → List Part
exit_parts None = []
exit_parts (Some b) = row_part [] (what.Exit b) ∷ []

abbrev pub front_parts : List Row → List Part
front_parts [] = []
front_parts (r ∷ rows) = row_part [] r.what ∷ front_parts rows

-- what stands in a body
abbrev pub body_parts : List (List ℕ) → p.Function → List Tok → List Part
body_parts type f ts = front_parts (front_rows f) ++ (middle type f ts ++ exit_parts f.exit)

abbrev pub head_of : {ts : List Tok} {f : p.Function} → IsFunctionAmong ts f → List Tok
head_of q = q.before ++ q.name ∷ q.parameters

abbrev pub form : (fs : List p.Function) (ts : List Tok) (q : AreAmong fs ts) → HaveHeads fs ts q → List Part
form [] ts q h = map copied ts
form (f ∷ rest) ts q h =
    map copied (head_of q.0) ++ own (what.Opening bracket.Body) q.0.opening
    ∷ (body_parts (type_words h.0.specifiers) f (q.0.inside ++ q.0.closing ∷ q.0.after)
    ++ copied q.0.closing ∷ form rest q.0.after q.1 h.1)

-- ---- tokens that are copied

abbrev Before : ℕ → List Tok → Type 0
Before n ts = Each (λ (t : Tok). t.start < n) ts

pub upto_is : (at : ℕ) (next : Parts) (ts : List Tok) → upto at next ts ≡ map copied (up_to at ts) ++ next (past_place at ts)
upto_is at next [] = refl
upto_is at next (t ∷ ts) = by_test (nat_lt t.start at) (upto_is at next ts)
  where
    by_test : (b : Bool) → upto at next ts ≡ map copied (up_to at ts) ++ next (past_place at ts)
        → cond b (copied t ∷ upto at next ts) (next (t ∷ ts)) ≡ map copied (cond b (t ∷ up_to at ts) []) ++ next (cond b (past_place at ts) (t ∷ ts))
    by_test true more = ap (λ l. copied t ∷ l) more
    by_test false more = refl

up_passed : (from at : ℕ) (xs ys : List Tok) → Before from xs → from ≤ at → up_to at (xs ++ ys) ≡ xs ++ up_to at ys
up_passed from at [] ys h le = refl
up_passed from at (x ∷ xs) ys h le =
    let first = h.0 in
    ap (λ b. cond b (x ∷ up_to at (xs ++ ys)) []) (is_before x.start at (omega (arith, first, le))) ∙ ap (λ l. x ∷ l) (up_passed from at xs ys h.1 le)

past_passed : (from at : ℕ) (xs ys : List Tok) → Before from xs → from ≤ at → past_place at (xs ++ ys) ≡ past_place at ys
past_passed from at [] ys h le = refl
past_passed from at (x ∷ xs) ys h le =
    let first = h.0 in
    ap (λ b. cond b (past_place at (xs ++ ys)) (x ∷ (xs ++ ys))) (is_before x.start at (omega (arith, first, le))) ∙ past_passed from at xs ys h.1 le

up_before : (n m : ℕ) (ts : List Tok) → n ≤ m → Before m (up_to n ts)
up_before n m [] le = tt
up_before n m (t ∷ ts) le = by_test (nat_lt t.start n) refl (up_before n m ts le)
  where
    by_test : (b : Bool) → nat_lt t.start n ≡ b → Before m (up_to n ts) → Before m (cond b (t ∷ up_to n ts) [])
    by_test true e more = let lt = before_is t.start n e in (omega (arith, lt, le), more)
    by_test false e more = tt

before_both : (n : ℕ) (xs ys : List Tok) → Before n xs → Before n ys → Before n (xs ++ ys)
before_both n [] ys h k = k
before_both n (x ∷ xs) ys h k = (h.0, before_both n xs ys h.1 k)

into_is : (next : Parts) (xs : List Tok) (t : Tok) (ts : List Tok) → list_all (λ t. not (is_brace t)) xs ≡ true → is (codes "{") t ≡ true
    → into_body next (xs ++ t ∷ ts) ≡ map copied xs ++ own (what.Opening bracket.Body) t ∷ next ts
into_is next [] t ts brace e = ap (λ b. cond b (own (what.Opening bracket.Body) t ∷ next ts) (copied t ∷ into_body next ts)) e
into_is next (x ∷ xs) t ts brace e =
    let two = both (not (is_brace x)) (list_all (λ t. not (is_brace t)) xs) brace in
    ap (λ b. cond b (own (what.Opening bracket.Body) x ∷ next (xs ++ t ∷ ts)) (copied x ∷ into_body next (xs ++ t ∷ ts))) (is_false (is_brace x) two.0)
    ∙ ap (λ l. copied x ∷ l) (into_is next xs t ts two.1 e)

-- ---- rows

abbrev pub after_rows : List Row → List Tok → List Tok
after_rows [] ts = ts
after_rows (r ∷ rows) ts = after_rows rows (after_row r.what r.span ts)

inserted_is : (type : List (List ℕ)) (rows : List Row) (next : Parts) (ts : List Tok) → inserted type rows next ts ≡ inserted type rows stop ts ++ next (after_rows rows ts)
inserted_is type [] next ts = refl
inserted_is type (r ∷ rows) next ts =
    let at : ℕ = place_of r in
    let front : List Part = map copied (up_to at ts) in
    let later : List Tok = after_row r.what r.span ts in
    let own_part : Part = row_part type r.what in
    upto_is at (put type r.what (inserted type rows next)) ts
    ∙ (ap (λ l. front ++ own_part ∷ l) (inserted_is type rows next later)
    ∙ (sym (append_assoc front (own_part ∷ inserted type rows stop later) (next (after_rows rows later)))
    ∙ ap (λ l. l ++ next (after_rows rows later)) (sym (upto_is at (put type r.what (inserted type rows stop)) ts))))

front_is : (f : p.Function) (b : Bool) (e : Option ℕ) (next : Parts) (ts : List Tok)
    → all_put (cond b (entry_row f e []) (record { what = what.Registers f.registers; span = f.name_span; end = f.closing.end } ∷ entry_row f e [])) next ts
    ≡ front_parts (cond b (entry_row f e []) (record { what = what.Registers f.registers; span = f.name_span; end = f.closing.end } ∷ entry_row f e [])) ++ next ts
front_is f true None next ts = refl
front_is f true (Some b) next ts = refl
front_is f false None next ts = refl
front_is f false (Some b) next ts = refl

-- ---- the type of a function

abbrev IsEnd : List Tok → Type 0
IsEnd xs = (xs ≡ []) ⊎ (last_is ends_item xs ≡ true)

abbrev NoEnd : List Tok → Type 0
NoEnd ts = Each (λ (t : Tok). ends_item t ≡ false) ts

no_end : (found ts : List Tok) → NoEnd ts → since found ts ≡ found
no_end found [] h = refl
no_end found (t ∷ ts) h = ap (λ b. since (cond b ts found) ts) h.0 ∙ no_end found ts h.1

since_end : (found xs ts : List Tok) → last_is ends_item xs ≡ true → NoEnd ts → since found (xs ++ ts) ≡ ts
since_end found [] ts e h = absurd (cc)
since_end found (x ∷ []) ts e h = ap (λ b. since (cond b ts found) ts) e ∙ no_end ts ts h
since_end found (x ∷ y ∷ xs) ts e h = since_end (cond (ends_item x) (y ∷ (xs ++ ts)) found) (y ∷ xs) ts e h

last_item_is : (xs ts : List Tok) → IsEnd xs → NoEnd ts → last_item (xs ++ ts) ≡ ts
last_item_is xs ts (inl e) h = ap (λ l. last_item (l ++ ts)) e ∙ no_end ts ts h
last_item_is xs ts (inr e) h = since_end (xs ++ ts) xs ts e h

pub last_added : (test : Tok → Bool) (xs : List Tok) (t : Tok) → last_is test (xs ++ t ∷ []) ≡ test t
last_added test [] t = refl
last_added test (x ∷ []) t = refl
last_added test (x ∷ y ∷ xs) t = last_added test (y ∷ xs) t

last_both : (test : Tok → Bool) (xs ys : List Tok) (e : last_is test ys ≡ true) → last_is test (xs ++ ys) ≡ true
last_both test xs [] e = absurd (cc)
last_both test [] (y ∷ ys) e = e
last_both test (x ∷ []) (y ∷ ys) e = e
last_both test (x ∷ z ∷ xs) (y ∷ ys) e = last_both test (z ∷ xs) (y ∷ ys) e

by_semicolon : (t : Tok) → is (codes ";") t ≡ true → ends_item t ≡ true
by_semicolon t e = ap (λ b. b || one_of (codes "}" ∷ []) t.text) e

by_brace : (t : Tok) → is (codes "}") t ≡ true → ends_item t ≡ true
by_brace t e = ap (λ l. one_of (codes ";" ∷ codes "}" ∷ []) l) (same_text t.text (codes "}") e)

last_weaker : (xs : List Tok) → last_is (is (codes ";")) xs ≡ true → last_is ends_item xs ≡ true
last_weaker [] e = e
last_weaker (x ∷ []) e = by_semicolon x e
last_weaker (x ∷ y ∷ xs) e = last_weaker (y ∷ xs) e

end_both : (xs ys : List Tok) → IsEnd xs → (ys ≡ []) ⊎ (last_is (is (codes ";")) ys ≡ true) → IsEnd (xs ++ ys)
end_both xs ys h (inr e) = inr (last_both ends_item xs ys (last_weaker ys e))
end_both xs ys (inl e) (inl f) = inl (ap (λ l. l ++ ys) e ∙ f)
end_both xs ys (inr e) (inl f) = inr (ap (λ l. last_is ends_item (xs ++ l)) f ∙ (ap (last_is ends_item) (append-nil xs) ∙ e))

-- no token that is set apart from specifiers
pub neither : (a b : Bool) → (a || b) ≡ false → (a ≡ false) × (b ≡ false)
neither true b e = absurd (cc)
neither false b e = (refl, e)

pub record IsPlain (t : Tok) : Type 0 where
  pub bracket : is_bracket t ≡ false
  pub semicolon : is (codes ";") t ≡ false
  pub star : is (codes "*") t ≡ false

pub plain_all : (ts : List Tok) → list_any is_apart ts ≡ false → Each IsPlain ts
plain_all [] h = tt
plain_all (t ∷ ts) h =
    let two = neither (is_apart t) (list_any is_apart ts) h in
    let one = neither (is_bracket t || is (codes ";") t) (is (codes "*") t) two.0 in
    let more = neither (is_bracket t) (is (codes ";") t) one.0 in
    (record { bracket = more.0; semicolon = more.1; star = one.1 }, plain_all ts two.1)

no_brace_of : (t : Tok) → is_bracket t ≡ false → is (codes "}") t ≡ false
no_brace_of t = by_tests (is (codes "(") t) (is (codes ")") t) (is (codes "[") t) (is (codes "]") t) (is (codes "{") t) (is (codes "}") t)
  where
    by_tests : (a b c d e f : Bool) → (a || b || c || d || e || f) ≡ false → f ≡ false
    by_tests true b c d e f h = absurd (cc)
    by_tests false true c d e f h = absurd (cc)
    by_tests false false true d e f h = absurd (cc)
    by_tests false false false true e f h = absurd (cc)
    by_tests false false false false true f h = absurd (cc)
    by_tests false false false false false f h = h

plain_end : (t : Tok) → IsPlain t → ends_item t ≡ false
plain_end t h = ap (λ b. b || one_of (codes "}" ∷ []) t.text) h.semicolon ∙ ap (λ b. b || false) (no_brace_of t h.bracket)

plain_ends : (ts : List Tok) → Each IsPlain ts → NoEnd ts
plain_ends [] h = tt
plain_ends (t ∷ ts) h = (plain_end t h.0, plain_ends ts h.1)

-- ---- functions

module _ (tokens : List Tok) (follow : FollowFrom 0 tokens) where
  left_rows : (rows : List Row) (from to : ℕ) (ts : List Tok) → Each (FitAll tokens) rows → AreInOrder from rows to → Left tokens from ts → Left tokens to (after_rows rows ts)
  left_rows [] from to ts fit order h = left_later tokens ts from to h order
  left_rows (r ∷ rows) from to ts fit order h =
      let now = met tokens follow r.what r.span ts from fit.0 h order.0 in
      left_rows rows (past r) to (after_row r.what r.span ts) fit.1 order.1 now.1

  -- what follows a body: the tokens that are left of it, and its `}`, are copied
  abbrev Goes : ℕ → List Tok → Parts → List Part → Type 0
  Goes from suffix next later =
      (xs : List Tok) → Before from xs → IsEnd xs → next (xs ++ suffix) ≡ map copied xs ++ later

  module _ (f : p.Function) (from : ℕ) (suffix : List Tok) (s : State tokens follow from suffix suffix) (q : IsFunctionAmong suffix f) where
    abbrev rest : List Tok
    rest = q.inside ++ q.closing ∷ q.after

    abbrev front : List Tok
    front = q.parameters ++ q.opening ∷ rest

    pub after_state : State tokens follow (end_of q.closing) q.after q.after
    after_state = record {
      follows = follows_after tokens follow f from suffix suffix s q;
      whole = whole_after tokens follow f from suffix suffix s q;
      here = whole_after tokens follow f from suffix suffix s q;
    }

    ends_closing : ends_item q.closing ≡ true
    ends_closing = by_brace q.closing q.closing_is

    closing_soon : (n : ℕ) → n ≡ q.closing.start → n < end_of q.closing
    closing_soon n e =
        let text : 0 < length q.closing.text = has_text (end_of q.opening) q.inside q.closing q.after (follows_body tokens follow f from suffix suffix s q) in
        omega (arith, text, e)

    at_closing : (l : List Tok) → Left tokens f.closing.start l → past_place f.closing.start l ≡ q.closing ∷ q.after
    at_closing l h =
        let n : ℕ = f.closing.start in
        let start : q.closing.start ≡ n = q.closing_start in
        let place = closing_place tokens follow f from suffix suffix s q in
        sym (h n (omega arith))
        ∙ (whole_body tokens follow f from suffix suffix s q n (omega (arith, place, start))
        ∙ (ap (λ k. past_place k rest) (sym start) ∙ found (end_of q.opening) q.inside q.closing q.after (follows_body tokens follow f from suffix suffix s q)))

    -- the exit, where it has one, and the `}`
    exit_is : (e : Option ℕ) (next : Parts) (later : List Part) (l : List Tok) → Left tokens f.closing.start l → Goes (end_of q.closing) q.after next later
        → exit_put e f.closing next l ≡ map copied (up_to f.closing.start l) ++ (exit_parts e ++ copied q.closing ∷ later)
    exit_is None next later l h k =
        let n : ℕ = f.closing.start in
        let here : l ≡ (up_to n l ++ q.closing ∷ []) ++ q.after =
        sym (joined n l) ∙ (ap (λ m. up_to n l ++ m) (at_closing l h) ∙ sym (append_assoc (up_to n l) (q.closing ∷ []) q.after)) in
        let soon : n < end_of q.closing = closing_soon n (sym q.closing_start) in
        let own_soon : q.closing.start < end_of q.closing = closing_soon q.closing.start refl in
        ap next here
        ∙ (k (up_to n l ++ q.closing ∷ []) (before_both (end_of q.closing) (up_to n l) (q.closing ∷ []) (up_before n (end_of q.closing) l (omega (arith, soon))) (own_soon, tt))
        (inr (last_added ends_item (up_to n l) q.closing ∙ ends_closing))
        ∙ (ap (λ m. m ++ later) (map-append copied (up_to n l) (q.closing ∷ [])) ∙ append_assoc (map copied (up_to n l)) (copied q.closing ∷ []) later))
    exit_is (Some b) next later l h k =
        let n : ℕ = f.closing.start in
        let own_soon : q.closing.start < end_of q.closing = closing_soon q.closing.start refl in
        upto_is n (put [] (what.Exit b) next) l
        ∙ ap (λ m. map copied (up_to n l) ++ row_part [] (what.Exit b) ∷ m) (ap next (at_closing l h) ∙ k (q.closing ∷ []) (own_soon, tt) (inr ends_closing))

    -- a body
    body_is : (type : List (List ℕ)) (next : Parts) (later : List Part) → Each (FitAll tokens) (body_rows f) → Goes (end_of q.closing) q.after next later
        → body type f next rest ≡ body_parts type f rest ++ copied q.closing ∷ later
    body_is type next later fit k =
        let n : ℕ = f.closing.start in
        let rows : List Row = body_rows f in
        let l : List Tok = after_rows rows rest in
        let left : Left tokens n l = left_rows rows (end_of q.opening) n rest fit q.in_order (whole_body tokens follow f from suffix suffix s q) in
        let fr : List Part = front_parts (front_rows f) in
        let a : List Part = inserted type rows stop rest in
        let u : List Part = map copied (up_to n l) in
        let e : List Part = exit_parts f.exit in
        let end : List Part = copied q.closing ∷ later in
        let mid : middle type f rest ≡ a ++ u = inserted_is type rows (upto n stop) rest ∙ ap (λ m. a ++ m) (upto_is n stop l ∙ append-nil u) in
        front_is f (nat_eq f.registers 0) f.entry (inserted type rows (exit_put f.exit f.closing next)) rest
        ∙ (ap (λ m. fr ++ m)
        (inserted_is type rows (exit_put f.exit f.closing next) rest
        ∙ (ap (λ m. a ++ m) (exit_is f.exit next later l left k)
        ∙ (sym (append_assoc a u (e ++ end))
        ∙ (ap (λ m. m ++ (e ++ end)) (sym mid)
        ∙ sym (append_assoc (middle type f rest) e end)))))
        ∙ sym (append_assoc fr (middle type f rest ++ e) end))

    -- a function, and what stands before it
    function_is : (h : IsHead q.before q.name q.parameters) (next : Parts) (later : List Part) → Each (FitAll tokens) (body_rows f) → Goes (end_of q.closing) q.after next later
        → Goes from suffix (parts_in_function f next)
        (map copied (head_of q) ++ own (what.Opening bracket.Body) q.opening ∷ (body_parts (type_words h.specifiers) f rest ++ copied q.closing ∷ later))
    function_is h next later fit k xs small ends =
        let n : ℕ = f.name_span.end in
        let start : q.name.start ≡ f.name_span.start = q.name_start in
        let end : end_of q.name ≡ n = q.name_end in
        let place : from ≤ q.name.start = name_place tokens follow f from suffix suffix s q in
        let fronts : FollowFrom from (q.before ++ q.name ∷ front) = subst (FollowFrom from) q.all s.follows in
        let type : List (List ℕ) = type_at f.name_span.start (xs ++ suffix) in
        let named : up_to f.name_span.start (xs ++ suffix) ≡ (xs ++ h.declarations) ++ h.specifiers =
        up_passed from f.name_span.start xs suffix small (omega (arith, place, start))
        ∙ (ap (λ m. xs ++ m) (ap (up_to f.name_span.start) q.all ∙ (ap (λ k. up_to k (q.before ++ q.name ∷ front)) (sym start) ∙ (up_start from q.before q.name front fronts ∙ h.all)))
        ∙ sym (append_assoc xs h.declarations h.specifiers)) in
        let type_is : type ≡ type_words h.specifiers =
        ap (λ m. type_words (last_item m)) (sym (taken f.name_span.start (xs ++ suffix)) ∙ named)
        ∙ ap type_words (last_item_is (xs ++ h.declarations) h.specifiers (end_both xs h.declarations ends h.ended) (plain_ends h.specifiers (plain_all h.specifiers h.plain))) in
        let up : up_to n (xs ++ suffix) ≡ xs ++ (q.before ++ q.name ∷ []) =
        up_passed from n xs suffix small (omega (arith, place, end))
        ∙ ap (λ m. xs ++ m) (ap (up_to n) q.all ∙ (ap (λ k. up_to k (q.before ++ q.name ∷ front)) (sym end) ∙ up_end from q.before q.name front fronts)) in
        let past_is : past_place n (xs ++ suffix) ≡ front =
        past_passed from n xs suffix small (omega (arith, place, end))
        ∙ (ap (past_place n) q.all
        ∙ (beyond from n q.before q.name front fronts (omega (arith, end))
        ∙ not_past n front (subst (λ k. FollowFrom k front) end (follows_front tokens follow f from suffix suffix s q)))) in
        let tail : List Part = own (what.Opening bracket.Body) q.opening ∷ (body_parts (type_words h.specifiers) f rest ++ copied q.closing ∷ later) in
        let opened : into_body (body type f next) (past_place n (xs ++ suffix)) ≡ map copied q.parameters ++ tail =
        ap (into_body (body type f next)) past_is
        ∙ (into_is (body type f next) q.parameters q.opening rest q.no_brace q.opening_is
        ∙ ap (λ m. map copied q.parameters ++ own (what.Opening bracket.Body) q.opening ∷ m)
        (ap (λ y. body y f next rest) type_is ∙ body_is (type_words h.specifiers) next later fit k)) in
        let list : map copied (xs ++ (q.before ++ q.name ∷ [])) ++ (map copied q.parameters ++ tail) ≡ map copied xs ++ (map copied (head_of q) ++ tail) =
        sym (append_assoc (map copied (xs ++ (q.before ++ q.name ∷ []))) (map copied q.parameters) tail)
        ∙ (ap (λ m. m ++ tail)
        (sym (map-append copied (xs ++ (q.before ++ q.name ∷ [])) q.parameters)
        ∙ (ap (map copied) (append_assoc xs (q.before ++ q.name ∷ []) q.parameters ∙ ap (λ m. xs ++ m) (append_assoc q.before (q.name ∷ []) q.parameters))
        ∙ map-append copied xs (head_of q)))
        ∙ append_assoc (map copied xs) (map copied (head_of q)) tail) in
        upto_is n (into_body (body type f next)) (xs ++ suffix)
        ∙ (ap (λ m. map copied m ++ into_body (body type f next) (past_place n (xs ++ suffix))) up
        ∙ (ap (λ m. map copied (xs ++ (q.before ++ q.name ∷ [])) ++ m) opened ∙ list))

  pub form_is : (fs : List p.Function) (from : ℕ) (suffix : List Tok) → State tokens follow from suffix suffix → (q : AreAmong fs suffix) (h : HaveHeads fs suffix q)
      → Each (Fit tokens) (rows_in_functions fs []) → Goes from suffix (parts_in_functions fs) (form fs suffix q h)
  form_is [] from suffix s q h fit xs small ends = map-append copied xs suffix
  form_is (f ∷ others) from suffix s q h fit xs small ends =
      let two = of_function (Fit tokens) f (rows_in_functions others []) fit in
      let fits = all_fit tokens (tied_body f.body) [] two.0 in
      function_is f from suffix s q.0 h.0 (parts_in_functions others) (form others q.0.after q.1 h.1) (fits.1 tt)
      (form_is others (end_of q.0.closing) q.0.after (after_state f from suffix s q.0) q.1 h.1 two.1) xs small ends
