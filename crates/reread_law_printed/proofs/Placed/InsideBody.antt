-- What stands inside bodies, and outside of them.
use Rattle.std.proofs.Common.{◌≡◌, inl, ℕ, nat_lt, nat_eq, Bool, true, false, cond, ◌&&◌, ◌||◌, not, List, [], ◌∷◌, ◌++◌, map, Option, Some, None, codes, refl, sym, ap, subst, ◌∙◌, arith, append_assoc, append-nil}
use Rattle.std.specs.List.{AllByRecursion as Each, list_all}
use Rattle.std.specs.Str.{bytes_eq}
use Rattle.mc_lex.specs.Tokens.{Tok}
use Rattle.mc_lex.proofs.Texts.{same_text, both, is_false}
use Rattle.reread_pieces.specs.declared.bracket.Bracket.{Bracket}
use Rattle.reread_pieces.specs.declared.bracket.Bracket.TheVariants as bracket
use Rattle.reread_pieces.specs.declared.piece.What.{What}
use Rattle.reread_pieces.specs.declared.piece.What.TheVariants as what
use Rattle.reread_pieces.specs.Words.{is}
use Rattle.reread_pieces.specs.Rows.{is_nothing, is_body}
use Rattle.reread_pieces.specs.Pieces.{is_front}
use Rattle.mc_probe.specs.Tree as p
use Rattle.mc_print.specs.Pens.{type_words}
use Rattle.reread_law_texts.specs.alike.Moves.{FollowFrom, end_of}
use Rattle.reread_law_rows.specs.inserted.Rows.{Row, entry_row, rows_in_functions}
use Rattle.reread_law_rows.specs.inserted.Fits.{IsBalanced, is_bracket}
use Rattle.reread_law_printed.specs.parts.Parts.{Part, Parts, what_of, own, copied, upto, takes_token, without_first, put, inserted, front_rows, body_rows, place_of}
use Rattle.reread_law_printed.specs.parts.Stands.{is_brace, IsFunctionAmong, AreAmong}
use Rattle.reread_law_printed.specs.parts.Closed.{top, below, open_after, closes_with, first_text, MayClose, AllClose, AreBalanced}
use Rattle.reread_law_printed.proofs.Parts.Tied.{Inner, inner_rows, Fit, FitAll, all_fit}
use Rattle.reread_law_printed.proofs.Parts.Walked.{tied_body}
use Rattle.reread_law_printed.proofs.Parts.Cut.{past_place, up_to}
use Rattle.reread_law_printed.proofs.Parts.Runs.{of_function, State, follows_body, whole_body}
use Rattle.reread_law_printed.proofs.Parts.Closing.{own_after, own_run, and_then, Neutral, neutral_token, no_bracket, balanced, what_by, up_none, up_start, close_upto, begun, finished, some_is, none_not, close_rows}
use Rattle.reread_law_printed.proofs.Parts.Told.{copied_is}
use Rattle.reread_law_printed.specs.placed.Heads.{has_body, IsHead, HaveHeads}
use Rattle.reread_law_printed.proofs.Placed.InsideState.{is_in, parenthesis, Says, AllIn, run, last_parenthesis, run_both, in_both}
use Rattle.reread_law_printed.proofs.Placed.InsideForm.{stop, middle, exit_parts, front_parts, body_parts, head_of, form, neither, IsPlain, plain_all, after_state}
use Rattle.reread_law_printed.proofs.Parts.Shaping.{and_false}

-- ---- no `{` of a body

abbrev pub NoBody : Part → Type 0
NoBody q = is_front q.what ≡ false

abbrev NoBodies : Parts → Type 0
NoBodies next = (ts : List Tok) → Each NoBody (next ts)

pub copied_plain : (t : Tok) → NoBody (copied t)
copied_plain t = by_tests (is (codes "(") t) (is (codes "[") t) (is (codes "{") t) (is (codes ")") t || is (codes "]") t || is (codes "}") t)
  where
    by_tests : (a b c d : Bool) → is_front (cond a (what.Opening bracket.Parenthesis) (cond b (what.Opening bracket.Square) (cond c (what.Opening bracket.Brace) (cond d what.Closing what.Source)))) ≡ false
    by_tests true b c d = refl
    by_tests false true c d = refl
    by_tests false false true d = refl
    by_tests false false false true = refl
    by_tests false false false false = refl

pub plain_row : (w : What) → Inner w → is_front w ≡ false
plain_row what.Source i = absurd (cc)
plain_row (what.Opening b) i = absurd (cc)
plain_row what.Closing i = absurd (cc)
plain_row w i = refl

plain_upto : (at : ℕ) (next : Parts) → NoBodies next → NoBodies (upto at next)
plain_upto at next k [] = k []
plain_upto at next k (t ∷ ts) = by_test (nat_lt t.start at) (plain_upto at next k ts)
  where
    by_test : (b : Bool) → Each NoBody (upto at next ts) → Each NoBody (cond b (copied t ∷ upto at next ts) (next (t ∷ ts)))
    by_test true more = (copied_plain t, more)
    by_test false more = k (t ∷ ts)

plain_inserted : (type : List (List ℕ)) (rows : List Row) (next : Parts) → Each (λ (r : Row). Inner r.what) rows → NoBodies next → NoBodies (inserted type rows next)
plain_inserted type [] next i k = k
plain_inserted type (r ∷ rows) next i k =
    plain_upto (place_of r) (put type r.what (inserted type rows next))
    (λ ts. (plain_row r.what i.0, plain_inserted type rows next i.1 k (without_first (takes_token r.what) ts)))

pub plain_middle : (type : List (List ℕ)) (f : p.Function) (ts : List Tok) → Each NoBody (middle type f ts)
plain_middle type f = plain_inserted type (body_rows f) (upto f.closing.start stop) (inner_rows (tied_body f.body)) (plain_upto f.closing.start stop (λ ts. tt))

-- ---- inside a body

abbrev in_body : List Bracket
in_body = bracket.Body ∷ []

some_top : (us : List Bracket) → is_nothing (top (us ++ in_body)) ≡ false
some_top [] = refl
some_top (b ∷ us) = refl

or_true : (a b : Bool) → b ≡ true → (a || b) ≡ true
or_true true b e = refl
or_true false b e = e

is_inside : (us : List Bracket) → is_in (us ++ in_body) ≡ true
is_inside [] = refl
is_inside (b ∷ us) = or_true (is_body (Some b)) (is_in (us ++ in_body)) (is_inside us)

says_inside : (us : List Bracket) (b : Bool) (w : What) → is_front w ≡ false → Says (us ++ in_body) b w
says_inside us b (what.Opening bracket.Brace) h = ap (λ x. x && b) (some_top us)
says_inside us b (what.Opening bracket.Body) h = absurd (cc)
says_inside us b (what.Declaration n) h = is_inside us
says_inside us b (what.Label r n) h = is_inside us
says_inside us b (what.Statement n) h = is_inside us
says_inside us b w h = tt

some_not : (b : Bracket) → None ≡ Some b → ⊥
some_not b e = cc

below_more : (us : List Bracket) (b : Bracket) → top us ≡ Some b → below (us ++ in_body) ≡ below us ++ in_body
below_more [] b e = absurd (some_not b e)
below_more (u ∷ us) b e = refl

closing_more : (us : List Bracket) (text : List ℕ) → closes_with text (top us) ≡ true → below (us ++ in_body) ≡ below us ++ in_body
closing_more [] text e = absurd (cc)
closing_more (u ∷ us) text e = refl

pub open_more : (us : List Bracket) (w : What) (texts : List (List ℕ)) → MayClose us w texts → open_after (us ++ in_body) w ≡ open_after us w ++ in_body
open_more us what.Closing texts m = closing_more us (first_text texts) m
open_more us what.StatementEnd texts m = below_more us bracket.Statement m
open_more us (what.ValueEnd b) texts m = below_more us bracket.Value m
open_more us what.ReturnEnd texts m = below_more us bracket.Exit m
open_more us what.OperandEnd texts m = below_more us bracket.Operand m
open_more us w texts m = refl

pub record Inside (us : List Bracket) (b : Bool) (qs : List Part) : Type 0 where
  pub parts : AllIn (us ++ in_body) b qs
  pub end : run (us ++ in_body) qs ≡ in_body

pub inside_is : (us : List Bracket) (b : Bool) (qs : List Part) → AllClose us qs → Each NoBody qs → Inside us b qs
inside_is us b [] c n = record { parts = tt; end = ap (λ l. l ++ in_body) c }
inside_is us b (q ∷ qs) c n =
    let more = inside_is (open_after us q.what) (parenthesis q.what q.texts) qs c.1 n.1 in
    let same = open_more us q.what q.texts c.0 in
    record {
      parts = (says_inside us b q.what n.0, subst (λ bs. AllIn bs (parenthesis q.what q.texts) qs) (sym same) more.parts);
      end = ap (λ bs. run bs qs) same ∙ more.end;
    }

-- ---- tokens outside of bodies

-- a `{` directly after a `)`, where one stands before these tokens or not
abbrev pub bodies : Bool → List Tok → Bool
bodies b [] = false
bodies b (t ∷ ts) = b && is (codes "{") t || bodies (is (codes ")") t) ts

bodies_are : (ts : List Tok) → has_body ts ≡ bodies false ts
bodies_are [] = refl
bodies_are (t ∷ []) = refl
bodies_are (t ∷ u ∷ ts) = ap (λ x. is (codes ")") t && is (codes "{") u || x) (bodies_are (u ∷ ts))

no_other : (t : Tok) (text : List ℕ) → is text t ≡ true → bytes_eq text (codes ")") ≡ false → is (codes ")") t ≡ false
no_other t text e f = ap (λ x. bytes_eq x (codes ")")) (same_text t.text text e) ∙ f

parenthesis_is : (t : Tok) → parenthesis (what_of t) (t.text ∷ []) ≡ is (codes ")") t
parenthesis_is t = by_tests (is (codes "(") t) refl (is (codes "[") t) refl (is (codes "{") t) refl (is (codes ")") t || is (codes "]") t || is (codes "}") t)
  where
    by_tests : (a : Bool) → is (codes "(") t ≡ a → (b : Bool) → is (codes "[") t ≡ b → (c : Bool) → is (codes "{") t ≡ c → (d : Bool)
        → parenthesis (cond a (what.Opening bracket.Parenthesis) (cond b (what.Opening bracket.Square) (cond c (what.Opening bracket.Brace) (cond d what.Closing what.Source)))) (t.text ∷ []) ≡ is (codes ")") t
    by_tests true e b f c g d = sym (no_other t (codes "(") e refl)
    by_tests false e true f c g d = sym (no_other t (codes "[") f refl)
    by_tests false e false f true g d = sym (no_other t (codes "{") g refl)
    by_tests false e false f false g true = refl
    by_tests false e false f false g false = refl

only_first : (b c : Bool) → c ≡ true → (b && c) ≡ false → b ≡ false
only_first true c e f = absurd (true_not (sym e ∙ f))
  where
    true_not : true ≡ false → ⊥
    true_not e = cc
only_first false c e f = refl

says_outside : (bs : List Bracket) (b : Bool) (t : Tok) → (b && is (codes "{") t) ≡ false → Says bs b (what_of t)
says_outside bs b t h = by_tests (is (codes "(") t) (is (codes "[") t) (is (codes "{") t) refl (is (codes ")") t || is (codes "]") t || is (codes "}") t)
  where
    by_tests : (a d c : Bool) → is (codes "{") t ≡ c → (e : Bool) → Says bs b (cond a (what.Opening bracket.Parenthesis) (cond d (what.Opening bracket.Square) (cond c (what.Opening bracket.Brace) (cond e what.Closing what.Source))))
    by_tests true d c f e = tt
    by_tests false true c f e = tt
    by_tests false false true f e = and_false (is_nothing (top bs)) b (only_first b (is (codes "{") t) f h)
    by_tests false false false f true = tt
    by_tests false false false f false = tt

outside_is : (bs : List Bracket) (b : Bool) (ts : List Tok) → bodies b ts ≡ false → AllIn bs b (map copied ts)
outside_is bs b [] h = tt
outside_is bs b (t ∷ ts) h =
    let two = neither (b && is (codes "{") t) (bodies (is (codes ")") t) ts) h in (
      says_outside bs b t two.0,
      subst (λ x. AllIn (open_after bs (what_of t)) x (map copied ts)) (sym (parenthesis_is t)) (outside_is (open_after bs (what_of t)) (is (codes ")") t) ts two.1),
    )

last_is_last : (b : Bool) (xs : List Tok) (t : Tok) → last_parenthesis b (map copied (xs ++ t ∷ [])) ≡ is (codes ")") t
last_is_last b [] t = parenthesis_is t
last_is_last b (x ∷ xs) t = last_is_last (parenthesis (what_of x) (x.text ∷ [])) xs t

-- ---- brackets of the source

run_step : (w : What) (t : Tok) (u v : List Bracket) → w ≡ what_of t → own_after w t.text u ≡ Some v → open_after u w ≡ v
run_step w t u v e h = subst (λ w. own_after w t.text u ≡ Some v → open_after u w ≡ v) (sym e) (copied_is (λ w. own_after w t.text u ≡ Some v → open_after u w ≡ v) (λ b h. some_is (b ∷ u) v h) closing (λ h. some_is u v h) t) h
  where
    closing : cond (closes_with t.text (top u)) (Some (below u)) None ≡ Some v → below u ≡ v
    closing = by_test (closes_with t.text (top u))
      where
        by_test : (c : Bool) → cond c (Some (below u)) None ≡ Some v → below u ≡ v
        by_test true h = some_is (below u) v h
        by_test false h = absurd (none_not v h)

pub run_own : (ts : List Tok) (u v : List Bracket) → own_run ts u ≡ Some v → run u (map copied ts) ≡ v
run_own [] u v h = some_is u v h
run_own (t ∷ ts) u v h = by_after (own_after (what_of t) t.text u) refl h (λ w h. run_own ts w v h)
  where
    by_after : (o : Option (List Bracket)) → own_after (what_of t) t.text u ≡ o → and_then o (own_run ts) ≡ Some v
        → ((w : List Bracket) → own_run ts w ≡ Some v → run w (map copied ts) ≡ v) → run (open_after u (what_of t)) (map copied ts) ≡ v
    by_after None e h more = absurd (none_not v h)
    by_after (Some w) e h more = ap (λ bs. run bs (map copied ts)) (run_step (what_of t) t u w refl e) ∙ more w h

pub run_neutral : (ts : List Tok) (u : List Bracket) → Neutral ts → run u (map copied ts) ≡ u
run_neutral ts u n = run_own ts u u (ap (λ l. own_run l u) (sym (append-nil ts)) ∙ n [] u)

-- ---- what stands before a body

abbrev NoBrace : Tok → Type 0
NoBrace t = is (codes "{") t ≡ false

none_left : (b : Bool) (xs ys : List Tok) → bodies b xs ≡ false → Each NoBrace ys → bodies b (xs ++ ys) ≡ false
none_left b [] [] h n = refl
none_left b [] (y ∷ ys) h n = ap (λ c. c || bodies (is (codes ")") y) ys) (and_false b (is (codes "{") y) n.0) ∙ none_left (is (codes ")") y) [] ys refl n.1
none_left b (x ∷ xs) ys h n =
    let two = neither (b && is (codes "{") x) (bodies (is (codes ")") x) xs) h in
    ap (λ c. c || bodies (is (codes ")") x) (xs ++ ys)) two.0 ∙ none_left (is (codes ")") x) xs ys two.1 n

braces_both : (xs ys : List Tok) → Each NoBrace xs → Each NoBrace ys → Each NoBrace (xs ++ ys)
braces_both [] ys h k = k
braces_both (x ∷ xs) ys h k = (h.0, braces_both xs ys h.1 k)

no_brace_in : (ts : List Tok) → list_all (λ t. not (is_brace t)) ts ≡ true → Each NoBrace ts
no_brace_in [] h = tt
no_brace_in (t ∷ ts) h = let two = both (not (is_brace t)) (list_all (λ t. not (is_brace t)) ts) h in (is_false (is_brace t) two.0, no_brace_in ts two.1)

no_brace : (t : Tok) → is_bracket t ≡ false → NoBrace t
no_brace t = by_tests (is (codes "(") t) (is (codes ")") t) (is (codes "[") t) (is (codes "]") t) (is (codes "{") t) (is (codes "}") t)
  where
    by_tests : (a b c d e f : Bool) → (a || b || c || d || e || f) ≡ false → e ≡ false
    by_tests true b c d e f h = absurd (cc)
    by_tests false true c d e f h = absurd (cc)
    by_tests false false true d e f h = absurd (cc)
    by_tests false false false true e f h = absurd (cc)
    by_tests false false false false true f h = absurd (cc)
    by_tests false false false false false f h = refl

plain_braces : (ts : List Tok) → Each IsPlain ts → Each NoBrace ts
plain_braces [] h = tt
plain_braces (t ∷ ts) h = (no_brace t h.0.bracket, plain_braces ts h.1)

module _ {f : p.Function} {suffix : List Tok} (q : IsFunctionAmong suffix f) (h : IsHead q.before q.name q.parameters) (name : is_bracket q.name ≡ false) where
  head_outside : AllIn [] false (map copied (head_of q))
  head_outside =
      let words : List Tok = h.specifiers ++ q.name ∷ q.parameters in
      let all : head_of q ≡ h.declarations ++ words = ap (λ l. l ++ q.name ∷ q.parameters) h.all ∙ append_assoc h.declarations h.specifiers (q.name ∷ q.parameters) in
      outside_is [] false (head_of q)
      (ap (bodies false) all
      ∙ none_left false h.declarations words (sym (bodies_are h.declarations) ∙ h.no_body)
      (braces_both h.specifiers (q.name ∷ q.parameters) (plain_braces h.specifiers (plain_all h.specifiers h.plain)) (no_brace q.name name, no_brace_in q.parameters q.no_brace)))

  head_ends : last_parenthesis false (map copied (head_of q)) ≡ true
  head_ends =
      let front : List Tok = q.before ++ q.name ∷ (h.first ∷ h.between) in
      let all : head_of q ≡ front ++ h.last ∷ [] = ap (λ l. q.before ++ q.name ∷ l) h.pair ∙ sym (append_assoc q.before (q.name ∷ (h.first ∷ h.between)) (h.last ∷ [])) in
      ap (λ l. last_parenthesis false (map copied l)) all ∙ (last_is_last false front h.last ∙ h.closes)

  pub head_run : IsBalanced q.before → IsBalanced q.parameters → run [] (map copied (head_of q)) ≡ []
  head_run before parameters =
      run_own (head_of q) [] []
      (balanced before (q.name ∷ q.parameters) []
      ∙ (neutral_token q.name (no_bracket q.name name) q.parameters []
      ∙ (ap (λ l. own_run l []) (sym (append-nil q.parameters)) ∙ balanced parameters [] [])))

-- ---- a body

front_in : (f : p.Function) (b : Bool) (e : Option ℕ) (c : Bool)
    → AllIn in_body c (front_parts (cond b (entry_row f e []) (record { what = what.Registers f.registers; span = f.name_span; end = f.closing.end } ∷ entry_row f e [])))
front_in f true None c = tt
front_in f true (Some b) c = (tt, tt)
front_in f false None c = (tt, tt)
front_in f false (Some b) c = (tt, (tt, tt))

front_run : (f : p.Function) (b : Bool) (e : Option ℕ)
    → run in_body (front_parts (cond b (entry_row f e []) (record { what = what.Registers f.registers; span = f.name_span; end = f.closing.end } ∷ entry_row f e []))) ≡ in_body
front_run f true None = refl
front_run f true (Some b) = refl
front_run f false None = refl
front_run f false (Some b) = refl

exit_in : (e : Option ℕ) (c : Bool) → AllIn in_body c (exit_parts e)
exit_in None c = tt
exit_in (Some b) c = (tt, tt)

exit_run : (e : Option ℕ) → run in_body (exit_parts e) ≡ in_body
exit_run None = refl
exit_run (Some b) = refl

pub closing_what : (t : Tok) → is (codes "}") t ≡ true → what_of t ≡ what.Closing
closing_what t e = what_by t (codes "}") (same_text t.text (codes "}") e)

module _ (tokens : List Tok) (follow : FollowFrom 0 tokens) where
  module _ (f : p.Function) (from : ℕ) (suffix : List Tok) (s : State tokens follow from suffix suffix) (q : IsFunctionAmong suffix f)
      (inside : IsBalanced q.inside) (fit : Each (FitAll tokens) (body_rows f)) (type : List (List ℕ)) where
    abbrev rest : List Tok
    rest = q.inside ++ q.closing ∷ q.after

    pub middle_closes : AllClose [] (middle type f rest)
    middle_closes =
        let n : ℕ = f.closing.start in
        let follows = follows_body tokens follow f from suffix suffix s q in
        let until : up_to n rest ≡ q.inside = ap (λ k. up_to k rest) (sym q.closing_start) ∙ up_start (end_of q.opening) q.inside q.closing q.after follows in
        close_rows tokens follow (tied_body f.body) type (upto n stop) [] n [] [] (end_of q.opening) rest fit q.in_order
        (whole_body tokens follow f from suffix suffix s q) (begun tokens follow n [] rest (subst Neutral (sym until) (balanced inside)) (inl refl))
        (λ v l left fr.
        close_upto n n [] v stop l (omega arith) fr
        (λ w fr2. ap (λ x. x ++ []) (finished tokens follow n [] w (past_place n l) (up_none n l) fr2)))

    pub body_in : (b : Bool) → AllIn in_body b (body_parts type f rest)
    body_in b =
        let front : List Part = front_parts (front_rows f) in
        let more : List Part = middle type f rest in
        let m = inside_is [] (last_parenthesis b front) more middle_closes (plain_middle type f rest) in
        in_both in_body b front (more ++ exit_parts f.exit) (front_in f (nat_eq f.registers 0) f.entry b)
        (subst (λ bs. AllIn bs (last_parenthesis b front) (more ++ exit_parts f.exit)) (sym (front_run f (nat_eq f.registers 0) f.entry))
        (in_both in_body (last_parenthesis b front) more (exit_parts f.exit) m.parts
        (subst (λ bs. AllIn bs (last_parenthesis (last_parenthesis b front) more) (exit_parts f.exit)) (sym m.end) (exit_in f.exit (last_parenthesis (last_parenthesis b front) more)))))

    pub body_run : run in_body (body_parts type f rest) ≡ in_body
    body_run =
        let front : List Part = front_parts (front_rows f) in
        let more : List Part = middle type f rest in
        let m = inside_is [] false more middle_closes (plain_middle type f rest) in
        run_both in_body front (more ++ exit_parts f.exit)
        ∙ (ap (λ bs. run bs (more ++ exit_parts f.exit)) (front_run f (nat_eq f.registers 0) f.entry)
        ∙ (run_both in_body more (exit_parts f.exit) ∙ (ap (λ bs. run bs (exit_parts f.exit)) m.end ∙ exit_run f.exit)))

  -- ---- functions

  after_closing : (t : Tok) (later : List Part) → is (codes "}") t ≡ true → AllIn [] false later → (b : Bool) → AllIn in_body b (copied t ∷ later)
  after_closing t later e more b =
      let closing = closing_what t e in
      let text : t.text ≡ codes "}" = same_text t.text (codes "}") e in (
        subst (Says in_body b) (sym closing) tt,
        subst (λ w. AllIn (open_after in_body w) (parenthesis w (t.text ∷ [])) later) (sym closing) (subst (λ x. AllIn [] (bytes_eq x (codes ")")) later) (sym text) more),
      )

  pub form_in : (fs : List p.Function) (from : ℕ) (suffix : List Tok) → State tokens follow from suffix suffix → (q : AreAmong fs suffix) (h : HaveHeads fs suffix q)
      → AreBalanced fs suffix q → Each (Fit tokens) (rows_in_functions fs []) → AllIn [] false (form fs suffix q h)
  form_in [] from suffix s q h b fit = outside_is [] false suffix (sym (bodies_are suffix) ∙ h)
  form_in (f ∷ others) from suffix s q h b fit =
      let two = of_function (Fit tokens) f (rows_in_functions others []) fit in
      let fits = all_fit tokens (tied_body f.body) [] two.0 in
      let head : List Part = map copied (head_of q.0) in
      let ts : List Tok = q.0.inside ++ q.0.closing ∷ q.0.after in
      let type : List (List ℕ) = type_words h.0.specifiers in
      let inner : List Part = body_parts type f ts in
      let later : List Part = form others q.0.after q.1 h.1 in
      let more : AllIn [] false later = form_in others (end_of q.0.closing) q.0.after (after_state tokens follow f from suffix s q.0) q.1 h.1 b.4 two.1 in
      let tail : List Part = own (what.Opening bracket.Body) q.0.opening ∷ (inner ++ copied q.0.closing ∷ later) in
      let in_tail : AllIn [] true tail = (
        (refl, refl),
        in_both in_body false inner (copied q.0.closing ∷ later) (body_in f from suffix s q.0 b.3 (fits.1 tt) type false)
            (subst (λ bs. AllIn bs (last_parenthesis false inner) (copied q.0.closing ∷ later)) (sym (body_run f from suffix s q.0 b.3 (fits.1 tt) type))
            (after_closing q.0.closing later q.0.closing_is more (last_parenthesis false inner))),
      ) in
      in_both [] false head tail (head_outside q.0 h.0 b.1)
      (subst (λ bs. AllIn bs (last_parenthesis false head) tail) (sym (head_run q.0 h.0 b.1 b.0 b.2))
      (subst (λ x. AllIn [] x tail) (sym (head_ends q.0 h.0 b.1)) in_tail))
