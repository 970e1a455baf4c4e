-- What follows the parts of tokens that are copied, and of the front of a body.
use Rattle.std.proofs.Common.{◌≡◌, ◌⊎◌, inl, inr, ℕ, nat_lt, Bool, true, false, cond, ◌||◌, List, [], ◌∷◌, ◌++◌, map, Option, Some, None, codes, refl, sym, ap, subst, ◌∙◌}
use Rattle.std.specs.List.{AllByRecursion as Each, list_any}
use Rattle.std.specs.Str.{bytes_eq}
use Rattle.mc_span.specs.declared.span.Span.{Span}
use Rattle.mc_lex.specs.declared.token.Dialect.TheVariants.{Plain}
use Rattle.mc_lex.specs.Tokens.{Tok}
use Rattle.reread_pieces.specs.declared.bracket.Bracket.{Bracket}
use Rattle.reread_pieces.specs.declared.bracket.Bracket.TheVariants as bracket
use Rattle.reread_pieces.specs.declared.piece.What.{What}
use Rattle.reread_pieces.specs.declared.piece.What.TheVariants as what
use Rattle.reread_pieces.specs.Words.{is}
use Rattle.reread_pieces.specs.Rows.{is_hit, sees_brace}
use Rattle.reread_pieces.specs.Shapes.{hit}
use Rattle.reread_pieces.specs.Pieces.{Here}
use Rattle.reread_law_printed.specs.spelled.Words.{IsToken}
use Rattle.mc_probe.specs.Tree as p
use Rattle.reread_law_rows.specs.inserted.Rows.{entry_row}
use Rattle.reread_law_printed.specs.parts.Parts.{Part, Parts, own, copied, upto, into_body, row_texts, without_first, put, all_put, exit_put, body, type_at, parts_in_functions, words_of}
use Rattle.reread_law_printed.specs.parts.Marks as marks
use Rattle.reread_law_printed.specs.parts.Closed.{open_after, MayClose, AllClose}
use Rattle.reread_law_printed.specs.parts.Shaped.{tokens_at, after_part}
use Rattle.reread_law_printed.proofs.Parts.Cut.{past_place}
use Rattle.reread_law_printed.proofs.Parts.Runs.{after_brace, after_exit}
use Rattle.reread_law_printed.proofs.Parts.Told.{copied_is}
use Rattle.reread_law_printed.proofs.Parts.Tied.{Inner}
use Rattle.reread_law_printed.specs.placed.Needs.{Followed, Along}
use Rattle.reread_law_printed.proofs.Placed.FollowedWords.{IsMild, IsKept, Spells, nothing, stop, copy, Keeps, brace, same, mild_hit, mild_label, mild_decision, mild_condition, mild_switch, mild_brace, mild_end, mild_parenthesis, mild_semicolon, mild_text, Comes, opens, opens_nothing, own_text}

-- ---- exits

abbrev pub IsExit : What → Type 0
IsExit (what.Exit b) = Unit {0}
IsExit w = ⊥

abbrev pub NextIsExit : List Part → Type 0
NextIsExit [] = ⊥
NextIsExit (q ∷ qs) = IsExit q.what

-- An exit directly after a `{` of the source: it is not inside the body's own braces.
abbrev pub IsInner : What → List Part → Type 0
IsInner (what.Opening bracket.Brace) qs = NextIsExit qs
IsInner w qs = ⊥

-- What follows each part is what may follow it, or such an exit.
abbrev pub Ahead : List Tok → List Part → Type 0
Ahead source [] = Unit {0}
Ahead source (q ∷ qs) = (Comes source q.what (words_of qs) ⊎ IsInner q.what qs) × Ahead source qs

no_exit : (bs : List Bracket) (w : What) (texts : List (List ℕ)) → MayClose (bracket.Brace ∷ bs) w texts → IsExit w → ⊥
no_exit bs (what.Exit b) texts m e = absurd (cc)
no_exit bs w texts m e = e

none_inner : (bs : List Bracket) (w : What) (qs : List Part) → AllClose (open_after bs w) qs → IsInner w qs → ⊥
none_inner bs (what.Opening bracket.Brace) [] c e = e
none_inner bs (what.Opening bracket.Brace) (q ∷ qs) c e = no_exit bs q.what q.texts c.0 e
none_inner bs w qs c e = e

-- Brackets exclude it.
pub all_followed : (source : List Tok) (bs : List Bracket) (parts : List Part) → AllClose bs parts → Ahead source parts
    → (h : Here) (at : ℕ) → Along source Followed h at parts
all_followed source bs [] c a h at = tt
all_followed source bs (q ∷ qs) c a h at =
    (one a.0, all_followed source (open_after bs q.what) qs c.1 a.1 (after_part source h at q (words_of qs)) (marks.after at q.texts))
  where
    one : Comes source q.what (words_of qs) ⊎ IsInner q.what qs → Followed h q (tokens_at source (marks.after at q.texts) (words_of qs))
    one (inl f) = f (marks.after at q.texts)
    one (inr e) = absurd (none_inner bs q.what qs c.1 e)

-- ---- tokens

abbrev pub AllKept : List Tok → List Tok → Type 0
AllKept source ts = Each (IsKept source) ts

pub kept_past : (source : List Tok) (at : ℕ) (ts : List Tok) → AllKept source ts → AllKept source (past_place at ts)
kept_past source at [] k = tt
kept_past source at (t ∷ ts) k = by_test (nat_lt t.start at) (kept_past source at ts k.1)
  where
    by_test : (b : Bool) → AllKept source (past_place at ts) → AllKept source (cond b (past_place at ts) (t ∷ ts))
    by_test true more = more
    by_test false more = k

pub kept_without : (source : List Tok) (b : Bool) (ts : List Tok) → AllKept source ts → AllKept source (without_first b ts)
kept_without source true [] k = k
kept_without source true (t ∷ ts) k = k.1
kept_without source false ts k = k

pub kept_brace : (source ts : List Tok) → AllKept source ts → AllKept source (after_brace ts)
kept_brace source [] k = tt
kept_brace source (t ∷ ts) k = by_test (is (codes "{") t) (kept_brace source ts k.1)
  where
    by_test : (b : Bool) → AllKept source (after_brace ts) → AllKept source (cond b ts (after_brace ts))
    by_test true more = k.1
    by_test false more = more

pub kept_exit : (source : List Tok) (e : Option ℕ) (closing : Span) (ts : List Tok) → AllKept source ts → AllKept source (after_exit e closing ts)
kept_exit source None closing ts k = k
kept_exit source (Some b) closing ts k = kept_past source closing.start ts k

-- ---- what is known of the parts of these tokens

pub record Good (source ts : List Tok) (qs : List Part) : Type 0 where
  pub ahead : Ahead source qs
  pub ready : Comes source (what.Opening bracket.Brace) (words_of qs) ⊎ NextIsExit qs
  pub spells : Spells source ts (words_of qs)

good_copied : (source : List Tok) (t : Tok) (ts : List Tok) (qs : List Part) → IsKept source t → Good source ts qs → Good source (t ∷ ts) (copied t ∷ qs)
good_copied source t ts qs k g =
    record {
      ahead = (copied_is (λ w. Comes source w (words_of qs) ⊎ IsInner w qs) opening (inl (λ at. tt)) (inl (λ at. tt)) t, g.ahead);
      ready = inl (opens source t.text (words_of qs) (own_text source t k));
      spells = copy t k g.spells;
    }
  where
    opening : (b : Bracket) → Comes source (what.Opening b) (words_of qs) ⊎ IsInner (what.Opening b) qs
    opening bracket.Brace = g.ready
    opening b = inl (λ at. tt)

pub good_upto : (source : List Tok) (place : ℕ) (next : Parts) (ts : List Tok) → AllKept source ts → Good source (past_place place ts) (next (past_place place ts))
    → Good source ts (upto place next ts)
good_upto source place next [] k g = g
good_upto source place next (t ∷ ts) k g = by_test (nat_lt t.start place) g (λ g. good_upto source place next ts k.1 g)
  where
    by_test : (b : Bool) → Good source (cond b (past_place place ts) (t ∷ ts)) (next (cond b (past_place place ts) (t ∷ ts)))
        → (Good source (past_place place ts) (next (past_place place ts)) → Good source ts (upto place next ts))
        → Good source (t ∷ ts) (cond b (copied t ∷ upto place next ts) (next (t ∷ ts)))
    by_test true g more = good_copied source t ts (upto place next ts) k.0 (more g)
    by_test false g more = g

pub good_rest : (source ts : List Tok) → AllKept source ts → Good source ts (map copied ts)
good_rest source [] k = record { ahead = tt; ready = inl (opens_nothing source); spells = nothing }
good_rest source (t ∷ ts) k = good_copied source t ts (map copied ts) k.0 (good_rest source ts k.1)

abbrev pub IsMore : List Tok → Type 0
IsMore [] = ⊥
IsMore (t ∷ ts) = Unit {0}

-- the words begin with this one
abbrev pub FirstIs : List ℕ → List (List ℕ) → Type 0
FirstIs x [] = ⊥
FirstIs x (y ∷ ws) = y ≡ x

first_of : (fs : List p.Function) (t : Tok) (ts : List Tok) → FirstIs t.text (words_of (parts_in_functions fs (t ∷ ts)))
first_of [] t ts = refl
first_of (f ∷ rest) t ts =
    let next : Parts = body (type_at f.name_span.start (t ∷ ts)) f (parts_in_functions rest) in
    by_tests (nat_lt t.start f.name_span.end) (is (codes "{") t) (upto f.name_span.end (into_body next) ts) (next ts) (into_body next ts)
  where
    by_tests : (a b : Bool) (qs rs ss : List Part) → FirstIs t.text (words_of (cond a (copied t ∷ qs) (cond b (own (what.Opening bracket.Body) t ∷ rs) (copied t ∷ ss))))
    by_tests true b qs rs ss = refl
    by_tests false true qs rs ss = refl
    by_tests false false qs rs ss = refl

sees : (source : List Tok) (x : List ℕ) (ws : List (List ℕ)) → FirstIs x ws → bytes_eq x (codes "}") ≡ true → (at : ℕ) → sees_brace (tokens_at source at ws) ≡ true
sees source x [] f e at = absurd f
sees source x (y ∷ ws) f e at = ap (λ z. bytes_eq z (codes "}")) f ∙ e

-- an exit is followed by the `}` of the body
pub comes_exit : (source : List Tok) (b : ℕ) (fs : List p.Function) (t : Tok) (ts l : List Tok) → l ≡ t ∷ ts → is (codes "}") t ≡ true
    → Comes source (what.Exit b) (words_of (parts_in_functions fs l))
comes_exit source b fs t ts l e at_end =
    subst (λ l. Comes source (what.Exit b) (words_of (parts_in_functions fs l))) (sym e)
    (λ at. sees source t.text (words_of (parts_in_functions fs (t ∷ ts))) (first_of fs t ts) at_end at)

abbrev pub is_declaration : What → Bool
is_declaration (what.Declaration b) = true
is_declaration w = false

module _ (source : List Tok) (means : Each (IsToken Plain) source) where
  -- ---- the front of a function

  pub good_into : (next : Parts) (ts : List Tok) → AllKept source ts → IsMore (after_brace ts) → Ahead source (next (after_brace ts)) → Good source ts (into_body next ts)
  good_into next [] k some a = absurd some
  good_into next (t ∷ ts) k some a = by_test (is (codes "{") t) refl some a (λ some a. good_into next ts k.1 some a)
    where
      by_test : (b : Bool) → is (codes "{") t ≡ b → IsMore (cond b ts (after_brace ts)) → Ahead source (next (cond b ts (after_brace ts)))
          → (IsMore (after_brace ts) → Ahead source (next (after_brace ts)) → Good source ts (into_body next ts))
          → Good source (t ∷ ts) (cond b (own (what.Opening bracket.Body) t ∷ next ts) (copied t ∷ into_body next ts))
      by_test true e some a more = record {
        ahead = (inl (λ at. tt), a);
        ready = inl (opens source t.text (words_of (next ts)) (own_text source t k.0));
        spells = stop t.text (mild_text source t (codes "{") e (mild_brace source means));
      }
      by_test false e some a more = good_copied source t ts (into_body next ts) k.0 (more some a)

  pub ahead_front : (f : p.Function) (c : Bool) (o : Option ℕ) (next : Parts) (ts : List Tok) → Ahead source (next ts)
      → Ahead source (all_put (cond c (entry_row f o []) (record { what = what.Registers f.registers; span = f.name_span; end = f.closing.end } ∷ entry_row f o [])) next ts)
  ahead_front f true None next ts a = a
  ahead_front f true (Some b) next ts a = (inl (λ at. tt), a)
  ahead_front f false None next ts a = (inl (λ at. tt), a)
  ahead_front f false (Some b) next ts a = (inl (λ at. tt), (inl (λ at. tt), a))

  -- ---- the end of a function

  pub good_exit : (e : Option ℕ) (closing : Span) (next : Parts) (l : List Tok) → AllKept source l
      → ((b : ℕ) → Comes source (what.Exit b) (words_of (next (past_place closing.start l))))
      → Good source (after_exit e closing l) (next (after_exit e closing l)) → Good source l (exit_put e closing next l)
  good_exit None closing next l k c g = g
  good_exit (Some b) closing next l k c g =
      good_upto source closing.start (put [] (what.Exit b) next) l k
      (record { ahead = (inl (c b), g.ahead); ready = inr tt; spells = stop (codes "MCDC_H") (mild_hit source means) })

  abbrev has_end : List Tok → Bool
  has_end l = list_any (λ t. is (codes "}") t) l

  keeps_one : (t : Tok) (l : List Tok) (ws : List (List ℕ)) → IsKept source t → has_end (t ∷ l) ≡ true → (has_end l ≡ true → Keeps source l ws) → Keeps source (t ∷ l) (t.text ∷ ws)
  keeps_one t l ws k h more = by_test (is (codes "}") t) refl h
    where
      by_test : (b : Bool) → is (codes "}") t ≡ b → (b || has_end l) ≡ true → Keeps source (t ∷ l) (t.text ∷ ws)
      by_test true e h =
          let mild : IsMild source t.text = mild_text source t (codes "}") e (mild_end source means) in
          brace t t.text k mild mild
      by_test false e h = same t k (more h)

  keeps_rest : (l : List Tok) → AllKept source l → has_end l ≡ true → Keeps source l (words_of (map copied l))
  keeps_rest [] k h = absurd (cc)
  keeps_rest (t ∷ l) k h = keeps_one t l (words_of (map copied l)) k.0 h (λ h. keeps_rest l k.1 h)

  keeps_into : (next : Parts) (l : List Tok) → AllKept source l → has_end l ≡ true → Keeps source l (words_of (into_body next l))
  keeps_into next [] k h = absurd (cc)
  keeps_into next (t ∷ l) k h = by_test (is (codes "{") t) refl (keeps_one t l (words_of (into_body next l)) k.0 h (λ h. keeps_into next l k.1 h))
    where
      by_test : (b : Bool) → is (codes "{") t ≡ b → Keeps source (t ∷ l) (t.text ∷ words_of (into_body next l))
          → Keeps source (t ∷ l) (words_of (cond b (own (what.Opening bracket.Body) t ∷ next l) (copied t ∷ into_body next l)))
      by_test true e more =
          let mild : IsMild source t.text = mild_text source t (codes "{") e (mild_brace source means) in
          brace t t.text k.0 mild mild
      by_test false e more = more

  keeps_upto : (place : ℕ) (next : Parts) (l : List Tok) → AllKept source l → has_end l ≡ true → Keeps source l (words_of (upto place (into_body next) l))
  keeps_upto place next [] k h = absurd (cc)
  keeps_upto place next (t ∷ l) k h =
      by_test (nat_lt t.start place) (keeps_one t l (words_of (upto place (into_body next) l)) k.0 h (λ h. keeps_upto place next l k.1 h)) (keeps_into next (t ∷ l) k h)
    where
      by_test : (b : Bool) → Keeps source (t ∷ l) (t.text ∷ words_of (upto place (into_body next) l)) → Keeps source (t ∷ l) (words_of (into_body next (t ∷ l)))
          → Keeps source (t ∷ l) (words_of (cond b (copied t ∷ upto place (into_body next) l) (into_body next (t ∷ l))))
      by_test true one more = one
      by_test false one more = more

  keeps_functions : (fs : List p.Function) (l : List Tok) → AllKept source l → has_end l ≡ true → Keeps source l (words_of (parts_in_functions fs l))
  keeps_functions [] l k h = keeps_rest l k h
  keeps_functions (f ∷ rest) l k h = keeps_upto f.name_span.end (body (type_at f.name_span.start l) f (parts_in_functions rest)) l k h

  -- an exit at a `}`
  keeps_put : (b place : ℕ) (next : Parts) (c : Tok) (rest l : List Tok) → AllKept source l → past_place place l ≡ c ∷ rest → is (codes "}") c ≡ true
      → Keeps source l (words_of (upto place (put [] (what.Exit b) next) l))
  keeps_put b place next c rest [] k e at_brace = absurd (cc)
  keeps_put b place next c rest (t ∷ l) k e at_brace = by_test (nat_lt t.start place) e (λ e. keeps_put b place next c rest l k.1 e at_brace)
    where
      head_is : List Tok → Tok
      head_is [] = t
      head_is (x ∷ xs) = x

      by_test : (d : Bool) → cond d (past_place place l) (t ∷ l) ≡ c ∷ rest
          → (past_place place l ≡ c ∷ rest → Keeps source l (words_of (upto place (put [] (what.Exit b) next) l)))
          → Keeps source (t ∷ l) (words_of (cond d (copied t ∷ upto place (put [] (what.Exit b) next) l) (put [] (what.Exit b) next (t ∷ l))))
      by_test true e more = same t k.0 (more e)
      by_test false e more =
          brace t (codes "MCDC_H") k.0 (mild_text source t (codes "}") (ap (λ l. is (codes "}") (head_is l)) e ∙ at_brace) (mild_end source means)) (mild_hit source means)

  end_ahead : (place : ℕ) (c : Tok) (rest l : List Tok) → past_place place l ≡ c ∷ rest → is (codes "}") c ≡ true → has_end l ≡ true
  end_ahead place c rest [] e at_brace = absurd (cc)
  end_ahead place c rest (t ∷ l) e at_brace = by_test (nat_lt t.start place) e (λ e. end_ahead place c rest l e at_brace)
    where
      or_true : (b : Bool) → (b || true) ≡ true
      or_true true = refl
      or_true false = refl

      by_test : (d : Bool) → cond d (past_place place l) (t ∷ l) ≡ c ∷ rest → (past_place place l ≡ c ∷ rest → has_end l ≡ true) → has_end (t ∷ l) ≡ true
      by_test true e more = ap (λ b. is (codes "}") t || b) (more e) ∙ or_true (is (codes "}") t)
      by_test false e more = ap has_end e ∙ ap (λ b. b || has_end rest) at_brace

  pub keeps_exit : (e : Option ℕ) (closing : Span) (fs : List p.Function) (c : Tok) (rest l : List Tok) → AllKept source l → past_place closing.start l ≡ c ∷ rest → is (codes "}") c ≡ true
      → Keeps source l (words_of (exit_put e closing (parts_in_functions fs) l))
  keeps_exit None closing fs c rest l k e at_brace = keeps_functions fs l k (end_ahead closing.start c rest l e at_brace)
  keeps_exit (Some b) closing fs c rest l k e at_brace = keeps_put b closing.start (parts_in_functions fs) c rest l k e at_brace

  -- ---- rows among the tokens of a body

  pub row_spells : (type : List (List ℕ)) (w : What) (l : List Tok) (ws : List (List ℕ)) → Inner w → Spells source l (row_texts type w ++ ws)
  row_spells type what.Source l ws i = absurd (cc)
  row_spells type (what.Opening b) l ws i = absurd (cc)
  row_spells type what.Closing l ws i = absurd (cc)
  row_spells type (what.Registers n) l ws i = absurd (cc)
  row_spells type (what.Entry b) l ws i = absurd (cc)
  row_spells type (what.Exit b) l ws i = absurd (cc)
  row_spells type (what.Declaration b) l ws i = stop (codes "MCDC_H") (mild_hit source means)
  row_spells type (what.Label r b) l ws i = stop (codes "MCDC_L") (mild_label source means)
  row_spells type (what.Default r b) l ws i = stop (codes "MCDC_L") (mild_label source means)
  row_spells type (what.Statement b) l ws i = stop (codes "{") (mild_brace source means)
  row_spells type what.StatementEnd l ws i = stop (codes "}") (mild_end source means)
  row_spells type what.Value l ws i = stop (codes "{") (mild_brace source means)
  row_spells type (what.ValueEnd b) l ws i = stop (codes ";") (mild_semicolon source means)
  row_spells type (what.Return b) l ws i = stop (codes "{") (mild_brace source means)
  row_spells type what.ReturnEnd l ws i = stop (codes "}") (mild_end source means)
  row_spells type (what.Decision r base) l ws i = stop (codes "MCDC_D") (mild_decision source means)
  row_spells type (what.Condition r t f) l ws i = stop (codes "MCDC_C") (mild_condition source means)
  row_spells type (what.Switch r) l ws i = stop (codes "MCDC_W") (mild_switch source means)
  row_spells type what.OperandEnd l ws i = stop (codes ")") (mild_parenthesis source means)

  pub row_no_hit : (type : List (List ℕ)) (w : What) (ws : List (List ℕ)) → Inner w → is_declaration w ≡ false → (at : ℕ) → is_hit (tokens_at source at (row_texts type w ++ ws)) ≡ false
  unfolding hit
  row_no_hit type what.Source ws i d at = absurd (cc)
  row_no_hit type (what.Opening b) ws i d at = absurd (cc)
  row_no_hit type what.Closing ws i d at = absurd (cc)
  row_no_hit type (what.Registers n) ws i d at = absurd (cc)
  row_no_hit type (what.Entry b) ws i d at = absurd (cc)
  row_no_hit type (what.Exit b) ws i d at = absurd (cc)
  row_no_hit type (what.Declaration b) ws i d at = absurd (cc)
  row_no_hit type w ws i d at = refl
