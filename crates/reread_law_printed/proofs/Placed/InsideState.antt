-- What is open at each part, and whether a `)` stands directly before it.
use Rattle.std.proofs.Common.{◌≡◌, ◌-◌, ℕ, Bool, true, false, ◌&&◌, ◌||◌, not, cond, List, [], ◌∷◌, ◌++◌, length, take, Some, codes, refl, sym, ap, subst, ◌∙◌}
use Rattle.std.specs.Prelude.{option_to_list}
use Rattle.std.specs.Str.{bytes_eq}
use Rattle.mc_lex.specs.Tokens.{Tok}
use Rattle.mc_lex.proofs.Texts.{same_text}
use Rattle.reread_pieces.specs.declared.bracket.Bracket.{Bracket}
use Rattle.reread_pieces.specs.declared.bracket.Bracket.TheVariants as bracket
use Rattle.reread_pieces.specs.declared.site.Before.TheVariants as before
use Rattle.reread_pieces.specs.declared.piece.What.{What}
use Rattle.reread_pieces.specs.declared.piece.What.TheVariants as what
use Rattle.reread_pieces.specs.Words.{is, is_name, before_of}
use Rattle.reread_pieces.specs.Rows.{is_parenthesis, is_body, is_statement, is_nothing}
use Rattle.reread_pieces.specs.Pieces.{Here, innermost, brackets_after, before_after, is_front, opened, closes}
use Rattle.reread_law_printed.specs.parts.Parts.{Part, words_of}
use Rattle.reread_law_printed.specs.parts.Marks.{first_token}
use Rattle.reread_law_printed.specs.parts.Marks as marks
use Rattle.reread_law_printed.specs.parts.Closed.{top, below, open_after, first_text, MayClose, AllClose}
use Rattle.reread_law_printed.specs.parts.Shaped.{after_part}
use Rattle.reread_law_printed.specs.placed.Needs.{InsideBy, Inside, Along}
use Rattle.reread_law_printed.proofs.Parts.Placing.{turned, innermost_is, without_last, with_opened}

-- ---- the innermost is the last

pub brackets_are : (bs : List Bracket) (w : What) → brackets_after (turned bs) w ≡ turned (open_after bs w)
brackets_are bs w = by_test (closes w)
  where
    by_test : (c : Bool) → cond c (take (length (turned bs) - 1) (turned bs)) (turned bs ++ option_to_list (opened w)) ≡ turned (cond c (below bs) (option_to_list (opened w) ++ bs))
    by_test true = without_last bs
    by_test false = with_opened bs (opened w)

-- ---- a body is the outermost bracket

abbrev pub is_in : List Bracket → Bool
is_in [] = false
is_in (b ∷ bs) = is_body (Some b) || is_in bs

abbrev pub Proper : List Bracket → Type 0
Proper [] = Unit {0}
Proper (b ∷ bs) = (is_body (Some b) ≡ true → bs ≡ []) × Proper bs

-- whether a `)` stands there
abbrev pub parenthesis : What → List (List ℕ) → Bool
parenthesis what.Source texts = bytes_eq (first_text texts) (codes ")")
parenthesis what.Closing texts = bytes_eq (first_text texts) (codes ")")
parenthesis w texts = false

-- what a part needs, but for an absent `default`
abbrev pub Says : List Bracket → Bool → What → Type 0
Says bs b (what.Opening bracket.Brace) = (is_nothing (top bs) && b) ≡ false
Says bs b (what.Opening bracket.Body) = (bs ≡ []) × (b ≡ true)
Says bs b (what.Declaration n) = is_in bs ≡ true
Says bs b (what.Label r n) = is_in bs ≡ true
Says bs b (what.Statement n) = is_in bs ≡ true
Says bs b w = Unit {0}

abbrev pub AllIn : List Bracket → Bool → List Part → Type 0
AllIn bs b [] = Unit {0}
AllIn bs b (q ∷ qs) = Says bs b q.what × AllIn (open_after bs q.what) (parenthesis q.what q.texts) qs

-- An absent `default` is followed by the end of its statement.
abbrev pub NextEnds : List Part → Type 0
NextEnds [] = ⊥
NextEnds (q ∷ qs) = q.what ≡ what.StatementEnd

abbrev pub EndsBy : What → List Part → Type 0
EndsBy (what.Default r n) qs = NextEnds qs
EndsBy w qs = Unit {0}

abbrev pub DefaultsEnd : List Part → Type 0
DefaultsEnd [] = Unit {0}
DefaultsEnd (q ∷ qs) = EndsBy q.what qs × DefaultsEnd qs

-- ---- after a part

abbrev pub run : List Bracket → List Part → List Bracket
run bs [] = bs
run bs (q ∷ qs) = run (open_after bs q.what) qs

abbrev pub last_parenthesis : Bool → List Part → Bool
last_parenthesis b [] = b
last_parenthesis b (q ∷ qs) = last_parenthesis (parenthesis q.what q.texts) qs

pub run_both : (bs : List Bracket) (xs ys : List Part) → run bs (xs ++ ys) ≡ run (run bs xs) ys
run_both bs [] ys = refl
run_both bs (x ∷ xs) ys = run_both (open_after bs x.what) xs ys

pub in_both : (bs : List Bracket) (b : Bool) (xs ys : List Part) → AllIn bs b xs → AllIn (run bs xs) (last_parenthesis b xs) ys → AllIn bs b (xs ++ ys)
in_both bs b [] ys h k = k
in_both bs b (x ∷ xs) ys h k = (h.0, in_both (open_after bs x.what) (parenthesis x.what x.texts) xs ys h.1 k)

and_true : (a : Bool) → (a && true) ≡ a
and_true true = refl
and_true false = refl

closed_in : (bs : List Bracket) → Proper bs → (is_in bs && not (is_body (top bs))) ≡ is_in (below bs)
closed_in [] h = refl
closed_in (b ∷ bs) h = by_test (is_body (Some b)) h.0
  where
    by_test : (c : Bool) → (c ≡ true → bs ≡ []) → ((c || is_in bs) && not c) ≡ is_in bs
    by_test true e = sym (ap is_in (e refl))
    by_test false e = and_true (is_in bs)

in_after : (bs : List Bracket) (w : What) → Proper bs → (is_front w || (is_in bs && not (closes w && is_body (top bs)))) ≡ is_in (open_after bs w)
in_after bs (what.Opening b) h = ap (λ x. is_body (Some b) || x) (and_true (is_in bs))
in_after bs what.Closing h = closed_in bs h
in_after bs what.StatementEnd h = closed_in bs h
in_after bs (what.ValueEnd n) h = closed_in bs h
in_after bs what.ReturnEnd h = closed_in bs h
in_after bs what.OperandEnd h = closed_in bs h
in_after bs w h = and_true (is_in bs)

proper_below : (bs : List Bracket) → Proper bs → Proper (below bs)
proper_below [] h = tt
proper_below (b ∷ bs) h = h.1

proper_opened : (bs : List Bracket) (b : Bool) (x : Bracket) → Says bs b (what.Opening x) → Proper bs → Proper (x ∷ bs)
proper_opened bs b bracket.Body s h = (λ e. s.0, h)
proper_opened bs b x s h = (λ e. absurd (cc), h)

proper_after : (bs : List Bracket) (b : Bool) (w : What) → Says bs b w → Proper bs → Proper (open_after bs w)
proper_after bs b (what.Opening x) s h = proper_opened bs b x s h
proper_after bs b what.Closing s h = proper_below bs h
proper_after bs b what.StatementEnd s h = proper_below bs h
proper_after bs b (what.ValueEnd n) s h = proper_below bs h
proper_after bs b what.ReturnEnd s h = proper_below bs h
proper_after bs b what.OperandEnd s h = proper_below bs h
proper_after bs b (what.Statement n) s h = (λ e. absurd (cc), h)
proper_after bs b what.Value s h = (λ e. absurd (cc), h)
proper_after bs b (what.Return n) s h = (λ e. absurd (cc), h)
proper_after bs b (what.Decision r base) s h = (λ e. absurd (cc), h)
proper_after bs b (what.Condition r t f) s h = (λ e. absurd (cc), h)
proper_after bs b (what.Switch r) s h = (λ e. absurd (cc), h)
proper_after bs b w s h = h

no_colon : (t : Tok) → is (codes ":") t ≡ true → is (codes ")") t ≡ false
no_colon t e = ap (λ x. bytes_eq x (codes ")")) (same_text t.text (codes ":") e)

before_is : (t : Tok) → is_parenthesis (before_of t) ≡ is (codes ")") t
before_is t = by_tests (is (codes ":") t) refl (is (codes ")") t) refl (is_name t)
  where
    by_tests : (a : Bool) → is (codes ":") t ≡ a → (b : Bool) → is (codes ")") t ≡ b → (c : Bool)
        → is_parenthesis (cond a before.Colon (cond b before.Parenthesis (cond c before.Name before.Other))) ≡ b
    by_tests true e b f c = sym (no_colon t e) ∙ f
    by_tests false e true f c = refl
    by_tests false e false f true = refl
    by_tests false e false f false = refl

text_is : (source : List Tok) (at : ℕ) (texts : List (List ℕ)) → is (codes ")") (first_token source at texts) ≡ bytes_eq (first_text texts) (codes ")")
text_is source at [] = refl
text_is source at (text ∷ texts) = refl

parenthesis_after : (source : List Tok) (at : ℕ) (w : What) (texts : List (List ℕ)) → is_parenthesis (before_after w (first_token source at texts)) ≡ parenthesis w texts
parenthesis_after source at what.Source texts = before_is (first_token source at texts) ∙ text_is source at texts
parenthesis_after source at what.Closing texts = before_is (first_token source at texts) ∙ text_is source at texts
parenthesis_after source at (what.Opening b) texts = by_test (is_body (Some b))
  where
    by_test : (c : Bool) → is_parenthesis (cond c before.Front before.Other) ≡ false
    by_test true = refl
    by_test false = refl
parenthesis_after source at w texts = refl

-- ---- all parts

end_top : (bs : List Bracket) (qs : List Part) → NextEnds qs → AllClose bs qs → top bs ≡ Some bracket.Statement
end_top bs [] h c = absurd h
end_top bs (q ∷ qs) h c = subst (λ w. MayClose bs w q.texts) h c.0

module _ (source : List Tok) where
  inside_by : (h : Here) (bs : List Bracket) (b : Bool) (w : What) (qs : List Part) → innermost h.brackets ≡ top bs → h.inside ≡ is_in bs → is_parenthesis h.before ≡ b
      → Says bs b w → EndsBy w qs → AllClose (open_after bs w) qs → InsideBy h w
  inside_by h bs b (what.Opening bracket.Brace) qs inner i e s d c =
      ap (λ o. is_nothing o && is_parenthesis h.before) inner ∙ (ap (λ x. is_nothing (top bs) && x) e ∙ s)
  inside_by h bs b (what.Opening bracket.Body) qs inner i e s d c = (ap is_nothing (inner ∙ ap top s.0), i ∙ ap is_in s.0, e ∙ s.1)
  inside_by h bs b (what.Declaration n) qs inner i e s d c = i ∙ s
  inside_by h bs b (what.Label r n) qs inner i e s d c = i ∙ s
  inside_by h bs b (what.Statement n) qs inner i e s d c = i ∙ s
  inside_by h bs b (what.Default r n) qs inner i e s d c = ap is_statement (inner ∙ end_top bs qs d c)
  inside_by h bs b w qs inner i e s d c = tt

  pub along : (qs : List Part) (bs : List Bracket) (b : Bool) (h : Here) (at : ℕ) → h.brackets ≡ turned bs → h.inside ≡ is_in bs → is_parenthesis h.before ≡ b → Proper bs
      → AllIn bs b qs → AllClose bs qs → DefaultsEnd qs → Along source Inside h at qs
  along [] bs b h at e i f pr a c d = tt
  along (q ∷ qs) bs b h at e i f pr a c d =
      let inner : innermost h.brackets ≡ top bs = ap innermost e ∙ innermost_is bs in (
        inside_by h bs b q.what qs inner i f a.0 d.0 c.1,
        along qs (open_after bs q.what) (parenthesis q.what q.texts) (after_part source h at q (words_of qs)) (marks.after at q.texts)
            (ap (λ l. brackets_after l q.what) e ∙ brackets_are bs q.what)
            (ap (λ x. is_front q.what || (x && not (closes q.what && is_body (innermost h.brackets)))) i
            ∙ (ap (λ o. is_front q.what || (is_in bs && not (closes q.what && is_body o))) inner ∙ in_after bs q.what pr))
            (parenthesis_after source at q.what q.texts)
            (proper_after bs b q.what a.0 pr) a.1 c.1 d.1,
      )
