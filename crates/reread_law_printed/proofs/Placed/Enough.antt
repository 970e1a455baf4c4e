-- Where each part has what it needs, it may stand where it does.
use Rattle.std.proofs.Common.{◌≡◌, inl, inr, ℕ, Bool, true, false, ◌&&◌, ◌||◌, cond, List, [], ◌∷◌, codes, refl, sym, ap, ◌∙◌, append_assoc}
use Rattle.mc_lex.specs.Tokens.{Tok}
use Rattle.mc_lex.proofs.Texts.{same_text}
use Rattle.reread_pieces.specs.declared.bracket.Bracket.TheVariants as bracket
use Rattle.reread_pieces.specs.declared.word.Word.{Word}
use Rattle.reread_pieces.specs.declared.word.Word.TheVariants as word
use Rattle.reread_pieces.specs.declared.site.Before.{Before}
use Rattle.reread_pieces.specs.declared.site.Before.TheVariants as before
use Rattle.reread_pieces.specs.declared.piece.What.{What}
use Rattle.reread_pieces.specs.declared.piece.What.TheVariants as what
use Rattle.reread_pieces.specs.Words.{is, word_of, probe_word}
use Rattle.reread_pieces.specs.Shapes.{hit, statement}
use Rattle.reread_pieces.specs.Rows.{is_after_statement, is_parenthesis, is_nothing, is_counted, is_hit, is_no_declaration, after_tokens}
use Rattle.reread_pieces.specs.Pieces.{Here, innermost}
use Rattle.reread_law_printed.specs.parts.Parts.{Part, what_of, row_texts, words_of}
use Rattle.reread_law_printed.specs.parts.Marks as marks
use Rattle.reread_law_printed.specs.parts.Shaped.{tokens_at, after_part}
use Rattle.reread_law_printed.specs.parts.Placed.{MayFollow, MayPrecede, IsPlaced, ends, kept, put}
use Rattle.reread_law_printed.specs.placed.Needs.{IsSaid, IsSpelled, token, body, row, FrontBy, AfterBy, FollowedBy, InsideBy, TypeBy, Front, After, Followed, Inside, Typed}
use Rattle.reread_law_printed.specs.placed.Laws.{NeedsAreEnough}

-- ---- tests

not_counted : (i f g n : Bool) → (g && n) ≡ false → ((i && (f && g)) && n) ≡ false
not_counted false f g n e = refl
not_counted true false g n e = refl
not_counted true true g n e = e

parenthesis_only : (b : Before) → is_parenthesis b ≡ true → is_after_statement b ≡ false
parenthesis_only before.Statement e = absurd (cc)
parenthesis_only b e = refl

none_of : (a b c : Bool) → (a || b || c) ≡ false → (a ≡ false) × (b ≡ false) × (c ≡ false)
none_of true b c e = absurd (cc)
none_of false true c e = absurd (cc)
none_of false false c e = (refl, refl, e)

both_true : (a b : Bool) → a ≡ true → b ≡ true → (a && b) ≡ true
both_true a b e f = ap (λ c. c && b) e ∙ f

-- ---- a token of the source

module _ (source : List Tok) (h : Here) where
  pub record Needs (w : What) (later : List Tok) : Type 0 where
    pub front : FrontBy h w
    pub after : AfterBy h w
    pub followed : FollowedBy w later
    pub inside : InsideBy h w

  word_is : (at : ℕ) (text other : List ℕ) (x : Word) → word_of (marks.token source at other) ≡ x → text ≡ other → word_of (marks.token source at text) ≡ x
  word_is at text other x e f = ap (λ y. word_of (marks.token source at y)) f ∙ e

  not_a_row : (t : Tok) (later : List Tok) → (is_hit later && is_no_declaration (after_tokens 5 later)) ≡ false
      → (h.inside && is_counted (t ∷ later) && is_no_declaration (after_tokens 5 later)) ≡ false
  unfolding hit statement
  not_a_row t later e = not_counted h.inside (is (codes "{") t) (is_hit later) (is_no_declaration (after_tokens 5 later)) e

  -- no bracket
  other_word : (t : Tok) → is (codes "(") t ≡ false → is (codes "[") t ≡ false → is (codes "{") t ≡ false
      → (is (codes ")") t ≡ false) × (is (codes "]") t ≡ false) × (is (codes "}") t ≡ false) → is (codes ";") t ≡ false → word_of t ≡ probe_word t
  other_word t a b c d s =
      ap (λ x. cond x word.OpenParenthesis (cond (is (codes ")") t) word.CloseParenthesis (cond (is (codes "[") t) word.OpenSquare (cond (is (codes "]") t) word.CloseSquare (cond (is (codes "{") t) word.OpenBrace (cond (is (codes "}") t) word.CloseBrace (cond (is (codes ";") t) word.Semicolon (probe_word t)))))))) a
      ∙ (ap (λ x. cond x word.CloseParenthesis (cond (is (codes "[") t) word.OpenSquare (cond (is (codes "]") t) word.CloseSquare (cond (is (codes "{") t) word.OpenBrace (cond (is (codes "}") t) word.CloseBrace (cond (is (codes ";") t) word.Semicolon (probe_word t))))))) d.0
      ∙ (ap (λ x. cond x word.OpenSquare (cond (is (codes "]") t) word.CloseSquare (cond (is (codes "{") t) word.OpenBrace (cond (is (codes "}") t) word.CloseBrace (cond (is (codes ";") t) word.Semicolon (probe_word t)))))) b
      ∙ (ap (λ x. cond x word.CloseSquare (cond (is (codes "{") t) word.OpenBrace (cond (is (codes "}") t) word.CloseBrace (cond (is (codes ";") t) word.Semicolon (probe_word t))))) d.1
      ∙ (ap (λ x. cond x word.OpenBrace (cond (is (codes "}") t) word.CloseBrace (cond (is (codes ";") t) word.Semicolon (probe_word t)))) c
      ∙ (ap (λ x. cond x word.CloseBrace (cond (is (codes ";") t) word.Semicolon (probe_word t))) d.2
      ∙ ap (λ x. cond x word.Semicolon (probe_word t)) s)))))

  module _ (at : ℕ) (t : Tok) (later : List Tok) where
    abbrev here : Tok
    here = marks.token source at t.text

    source_may : probe_word t ≡ word.Other → is (codes "(") t ≡ false → is (codes "[") t ≡ false → is (codes "{") t ≡ false
        → (is (codes ")") t || is (codes "]") t || is (codes "}") t) ≡ false → Needs what.Source later → MayFollow h what.Source here later
    source_may o a b c d n = by_test (is (codes ";") t) refl
      where
        by_test : (s : Bool) → is (codes ";") t ≡ s → MayFollow h what.Source here later
        by_test true e = inr e
        by_test false e = inl (other_word here a b c (none_of (is (codes ")") t) (is (codes "]") t) (is (codes "}") t) d) e ∙ o, n.front)

    token_may : probe_word t ≡ word.Other → Needs (what_of t) later → MayFollow h (what_of t) here later
    token_may o = by_tests (is (codes "(") t) refl (is (codes "[") t) refl (is (codes "{") t) refl (is (codes ")") t || is (codes "]") t || is (codes "}") t) refl
      where
        by_tests : (a : Bool) → is (codes "(") t ≡ a → (b : Bool) → is (codes "[") t ≡ b → (c : Bool) → is (codes "{") t ≡ c
            → (d : Bool) → (is (codes ")") t || is (codes "]") t || is (codes "}") t) ≡ d
            → Needs (cond a (what.Opening bracket.Parenthesis) (cond b (what.Opening bracket.Square) (cond c (what.Opening bracket.Brace) (cond d what.Closing what.Source)))) later
            → MayFollow h (cond a (what.Opening bracket.Parenthesis) (cond b (what.Opening bracket.Square) (cond c (what.Opening bracket.Brace) (cond d what.Closing what.Source)))) here later
        by_tests true ea b eb c ec d ed n = word_is at t.text (codes "(") word.OpenParenthesis refl (same_text t.text (codes "(") ea)
        by_tests false ea true eb c ec d ed n = word_is at t.text (codes "[") word.OpenSquare refl (same_text t.text (codes "[") eb)
        by_tests false ea false eb true ec d ed n =
            ((word_is at t.text (codes "{") word.OpenBrace refl (same_text t.text (codes "{") ec), n.after, not_a_row here later n.followed), n.inside)
        by_tests false ea false eb false ec true ed n = tt
        by_tests false ea false eb false ec false ed n = source_may o ea eb ec ed n

    body_may : is (codes "{") t ≡ true → Needs (what.Opening bracket.Body) later → MayFollow h (what.Opening bracket.Body) here later
    body_may e n =
        let inside = n.inside in (
          (
            word_is at t.text (codes "{") word.OpenBrace refl (same_text t.text (codes "{") e),
            parenthesis_only h.before inside.2,
            ap (λ b. b && is_counted (here ∷ later) && is_no_declaration (after_tokens 5 later)) inside.1,
          ),
          both_true (is_nothing (innermost h.brackets)) (is_parenthesis h.before) inside.0 inside.2,
        )

  -- ---- a row

  row_may : (type : List (List ℕ)) (w : What) (later : List Tok) → IsSaid type w → TypeBy h w (row_texts type w) → Needs w later → MayPrecede h type w later
  row_may type (what.Registers n) later s y k = (k.front, s.0, s.1)
  row_may type (what.Entry b) later s y k = (k.front, s)
  row_may type (what.Exit b) later s y k = (k.front, k.followed, s)
  row_may type (what.Declaration b) later s y k = let f = k.followed in (k.front, f.0, k.inside, f.1, s)
  row_may type (what.Label r b) later s y k = (k.inside, k.after, s.0, s.1)
  row_may type (what.Default r b) later s y k = (k.after, k.inside, s.0, s.1)
  row_may type (what.Statement b) later s y k = let f = k.followed in (k.after, k.inside, f.0, f.1, s)
  row_may type what.StatementEnd later s y k = k.after
  row_may type what.Value later s y k = (k.after, y ∙ sym (append_assoc type (codes "mcdc_v" ∷ []) (codes "=" ∷ [])), s)
  row_may type (what.ValueEnd b) later s y k = s
  row_may type (what.Return b) later s y k = (k.after, k.followed, s)
  row_may type what.ReturnEnd later s y k = tt
  row_may type (what.Decision r base) later s y k = (k.after, s.0, s.1)
  row_may type (what.Condition r t f) later s y k = (k.after, s.0, s.1, s.2)
  row_may type (what.Switch r) later s y k = (k.after, s)
  row_may type what.OperandEnd later s y k = tt
  row_may type w later s y k = absurd s

-- ---- all parts

pub enough : NeedsAreEnough
enough source h at [] spelled f a l i y = ends
enough source h at (q ∷ qs) spelled f a l i y = by_part q spelled.0 f.0 a.0 l.0 i.0 y.0 (enough source (after_part source h at q (words_of qs)) (marks.after at q.texts) qs spelled.1 f.1 a.1 l.1 i.1 y.1)
  where
    by_part : (q : Part) → IsSpelled q → Front h q (tokens_at source (marks.after at q.texts) (words_of qs)) → After h q (tokens_at source (marks.after at q.texts) (words_of qs))
        → Followed h q (tokens_at source (marks.after at q.texts) (words_of qs)) → Inside h q (tokens_at source (marks.after at q.texts) (words_of qs))
        → Typed h q (tokens_at source (marks.after at q.texts) (words_of qs))
        → IsPlaced source (after_part source h at q (words_of qs)) (marks.after at q.texts) qs → IsPlaced source h at (q ∷ qs)
    by_part _ (token t o) f a l i y more =
        kept (what_of t) t (token_may source h at t (tokens_at source (marks.after at (t.text ∷ [])) (words_of qs)) o (record { front = f; after = a; followed = l; inside = i })) more
    by_part _ (body t e) f a l i y more =
        kept (what.Opening bracket.Body) t (body_may source h at t (tokens_at source (marks.after at (t.text ∷ [])) (words_of qs)) e (record { front = f; after = a; followed = l; inside = i })) more
    by_part _ (row type w s) f a l i y more =
        put type w (row_may source h type w (tokens_at source (marks.after at (row_texts type w)) (words_of qs)) s y (record { front = f; after = a; followed = l; inside = i })) more
