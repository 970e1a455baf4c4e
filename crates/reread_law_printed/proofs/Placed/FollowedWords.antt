-- With which tokens words begin: with a declaration, with `}`, with the name of a probe.
use Rattle.std.proofs.Common.{◌≡◌, ℕ, Bool, true, false, not, ◌&&◌, ◌||◌, cond, List, [], ◌∷◌, ◌++◌, Ok, codes, decimal, refl, sym, ap, subst, ◌∙◌}
use Rattle.std.specs.List.{AllByRecursion as Each, list_any}
use Rattle.std.specs.Str.{bytes_eq}
use Rattle.mc_lex.specs.declared.token.TokenKind.{TokenKind}
use Rattle.mc_lex.specs.declared.token.TokenKind.TheVariants.{Keyword, Punctuator}
use Rattle.mc_lex.specs.declared.token.Dialect.TheVariants.{Plain, Instrumented}
use Rattle.mc_lex.specs.Tokens.{Tok}
use Rattle.mc_lex.specs.Words.{one_of, probe_names}
use Rattle.mc_lex.specs.Scans.{Means}
use Rattle.mc_lex.proofs.Texts.{same_text, not_both}
use Rattle.reread_pieces.specs.declared.bracket.Bracket.TheVariants as bracket
use Rattle.reread_pieces.specs.declared.word.Word.{Word}
use Rattle.reread_pieces.specs.declared.word.Word.TheVariants as word
use Rattle.reread_pieces.specs.declared.piece.What.{What}
use Rattle.reread_pieces.specs.declared.piece.What.TheVariants as what
use Rattle.reread_pieces.specs.Words.{is, is_identifier_kind, is_identifier, is_one_of, specifiers, begins_declaration, begins_product}
use Rattle.reread_pieces.specs.Shapes.{hit}
use Rattle.reread_pieces.specs.Rows.{is_hit, is_no_declaration, sees_brace, after_tokens}
use Rattle.reread_law_printed.specs.spelled.Words.{IsToken, IsInserted, inserted_words, inserted_punctuators, kind_in}
use Rattle.reread_law_printed.specs.spelled.Words as inserted
use Rattle.reread_law_printed.proofs.Spelled.Meanings.{kept}
use Rattle.reread_law_printed.proofs.Spelled.Inserted.{insertion_means, same_kind, inserted_is}
use Rattle.reread_law_printed.specs.parts.Parts.{row_texts}
use Rattle.reread_law_printed.specs.parts.Marks as marks
use Rattle.reread_law_printed.specs.parts.Shaped.{tokens_at}
use Rattle.reread_law_printed.specs.placed.Needs.{IsOwnWord, FollowedBy}

-- ---- truth values

pub first_false : (a b : Bool) → a ≡ false → (a && b) ≡ false
first_false a b e = ap (λ c. c && b) e

left_false : (a b : Bool) → (a || b) ≡ false → a ≡ false
left_false true b e = absurd (cc)
left_false false b e = refl

left_true : (a b : Bool) → a ≡ true → (a || b) ≡ true
left_true a b e = ap (λ c. c || b) e

-- a declaration begins with a specifier, or with two names
neither : (s i c : Bool) → s ≡ false → i ≡ false → (s || (i && c)) ≡ false
neither s i c e f = ap (λ b. b || (i && c)) e ∙ ap (λ b. b && c) f

no_second : (s i j v : Bool) → s ≡ false → j ≡ false → v ≡ false → (s || (i && (j || v))) ≡ false
no_second false false false false e f g = refl
no_second false true false false e f g = refl
no_second true i j v e f g = absurd (cc)
no_second false i true v e f g = absurd (cc)
no_second false i false true e f g = absurd (cc)

first_only : (s i j v : Bool) → j ≡ false → v ≡ false → (s || (i && (j || v))) ≡ true → s ≡ true
first_only true i j v e f g = refl
first_only false false j v e f g = absurd (cc)
first_only false true true v e f g = absurd (cc)
first_only false true false true e f g = absurd (cc)
first_only false true false false e f g = absurd (cc)

no_counted : (a b c : Bool) → b ≡ true → (a && (not b && c)) ≡ false
no_counted true b c e = ap (λ d. not d && c) e
no_counted false b c e = refl

-- ---- words with which no declaration begins

-- It is no specifier and no name.
pub record IsMild (source : List Tok) (x : List ℕ) : Type 0 where
  pub name : is_identifier_kind (kind_in source x) ≡ false
  pub specifier : list_any (bytes_eq x) specifiers ≡ false

-- A token of the source is no name of a probe, and of the kind that the source gives its text.
abbrev pub IsKept : List Tok → Tok → Type 0
IsKept source t = IsOwnWord t × (kind_in source t.text ≡ t.kind)

-- These words are those of the tokens, or a row stands among them, with whose first word no
-- declaration begins.
pub data Spells (source : List Tok) : List Tok → List (List ℕ) → Type 0 where
  nothing : {l : List Tok} → Spells source l []
  stop : {l : List Tok} {ws : List (List ℕ)} (x : List ℕ) → IsMild source x → Spells source l (x ∷ ws)
  copy : {l : List Tok} {ws : List (List ℕ)} (t : Tok) → IsKept source t → Spells source l ws → Spells source (t ∷ l) (t.text ∷ ws)

-- They are those of the tokens up to one with which no declaration begins.
pub data Keeps (source : List Tok) : List Tok → List (List ℕ) → Type 0 where
  brace : {l : List Tok} {ws : List (List ℕ)} (t : Tok) (x : List ℕ)
      → IsKept source t → IsMild source t.text → IsMild source x → Keeps source (t ∷ l) (x ∷ ws)
  same : {l : List Tok} {ws : List (List ℕ)} (t : Tok) → IsKept source t → Keeps source l ws → Keeps source (t ∷ l) (t.text ∷ ws)

kind_is : (x : List ℕ) (k : TokenKind) → IsInserted x k → (source : List Tok) → Each (IsToken Plain) source → kind_in source x ≡ k
kind_is x k i [] m = inserted_is x k i
kind_is x k i (t ∷ ts) m = by_test (bytes_eq t.text x) refl (kind_is x k i ts m.1)
  where
    by_test : (b : Bool) → bytes_eq t.text x ≡ b → kind_in ts x ≡ k → cond b t.kind (kind_in ts x) ≡ k
    by_test true e more =
        let here = kept t.text t.kind m.0 in
        same_kind x t.kind k (subst (λ y. Means Instrumented y (Ok t.kind)) (same_text t.text x e) here.0) (insertion_means x k i)
    by_test false e more = more

module _ (source : List Tok) (means : Each (IsToken Plain) source) where
  pub mild_word : (x : List ℕ) → one_of inserted_words x ≡ true → list_any (bytes_eq x) specifiers ≡ false → IsMild source x
  mild_word x o e = record { name = ap is_identifier_kind (kind_is x Keyword (inserted.word x o) source means); specifier = e }

  pub mild_mark : (x : List ℕ) → one_of inserted_punctuators x ≡ true → list_any (bytes_eq x) specifiers ≡ false → IsMild source x
  mild_mark x o e = record { name = ap is_identifier_kind (kind_is x Punctuator (inserted.punctuator x o) source means); specifier = e }

  pub mild_hit : IsMild source (codes "MCDC_H")
  unfolding inserted_words probe_names specifiers
  mild_hit = mild_word (codes "MCDC_H") refl refl

  pub mild_label : IsMild source (codes "MCDC_L")
  unfolding inserted_words probe_names specifiers
  mild_label = mild_word (codes "MCDC_L") refl refl

  pub mild_decision : IsMild source (codes "MCDC_D")
  unfolding inserted_words probe_names specifiers
  mild_decision = mild_word (codes "MCDC_D") refl refl

  pub mild_condition : IsMild source (codes "MCDC_C")
  unfolding inserted_words probe_names specifiers
  mild_condition = mild_word (codes "MCDC_C") refl refl

  pub mild_switch : IsMild source (codes "MCDC_W")
  unfolding inserted_words probe_names specifiers
  mild_switch = mild_word (codes "MCDC_W") refl refl

  pub mild_brace : IsMild source (codes "{")
  unfolding inserted_punctuators specifiers
  mild_brace = mild_mark (codes "{") refl refl

  pub mild_end : IsMild source (codes "}")
  unfolding inserted_punctuators specifiers
  mild_end = mild_mark (codes "}") refl refl

  pub mild_parenthesis : IsMild source (codes ")")
  unfolding inserted_punctuators specifiers
  mild_parenthesis = mild_mark (codes ")") refl refl

  pub mild_semicolon : IsMild source (codes ";")
  unfolding inserted_punctuators specifiers
  mild_semicolon = mild_mark (codes ";") refl refl

module _ (source : List Tok) where
  pub mild_text : (t : Tok) (x : List ℕ) → is x t ≡ true → IsMild source x → IsMild source t.text
  mild_text t x e m = subst (IsMild source) (sym (same_text t.text x e)) m

  -- ---- with what declarations begin

  mild_first : (x : List ℕ) (ws : List (List ℕ)) → IsMild source x → (at : ℕ) → begins_declaration (tokens_at source at (x ∷ ws)) ≡ false
  mild_first x [] m at = m.specifier
  mild_first x (y ∷ ws) m at = neither (list_any (bytes_eq x) specifiers) (is_identifier_kind (kind_in source x)) _ m.specifier m.name

  mild_token : (t : Tok) (l : List Tok) → IsKept source t → IsMild source t.text → begins_declaration (t ∷ l) ≡ false
  mild_token t [] k m = m.specifier
  mild_token t (u ∷ l) k m = neither (is_one_of specifiers t) (is_identifier t) _ m.specifier (sym (ap is_identifier_kind k.1) ∙ m.name)

  no_specifier : (t : Tok) (l : List Tok) → begins_declaration (t ∷ l) ≡ false → is_one_of specifiers t ≡ false
  no_specifier t [] e = e
  no_specifier t (u ∷ l) e = left_false (is_one_of specifiers t) _ e

  specifier_first : (t : Tok) (ws : List (List ℕ)) → is_one_of specifiers t ≡ true → (at : ℕ) → begins_declaration (tokens_at source at (t.text ∷ ws)) ≡ true
  specifier_first t [] e at = e
  specifier_first t (x ∷ ws) e at = left_true (is_one_of specifiers t) _ e

  same_two : (t u : Tok) (l : List Tok) (ws : List (List ℕ)) → IsKept source t → IsKept source u → (at : ℕ)
      → begins_declaration (tokens_at source at (t.text ∷ u.text ∷ ws)) ≡ begins_declaration (t ∷ u ∷ l)
  same_two t u l ws k h at =
      ap (λ a. is_one_of specifiers t || (is_identifier_kind a && (is_identifier_kind (kind_in source u.text) || is_one_of specifiers u))) k.1
      ∙ ap (λ a. is_one_of specifiers t || (is_identifier t && (is_identifier_kind a || is_one_of specifiers u))) h.1

  no_second_word : {l : List Tok} {ws : List (List ℕ)} (t : Tok) → IsKept source t → Spells source l ws → begins_declaration (t ∷ l) ≡ false
      → (at : ℕ) → begins_declaration (tokens_at source at (t.text ∷ ws)) ≡ false
  no_second_word {l = l} t k nothing e at = no_specifier t l e
  no_second_word {l = l} t k (stop x m) e at =
      no_second (is_one_of specifiers t) (is_identifier_kind (kind_in source t.text)) (is_identifier_kind (kind_in source x)) (list_any (bytes_eq x) specifiers) (no_specifier t l e) m.name m.specifier
  no_second_word t k (copy {l = l} {ws = ws} u h more) e at = same_two t u l ws k h at ∙ e

  pub no_declaration : {l : List Tok} {ws : List (List ℕ)} → Spells source l ws → begins_declaration l ≡ false → (at : ℕ) → begins_declaration (tokens_at source at ws) ≡ false
  no_declaration nothing e at = refl
  no_declaration (stop {ws = ws} x m) e at = mild_first x ws m at
  no_declaration (copy t k more) e at = no_second_word t k more e at

  pub spells : {l : List Tok} {ws : List (List ℕ)} → Keeps source l ws → Spells source l ws
  spells (brace t x k m n) = stop x n
  spells (same t k more) = copy t k (spells more)

  -- A declaration begins here, and no `}` stands here.
  abbrev pub Declares : List (List ℕ) → Type 0
  Declares ws = (at : ℕ) → (begins_declaration (tokens_at source at ws) ≡ true) × (sees_brace (tokens_at source at ws) ≡ false)

  not_end : (t : Tok) (l : List Tok) → IsMild source (codes "}") → IsKept source t → begins_declaration (t ∷ l) ≡ true → is (codes "}") t ≡ false
  not_end t l mild k e = by_test (is (codes "}") t) refl
    where
      by_test : (b : Bool) → is (codes "}") t ≡ b → b ≡ false
      by_test true f = absurd (not_both (begins_declaration (t ∷ l)) e (mild_token t l k (mild_text t (codes "}") f mild)))
      by_test false f = refl

  second_word : {l : List Tok} {ws : List (List ℕ)} (t : Tok) → IsKept source t → Keeps source l ws → begins_declaration (t ∷ l) ≡ true
      → (at : ℕ) → begins_declaration (tokens_at source at (t.text ∷ ws)) ≡ true
  second_word t k (brace {l = l} {ws = ws} u x h m n) e at =
      specifier_first t (x ∷ ws) (first_only (is_one_of specifiers t) (is_identifier t) (is_identifier u) (is_one_of specifiers u) (sym (ap is_identifier_kind h.1) ∙ m.name) m.specifier e) at
  second_word t k (same {l = l} {ws = ws} u h more) e at = same_two t u l ws k h at ∙ e

  pub declares : {l : List Tok} {ws : List (List ℕ)} → IsMild source (codes "}") → Keeps source l ws → begins_declaration l ≡ true → Declares ws
  declares mild (brace {l = l} t x k m n) e at = absurd (not_both (begins_declaration (t ∷ l)) e (mild_token t l k m))
  declares mild (same {l = l} t k more) e at = (second_word t k more e at, not_end t l mild k e)

  pub declares_two : (t u : Tok) (l : List Tok) (ws : List (List ℕ)) → IsMild source (codes "}") → IsKept source t → IsKept source u
      → begins_declaration (t ∷ u ∷ l) ≡ true → Declares (t.text ∷ u.text ∷ ws)
  declares_two t u l ws mild k h e at = (same_two t u l ws k h at ∙ e, not_end t (u ∷ l) mild k e)

  -- ---- counted declarations and exits

  -- these words may follow a part
  abbrev pub Comes : What → List (List ℕ) → Type 0
  Comes w ws = (at : ℕ) → FollowedBy w (tokens_at source at ws)

  pub comes_declaration : (b : ℕ) (ws : List (List ℕ)) → Declares ws → Comes (what.Declaration b) ws
  comes_declaration b ws d at = let two = d at in (two.1, left_true (begins_declaration (tokens_at source at ws)) (begins_product (tokens_at source at ws)) two.0)

  pub no_hit : (x : List ℕ) (ws : List (List ℕ)) → bytes_eq x (codes "MCDC_H") ≡ false → (at : ℕ) → is_hit (tokens_at source at (x ∷ ws)) ≡ false
  unfolding hit
  no_hit x ws e at = first_false (bytes_eq x (codes "MCDC_H")) _ e

  pub opens : (x : List ℕ) (ws : List (List ℕ)) → bytes_eq x (codes "MCDC_H") ≡ false → Comes (what.Opening bracket.Brace) (x ∷ ws)
  opens x ws e at = first_false (is_hit (tokens_at source at (x ∷ ws))) _ (no_hit x ws e at)

  pub opens_nothing : Comes (what.Opening bracket.Brace) []
  unfolding hit
  opens_nothing at = refl

  after_none : (l : List Tok) → after_tokens 0 l ≡ l
  after_none [] = refl
  after_none (t ∷ l) = refl

  opens_after : (a b c d e : List ℕ) (ws : List (List ℕ)) → Declares ws → Comes (what.Opening bracket.Brace) (a ∷ b ∷ c ∷ d ∷ e ∷ ws)
  opens_after a b c d e ws declared at =
      let later : ℕ = marks.after at (a ∷ b ∷ c ∷ d ∷ e ∷ []) in
      let two = declared later in
      ap (λ l. is_hit (tokens_at source at (a ∷ b ∷ c ∷ d ∷ e ∷ ws)) && is_no_declaration l) (after_none (tokens_at source later ws))
      ∙ no_counted (is_hit (tokens_at source at (a ∷ b ∷ c ∷ d ∷ e ∷ ws))) (begins_declaration (tokens_at source later ws)) (not (is_hit (tokens_at source later ws))) two.0

  pub opens_declaration : (type : List (List ℕ)) (b : ℕ) (ws : List (List ℕ)) → Declares ws → Comes (what.Opening bracket.Brace) (row_texts type (what.Declaration b) ++ ws)
  opens_declaration type b ws d = opens_after (codes "MCDC_H") (codes "(") (decimal b) (codes ")") (codes ";") ws d

  pub own_text : (t : Tok) → IsKept source t → bytes_eq t.text (codes "MCDC_H") ≡ false
  own_text t k = let own = k.0 in by_test _ (is (codes "MCDC_H") t) own.0
    where
      by_test : (x : Word) (b : Bool) → cond b word.Hit x ≡ word.Other → b ≡ false
      by_test x true e = absurd (cc)
      by_test x false e = refl
