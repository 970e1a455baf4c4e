-- The words of a function's type, in the text of an external declaration.
use Rattle.std.proofs.Common.{◌≡◌, ◌+◌, ℕ, Bool, true, false, cond, ◌||◌, List, [], ◌∷◌, ◌++◌, length, map, codes, refl, sym, ap, ◌∙◌, append_assoc}
use Rattle.std.specs.List.{AllByRecursion as Each}
use Rattle.std.specs.Str.{bytes_eq}
use Rattle.mc_lex.specs.Tokens.{Tok}
use Rattle.mc_lex.specs.Words.{one_of}
use Rattle.reread_pieces.specs.Words.{is}
use Rattle.reread_pieces.specs.Pieces.{word}
use Rattle.reread_pieces.specs.Pieces as pieces
use Rattle.mc_print.specs.Pens.{texts_of, type_words}
use Rattle.reread_law_rows.specs.inserted.Fits.{is_bracket}
use Rattle.reread_law_printed.specs.parts.Parts.{Part, copied, words_of}
use Rattle.reread_law_printed.specs.parts.Shaped.{tokens_at}
use Rattle.reread_law_printed.proofs.Placed.InsideForm.{IsPlain}

-- ---- by texts

abbrev left_out : List ℕ → Bool
left_out t = bytes_eq t (codes "static") || bytes_eq t (codes "extern") || bytes_eq t (codes "const") || bytes_eq t (codes "*")

abbrev one_word : List ℕ → List (List ℕ)
one_word t = cond (left_out t) [] (t ∷ [])

abbrev pub item_words : List (List ℕ) → List (List ℕ)
item_words [] = []
item_words (t ∷ []) = []
item_words (t ∷ u ∷ ts) = cond (bytes_eq u (codes "(")) [] (one_word t ++ item_words (u ∷ ts))

pub words_are : (ts : List Tok) → pieces.type_words ts ≡ item_words (texts_of ts)
words_are [] = refl
words_are (t ∷ []) = refl
words_are (t ∷ u ∷ ts) = ap (λ l. cond (is (codes "(") u) [] (word t ++ l)) (words_are (u ∷ ts))

-- the tokens of words have these texts
pub texts_at : (source : List Tok) (at : ℕ) (words : List (List ℕ)) → texts_of (tokens_at source at words) ≡ words
texts_at source at [] = refl
texts_at source at (w ∷ words) = ap (λ l. w ∷ l) (texts_at source (at + length w + 1) words)

pub words_both : (xs ys : List Part) → words_of (xs ++ ys) ≡ words_of xs ++ words_of ys
words_both [] ys = refl
words_both (x ∷ xs) ys = ap (λ l. x.texts ++ l) (words_both xs ys) ∙ sym (append_assoc x.texts (words_of xs) (words_of ys))

pub copied_words : (ts : List Tok) → words_of (map copied ts) ≡ texts_of ts
copied_words [] = refl
copied_words (t ∷ ts) = ap (λ l. t.text ∷ l) (copied_words ts)

-- ---- before the name of a function

one_is : (t : Tok) (later : List (List ℕ)) → is (codes "*") t ≡ false
    → one_word t.text ++ later ≡ cond (one_of (codes "static" ∷ codes "extern" ∷ codes "const" ∷ []) t.text) later (t.text ∷ later)
one_is t later star = by_tests (is (codes "static") t) (is (codes "extern") t) (is (codes "const") t) (is (codes "*") t) star
  where
    by_tests : (a b c d : Bool) → d ≡ false → cond (a || b || c || d) [] (t.text ∷ []) ++ later ≡ cond (a || (b || (c || false))) later (t.text ∷ later)
    by_tests a b c true e = absurd (cc)
    by_tests true b c false e = refl
    by_tests false true c false e = refl
    by_tests false false true false e = refl
    by_tests false false false false e = refl

pub no_open : (t : Tok) → is_bracket t ≡ false → is (codes "(") t ≡ false
no_open t = by_tests (is (codes "(") t) (is (codes ")") t) (is (codes "[") t) (is (codes "]") t) (is (codes "{") t) (is (codes "}") t)
  where
    by_tests : (a b c d e f : Bool) → (a || b || c || d || e || f) ≡ false → a ≡ false
    by_tests true b c d e f h = absurd (cc)
    by_tests false b c d e f h = refl

module _ (name first : Tok) (later : List (List ℕ)) (plain : is_bracket name ≡ false) (opens : is (codes "(") first ≡ true) where
  abbrev more : List (List ℕ)
  more = name.text ∷ first.text ∷ later

  pub type_is : (ts : List Tok) → Each IsPlain ts → item_words (texts_of ts ++ more) ≡ type_words ts
  type_is [] h = ap (λ b. cond b [] (one_word name.text ++ item_words (first.text ∷ later))) opens
  type_is (t ∷ []) h =
      ap (λ b. cond b [] (one_word t.text ++ item_words more)) (no_open name plain)
      ∙ (ap (λ l. one_word t.text ++ l) (type_is [] tt) ∙ one_is t [] h.0.star)
  type_is (t ∷ u ∷ ts) h =
      ap (λ b. cond b [] (one_word t.text ++ item_words (u.text ∷ (texts_of ts ++ more)))) (no_open u h.1.0.bracket)
      ∙ (ap (λ l. one_word t.text ++ l) (type_is (u ∷ ts) h.1) ∙ one_is t (type_words (u ∷ ts)) h.0.star)
