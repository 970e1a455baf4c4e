-- Where what is opened is closed, parts that may follow each other may stand where they do.
use Rattle.std.proofs.Common.{◌≡◌, ◌+◌, ◌-◌, inl, inr, ℕ, Bool, true, false, ◌&&◌, cond, List, [], ◌∷◌, ◌++◌, length, take, Option, Some, None, codes, refl, sym, ap, ◌∙◌, arith, append-nil, length-append}
use Rattle.std.specs.List.{slice_get}
use Rattle.std.specs.Prelude.{option_to_list}
use Rattle.mc_lex.specs.Tokens.{Tok}
use Rattle.mc_lex.proofs.Texts.{same_text}
use Rattle.reread_pieces.specs.declared.bracket.Bracket.{Bracket}
use Rattle.reread_pieces.specs.declared.bracket.Bracket.TheVariants as bracket
use Rattle.reread_pieces.specs.declared.piece.What.{What}
use Rattle.reread_pieces.specs.declared.piece.What.TheVariants as what
use Rattle.reread_pieces.specs.Words.{word_of}
use Rattle.reread_pieces.specs.Rows.{is_value, is_body}
use Rattle.reread_pieces.specs.Pieces.{Here, innermost, brackets_after, opened, closes}
use Rattle.reread_law_printed.specs.parts.Parts.{Part, row_texts, words_of}
use Rattle.reread_law_printed.specs.parts.Marks as marks
use Rattle.reread_law_printed.specs.parts.Closed.{top, below, open_after, closes_with, MayClose, AllClose}
use Rattle.reread_law_printed.specs.parts.Shaped.{tokens_at, Closes, MayBe, MayStand, IsShaped}
use Rattle.reread_law_printed.specs.parts.Shaped as shaped
use Rattle.reread_law_printed.specs.parts.Placed.{MayFollow, MayPrecede, IsPlaced, ends, kept, put}
use Rattle.reread_law_printed.specs.parts.Laws.{PlacedPartsAreShaped}

-- ---- the innermost is the last

abbrev pub turned : List Bracket → List Bracket
turned [] = []
turned (b ∷ bs) = turned bs ++ b ∷ []

pub last_get : (xs : List Bracket) (b : Bracket) → slice_get (xs ++ b ∷ []) (length xs) ≡ Some b
last_get [] b = refl
last_get (x ∷ xs) b = last_get xs b

pub all_but_last : (xs : List Bracket) (b : Bracket) → take (length xs) (xs ++ b ∷ []) ≡ xs
all_but_last [] b = refl
all_but_last (x ∷ xs) b = ap (λ l. x ∷ l) (all_but_last xs b)

pub one_less : (xs : List Bracket) (b : Bracket) → length (xs ++ b ∷ []) - 1 ≡ length xs
one_less xs b = let e = length-append xs (b ∷ []) in omega (arith, e)

pub innermost_is : (bs : List Bracket) → innermost (turned bs) ≡ top bs
innermost_is [] = refl
innermost_is (b ∷ bs) = ap (slice_get (turned bs ++ b ∷ [])) (one_less (turned bs) b) ∙ last_get (turned bs) b

pub without_last : (bs : List Bracket) → take (length (turned bs) - 1) (turned bs) ≡ turned (below bs)
without_last [] = refl
without_last (b ∷ bs) = ap (λ n. take n (turned bs ++ b ∷ [])) (one_less (turned bs) b) ∙ all_but_last (turned bs) b

pub with_opened : (bs : List Bracket) (o : Option Bracket) → turned bs ++ option_to_list o ≡ turned (option_to_list o ++ bs)
with_opened bs None = append-nil (turned bs)
with_opened bs (Some b) = refl

brackets_are : (bs : List Bracket) (w : What) → brackets_after (turned bs) w ≡ turned (open_after bs w)
brackets_are bs w = by_test (closes w)
  where
    by_test : (c : Bool) → cond c (take (length (turned bs) - 1) (turned bs)) (turned bs ++ option_to_list (opened w)) ≡ turned (cond c (below bs) (option_to_list (opened w) ++ bs))
    by_test true = without_last bs
    by_test false = with_opened bs (opened w)

module _ (source : List Tok) where
  module _ (h : Here) (bs : List Bracket) (e : h.brackets ≡ turned bs) where
    inner : innermost h.brackets ≡ top bs
    inner = ap innermost e ∙ innermost_is bs

    closes_by : (at : ℕ) (text : List ℕ) (o : Option Bracket) → top bs ≡ o → closes_with text o ≡ true → Closes h (marks.token source at text)
    closes_by at text None f c = absurd (cc)
    closes_by at text (Some bracket.Parenthesis) f c = inl (ap (λ x. word_of (marks.token source at x)) (same_text text (codes ")") c), inner ∙ f)
    closes_by at text (Some bracket.Square) f c = inr (inl (ap (λ x. word_of (marks.token source at x)) (same_text text (codes "]") c), inner ∙ f))
    closes_by at text (Some bracket.Brace) f c = inr (inr (inl (ap (λ x. word_of (marks.token source at x)) (same_text text (codes "}") c), inner ∙ f)))
    closes_by at text (Some bracket.Body) f c = inr (inr (inr (ap (λ x. word_of (marks.token source at x)) (same_text text (codes "}") c), inner ∙ f)))
    closes_by at text (Some b) f c = absurd (cc)

    may_be : (at : ℕ) (w : What) (text : List ℕ) (later : List Tok) → MayClose bs w (text ∷ []) → MayFollow h w (marks.token source at text) later → MayBe h w (marks.token source at text) later
    may_be at what.Source text later c (inl m) = inl m
    may_be at what.Source text later c (inr m) =
        inr (ap (λ x. word_of (marks.token source at x)) (same_text text (codes ";") m), ap is_value inner ∙ (ap (λ b. b && is_value (top bs)) (sym m) ∙ c))
    may_be at what.Closing text later c m = closes_by at text (top bs) refl c
    may_be at w text later c m = m

    may_stand : (type : List (List ℕ)) (w : What) (texts : List (List ℕ)) (later : List Tok) → MayClose bs w texts → MayPrecede h type w later → MayStand h type w later
    may_stand type (what.Exit b) texts later c m = (m.0, ap is_body (inner ∙ c), m.1, m.2)
    may_stand type what.StatementEnd texts later c m = (inner ∙ c, m)
    may_stand type (what.ValueEnd b) texts later c m = (inner ∙ c, m)
    may_stand type what.ReturnEnd texts later c m = inner ∙ c
    may_stand type what.OperandEnd texts later c m = inner ∙ c
    may_stand type w texts later c m = m

    after_is : (w : What) → brackets_after h.brackets w ≡ turned (open_after bs w)
    after_is w = ap (λ l. brackets_after l w) e ∙ brackets_are bs w

  placed : {h : Here} {at : ℕ} {qs : List Part} (bs : List Bracket) → h.brackets ≡ turned bs → AllClose bs qs → IsPlaced source h at qs → IsShaped source h at qs
  placed bs e c ends = shaped.ends (e ∙ ap turned c)
  placed {h = h} {at = at} bs e c (kept w t {qs = qs} m more) =
      shaped.kept w t (may_be h bs e at w t.text (tokens_at source (marks.after at (t.text ∷ [])) (words_of qs)) c.0 m) (placed (open_after bs w) (after_is h bs e w) c.1 more)
  placed {h = h} {at = at} bs e c (put type w {qs = qs} m more) =
      shaped.put type w (may_stand h bs e type w (row_texts type w) (tokens_at source (marks.after at (row_texts type w)) (words_of qs)) c.0 m) (placed (open_after bs w) (after_is h bs e w) c.1 more)

pub placed_shaped : PlacedPartsAreShaped
placed_shaped source parts c p = placed source [] refl c p
