-- Which part may stand at a place of a text of parts, where what is opened is closed: what stands
-- directly before it, and what follows it.
use Rattle.std.specs.Prelude.{◌≡◌, ◌⊎◌, ℕ, true, false, List, [], ◌∷◌, codes}
use Rattle.mc_lex.specs.Tokens.{Tok}
use Rattle.reread_pieces.specs.declared.word.Word.TheVariants as word
use Rattle.reread_pieces.specs.declared.piece.What.{What}
use Rattle.reread_pieces.specs.declared.piece.What.TheVariants as what
use Rattle.reread_pieces.specs.Words.{is, word_of}
use Rattle.reread_pieces.specs.Rows.{is_front, is_at_front, is_after_statement, sees_brace}
use Rattle.reread_pieces.specs.Pieces.{Here}
use Rattle.reread_law_printed.specs.spelled.Numbers.{IsShort}
use Rattle.reread_law_printed.specs.parts.Parts.{Part, own, row_part, words_of}
use Rattle.reread_law_printed.specs.parts.Marks as marks
use Rattle.reread_law_printed.specs.parts.Shaped.{tokens_at, MayBe, MayStand, after_part}

-- a token of the source, and these tokens after it
abbrev pub MayFollow : Here → What → Tok → List Tok → Type 0
MayFollow h what.Source t later =
    ((word_of t ≡ word.Other) × (is_at_front h.before ≡ false)) ⊎ (is (codes ";") t ≡ true)
MayFollow h what.Closing t later = Unit {0}
MayFollow h w t later = MayBe h w t later

-- a row, and these tokens after it
abbrev pub MayPrecede : Here → List (List ℕ) → What → List Tok → Type 0
MayPrecede h type (what.Exit b) later =
    (is_front h.before ≡ false) × (sees_brace later ≡ true) × IsShort b
MayPrecede h type what.StatementEnd later = is_after_statement h.before ≡ false
MayPrecede h type (what.ValueEnd b) later = IsShort b
MayPrecede h type what.ReturnEnd later = Unit {0}
MayPrecede h type what.OperandEnd later = Unit {0}
MayPrecede h type w later = MayStand h type w later

-- Each part may stand where it does.
pub data IsPlaced (source : List Tok) : Here → ℕ → List Part → Type 0 where
  ends : {h : Here} {at : ℕ} → IsPlaced source h at []
  kept : {h : Here} {at : ℕ} (w : What) (t : Tok) {qs : List Part}
      → MayFollow h w (marks.token source at t.text)
      (tokens_at source (marks.after at (t.text ∷ [])) (words_of qs))
      → IsPlaced source (after_part source h at (own w t) (words_of qs))
      (marks.after at (t.text ∷ [])) qs
      → IsPlaced source h at (own w t ∷ qs)
  put : {h : Here} {at : ℕ} (type : List (List ℕ)) (w : What) {qs : List Part}
      → MayPrecede h type w
      (tokens_at source (marks.after at (row_part type w).texts) (words_of qs))
      → IsPlaced source (after_part source h at (row_part type w) (words_of qs))
      (marks.after at (row_part type w).texts) qs
      → IsPlaced source h at (row_part type w ∷ qs)
