-- What follows from the definitions of lines and listings.
use Rattle.std.specs.Prelude.{◌≡◌, ℕ, ◌+◌, ◌<◌, ◌≤◌, ◌↔◌, ◌⊎◌, true, false, List, [], ◌∷◌, length, Contains}
use Rattle.std.specs.List.{concat}
use Rattle.mc_limits.specs.Limits.{most_source_bytes}
use Rattle.mc_lex.specs.Bytes.{is_line_end}
use Rattle.mc_lex.specs.Lines.{line_of}
use Rattle.mc_oblige.specs.declared.obligation.Obligation.{Obligation}
use Rattle.mc_oblige.specs.declared.verdict.Verdict.{Verdict}
use Rattle.mc_list.specs.Lines.{Placed, lines_of, placed_lines, stripped}
use Rattle.mc_list.specs.Listing.{listing}
use Rattle.mc_list.specs.Marks.{rank_of, mark_of, mark_on}
use Rattle.mc_list.specs.declared.mark.Mark.{Mark}
use Rattle.mc_list.specs.declared.mark.Mark.TheVariants.{Clear}

-- LF is the last byte, and stands nowhere else
abbrev pub IsEnded : List ℕ → Type 0
IsEnded [] = ⊥
IsEnded (b ∷ []) = is_line_end b ≡ true
IsEnded (b ∷ c ∷ bs) = (is_line_end b ≡ false) × IsEnded (c ∷ bs)

-- some bytes without LF
abbrev pub IsCut : List ℕ → Type 0
IsCut [] = ⊥
IsCut (b ∷ []) = is_line_end b ≡ false
IsCut (b ∷ c ∷ bs) = (is_line_end b ≡ false) × IsCut (c ∷ bs)

-- each ends with LF, but that the last one may lack it
abbrev pub AreLines : List (List ℕ) → Type 0
AreLines [] = Unit {0}
AreLines (line ∷ []) = IsEnded line ⊎ IsCut line
AreLines (line ∷ next ∷ lines) = IsEnded line × AreLines (next ∷ lines)

-- what a text's lines are: joined they are the text, and each is a line
pub record AreLinesOf (text : List ℕ) (lines : List (List ℕ)) : Type 0 where
  pub whole : concat lines ≡ text
  pub each : AreLines lines

-- a text has these lines
abbrev pub TextHasLines : Type 0
TextHasLines = (text : List ℕ) → AreLinesOf text (lines_of text)

-- and no others
abbrev pub LinesAreOne : Type 0
LinesAreOne =
    (text : List ℕ) (lines : List (List ℕ)) → AreLinesOf text lines → lines ≡ lines_of text

-- without its margins a listing is the source
abbrev pub ListingHasSource : Type 0
ListingHasSource =
    (source : List ℕ) (os : List Obligation) (vs : List Verdict) →
    length source ≤ most_source_bytes →
    concat (stripped (listing source os vs)) ≡ source

-- a byte of the source stands on the line whose number is that of its place
abbrev pub PlacesAreOnLines : Type 0
PlacesAreOnLines =
    (source : List ℕ) (line : Placed) (at : ℕ) → Contains (placed_lines source) line →
    at < length source →
    ((line.start ≤ at) × (at < line.start + length line.bytes)) ↔ (line_of source at ≡ line.number)

-- the lists have this obligation and its verdict
abbrev pub IsJudged : List Obligation → List Verdict → Obligation → Verdict → Type 0
IsJudged (p ∷ os) (w ∷ vs) o v = ((p ≡ o) × (w ≡ v)) ⊎ IsJudged os vs o v
IsJudged _ _ o v = ⊥

-- no verdict on what starts on the line is worse than the mark, and it is that of one of them; or it
-- is the space, where nothing starts on the line
pub record IsWorst (os : List Obligation) (vs : List Verdict) (line : Placed) (mark : Mark)
    : Type 0 where
  pub none_worse : (o : Obligation) (v : Verdict) → IsJudged os vs o v →
      line.start ≤ o.span.start → o.span.start < line.start + length line.bytes →
      rank_of (mark_of v.state) ≤ rank_of mark
  pub one : (mark ≡ Clear) ⊎ ((o : Obligation) × (v : Verdict) × IsJudged os vs o v
      × (line.start ≤ o.span.start)
      × (o.span.start < line.start + length line.bytes)
      × (mark_of v.state ≡ mark))

-- a line has the mark of the worst verdict
abbrev pub MarksAreWorst : Type 0
MarksAreWorst =
    (os : List Obligation) (vs : List Verdict) (line : Placed) →
    IsWorst os vs line (mark_on os vs line)
