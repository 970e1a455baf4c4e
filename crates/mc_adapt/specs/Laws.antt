-- Laws of what `adapt` gives.
use Rattle.std.specs.Prelude.{◌≡◌, ℕ, Bool, false, List, [], ◌∷◌, ◌++◌, count_by, Result}
use Rattle.mc_lex.specs.Bytes.{is_line_end}
use Rattle.adapt_tokens.specs.Cuts.{Part, Cuts}
use Rattle.adapt_tokens.specs.declared.kind.Kind.TheVariants as kind
use Rattle.mc_adapt.specs.declared.state.State.{State}
use Rattle.mc_adapt.specs.States.{start}
use Rattle.mc_adapt.specs.Marks.{Marking, marked, markings}
use Rattle.mc_adapt.specs.Texts.{written, takes_void, named_after, text_of}
use Rattle.mc_adapt.specs.Outside.{Refusal}
use Rattle.mc_adapt.specs.Adapted.{Adapts}

-- each source, whatever bytes it has, gives something
abbrev pub EachSourceAdapts : Type 0
EachSourceAdapts =
    (source : List ℕ) → (given : Result (List ℕ) (List Refusal)) × Adapts source given

-- and only one thing
abbrev pub OneThingIsGiven : Type 0
OneThingIsGiven =
    (source : List ℕ) (a b : Result (List ℕ) (List Refusal))
    → Adapts source a → Adapts source b → a ≡ b

abbrev pub line_ends : List ℕ → ℕ
line_ends bs = count_by is_line_end bs

-- the bytes of pieces, one after the other
abbrev pub bytes_of : List Marking → List ℕ
bytes_of [] = []
bytes_of (m ∷ ms) = m.part.text ++ bytes_of ms

-- what is written of a piece stands on the line of the text on which the piece stands in the source
pub record StaysOnLine (before : List Marking) (m : Marking) (text : List ℕ) : Type 0 where
  pub front : List ℕ
  pub back : List ℕ
  pub whole : text ≡ front ++ (written m ++ back)
  pub line : line_ends front ≡ line_ends (bytes_of before)

abbrev pub PiecesStayOnTheirLines : Type 0
PiecesStayOnTheirLines =
    (before after : List Marking) (m : Marking)
    → StaysOnLine before m (text_of (before ++ (m ∷ after)))

-- the pieces are the source
abbrev pub PiecesAreTheSource : Type 0
PiecesAreTheSource =
    (source : List ℕ) (ps : List Part) → Cuts [] source ps → bytes_of (markings start ps) ≡ source

-- a line marker stays as it is
abbrev pub MarkersStay : Type 0
MarkersStay = (s : State) (p : Part) → p.kind ≡ kind.Marker → written (marked s p) ≡ p.text

-- as many lines as the source
abbrev pub AsManyLines : Type 0
AsManyLines =
    (source : List ℕ) (ps : List Part) → Cuts [] source ps
    → line_ends (text_of (markings start ps)) ≡ line_ends source

-- no rule applies: each piece is written as it is, and no `void` stands after it
pub data Untouched : (named : Bool) → List Marking → Type 0 where
  nothing : (named : Bool) → Untouched named []
  piece : (named : Bool) (m : Marking) (ms : List Marking) → written m ≡ m.part.text
      → takes_void named m ms ≡ false → Untouched (named_after named m) ms
      → Untouched named (m ∷ ms)

-- then the text is the source, byte for byte
abbrev pub UntouchedIsTheSource : Type 0
UntouchedIsTheSource =
    (source : List ℕ) (ps : List Part) → Cuts [] source ps → Untouched false (markings start ps)
    → text_of (markings start ps) ≡ source
