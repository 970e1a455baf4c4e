-- Which texts are read as records.
use Rattle.std.specs.Prelude.{◌≡◌, ◌↔◌, ◌⊎◌, ◌≤◌, ℕ, Bool, true, false, List, ◌++◌, Ok, Err}
use Rattle.std.specs.List.{concat}
use Rattle.mc_limits.specs.Limits.{most_bits}
use Rattle.mc_record.specs.Kept.{Kept}
use Rattle.mc_record.specs.Laws.{IsDigest, IsRecord}
use Rattle.mc_record.specs.Lines.{header_line, old_header_line, old_record_lines, record_lines}
use Rattle.mc_record.specs.Reading.{record_of}
use Rattle.mc_record.specs.declared.fault.RecordFault.TheVariants as fault

-- the text of the record in version 2, or in version 1 where its rules hold
abbrev pub IsText : (old_rules : Bool) → Kept → List ℕ → Type 0
IsText old_rules k text =
    (text ≡ concat (record_lines k))
    ⊎ ((old_rules ≡ true) × (text ≡ concat (old_record_lines k)))

-- a record of a source with this digest, whose program has so many bits
pub record IsOf (source_digest : List ℕ) (program_bits : ℕ) (k : Kept) : Type 0 where
  pub written : IsRecord k
  pub digest : k.digest ≡ source_digest
  pub bits : k.matrix.shape.bits ≡ program_bits

-- a text is read as a record exactly where it is the text of this one, which is of the source
abbrev pub TextsAreRead : Type 0
TextsAreRead =
    (digest : List ℕ) (bits : ℕ) (old_rules : Bool) (text : List ℕ) (k : Kept)
    → IsDigest digest → bits ≤ most_bits
    → (record_of digest bits old_rules text ≡ Ok k)
    ↔ (IsOf digest bits k × IsText old_rules k text)

-- the text begins with this line
abbrev pub BeginsWith : (line text : List ℕ) → Type 0
BeginsWith line text = (rest : List ℕ) × (text ≡ line ++ rest)

-- A text is refused for its version exactly where line 1 is that of version 1 and the caller says
-- that its rules do not hold. That is a fault of line 1, whatever follows.
abbrev pub OldTextsAreRefused : Type 0
OldTextsAreRefused =
    (digest : List ℕ) (bits : ℕ) (old_rules : Bool) (text : List ℕ) (line : ℕ)
    → (record_of digest bits old_rules text ≡ Err (fault.OldRules line))
    ↔ ((line ≡ 1) × ((old_rules ≡ false) × BeginsWith old_header_line text))

-- A text is refused for its header at line 1 exactly where that line is of neither version,
-- whichever rules hold and whatever follows.
abbrev pub UnknownVersionsAreRefused : Type 0
UnknownVersionsAreRefused =
    (digest : List ℕ) (bits : ℕ) (old_rules : Bool) (text : List ℕ)
    → (record_of digest bits old_rules text ≡ Err (fault.Header 1))
    ↔ ((BeginsWith header_line text → ⊥) × (BeginsWith old_header_line text → ⊥))
