-- What follows from the definitions of records.
use Rattle.std.specs.Prelude.{◌≡◌, ◌<◌, ℕ, Bool, true, false, List, length, All, Ok, Err}
use Rattle.std.specs.List.{concat}
use Rattle.mc_core.specs.Laws.{AreWords}
use Rattle.mc_record.specs.Kept.{Kept, IsKept}
use Rattle.mc_record.specs.Lines.{record_lines, old_record_lines}
use Rattle.mc_record.specs.Reading.{record_of}
use Rattle.mc_record.specs.declared.fault.RecordFault.TheVariants as fault

-- 32 bytes
pub record IsDigest (digest : List ℕ) : Type 0 where
  pub whole : length digest ≡ 32
  pub bytes : All (λ b. b < 256) digest

-- a record that can be written, by the types of its digest and of its matrix too
pub record IsRecord (k : Kept) : Type 0 where
  pub kept : IsKept k
  pub digest : IsDigest k.digest
  pub words : AreWords k.matrix.shape k.matrix.words

-- what was written is read as the same record, under either rules
abbrev pub WrittenIsRead : Type 0
WrittenIsRead =
    (k : Kept) (old_rules : Bool) → IsRecord k →
    record_of k.digest k.matrix.shape.bits old_rules (concat (record_lines k)) ≡ Ok k

-- what was written as version 1 is read as the same record under its rules
abbrev pub OldIsRead : Type 0
OldIsRead =
    (k : Kept) → IsRecord k →
    record_of k.digest k.matrix.shape.bits true (concat (old_record_lines k)) ≡ Ok k

-- and under the others it is refused at line 1
abbrev pub OldIsRefused : Type 0
OldIsRefused =
    (k : Kept) →
    record_of k.digest k.matrix.shape.bits false (concat (old_record_lines k))
    ≡ Err (fault.OldRules 1)
