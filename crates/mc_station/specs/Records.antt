-- Which bytes are a record of a source.
use Rattle.std.specs.Prelude.{◌≡◌, ◌↔◌, ⊤, ℕ, All, Bool, IsTrue, List, [], codes, Option, Some, Result, Err}
use Rattle.sha2.specs.Sha256.{sha256}
use Rattle.mc_cond.specs.Tree.{IsShort}
use Rattle.mc_record.specs.Kept.{Kept}
use Rattle.mc_record.specs.Reading.{record_of}
use Rattle.mc_record.specs.declared.fault.RecordFault.{RecordFault}
use Rattle.mc_record.specs.declared.fault.RecordFault.TheVariants as fault
use Rattle.mc_record.specs.declared.pair_fault.PairFault.{PairFault}
use Rattle.mc_record.specs.declared.pair_fault.PairFault.TheVariants as pair
use Rattle.station_replies.specs.Phases.{Reads}
use Rattle.station_replies.specs.Reply.{Reply, refusal}
use Rattle.station_replies.specs.Texts.{kept_line}
use Rattle.station_replies.specs.declared.status.Status.TheVariants.{TestsRefused}
use Rattle.mc_station.specs.Source.{Accepted}

-- the line on the first fault of the record with this name
abbrev pub record_fault_line : (name : List ℕ) → RecordFault → List ℕ
record_fault_line name (fault.Header line) = kept_line name line (codes "header")
record_fault_line name (fault.Source line kept given) = kept_line name line (codes "source")
record_fault_line name (fault.Shape line) = kept_line name line (codes "shape")
record_fault_line name (fault.Word line) = kept_line name line (codes "word")
record_fault_line name (fault.NameAgain line) = kept_line name line (codes "name again")
record_fault_line name (fault.SpareBit line) = kept_line name line (codes "spare bit")
record_fault_line name (fault.Ending line) = kept_line name line (codes "ending")
record_fault_line name (fault.OldRules line) = kept_line name line (codes "old rules")
record_fault_line name fault.OutOfMemory = []

-- A source none of whose decisions has an operator that is evaluated in full. Its bits are those of
-- both versions of records.
abbrev pub HasOldBits : Accepted → Type 0
HasOldBits accepted = All (λ d. IsShort d.decision.tree) accepted.map.decisions

-- The record of a file that is accepted, or its first fault. One of version 1 is read by the old
-- rules, which hold exactly where the source has the bits of both versions.
abbrev pub JudgesRecord : Accepted → (name : List ℕ) → List ℕ → Result Kept Reply → Type 0
JudgesRecord accepted name bytes verdict =
    (old_rules : Bool) × (IsTrue old_rules ↔ HasOldBits accepted)
    × Reads (record_of (sha256 accepted.source) accepted.map.bits old_rules bytes)
    (λ fault. refusal TestsRefused (record_fault_line name fault)) verdict

-- the fault, unless memory ran out
abbrev pub GivesFault : Result Kept RecordFault → RecordFault → Type 0
GivesFault given fault.OutOfMemory = ⊤
GivesFault given e = given ≡ Err e

-- why two records are not joined, unless memory ran out
abbrev pub GivesPair : Option PairFault → PairFault → Type 0
GivesPair given pair.OutOfMemory = ⊤
GivesPair given e = given ≡ Some e
