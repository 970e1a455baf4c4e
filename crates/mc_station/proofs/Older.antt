-- Which sources have the bits of both versions of records.
use Rattle.std.proofs.Common.{◌≡◌, ◌<◌, ◌↔◌, ℕ, All, Bool, IsTrue, List, Err, length, map, slice_index_or, subst, sym}
use Rattle.std.proofs.lemmas.List.{get_or-map, length-map}
use Rattle.std.proofs.lemmas.List.Elements.{All-map}
use Rattle.sha2.specs.Sha256.{sha256}
use Rattle.mc_cond.specs.Tree.{IsShort, tree_of}
use Rattle.mc_probe.specs.Mapped.{mapped_of}
use Rattle.mc_probe.specs.Maps.{Mapped}
use Rattle.mc_probe.specs.declared.mapped.MappedDecision.{MappedDecision}
use Rattle.mc_record.specs.Kept.{Kept}
use Rattle.mc_record.specs.Reading.{record_of}
use Rattle.mc_record.specs.Seen.{kept_of}
use Rattle.station_replies.specs.Phases.{Reads}
use Rattle.station_replies.specs.Reply.{refusal}
use Rattle.station_replies.specs.Seen.{Gives}
use Rattle.station_replies.specs.declared.status.Status.TheVariants.{TestsRefused}
use Rattle.station_replies.specs.declared.stop.Stop.{Stop}
use Rattle.station_replies.specs.declared.stop.Stop.TheVariants as stop
use Rattle.mc_station.specs.Records.{HasOldBits, JudgesRecord, record_fault_line}
use Rattle.mc_station.specs.Source.{Accepted}

-- ---- the decisions of a map, as the code has them and as definitions see them

abbrev pub IsShortIn : Mapped → Type 0
IsShortIn m = IsShort m.decision.tree

pub all_short : (ms : List MappedDecision) → All (λ m. IsShort (tree_of m.decision.tree)) ms → All IsShortIn (map mapped_of ms)
all_short ms each = All-map IsShortIn mapped_of ms each

pub short_at : (ms items : List MappedDecision) (k : ℕ) (x : MappedDecision) → items ≡ ms → k < length items → x ≡ slice_index_or items k x → All IsShortIn (map mapped_of ms) → IsShort (tree_of x.decision.tree)
short_at ms items k x same below is all =
    let each : All IsShortIn (map mapped_of items) = subst (λ (l : List MappedDecision). All IsShortIn (map mapped_of l)) (sym same) all in
    subst (λ (y : MappedDecision). IsShort (tree_of y.decision.tree)) (sym is)
    (subst IsShortIn (get_or-map mapped_of items k x (mapped_of x) below) (each k (mapped_of x) (subst (λ n. k < n) (sym (length-map items mapped_of)) below)))

-- ---- a record that is refused by these rules

pub refused_by : (accepted : Accepted) (name bytes : List ℕ) (old : Bool) (why : Stop) → IsTrue old ↔ HasOldBits accepted
    → Gives (λ (k : Kept). k) (Reads (record_of (sha256 accepted.source) accepted.map.bits old bytes) (λ fault. refusal TestsRefused (record_fault_line name fault))) (Err why)
    → Gives kept_of (JudgesRecord accepted name bytes) (Err why)
refused_by accepted name bytes old (stop.Refused refused) holds is = (old, holds, is)
refused_by accepted name bytes old stop.OutOfMemory holds is = tt
