-- Records of two, and those that are read, are at most one.
use Rattle.std.proofs.Common.{◌≡◌, ◌≢◌, ◌∙◌, true, false, Bool, if◌then◌else◌, ℕ, List, Option, Some, None, Result, Ok, Err, refl, sym, ap, subst, inl, inr}
use Rattle.std.specs.Bool.{one_answer}
use Rattle.sha2.specs.Sha256.{sha256}
use Rattle.mc_core.specs.Laws.{AreWords, HaveSamePairs, WordsFollowFromPairs}
use Rattle.mc_core.specs.declared.shape.Shape.{Shape}
use Rattle.mc_record.specs.Kept.{Kept}
use Rattle.mc_record.specs.Lines.{record_lines}
use Rattle.mc_record.specs.Merged.{fault_or, pair_fault, same_test, size_fault}
use Rattle.mc_record.specs.Reading.{record_of}
use Rattle.mc_record.specs.declared.fault.RecordFault.{RecordFault}
use Rattle.mc_record.specs.declared.pair_fault.PairFault.{PairFault}
use Rattle.mc_record.specs.declared.pair_fault.PairFault.TheVariants as pair
use Rattle.station_replies.specs.Phases.{IsOne, Reads}
use Rattle.station_replies.specs.Reply.{Reply, refusal}
use Rattle.station_replies.specs.declared.status.Status.TheVariants.{TestsRefused}
use Rattle.station_replies.proofs.Phases.{one_read}
use Rattle.mc_station.specs.Laws.{IsLater}
use Rattle.mc_station.specs.Records.{JudgesRecord, record_fault_line}
use Rattle.mc_station.specs.Source.{Accepted}
use Rattle.mc_station.specs.commands.Merge.{Joins, Merges, pair_reply}
use Rattle.mc_station.proofs.Written.{written_later}

-- a record is its parts, and the pairs of its matrix
pub same_kept : WordsFollowFromPairs → (a b : Kept) → a.digest ≡ b.digest → a.names ≡ b.names → a.states ≡ b.states → a.matrix.shape ≡ b.matrix.shape
    → AreWords a.matrix.shape a.matrix.words → AreWords b.matrix.shape b.matrix.words → HaveSamePairs a.matrix b.matrix → a ≡ b
same_kept law a b digest named state shape words others pairs =
    let over : AreWords a.matrix.shape b.matrix.words = subst (λ (s : Shape). AreWords s b.matrix.words) (sym shape) others in
    let same : HaveSamePairs a.matrix (record { shape = a.matrix.shape; words = b.matrix.words }) =
    subst (λ (s : Shape). HaveSamePairs a.matrix (record { shape = s; words = b.matrix.words })) (sym shape) pairs in
    let word : a.matrix.words ≡ b.matrix.words = law a.matrix.shape a.matrix.words b.matrix.words words over same in
    λ i. record { digest = digest i; names = named i; states = state i; matrix = record { shape = shape i; words = word i } }

pub one_record_in : (accepted : Accepted) (name bytes : List ℕ) → IsOne (JudgesRecord accepted name bytes)
one_record_in accepted name bytes u v (old, holds, p) (other, also, q) =
    let given : Bool → Result Kept RecordFault = λ rules. record_of (sha256 accepted.source) accepted.map.bits rules bytes in
    let say : RecordFault → Reply = λ fault. refusal TestsRefused (record_fault_line name fault) in
    one_read (given old) say u v p (subst (λ (rules : Bool). Reads (given rules) say v) (one_answer other old also holds) q)

pub one_join : WordsFollowFromPairs → (left right : Kept) → IsOne (Joins left right)
one_join law left right (Ok a) (Ok b) p q =
    same_kept law a b (p.merged.digest ∙ sym q.merged.digest) (p.merged.names ∙ sym q.merged.names) (p.merged.states ∙ sym q.merged.states) (p.merged.shape ∙ sym q.merged.shape) p.words q.words
    (λ bit test. (λ h. (q.merged.pairs bit test).1 ((p.merged.pairs bit test).0 h), λ h. (p.merged.pairs bit test).1 ((q.merged.pairs bit test).0 h)))
one_join law left right (Ok a) (Err s) p (fault, q, is) = absurd (cc (p.fits, q))
one_join law left right (Err r) (Ok b) (fault, p, is) q = absurd (cc (q.fits, p))
one_join law left right (Err r) (Err s) (e, p, is) (f, q, also) =
    let same : e ≡ f = cc (p, q) in inl (is ∙ ap pair_reply same ∙ sym also)

-- ---- what they lead to

-- no pair is at fault for want of memory
large : (b : Bool) (words : ℕ) → (if b then Some (pair.TooLarge words) else None) ≢ Some pair.OutOfMemory
large true words is = cc is
large false words is = cc is

size : (b : Bool) (tests : ℕ) (later : Option PairFault) → later ≢ Some pair.OutOfMemory → (if b then Some (pair.Limit tests) else later) ≢ Some pair.OutOfMemory
size true tests later none is = cc is
size false tests later none is = none is

same : (o : Option (ℕ × ℕ)) (later : Option PairFault) → later ≢ Some pair.OutOfMemory → fault_or o later ≢ Some pair.OutOfMemory
same (Some (left, right)) later none is = cc is
same None later none is = none is

pub no_memory : (left right : Kept) → pair_fault left right ≢ Some pair.OutOfMemory
no_memory left right = same (same_test left.names right.names) (size_fault left right) (size _ _ _ (large _ _))

pair_later : (left right : Kept) (fault : PairFault) → pair_fault left right ≡ Some fault → IsLater (pair_reply fault)
pair_later left right (pair.SameTest l r) is = (tt, inr (inr refl))
pair_later left right (pair.Limit tests) is = (tt, inr (inr refl))
pair_later left right (pair.TooLarge words) is = (tt, inr (inr refl))
pair_later left right pair.OutOfMemory is = absurd (no_memory left right is)

pub join_refuses : (left right : Kept) (r : Reply) → Joins left right (Err r) → IsLater r
join_refuses left right r (fault, given, is) = subst IsLater (sym is) (pair_later left right fault given)

pub merge_keeps : (both : Kept) (r : Reply) → Merges both r → IsLater r
merge_keeps both r is = subst IsLater (sym is) (written_later 0 (record_lines both))
