-- The command `merge`: the record of the tests of two records.
use Rattle.std.specs.Prelude.{◌≡◌, Some, None, Result, Ok, Err}
use Rattle.mc_core.specs.Laws.{AreWords}
use Rattle.mc_record.specs.Kept.{Kept}
use Rattle.mc_record.specs.Lines.{record_lines}
use Rattle.mc_record.specs.Merged.{IsMerged, pair_fault}
use Rattle.mc_record.specs.declared.pair_fault.PairFault.{PairFault}
use Rattle.mc_record.specs.declared.pair_fault.PairFault.TheVariants as fault
use Rattle.station_replies.specs.Reply.{Reply, out_of_memory, refusal, written}
use Rattle.station_replies.specs.Texts.{many_tests_line, matrix_line, same_test_line}
use Rattle.station_replies.specs.declared.status.Status.TheVariants.{TestsRefused, TooLarge}

-- what is said of two records that have no common one
abbrev pub pair_reply : PairFault → Reply
pair_reply (fault.SameTest left right) = refusal TestsRefused (same_test_line left right)
pair_reply (fault.Limit tests) = refusal TestsRefused (many_tests_line tests)
pair_reply (fault.TooLarge words) = refusal TooLarge (matrix_line words)
pair_reply fault.OutOfMemory = out_of_memory

-- the tests of both, those of the left one first
pub record IsJoined (left right both : Kept) : Type 0 where
  pub fits : pair_fault left right ≡ None
  pub merged : IsMerged left right both
  pub words : AreWords both.matrix.shape both.matrix.words

-- the record of both, or why they have none
abbrev pub Joins : (left right : Kept) → Result Kept Reply → Type 0
Joins left right (Ok both) = IsJoined left right both
Joins left right (Err reply) =
    (fault : PairFault) × (pair_fault left right ≡ Some fault) × (reply ≡ pair_reply fault)

abbrev pub Merges : Kept → Reply → Type 0
Merges both reply = reply ≡ written 0 (record_lines both)
