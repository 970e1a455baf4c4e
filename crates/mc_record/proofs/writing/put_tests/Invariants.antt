use Rattle.std.proofs.Common.{◌≡◌, ◌≤◌, ◌++◌, ℕ, List, length, true}
use Rattle.std.specs.List.{concat, list_all}
use Rattle.std.specs.Io.KnownBytes.{Appends}
use Rattle.csv_records.specs.Names.{is_name}
use Rattle.mc_record.specs.Lines.{test_lines}
use Rattle.mc_record.proofs.writing.put_tests.Given as goal

abbrev pub invariant-loop-names_left : goal.invariant-loop-names_left
invariant-loop-names_left g l = (done : List ℕ) × (done ++ concat (test_lines l.names_left l.states_left) ≡ concat (test_lines l.fn.names l.fn.states))
    × Appends (g.K.Sink.written l.fn.out) (g.K.Sink.written l.out) done × (g.K.Sink.faults l.fn.out ≤ g.K.Sink.faults l.out)
    × (length l.states_left ≡ length l.names_left) × (list_all is_name l.names_left ≡ true)

abbrev pub decreases-loop-names_left : goal.decreases-loop-names_left
decreases-loop-names_left g l = length l.names_left
