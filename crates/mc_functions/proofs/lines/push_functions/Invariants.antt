use Rattle.std.proofs.Common.{◌≡◌, ◌+◌, ◌++◌, length}
use Rattle.mc_functions.specs.Seen.{bytes_of, measured_of}
use Rattle.mc_functions.specs.Standing.{name_places}
use Rattle.mc_functions.specs.Text.{texts_from}
use Rattle.mc_functions.proofs.lines.push_functions.Given as goal

abbrev pub invariant-loop-left : goal.invariant-loop-left
invariant-loop-left l = record {
  lines : bytes_of l.lines.items ++ texts_from (measured_of l.measured) l.number l.left
      ≡ bytes_of l.fn.lines.items ++ texts_from (measured_of l.measured) 0 l.measured.obligations.now;
  count : l.number + length (name_places l.left) ≡ length l.rows;
}

abbrev pub decreases-loop-left : goal.decreases-loop-left
decreases-loop-left l = length l.left
