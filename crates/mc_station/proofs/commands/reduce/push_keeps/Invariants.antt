use Rattle.std.proofs.Common.{◌≡◌, ◌++◌, length}
use Rattle.mc_port.specs.Lines.{bytes_of}
use Rattle.mc_station.specs.Ran.{AreIn}
use Rattle.mc_station.specs.commands.Reduce.{keep_lines}
use Rattle.mc_station.proofs.commands.reduce.push_keeps.Given as goal

abbrev pub invariant-loop-kept_left : goal.invariant-loop-kept_left
invariant-loop-kept_left l = record {
  same : bytes_of l.lines.items ++ keep_lines l.names l.obligations l.kept_left l.lost_left ≡ bytes_of l.initial.lines.items ++ keep_lines l.names l.obligations l.fn.kept l.fn.lost;
  fit : AreIn (length l.names) (length l.obligations) l.kept_left l.lost_left;
}

abbrev pub decreases-loop-kept_left : goal.decreases-loop-kept_left
decreases-loop-kept_left l = length l.kept_left
