use Rattle.std.proofs.Common.{◌≡◌, ◌+◌, ◌++◌, length}
use Rattle.mc_port.specs.Lines.{bytes_of}
use Rattle.mc_station.specs.commands.Watch.{look_lines}
use Rattle.mc_station.proofs.commands.watch.push_looks.Given as goal

abbrev pub invariant-loop-left : goal.invariant-loop-left
invariant-loop-left l = record {
  same : bytes_of l.lines.items ++ look_lines l.look l.left l.all ≡ bytes_of l.initial.lines.items ++ look_lines 1 l.fn.counts l.all;
  number : l.look + length l.left ≡ 1 + length l.fn.counts;
}

abbrev pub decreases-loop-left : goal.decreases-loop-left
decreases-loop-left l = length l.left
