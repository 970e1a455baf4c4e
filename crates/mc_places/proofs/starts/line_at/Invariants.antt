use Rattle.std.proofs.Common.{◌<◌, ◌≤◌, ◌-◌, length}
use Rattle.std.specs.Prelude.{slice_index}
use Rattle.mc_places.proofs.starts.line_at.Given as goal

abbrev pub invariant-halving : goal.invariant-halving
invariant-halving l = record {
  some : l.line < l.end;
  inside : l.end ≤ length l.starts;
  begun : slice_index l.starts l.line ≤ l.at;
  next : l.end < length l.starts → l.at < slice_index l.starts l.end;
}

abbrev pub decreases-halving : goal.decreases-halving
decreases-halving l = l.end - l.line
