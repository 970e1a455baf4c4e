use Rattle.std.proofs.Common.{◌≡◌, ◌+◌, ◌<◌, ℕ, length, get_or}
use Rattle.mc_functions.specs.steps.Table.{no_row}
use Rattle.mc_functions.proofs.table.empty.Given as goal

abbrev pub invariant-loop-left : goal.invariant-loop-left
invariant-loop-left l = record {
  whole : length l.rows.items + l.left ≡ l.count;
  each : (k : ℕ) → k < length l.rows.items → get_or l.rows.items k no_row ≡ no_row;
}

abbrev pub decreases-loop-left : goal.decreases-loop-left
decreases-loop-left l = l.left
