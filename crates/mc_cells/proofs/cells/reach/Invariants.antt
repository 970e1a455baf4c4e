use Rattle.std.proofs.Common.{◌≡◌, ◌+◌, ◌≤◌, ◌++◌, replicate, vec_capacity, vec_len}
use Rattle.mc_cells.proofs.cells.reach.Given as goal

abbrev pub invariant-loop-more : goal.invariant-loop-more
invariant-loop-more l = record {
  cells : l.cells.items ≡ l.initial.cells.items ++ replicate l._more l.cell;
  count : vec_len l.cells ≡ vec_len l.initial.cells + l._more;
  room : vec_len l.initial.cells + l.lacking ≤ vec_capacity l.cells;
  capacity : vec_capacity l.cells ≡ vec_capacity l.initial.cells;
}
