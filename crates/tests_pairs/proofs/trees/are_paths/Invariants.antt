use Rattle.std.proofs.Common.{ℕ, ◌<◌, ◌+◌, get_or}
use Rattle.tests_pairs.proofs.trees.are_paths.Given as goal

abbrev pub invariant-loop-i : goal.invariant-loop-i
invariant-loop-i l = record {
  below : (n : ℕ) → n < l.i → get_or l.seen n 0 < l.count;
  ascending : (n : ℕ) → n + 1 < l.i → get_or l.seen n 0 < get_or l.seen (n + 1) 0;
}
