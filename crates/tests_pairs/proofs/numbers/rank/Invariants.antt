use Rattle.std.proofs.Common.{◌<◌}
use Rattle.tests_pairs.proofs.numbers.rank.Given as goal

abbrev pub invariant-loop-k : goal.invariant-loop-k
invariant-loop-k l = l.rank < 81
