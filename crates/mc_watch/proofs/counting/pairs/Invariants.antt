use Rattle.std.proofs.Common.{◌≡◌, ◌≤◌, ◌*◌, count_ones, sum_by, take}
use Rattle.mc_watch.proofs.counting.pairs.Given as goal

abbrev pub invariant-loop-word : goal.invariant-loop-word
invariant-loop-word l = record {
  counted : l.count ≡ sum_by count_ones (take l.word-index l.matrix.words);
  few : l.count ≤ 64 * l.word-index;
}
