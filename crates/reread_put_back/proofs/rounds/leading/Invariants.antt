use Rattle.std.proofs.Common.{◌≡◌, ◌+◌, length}
use Rattle.mc_typed.specs.Views as plain
use Rattle.reread_put_back.specs.Back as spec
use Rattle.reread_put_back.proofs.rounds.leading.Given as goal

abbrev pub invariant-loop-left : goal.invariant-loop-left
invariant-loop-left l = record {
  count : l.count + spec.leading (plain.expression_of l.tree) l.left ≡ spec.leading (plain.expression_of l.tree) l.probes;
  within : l.count + length l.left ≡ length l.probes;
}

abbrev pub decreases-loop-left : goal.decreases-loop-left
decreases-loop-left l = length l.left
