-- What stands round the operand so far, with the probes that are left round it, is the whole.
use Rattle.std.proofs.Common.{◌≡◌, ◌≤◌, length}
use Rattle.mc_probe.specs.Views as probed
use Rattle.reread_put_back.specs.Back.{surrounded}
use Rattle.reread_put_back.specs.steps.Views.{pen_of}
use Rattle.reread_put_back.proofs.rounds.surround.Given as goal

abbrev pub invariant-loop-left : goal.invariant-loop-left
invariant-loop-left l = record {
  within : length l.left ≤ length l.probes;
  whole : surrounded l.walk.registers l.left (probed.expression_of l.inner, pen_of l.pen) ≡ surrounded l.walk.registers l.probes (probed.expression_of l.fn.operand, pen_of l.fn.pen);
}

abbrev pub decreases-loop-left : goal.decreases-loop-left
decreases-loop-left l = length l.left
