use Rattle.std.proofs.Common.{◌≡◌, ◌≤◌, ◌*◌}
use Rattle.mc_watch.specs.Looks.{LooksOnce}
use Rattle.mc_watch.proofs.watching.look_at_all.Given as goal

abbrev pub invariant-loop-index : goal.invariant-loop-index
invariant-loop-index l = record {
  own : l.pass.cover ≡ l.initial.pass.cover;
  shape : l.pass.view.shape ≡ l.cover.shape;
  looked : LooksOnce l.index l.initial.pass.view l.pass.view l.count;
  few : l.count ≤ 64 * l.index;
}
