use Rattle.std.proofs.Common.{drop, map, option_map}
use Rattle.mc_probe.specs.Statements.{perform_all, run, loop_test}
use Rattle.mc_interp.specs.Views as prepared
use Rattle.mc_interp.specs.Frames.{activation_of}
use Rattle.mc_interp.proofs.Runnings.{AreRunning, IsTurning}
use Rattle.mc_interp.proofs.statements.+statements.Given as goal

abbrev pub invariant-repeat-loop-turned : goal.invariant-repeat-loop-turned
invariant-repeat-loop-turned g l =
    IsTurning g.P.Probe.bits g.P.Probe.leads l.frame (loop_test (activation_of l.frame) (option_map (λ e. prepared.test_of e.now) l.test))
    (run (activation_of l.frame) (prepared.statement_of l.body)) (perform_all (activation_of l.frame) (map prepared.effect_of l.step))
    l.fn.store l.store l.fn.probe l.probe

abbrev pub decreases-repeat-loop-turned : goal.decreases-repeat-loop-turned
decreases-repeat-loop-turned g l = l.store.fuel

abbrev pub invariant-statements-loop-tree : goal.invariant-statements-loop-tree
invariant-statements-loop-tree g l =
    AreRunning g.P.Probe.bits g.P.Probe.leads l.frame l.trees (drop l.tree-index l.trees) l.fn.seek l.sought l.fn.store l.store l.fn.probe l.probe
