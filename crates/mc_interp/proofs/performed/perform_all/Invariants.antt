use Rattle.std.proofs.Common.{drop, map}
use Rattle.mc_probe.specs.Erase.{erase_effect}
use Rattle.mc_interp.specs.Views as prepared
use Rattle.mc_interp.proofs.Sequences.{AreDoing}
use Rattle.mc_interp.proofs.performed.perform_all.Given as goal

abbrev pub invariant-loop-step : goal.invariant-loop-step
invariant-loop-step g l =
    AreDoing g.P.Probe.bits g.P.Probe.leads l.frame (map prepared.effect_of l.steps)
    (map erase_effect (map prepared.effect_of (drop l.step-index l.steps))) (map prepared.effect_of (drop l.step-index l.steps))
    l.fn.store l.store l.fn.probe l.probe
