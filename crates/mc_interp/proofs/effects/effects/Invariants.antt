use Rattle.std.proofs.Common.{drop, map}
use Rattle.mc_typed.specs.Views as plain
use Rattle.mc_probe.specs.Views as view
use Rattle.mc_interp.proofs.Sequences.{AreDoing}
use Rattle.mc_interp.proofs.effects.effects.Given as goal

abbrev pub invariant-loop-whole : goal.invariant-loop-whole
invariant-loop-whole g l =
    AreDoing g.P.Probe.bits g.P.Probe.leads l.frame (map view.effect_of l.all) (map plain.effect_of (drop l.whole-index l.all))
    (map view.effect_of (drop l.whole-index l.all)) l.fn.store l.store l.fn.probe l.probe
