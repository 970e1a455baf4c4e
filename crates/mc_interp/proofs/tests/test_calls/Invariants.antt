use Rattle.std.proofs.Common.{◌≡◌, drop}
use Rattle.mc_interp.proofs.Callings.{AreCalling}
use Rattle.mc_interp.proofs.tests.test_calls.Given as goal

abbrev pub invariant-loop-call : goal.invariant-loop-call
invariant-loop-call g l =
    AreCalling g.P.Probe.bits g.P.Probe.leads l.program l.shapes l.calls (drop l.call-index l.calls) l.done.items l.fn.store l.store l.fn.probe l.probe
    × (l.done.limit ≡ l.fn.done.limit)
