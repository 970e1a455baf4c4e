use Rattle.std.proofs.Common.{drop}
use Rattle.mc_interp.proofs.Passes.{StillPassing}
use Rattle.mc_interp.proofs.entries.pass.Given as goal

abbrev pub invariant-loop-given : goal.invariant-loop-given
invariant-loop-given l = StillPassing l.passed (drop l.given-index l.passed) l.objects l.left l.base l.fn.store l.store
