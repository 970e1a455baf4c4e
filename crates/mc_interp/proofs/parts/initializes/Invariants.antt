use Rattle.std.proofs.Common.{◌≡◌, drop}
use Rattle.mc_interp.proofs.Lists.{inits}
use Rattle.mc_interp.proofs.parts.initializes.Given as goal

abbrev pub invariant-loop-declared : goal.invariant-loop-declared
invariant-loop-declared l = inits (drop l.declared-index l.declarators) ≡ inits l.declarators
