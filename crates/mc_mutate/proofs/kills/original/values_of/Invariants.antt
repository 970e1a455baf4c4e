use Rattle.std.proofs.Common.{◌≡◌, map, take}
use Rattle.mc_interp.specs.Machines.{done_of}
use Rattle.mc_mutate.proofs.kills.original.values_of.Given as goal

abbrev pub invariant-loop-call : goal.invariant-loop-call
invariant-loop-call l = l.values.items ≡ map (λ d. d.value) (map done_of (take l.call-index l.done))
