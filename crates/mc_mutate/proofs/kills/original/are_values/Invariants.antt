use Rattle.std.proofs.Common.{◌≡◌, map, length}
use Rattle.std.specs.Prelude.{◌↔◌}
use Rattle.mc_interp.specs.Machines.{done_of}
use Rattle.mc_mutate.proofs.kills.original.are_values.Given as goal

abbrev pub invariant-loop-values_left : goal.invariant-loop-values_left
invariant-loop-values_left l =
    (map (λ d. d.value) (map done_of l.done_left) ≡ l.values_left) ↔ (map (λ d. d.value) (map done_of l.fn.done) ≡ l.fn.values)

abbrev pub decreases-loop-values_left : goal.decreases-loop-values_left
decreases-loop-values_left l = length l.values_left
