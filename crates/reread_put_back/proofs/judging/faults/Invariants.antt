-- What was found so far, with what the probes that are left come to, is the whole.
use Rattle.std.proofs.Common.{◌≡◌, ◌-◌}
use Rattle.mc_typed.specs.Views.{program_of}
use Rattle.reread_put_back.specs.Back as spec
use Rattle.reread_put_back.specs.steps.Strays.{first_of_both}
use Rattle.reread_put_back.proofs.judging.faults.Given as goal

abbrev pub invariant-loop-turn : goal.invariant-loop-turn
invariant-loop-turn l = first_of_both l.found (spec.faults (l.most - l._turn) (program_of l.program) l.placed.items) ≡ spec.faults l.most (program_of l.program) l.fn.placed.items
