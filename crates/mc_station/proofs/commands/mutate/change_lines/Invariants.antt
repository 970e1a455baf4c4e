use Rattle.std.proofs.Common.{◌≡◌, map, take}
use Rattle.mutate_lines.specs.Seen.{told_of}
use Rattle.mc_mutate.specs.Mutants.{mutants}
use Rattle.mc_typed.specs.Views.{program_of}
use Rattle.mc_station.specs.commands.Mutate.{change_told}
use Rattle.mc_station.proofs.commands.mutate.change_lines.Given as goal

abbrev pub invariant-loop-before : goal.invariant-loop-before
invariant-loop-before l = map told_of l.lines.items ≡ map (λ m. change_told l.source m.change) (take l.before (mutants (program_of l.program)))
