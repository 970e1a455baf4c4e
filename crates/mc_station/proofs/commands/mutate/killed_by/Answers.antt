use Rattle.mc_typed.specs.Views.{program_of}
use Rattle.mc_station.proofs.Killing.{all_killed}
use Rattle.mc_station.proofs.commands.mutate.killed_by.Goals as goal

pub returns : goal.returns
returns g c =
    all_killed (program_of c.args.accepted.now.tree.program) c.args.plans.now c.in_ok-matrix.matrix c.args.mutants c.killers.result c.requires.all c.in_ok-matrix.ensures c.killers.ensures.each c.killers.ensures.count
