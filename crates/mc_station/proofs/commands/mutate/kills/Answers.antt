use Rattle.std.proofs.Common.{◌*◌, length, ap}
use Rattle.mc_typed.specs.Views.{program_of}
use Rattle.mc_tests.specs.Seen.{seen_plans}
use Rattle.mc_station.proofs.Killing.{fits, recorded}
use Rattle.mc_station.proofs.commands.mutate.kills.Goals as goal

pub run_mutants-requires-clause-fit : goal.run_mutants-requires-clause-fit
run_mutants-requires-clause-fit g c κs within =
    fits (program_of c.args.accepted.now.tree.program) (program_of c.program-program.result.now) c.args.plans.now (ap program_of c.program-program.ensures.program) c.requires.planned.fit

pub returns-in-Ok-run_mutants : goal.returns-in-Ok-run_mutants
returns-in-Ok-run_mutants g c =
    recorded (program_of c.args.accepted.now.tree.program) (program_of c.program-program.result.now) (seen_plans c.args.plans.now) c.in-Ok.opened.0 c.in-Ok-run_mutants.pass c.close.result
    (c.args.mutants * length c.args.plans.now) (ap program_of c.program-program.ensures.program) (ap (λ s. s.tests) c.in-Ok.ensures.shape.0) c.in-Ok-run_mutants.ensures c.close.ensures.pairs
