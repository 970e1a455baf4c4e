use Rattle.std.proofs.Common.{◌∙◌, ap}
use Rattle.mc_typed.specs.Views.{program_of}
use Rattle.mc_runner.proofs.Standing.{results_are_plain}
use Rattle.mc_station.proofs.Instrumenting.{plans_fit}
use Rattle.mc_station.proofs.Killing.{counted, states_are}
use Rattle.mc_station.proofs.commands.mutate.mutated.Goals as goal

pub test_states-requires-clause-fit : goal.test_states-requires-clause-fit
test_states-requires-clause-fit g c = plans_fit c.args.accepted.now c.args.plans.now c.requires.instrumented c.requires.planned

pub killed_by-requires-clause-all : goal.killed_by-requires-clause-all
killed_by-requires-clause-all g c κs within =
    counted (program_of c.args.accepted.now.tree.program) (program_of c.program.result.now) c.count_mutants-mutants.result (ap program_of c.program.ensures.program) c.count_mutants-mutants.ensures.known c.requires.mutable.few

pub told-requires-clause-states : goal.told-requires-clause-states
told-requires-clause-states g c =
    c.deref-2.ensures.value ∙ c.in_ok-states.ensures ∙ states_are results_are_plain c.args.accepted.now c.args.plans.now c.requires.instrumented c.requires.planned
