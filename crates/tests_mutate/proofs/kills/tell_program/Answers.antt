use Rattle.mc_typed.specs.Views.{program_of}
use Rattle.tests_mutate.proofs.Fitting.{read_fit}
use Rattle.tests_mutate.proofs.kills.tell_program.Goals as goal

-- src/kills.rt:123:17
pub tell_runs-told-requires-clause-fit : goal.tell_runs-told-requires-clause-fit
tell_runs-told-requires-clause-fit g c κs within =
    read_fit (program_of c.args.program.now) c.deref-in-Ok.result.now c.in-Ok.plans.items c.deref-in-Ok.ensures.value
    c.in-Ok.ensures.fit
