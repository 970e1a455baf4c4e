use Rattle.mc_typed.specs.Views.{program_of}
use Rattle.tests_results.proofs.Fitting.{read_fit}
use Rattle.tests_results.proofs.reading.tell_program.Goals as goal

pub tell_runs-told-requires-clause-fit : goal.tell_runs-told-requires-clause-fit
tell_runs-told-requires-clause-fit g c κs within =
    read_fit (program_of c.args.program.now) c.deref-in-Ok.result.now c.in-Ok.plans.items c.deref-in-Ok.ensures.value
    c.in-Ok.ensures.fit
