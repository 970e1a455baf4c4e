use Rattle.laws_simulation.proofs.Tests.{simulated}
use Rattle.laws_simulation.proofs.laws.instrumented_programs_run_as_plain.Goals as goal

pub returns : goal.returns
returns c = simulated
