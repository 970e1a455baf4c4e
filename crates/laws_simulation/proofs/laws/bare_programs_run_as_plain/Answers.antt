use Rattle.laws_simulation.proofs.BareRuns.{bare_simulated}
use Rattle.laws_simulation.proofs.laws.bare_programs_run_as_plain.Goals as goal

pub returns : goal.returns
returns c = bare_simulated
