use Rattle.laws_simulation.proofs.Erased.{program_away}
use Rattle.laws_simulation.proofs.Fitting.{well_formed}
use Rattle.laws_simulation.proofs.laws.instrumented_programs_erase.Goals as goal

pub returns-clause-program : goal.returns-clause-program
returns-clause-program c = program_away

pub returns-clause-well_formed : goal.returns-clause-well_formed
returns-clause-well_formed c = well_formed
