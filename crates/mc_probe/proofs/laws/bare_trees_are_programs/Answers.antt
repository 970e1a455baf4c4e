use Rattle.mc_probe.proofs.Backs.{program_back}
use Rattle.mc_probe.proofs.Bared.{bare_fits}
use Rattle.mc_probe.proofs.laws.bare_trees_are_programs.Goals as goal

pub returns-clause-program : goal.returns-clause-program
returns-clause-program c = program_back

pub returns-clause-well_formed : goal.returns-clause-well_formed
returns-clause-well_formed c = bare_fits
