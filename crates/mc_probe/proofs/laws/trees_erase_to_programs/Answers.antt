use Rattle.mc_probe.proofs.ErasedPrograms.{programs_erase, function_erases}
use Rattle.mc_probe.proofs.laws.trees_erase_to_programs.Goals as goal

pub returns-clause-program : goal.returns-clause-program
returns-clause-program c = programs_erase

pub returns-clause-function : goal.returns-clause-function
returns-clause-function c = function_erases
