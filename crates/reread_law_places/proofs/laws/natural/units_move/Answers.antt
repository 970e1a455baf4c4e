use Rattle.reread_law_places.proofs.Natural.Units.{faults_move, typings_move, programs_move, programs_return}
use Rattle.reread_law_places.proofs.laws.natural.units_move.Goals as goal

pub returns-clause-faults : goal.returns-clause-faults
returns-clause-faults c = faults_move

pub returns-clause-typing : goal.returns-clause-typing
returns-clause-typing c = typings_move

pub returns-clause-program : goal.returns-clause-program
returns-clause-program c = programs_move

pub returns-clause-back : goal.returns-clause-back
returns-clause-back c = programs_return
