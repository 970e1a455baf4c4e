use Rattle.laws_station.proofs.SingleCases.{other_commands, other_tasks}
use Rattle.laws_station.proofs.cases.watch_is_alone.Goals as goal

pub returns-clause-tasks : goal.returns-clause-tasks
returns-clause-tasks c = other_tasks

pub returns-clause-commands : goal.returns-clause-commands
returns-clause-commands c = other_commands
