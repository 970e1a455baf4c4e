use Rattle.mc_station.proofs.Silence.{memory_writes_nothing, parts_write_nothing, refusals_write_nothing}
use Rattle.mc_station.proofs.statuses.refusals_write_nothing.Goals as goal

pub returns-clause-output : goal.returns-clause-output
returns-clause-output c = refusals_write_nothing

pub returns-clause-part : goal.returns-clause-part
returns-clause-part c = parts_write_nothing

pub returns-clause-errors : goal.returns-clause-errors
returns-clause-errors c = memory_writes_nothing
