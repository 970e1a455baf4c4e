use Rattle.mc_station.specs.Seen.{seen_stage}
use Rattle.std.proofs.Common.{length}
use Rattle.mc_station.specs.Stages.{requests_left}
use Rattle.mc_station.proofs.run.+run.Given as goal

abbrev pub decreases-run : goal.decreases-run
decreases-run g l = length (requests_left (seen_stage l.stage))
