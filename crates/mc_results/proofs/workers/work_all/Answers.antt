use denote.Param.Send.{sendable}
use Rattle.mc_results.proofs.Shared.{task}
use Rattle.mc_results.proofs.workers.work_all.Goals as goal

-- what the workers share may go to the thread of each
pub map_vec-requires-send-J : goal.map_vec-requires-send-J
map_vec-requires-send-J g c κs within = search (task, sendable) depth 20
