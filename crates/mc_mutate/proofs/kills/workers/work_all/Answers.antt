use denote.Param.Send.{sendable}
use Rattle.mc_mutate.proofs.Sent.{job}
use Rattle.mc_mutate.proofs.kills.workers.work_all.Goals as goal

-- a job may go to the thread of its worker
pub map_vec-requires-send-J : goal.map_vec-requires-send-J
map_vec-requires-send-J g c κs within = search (job, sendable) depth 20
