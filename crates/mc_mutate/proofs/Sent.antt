-- A job may go to the thread of its worker.
use denote.Param.Send.{IsSend, recorded_send, sendable, struct_send}
use denote.Ref.{NamedLft}
use denote.Struct.Declared.{shape}
use Rattle.cover_recorder.proofs.recorder.Recorder.TheSendSync as recorders
use Rattle.mc_mutate.specs.contracts.kills.runs.Job
use Rattle.mc_mutate.proofs.Shared.{task}

job_field : (c k t a : NamedLft) → IsSend (Job.the_field c k t a).row
job_field c k t a =
    struct_send (shape (Job.the_type c k t a)) (search (recorders.the_send, sendable) depth 20, (search (task t a, sendable) depth 20, tt))

pub job : (c k t a : NamedLft) → IsSend (Job.the_row c k t a)
job c k t a = recorded_send (Job.the_field c k t a).row _ _ (Job.the_type c k t a).to_one (job_field c k t a)
