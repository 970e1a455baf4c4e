-- What workers share may go to their threads.
use denote.Param.Send.{IsSend, IsSync, recorded_send, recorded_sync, sendable, struct_sync, view_sync}
use denote.Ref.{NamedLft}
use denote.Struct.Declared.{shape}
use Rattle.std.proofs.Crossing as std
use Rattle.mc_results.specs.contracts.task.Task
use Rattle.mc_typed.proofs.Shared as tree
use Rattle.mc_probe.specs.contracts.tree.Instrumented
use Rattle.mc_probe.specs.contracts.tree.Instrumented.TheInside as instrumented_inside

fields : (a : NamedLft) → IsSync (instrumented_inside.the_field a).row
fields a = struct_sync (shape (instrumented_inside.the_type a)) (tree.program a, search sendable)

inside : (a : NamedLft) → IsSync (instrumented_inside.the_row a)
inside a = recorded_sync (instrumented_inside.the_field a).row _ _
    (instrumented_inside.the_type a).to_one (fields a)

program : (a : NamedLft) → IsSync (Instrumented.the_row a)
program a = view_sync (instrumented_inside.the_row a) _ _ _ _ (inside a)

task_field : (t a : NamedLft) → IsSend (Task.the_field t a).row
task_field t a = search (program, std.crosses, sendable) depth 40 fits 100000

pub task : (t a : NamedLft) → IsSend (Task.the_row t a)
task t a = recorded_send (Task.the_field t a).row _ _ (Task.the_type t a).to_one (task_field t a)
