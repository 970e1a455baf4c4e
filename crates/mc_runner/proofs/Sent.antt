-- A machine may go to another thread: `Send` of its parts, from the leaves up, since `search` reaches
-- its limits at the whole. The program that it lends is shared by all of them.
use denote.Param.Send.{IsSend, IsSync, recorded_send, recorded_sync, sendable, struct_send, struct_sync, view_send, view_sync}
use denote.Ref.{NamedLft}
use denote.Struct.Declared.{shape}
use Rattle.std.proofs.Crossing as std
use Rattle.mc_typed.proofs.Shared as tree
use Rattle.mc_probe.specs.contracts.tree.Instrumented
use Rattle.mc_probe.specs.contracts.tree.Instrumented.TheInside as instrumented_inside
use Rattle.mc_interp.specs.contracts.machine.Machine
use Rattle.mc_interp.specs.contracts.machine.Machine.TheInside as machine_inside
use Rattle.mc_interp.specs.contracts.prepared.controls.Test
use Rattle.mc_interp.specs.contracts.prepared.questions.Question
use Rattle.mc_interp.specs.contracts.prepared.statements.Prepared
use Rattle.mc_interp.specs.contracts.prepared.steps.Step
use Rattle.mc_interp.specs.contracts.values.Shape
use Rattle.mc_interp.specs.contracts.call_done.CallDone
use Rattle.mc_stack.specs.contracts.stack.Stack
use Rattle.mc_runner.specs.contracts.job.Job
use Rattle.mc_stack.proofs.stack.Stack.TheSendSync as stacks
use Rattle.mc_interp.proofs.call_done.CallDone.TheSendSync as calls
use Rattle.mc_interp.proofs.store.Store.TheSendSync as stores
use Rattle.cover_recorder.proofs.recorder.Recorder.TheSendSync as recorders
use Rattle.mc_interp.proofs.prepared.questions.Question.TheLaws.TheKnot as questions
use Rattle.mc_interp.proofs.prepared.statements.Prepared.TheLaws.TheKnot as statements

-- ---- the program

fields : (a : NamedLft) → IsSync (instrumented_inside.the_field a).row
fields a = struct_sync (shape (instrumented_inside.the_type a)) (tree.program a, search sendable)

inside : (a : NamedLft) → IsSync (instrumented_inside.the_row a)
inside a = recorded_sync (instrumented_inside.the_field a).row _ _
    (instrumented_inside.the_type a).to_one (fields a)

pub program : (a : NamedLft) → IsSync (Instrumented.the_row a)
program a = view_sync (instrumented_inside.the_row a) _ _ _ _ (inside a)

-- ---- bodies that are made ready

pub question : IsSend (Question.the_field).row
question = search (questions.crosses, std.crosses, sendable) depth 40 fits 100000

pub test : (a : NamedLft) → IsSend (Test.the_field a).row
test a = search (question, tree.expression, std.crosses, sendable) depth 40 fits 100000

pub step : (a : NamedLft) → IsSend (Step.the_field a).row
step a = search (tree.effect, std.crosses, sendable) depth 40 fits 100000

pub prepared : (a : NamedLft) → IsSend (Prepared.the_field a).row
prepared a = search (
  statements.crosses,
  test,
  step,
  tree.declarator,
  tree.expression,
  tree.for_start,
  tree.return_value,
  std.crosses,
  sendable,
) depth 40 fits 100000

pub shape_field : (a : NamedLft) → IsSend (Shape.the_field a).row
shape_field a = search (prepared, std.crosses, sendable) depth 40 fits 100000

pub shape_row : (a : NamedLft) → IsSend (Shape.the_row a)
shape_row a = recorded_send (Shape.the_field a).row _ _ (Shape.the_type a).to_one (shape_field a)

-- ---- the machine, and the job of a worker

pub done : IsSend (Stack.the_row CallDone.the_row)
done = search (stacks.the_send, calls.the_send, sendable) depth 20

machine_fields : (p a : NamedLft) → IsSend (machine_inside.the_field p a).row
machine_fields p a = struct_send (shape (machine_inside.the_type p a))
    (search (program a, sendable) depth 20, (std.Vec-send _ (shape_row p), (stores.the_field_send, (done, tt))))

machine_inside_row : (p a : NamedLft) → IsSend (machine_inside.the_row p a)
machine_inside_row p a = recorded_send (machine_inside.the_field p a).row _ _
    (machine_inside.the_type p a).to_one (machine_fields p a)

pub machine : (p a : NamedLft) → IsSend (Machine.the_row p a)
machine p a = view_send (machine_inside.the_row p a) _ _ _ _ (machine_inside_row p a)

job_field : (c p a : NamedLft) → IsSend (Job.the_field c p a).row
job_field c p a =
    struct_send (shape (Job.the_type c p a)) (search (recorders.the_send, sendable) depth 20, (machine p a, tt))

pub job : (c p a : NamedLft) → IsSend (Job.the_row c p a)
job c p a = recorded_send (Job.the_field c p a).row _ _ (Job.the_type c p a).to_one (job_field c p a)
