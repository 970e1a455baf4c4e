-- What clauses see of commands.
use Rattle.std.specs.Prelude.{◌≤◌, ℕ, ⊤, option_map}
use Rattle.mc_limits.specs.Limits.{most_fuel, most_functions, most_looks, most_workers}
use Rattle.mc_command.specs.Command.{Action, Command, Judging, MatrixTask, Run, SourceText, Task, Telling, adapted, analyse, functions, instrumented, judged, listing, merge, mutated, needs, on_matrix, on_source, recorded, reduced, report, run, selfload, traced, vectors, watched, write}
use Rattle.mc_command.specs.Values.{most_watched_workers}
use Rattle.mc_command.specs.declared.action.Action.{Action as ActionGiven}
use Rattle.mc_command.specs.declared.action.Action.TheVariants as action
use Rattle.mc_command.specs.declared.command.Command.{Command as Given}
use Rattle.mc_command.specs.declared.command.Command.TheVariants as command
use Rattle.mc_command.specs.declared.judging.Judging.{Judging as JudgingGiven}
use Rattle.mc_command.specs.declared.matrix_task.MatrixTask.{MatrixTask as MatrixTaskGiven}
use Rattle.mc_command.specs.declared.matrix_task.MatrixTask.TheVariants as matrix_task
use Rattle.mc_command.specs.declared.run.Run.{Run as RunGiven}
use Rattle.mc_command.specs.declared.source_text.SourceText.{SourceText as SourceTextGiven}
use Rattle.mc_command.specs.declared.source_text.SourceText.TheVariants as source_text
use Rattle.mc_command.specs.declared.telling.Telling.{Telling as TellingGiven}
use Rattle.mc_command.specs.declared.telling.Telling.TheVariants as telling
use Rattle.mc_command.specs.declared.task.Task.{Task as TaskGiven}
use Rattle.mc_command.specs.declared.task.Task.TheVariants as task

abbrev pub seen_telling : TellingGiven → Telling
seen_telling (telling.Report form) = report form
seen_telling telling.Listing = listing
seen_telling (telling.Functions of) = functions (option_map (λ name. name.now) of)
seen_telling (telling.Needs of) = needs (option_map (λ name. name.now) of)

abbrev pub seen_judging : JudgingGiven → Judging
seen_judging j = record {
  mode = j.mode;
  justify = option_map (λ name. name.now) j.justify;
  telling = seen_telling j.telling;
}

abbrev pub seen_matrix_task : MatrixTaskGiven → MatrixTask
seen_matrix_task (matrix_task.Judge j) = judged (seen_judging j)
seen_matrix_task matrix_task.Vectors = vectors
seen_matrix_task matrix_task.Record = recorded
seen_matrix_task (matrix_task.Reduce mode) = reduced mode

abbrev pub seen_task : TaskGiven → Task
seen_task (task.OnMatrix t) = on_matrix (seen_matrix_task t)
seen_task (task.Watch looks) = watched looks
seen_task task.Mutate = mutated
seen_task task.Trace = traced

abbrev pub seen_run : RunGiven → Run
seen_run r =
    record { tests = r.tests.now; workers = r.workers; fuel = r.fuel; task = seen_task r.task }

abbrev pub seen_source_text : SourceTextGiven → SourceText
seen_source_text source_text.Instrumented = instrumented
seen_source_text source_text.Adapted = adapted

abbrev pub seen_action : ActionGiven → Action
seen_action (action.Run r) = run (seen_run r)
seen_action (action.Write text) = write (seen_source_text text)
seen_action (action.Merge left right) = merge left.now right.now
seen_action (action.Analyse kept j) = analyse kept.now (seen_judging j)

-- what a command of the program stands for
abbrev pub seen_command : Given → Command
seen_command (command.OnSource source given) = on_source source.now (seen_action given)
seen_command (command.Selfload count workers) = selfload count workers

abbrev pub IsWithin : (least most : ℕ) → ℕ → Type 0
IsWithin least most n = (least ≤ n) × (n ≤ most)

-- the number of a task, where it has one, is in range
abbrev pub TaskIsInRange : TaskGiven → Type 0
TaskIsInRange (task.Watch looks) = IsWithin 1 most_looks looks
TaskIsInRange given = ⊤

-- the workers of a run are few enough for its task
abbrev pub AreFewFor : TaskGiven → (workers : ℕ) → Type 0
AreFewFor (task.Watch looks) workers = workers ≤ most_watched_workers
AreFewFor given workers = ⊤

-- the workers of a run, the fuel of each test, and the number of its task are in range
pub record RunIsInRange (r : RunGiven) : Type 0 where
  pub workers : IsWithin 1 most_workers r.workers
  pub fuel : IsWithin 1 most_fuel r.fuel
  pub task : TaskIsInRange r.task
  pub few : AreFewFor r.task r.workers

-- the numbers of its run, where it has one, are in range
abbrev pub ActionIsInRange : ActionGiven → Type 0
ActionIsInRange (action.Run r) = RunIsInRange r
ActionIsInRange given = ⊤

-- the numbers of a command are in range
abbrev pub IsInRange : Given → Type 0
IsInRange (command.OnSource source given) = ActionIsInRange given
IsInRange (command.Selfload count workers) =
    IsWithin 1 most_functions count × IsWithin 1 most_workers workers
