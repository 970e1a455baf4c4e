-- The number of workers changes no reply.
use Rattle.std.specs.Prelude.{◌≡◌, ◌⊎◌, ◌↔◌, ℕ, List, [], ◌∷◌, Some, None, codes}
use Rattle.mc_command.specs.Command as command
use Rattle.mc_command.specs.Command.{Action, Command, command_of}
use Rattle.report_options.specs.declared.form.Form.TheVariants.{Text}
use Rattle.report_options.specs.declared.mode.Mode.TheVariants.{Unique}
use Rattle.station_replies.specs.Phases.{AreOne}
use Rattle.station_replies.specs.Reply.{Reply}
use Rattle.mc_station.specs.Calls.{Call, CallsFor, IsKnown, LeadsTo, Requests}
use Rattle.mc_station.specs.Laws.{IsWatch}
use Rattle.mc_station.specs.commands.Watch.{AreOnLooks}

-- an action that this many workers share; one that runs no tests is as it was
abbrev pub shared_action : (workers : ℕ) → Action → Action
shared_action workers (command.run run) = command.run (record run { workers = workers })
shared_action workers action = action

abbrev pub shared : (workers : ℕ) → Command → Command
shared workers (command.on_source name action) =
    command.on_source name (shared_action workers action)
shared workers (command.selfload count others) = command.selfload count workers

-- the words of two calls are commands that differ in the number of workers alone; their files and
-- the tests that the closer skips are the same
pub record DifferInWorkers (a b : Call) : Type 0 where
  pub given : Command
  pub workers : ℕ
  pub first : command_of a.words ≡ Some given
  pub second : command_of b.words ≡ Some (shared workers given)
  pub files : a.files ≡ b.files
  pub skipped : a.skipped ≡ b.skipped

-- such calls lead to the same replies, and ask the store for the same files
abbrev pub WorkersLeadAlike : Type 0
WorkersLeadAlike =
    (a b : Call) → DifferInWorkers a b → (asked after : Requests) (r : Reply)
    → LeadsTo a asked r after ↔ LeadsTo b asked r after

-- and call for the same replies
abbrev pub WorkersCallAlike : Type 0
WorkersCallAlike =
    (a b : Call) → DifferInWorkers a b → (r : Reply) → CallsFor a r ↔ CallsFor b r

-- So where all that the words ask for is told, each of two such calls has the other's reply, but
-- for the place of a fault of the syntax, and for what the looks of `watch` count.
abbrev pub WorkersReplyAlike : Type 0
WorkersReplyAlike =
    (a b : Call) → DifferInWorkers a b → (r s : Reply)
    → IsKnown a → CallsFor a r → CallsFor b s
    → AreOne r s ⊎ (IsWatch (command_of a.words) × AreOnLooks r s)

-- ---- two such calls

-- with these words, no files told, and no test skipped
abbrev pub worded : List (List ℕ) → Call
worded words = record { words = words; skipped = []; files = None }

abbrev pub report_words : (options : List (List ℕ)) → List (List ℕ)
report_words options = codes "report" ∷ codes "a.c" ∷ codes "a.csv" ∷ options

-- `--workers 64`
abbrev pub by_most : List (List ℕ)
by_most = codes "--workers" ∷ codes "64" ∷ []

-- what `report a.c a.csv` asks for
abbrev pub plain_report : Command
plain_report =
    command.on_source (codes "a.c")
    (command.run (record {
      tests = codes "a.csv";
      workers = 4;
      fuel = 1000000;
      task = command.on_matrix
          (command.judged
          (record { mode = Unique; justify = None; telling = command.report Text }));
    }))

-- `report a.c a.csv` and `report a.c a.csv --workers 64` differ in the number of workers alone
abbrev pub WorkersAreAnOption : Type 0
WorkersAreAnOption =
    DifferInWorkers (worded (report_words [])) (worded (report_words by_most))
