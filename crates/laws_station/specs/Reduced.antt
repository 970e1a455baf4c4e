-- What the tests that `reduce` keeps show is what all show.
use Rattle.std.specs.Prelude.{◌≡◌, ℕ, List, [], ◌∷◌, map, Option, Some, None, Ok, slice_get}
use Rattle.mc_command.specs.Command as command
use Rattle.mc_command.specs.Command.{Judging}
use Rattle.mc_oblige.specs.declared.obligation.Obligation.{Obligation}
use Rattle.mc_oblige.specs.declared.verdict.VerdictState.{VerdictState}
use Rattle.mc_port.specs.Store.{Files}
use Rattle.report_options.specs.declared.form.Form.{Form}
use Rattle.mc_report.specs.Report.{Report}
use Rattle.mc_tests.specs.File.{tests_file}
use Rattle.mc_typed.specs.Plans.{Plan}
use Rattle.mc_typed.specs.Tree.{Program}
use Rattle.station_replies.specs.Files.{Holds}
use Rattle.station_replies.specs.Reply.{Reply}
use Rattle.mc_station.specs.Calls.{Call}
use Rattle.mc_station.specs.Stages.{tests_named}
use Rattle.mc_station.specs.commands.Reduce.{reduced_lines}
use Rattle.laws_station.specs.Analysed.{text_of}
use Rattle.laws_station.specs.Asking.{Asks, Writes, runs}

-- this one, where there is one, before others
abbrev pub with_first : {A : Type 0} → Option A → List A → List A
with_first None later = later
with_first (Some x) later = x ∷ later

-- those with these numbers, in this order
abbrev pub chosen : {A : Type 0} → List A → List ℕ → List A
chosen xs [] = []
chosen xs (n ∷ ns) = with_first (slice_get xs n) (chosen xs ns)

-- a tests file that has of another one the tests with these numbers, whatever the program
pub record HasChosen (files : Files) (tests few : List ℕ) (kept : List ℕ) : Type 0 where
  pub whole : List ℕ
  pub part : List ℕ
  pub whole_is : Holds (Some files) (tests_named tests) whole
  pub part_is : Holds (Some files) (tests_named few) part
  pub each : (program : Program) (fuel : ℕ) (plans : List Plan)
      → tests_file program fuel whole ≡ Ok plans
      → tests_file program fuel part ≡ Ok (chosen plans kept)

-- what the obligations of a report come to: met, justified, stale or missing, one after the other
abbrev pub states_of : Report → List VerdictState
states_of r = map (λ v. v.state) r.verdicts

-- two reports on one source say the same of each obligation
pub record SayTheSame (r q : Report) : Type 0 where
  pub obligations : r.obligations ≡ q.obligations
  pub states : states_of r ≡ states_of q

-- Of one source, with one fuel, mode and file of justifications, where no test is skipped: `reduce`
-- writes the tests that it keeps, and a report on these alone says of each obligation what the
-- report on all tests says.
abbrev pub KeptShowAll : Type 0
KeptShowAll =
    (files : Files) (source tests few : List ℕ) (fuel workers others more : ℕ)
    (judging : Judging) (form : Form) (reducing reporting again : Call) (s t u : Reply)
    → judging.telling ≡ command.report form
    → Asks files [] (runs source tests workers fuel (command.reduced judging.mode)) reducing
    → Asks files [] (runs source tests others fuel (command.judged judging)) reporting
    → Asks files [] (runs source few more fuel (command.judged judging)) again
    → Writes reducing s → Writes reporting t → Writes again u
    → (names : List (List ℕ)) × (os : List Obligation) × (kept : List ℕ) × (lost : List ℕ)
    × (s.out ≡ reduced_lines names os kept lost)
    × (HasChosen files tests few kept
    → (r : Report) × (q : Report) × (t ≡ text_of form r) × (u ≡ text_of form q) × SayTheSame r q)
