-- The record that `merge` writes of two parts of a tests file is that of the whole file.
use Rattle.std.specs.Prelude.{◌≡◌, ◌++◌, ℕ, List, [], Some, Ok}
use Rattle.mc_command.specs.Command as command
use Rattle.mc_port.specs.Store.{Files}
use Rattle.mc_tests.specs.File.{tests_file}
use Rattle.mc_typed.specs.Plans.{Plan}
use Rattle.mc_typed.specs.Tree.{Program}
use Rattle.station_replies.specs.Files.{Holds}
use Rattle.station_replies.specs.Reply.{Reply}
use Rattle.mc_station.specs.Calls.{Call}
use Rattle.mc_station.specs.Stages.{tests_named}
use Rattle.laws_station.specs.Asking.{Asks, IsKept, Writes, runs}

-- the tests of a tests file are those of one, followed by those of another one, whatever the
-- program
abbrev pub AreParts : (one other whole : List ℕ) → Type 0
AreParts one other whole =
    (program : Program) (fuel : ℕ) (ps qs : List Plan)
    → tests_file program fuel one ≡ Ok ps → tests_file program fuel other ≡ Ok qs
    → tests_file program fuel whole ≡ Ok (ps ++ qs)

-- three tests files of which the third has the tests of both others
pub record HaveParts (files : Files) (left right both : List ℕ) : Type 0 where
  pub one : List ℕ
  pub other : List ℕ
  pub whole : List ℕ
  pub one_is : Holds (Some files) (tests_named left) one
  pub other_is : Holds (Some files) (tests_named right) other
  pub whole_is : Holds (Some files) (tests_named both) whole
  pub parts : AreParts one other whole

-- Of one source, with one fuel, where no test is skipped: where `record` wrote the records of two
-- parts of a tests file, `merge` writes of them what `record` writes of the whole, byte for byte.
abbrev pub MergeIsRecord : Type 0
MergeIsRecord =
    (files : Files) (source left right both first second : List ℕ)
    (fuel workers others more : ℕ)
    (on_left on_right merging on_both : Call) (s t m w : Reply)
    → HaveParts files left right both
    → Asks files [] (runs source left workers fuel command.recorded) on_left
    → Asks files [] (runs source right others fuel command.recorded) on_right
    → Asks files [] (command.on_source source (command.merge first second)) merging
    → Asks files [] (runs source both more fuel command.recorded) on_both
    → Writes on_left s → IsKept files first s
    → Writes on_right t → IsKept files second t
    → Writes merging m → Writes on_both w
    → m.out ≡ w.out
