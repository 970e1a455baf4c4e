-- What is judged in place of the bytes of a file: these bytes, or the source that is made of them.
use Rattle.std.specs.Prelude.{◌≡◌, Bool, true, false, ℕ, List, Result, Ok, Err}
use Rattle.station_replies.specs.Phases.{Then}
use Rattle.station_replies.specs.Reply.{Reply}
use Rattle.mc_station.specs.Named.{JudgesTaken, TakesIf, makes_source}
use Rattle.mc_station.specs.Stages.{Judges, Stage, after_source, kept, last, left, load, merged, reasons, right, source, tests, usage, writes}

-- the stage asks for a file of which its source is made
abbrev pub makes_at : Stage → Bool
makes_at (source name action) = makes_source action
makes_at stage = false

abbrev pub TakesAt : Stage → List ℕ → Result (List ℕ) Reply → Type 0
TakesAt stage bytes = TakesIf (makes_at stage) bytes

-- what is taken leads to another stage, or to a refusal
abbrev pub JudgesAt : Stage → (taken : List ℕ) → Result Stage Reply → Type 0
JudgesAt (source name action) taken =
    Then (JudgesTaken action taken) (λ accepted v. v ≡ Ok (after_source action accepted))
JudgesAt stage taken = Judges stage taken
