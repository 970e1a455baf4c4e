-- The status of the program.
use Rattle.std.specs.Prelude.{ℕ, ◌==◌, if◌then◌else◌}
use Rattle.station_replies.specs.declared.status.Status.{Status}
use Rattle.station_replies.specs.declared.status.Status.TheVariants.{Done, Incomplete, NoCommand, SourceRefused, TestsRefused, JustificationsRefused, CannotRead, CannotWrite, OutOfMemory, TooLarge, TooManyMutants}

abbrev pub number_of : Status → ℕ
number_of Done = 0
number_of Incomplete = 1
number_of NoCommand = 2
number_of SourceRefused = 3
number_of TestsRefused = 4
number_of JustificationsRefused = 5
number_of CannotRead = 6
number_of CannotWrite = 7
number_of OutOfMemory = 8
number_of TooLarge = 9
number_of TooManyMutants = 10

-- the status where all was written: the number is 0, or 1 where something is missing
abbrev pub status_written : ℕ → Status
status_written number = if number == 0 then Done else Incomplete

-- a status that words and files decide: neither the outside nor memory failed
abbrev pub IsAnswer : Status → Type 0
IsAnswer Done = Unit {0}
IsAnswer Incomplete = Unit {0}
IsAnswer NoCommand = Unit {0}
IsAnswer SourceRefused = Unit {0}
IsAnswer TestsRefused = Unit {0}
IsAnswer JustificationsRefused = Unit {0}
IsAnswer CannotRead = ⊥
IsAnswer CannotWrite = ⊥
IsAnswer OutOfMemory = ⊥
IsAnswer TooLarge = Unit {0}
IsAnswer TooManyMutants = Unit {0}

-- a status of a command whose source is accepted, if nothing fails
abbrev pub IsAfterSource : Status → Type 0
IsAfterSource Done = Unit {0}
IsAfterSource Incomplete = Unit {0}
IsAfterSource NoCommand = ⊥
IsAfterSource SourceRefused = ⊥
IsAfterSource TestsRefused = Unit {0}
IsAfterSource JustificationsRefused = Unit {0}
IsAfterSource CannotRead = ⊥
IsAfterSource CannotWrite = ⊥
IsAfterSource OutOfMemory = ⊥
IsAfterSource TooLarge = Unit {0}
IsAfterSource TooManyMutants = Unit {0}
