-- The files that commands ask for.
use Rattle.std.specs.Prelude.{◌≤◌, ℕ, List, length, Option}
use Rattle.mc_limits.specs.Limits.{most_justification_bytes, most_record_bytes, most_source_bytes, most_tests_bytes}
use Rattle.mc_port.specs.Store.{Files, HasFile, Request}
use Rattle.station_replies.specs.declared.file.FileKind.{FileKind}
use Rattle.station_replies.specs.declared.file.FileKind.TheVariants.{Source, Tests, Record, Justifications}
use Rattle.station_replies.specs.declared.status.Status.{Status}
use Rattle.station_replies.specs.declared.status.Status.TheVariants.{SourceRefused, TestsRefused, JustificationsRefused}

-- the greatest length of a file, in bytes
abbrev pub limit_of : FileKind → ℕ
limit_of Source = most_source_bytes
limit_of Tests = most_tests_bytes
limit_of Record = most_record_bytes
limit_of Justifications = most_justification_bytes

-- the status where it is refused
abbrev pub status_of : FileKind → Status
status_of Source = SourceRefused
status_of Tests = TestsRefused
status_of Record = TestsRefused
status_of Justifications = JustificationsRefused

pub record File : Type 0 where
  pub kind : FileKind
  pub name : List ℕ

-- how a file is asked for: by its name, and with the limit of its kind
abbrev pub request_of : File → Request
request_of file = record { name = file.name; limit = limit_of file.kind }

-- the file has these bytes, where the files are told, and no more than its limit
abbrev pub Holds : Option Files → File → List ℕ → Type 0
Holds files file bytes = HasFile files file.name bytes × (length bytes ≤ limit_of file.kind)
