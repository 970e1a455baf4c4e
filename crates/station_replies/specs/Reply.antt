-- Replies: a status, the text for the errors' sink, and the lines for the output's.
use Rattle.std.specs.Prelude.{ℕ, List, []}
use Rattle.station_replies.specs.Files.{File, limit_of, status_of}
use Rattle.station_replies.specs.Texts.{cannot_read_line, longer_line}
use Rattle.station_replies.specs.Status.{status_written}
use Rattle.station_replies.specs.declared.status.Status.{Status}
use Rattle.station_replies.specs.declared.status.Status.TheVariants.{CannotRead, OutOfMemory}

pub record Reply : Type 0 where
  pub status : Status
  pub diag : List ℕ
  pub out : List (List ℕ)

-- all was written; the number is 0, or 1 where the text says that something is missing
abbrev pub written : ℕ → List (List ℕ) → Reply
written number lines = record { status = status_written number; diag = []; out = lines }

abbrev pub refusal : Status → List ℕ → Reply
refusal status line = record { status = status; diag = line; out = [] }

-- the file is longer than its limit
abbrev pub longer : File → Reply
longer file = refusal (status_of file.kind) (longer_line file.name (limit_of file.kind))

abbrev pub cannot_read : File → Reply
cannot_read file = refusal CannotRead (cannot_read_line file.name)

abbrev pub out_of_memory : Reply
out_of_memory = refusal OutOfMemory []
