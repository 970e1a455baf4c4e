-- What a sink in memory takes, exactly.
use Rattle.std.specs.Prelude.{ℕ, ◌-◌, Bool, true, false, List, [], ◌∷◌, ◌++◌, length, take, min, Option, Some, None, Result, if◌then◌else◌, ◌==◌, nat_le}
use Rattle.std.specs.Result.{is_err}
use Rattle.mc_port.specs.Causes.{raised}
use Rattle.mc_port.specs.declared.sink.PutFault.{PutFault}

-- how many bytes the put of a number may take before it fails, where it is listed
-- of two entries with one number the first is meant
abbrev pub listed_at : List (ℕ × ℕ) → ℕ → Option ℕ
listed_at [] number = None
listed_at (p ∷ ps) number = if p.0 == number then Some p.1 else listed_at ps number

-- whether a put of a piece that is not empty fails, and the bytes after it, by what the list says
-- of it: not listed, it takes all or, past the room, nothing; listed, it takes the least of its
-- number, the piece's length and the room left
abbrev pub put_of : List ℕ → ℕ → Option ℕ → List ℕ → Bool × List ℕ
put_of bytes room None piece =
    if nat_le (length piece) (room - length bytes) then (false, bytes ++ piece)
    else (true, bytes)
put_of bytes room (Some takes) piece =
    (true, bytes ++ take (min (min (length piece) (room - length bytes)) takes) piece)

-- the count of faults after a put: it rises at a failure alone
abbrev pub faults_after : ℕ → Result Unit PutFault → ℕ
faults_after before result = if is_err result then raised before else before
