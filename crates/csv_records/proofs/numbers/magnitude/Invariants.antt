use Rattle.std.proofs.Common.{◌≡◌, take, min}
use Rattle.csv_records.specs.Numbers.{magnitude_of}
use Rattle.csv_records.proofs.numbers.magnitude.Given as goal

abbrev pub invariant-loop-digit : goal.invariant-loop-digit
invariant-loop-digit l = l.value ≡ min (magnitude_of (take l.digit-index l.digits)) 18446744073709551616
