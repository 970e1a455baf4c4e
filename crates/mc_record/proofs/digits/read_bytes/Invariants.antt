use Rattle.std.proofs.Common.{◌≡◌, ◌-◌, length, take}
use Rattle.mc_record.specs.Digits.{bytes_in}
use Rattle.mc_record.specs.Seen.{onto}
use Rattle.mc_record.proofs.digits.read_bytes.Given as goal

abbrev pub invariant-loop-byte : goal.invariant-loop-byte
invariant-loop-byte l = bytes_in (length l.bytes) l.fn.text ≡ onto (take l.byte-index l.bytes) (bytes_in (length l.bytes - l.byte-index) l.left)
