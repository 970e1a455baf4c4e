use Rattle.std.proofs.Common.{◌≡◌, ◌-◌, []}
use Rattle.mc_record.specs.Bits.{bits_in}
use Rattle.mc_record.proofs.bits.read_bits.Given as goal

abbrev pub invariant-loop-bit : goal.invariant-loop-bit
invariant-loop-bit l = bits_in l.shape 0 [] l.shape.bits l.fn.text ≡ bits_in l.shape l.bit l.words.items (l.shape.bits - l.bit) l.left
