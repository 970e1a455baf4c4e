use Rattle.std.proofs.Common.{sym, arith}
use Rattle.mc_record.proofs.Hexadecimal.{fill_step}
use Rattle.mc_record.proofs.digits.read_bytes.Goals as goal

pub loop-byte-preserved : goal.loop-byte-preserved
loop-byte-preserved c =
    fill_step c.args.text.now c.loop-byte.left.now c.in-Some.rest.now c.loop-byte.bytes c.loop-byte.byte-index c.in-Some.value (omega (arith, c.loop-byte-test.true, c.loop-byte.auto.bytes)) (sym c.in-Some.ensures) c.loop-byte.invariant
