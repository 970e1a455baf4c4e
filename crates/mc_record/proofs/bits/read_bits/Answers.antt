use Rattle.std.proofs.Common.{◌≡◌, ◌≢◌, ◌-◌, ◌+◌, ◌<◌, ◌∙◌, ℕ, List, [], refl, arith}
use Rattle.std.specs.Prelude.{Err}
use Rattle.mc_core.specs.Shape.{rows}
use Rattle.mc_core.specs.declared.shape.Shape.{Shape}
use Rattle.mc_record.specs.Bits.{bits_in, row_in, with_row}
use Rattle.mc_record.specs.declared.fault.RecordFault.{RecordFault}
use Rattle.mc_record.specs.declared.fault.RecordFault.TheVariants.{OutOfMemory}
use Rattle.mc_record.proofs.BitLines.{bits_step, bits_stop}
use Rattle.mc_record.proofs.Raised.{raised}
use Rattle.mc_record.proofs.bits.read_bits.Goals as goal

bits_fault : (shape : Shape) (text : List ℕ) (b : ℕ) (words left : List ℕ) (e : RecordFault) → b < shape.bits
    → bits_in shape 0 [] shape.bits text ≡ bits_in shape b words (shape.bits - b) left
    → (e ≢ OutOfMemory → with_row (5 + shape.tests + b) shape.tests words (row_in b (rows shape) left) ≡ Err e)
    → e ≢ OutOfMemory → bits_in shape 0 [] shape.bits text ≡ Err e
bits_fault shape text b words left e less so_far is other = so_far ∙ bits_stop shape b words left e less (is other)

pub loop-bit-init : goal.loop-bit-init
loop-bit-init c =
    let all : c.args.shape.bits - 0 ≡ c.args.shape.bits = omega arith in
    rw (all, c.requires.empty) refl

pub loop-bit-preserved : goal.loop-bit-preserved
loop-bit-preserved c =
    c.loop-bit.invariant ∙ bits_step c.args.shape c.loop-bit.bit c.loop-bit.words.items c.read_row.new.words.items c.loop-bit.left.now c.in_ok-left.left.now c.loop-bit-test.true c.in_ok-left.ensures.read

pub returns-in_err-left-clause-fault : goal.returns-in_err-left-clause-fault
returns-in_err-left-clause-fault c =
    raised c.from_residual.result c.in_err-left.field-0.0 (λ e. e ≢ OutOfMemory → bits_in c.args.shape 0 [] c.args.shape.bits c.args.text.now ≡ Err e) c.from_residual.ensures.1
    (bits_fault c.args.shape c.args.text.now c.loop-bit.bit c.loop-bit.words.items c.loop-bit.left.now c.in_err-left.field-0.0 c.loop-bit-test.true c.loop-bit.invariant c.in_err-left.ensures.fault)
