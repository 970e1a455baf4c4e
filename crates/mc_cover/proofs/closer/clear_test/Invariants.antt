use Rattle.std.proofs.Common.{◌≡◌, ℕ, ◌*◌, ◌<◌, length}
use Rattle.mc_core.specs.Shape.{rows, word_count}
use Rattle.mc_core.specs.Matrix.{bit_of}
use Rattle.mc_cover.proofs.Clears.{cleared_of}
use Rattle.mc_cover.proofs.closer.clear_test.Given as goal

abbrev pub invariant-loop-bit : goal.invariant-loop-bit
invariant-loop-bit l = record {
  whole : length l.words ≡ word_count l.shape;
  bits : (b t : ℕ) → b < l.shape.bits → t < 64 * rows l.shape → bit_of l.shape l.words b t ≡ cleared_of l.bit l.test b t (bit_of l.shape l.initial.words b t);
}
