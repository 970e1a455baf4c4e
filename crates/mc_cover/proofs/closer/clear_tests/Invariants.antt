use Rattle.std.proofs.Common.{◌≡◌, ℕ, ◌*◌, ◌<◌, take, length}
use Rattle.mc_core.specs.Shape.{rows, word_count}
use Rattle.mc_core.specs.Matrix.{bit_of}
use Rattle.mc_cover.specs.Closed.{left_of}
use Rattle.mc_cover.proofs.closer.clear_tests.Given as goal

abbrev pub invariant-loop-test : goal.invariant-loop-test
invariant-loop-test l = record {
  whole : length l.words ≡ word_count l.shape;
  bits : (b t : ℕ) → b < l.shape.bits → t < 64 * rows l.shape → bit_of l.shape l.words b t ≡ left_of (take l.test-index l.tests) t (bit_of l.shape l.initial.words b t);
}
