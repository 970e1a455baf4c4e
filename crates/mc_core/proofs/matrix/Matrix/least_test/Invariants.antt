use Rattle.std.proofs.Common.{◌≡◌, ℕ, ◌*◌, ◌<◌}
use Rattle.mc_core.specs.Matrix.{bit_of}
use Rattle.mc_core.proofs.matrix.Matrix.least_test.Given as goal

abbrev pub invariant-loop-row : goal.invariant-loop-row
invariant-loop-row l = (u : ℕ) → u < 64 * l.row → bit_of l.self-inside.shape l.self-inside.words.items l.bit u ≡ 0
