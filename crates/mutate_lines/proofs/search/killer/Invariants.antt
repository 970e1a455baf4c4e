use Rattle.std.proofs.Common.{◌+◌, ◌<◌, ℕ}
use Rattle.mc_core.specs.Matrix.{Holds}
use Rattle.mutate_lines.proofs.search.killer.Given as goal

abbrev pub invariant-loop-test : goal.invariant-loop-test
invariant-loop-test l = (before : ℕ) → before < l.test → ¬ Holds l.matrix 0 (l.first + before)
