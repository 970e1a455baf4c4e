use Rattle.std.proofs.Common.{◌<◌, ◌≤◌, ℕ}
use Rattle.mc_reduce.specs.steps.Counts.{IsSingle}
use Rattle.mc_reduce.proofs.counts.first_single.Given as goal

abbrev pub invariant-loop-bit : goal.invariant-loop-bit
invariant-loop-bit l = (c : ℕ) → l.first ≤ c → c < l.bit → ¬ IsSingle l.test l.counts l.words c
