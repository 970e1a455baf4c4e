use Rattle.std.proofs.Common.{◌≤◌, length}
use Rattle.mc_interp.proofs.Passes.{still_lent}
use Rattle.mc_interp.proofs.entries.lend.Given as goal

-- the arrays so far, with those that are still to come, are all
abbrev pub invariant-loop-given : goal.invariant-loop-given
invariant-loop-given l = still_lent l.passed l.given-index l.arrays.items × (length l.arrays.items ≤ l.given-index)
