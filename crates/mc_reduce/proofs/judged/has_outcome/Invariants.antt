use Rattle.std.proofs.Common.{◌<◌, ℕ, get_or}
use Rattle.mc_cond.specs.Tree.{tree_of}
use Rattle.mc_oblige.specs.steps.Table.{HasOutcome}
use Rattle.mc_reduce.proofs.judged.has_outcome.Given as goal

abbrev pub invariant-loop-path : goal.invariant-loop-path
invariant-loop-path l = (j : ℕ) → j < l.path-index → ¬ HasOutcome (tree_of l.mapped.decision.tree) l.outcome (get_or l.seen j 0)
