use Rattle.std.specs.Prelude.{ℕ, ◌<◌}
use Rattle.mc_cond.specs.Tree.{tree_of}
use Rattle.mc_needs.specs.Needs.{Gives}
use Rattle.mc_needs.proofs.outcome.least_with.Given as goal

abbrev pub invariant-loop-path : goal.invariant-loop-path
invariant-loop-path l = (p : ℕ) → p < l.path → ¬ Gives (tree_of l.mapped.decision.tree) l.outcome p
