use Rattle.std.proofs.Common.{ℕ, ◌<◌, get_or}
use Rattle.mc_cond.specs.Tree.{tree_of}
use Rattle.mc_masking.specs.Laws.{HasInfluenceTo}
use Rattle.mc_masking.proofs.least.least_to.Given as goal

abbrev pub invariant-loop-path : goal.invariant-loop-path
invariant-loop-path l = (n : ℕ) → n < l.path-index → ¬ HasInfluenceTo (tree_of l.numbering) l.k l.value l.outcome (get_or l.seen n 0)
