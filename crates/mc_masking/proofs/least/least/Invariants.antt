use Rattle.std.proofs.Common.{ℕ, ◌<◌, get_or}
use Rattle.mc_cond.specs.Tree.{tree_of}
use Rattle.mc_pairs.specs.Pairs.{HasInfluenceAs}
use Rattle.mc_masking.proofs.least.least.Given as goal

abbrev pub invariant-loop-path : goal.invariant-loop-path
invariant-loop-path l = (n : ℕ) → n < l.path-index → ¬ HasInfluenceAs (tree_of l.numbering) l.k l.value (get_or l.seen n 0)
