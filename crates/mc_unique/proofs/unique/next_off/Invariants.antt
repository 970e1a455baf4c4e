use Rattle.std.proofs.Common.{ℕ, ◌<◌, ◌≤◌, false, get_or}
use Rattle.mc_cond.specs.Tree.{tree_of}
use Rattle.mc_pairs.specs.Pairs.{HasInfluenceAs}
use Rattle.mc_unique.proofs.unique.next_off.Given as goal

abbrev pub invariant-loop-next : goal.invariant-loop-next
invariant-loop-next l = (m : ℕ) → l.at ≤ m → m < l.next → ¬ HasInfluenceAs (tree_of l.numbering) l.k false (get_or l.seen m 0)
