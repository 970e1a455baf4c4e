use Rattle.std.proofs.Common.{ℕ, ◌<◌, get_or}
use Rattle.mc_cond.specs.Tree.{tree_of}
use Rattle.mc_pairs.specs.Pairs.{ArePaired, turned}
use Rattle.mc_unique.specs.Unique.{IsUniquePair}
use Rattle.mc_unique.proofs.unique.least_partner.Given as goal

abbrev pub invariant-loop-next : goal.invariant-loop-next
invariant-loop-next l = (m : ℕ) → l.at < m → m < l.next → ¬ ArePaired (turned l.k (IsUniquePair (tree_of l.numbering) l.k)) (tree_of l.numbering) (get_or l.seen l.at 0) (get_or l.seen m 0)
