use Rattle.std.proofs.Common.{ℕ, ◌<◌, ◌≤◌, false, get_or}
use Rattle.std.specs.Prelude.{Contains}
use Rattle.mc_cond.specs.Tree.{tree_of}
use Rattle.mc_pairs.specs.Pairs.{ArePaired, HasInfluenceAs, turned}
use Rattle.mc_unique.specs.Unique.{IsUniquePair}
use Rattle.mc_unique.proofs.unique.each_compared.Given as goal

abbrev pub invariant-loop-at : goal.invariant-loop-at
invariant-loop-at l = record {
  none : (m : ℕ) → m < l.at → (q : ℕ) → Contains l.seen q → ¬ ArePaired (turned l.k (IsUniquePair (tree_of l.numbering) l.k)) (tree_of l.numbering) (get_or l.seen m 0) q;
  passed : (m : ℕ) → l.at ≤ m → m < l.off → ¬ HasInfluenceAs (tree_of l.numbering) l.k false (get_or l.seen m 0);
}
