use Rattle.std.proofs.Common.{◌≡◌, ◌++◌, ℕ, List, length, drop, option_map}
use Rattle.std.specs.BTreeMap.{get_by_text}
use Rattle.mc_justify.specs.Justifications.{obligation_named}
use Rattle.mc_justify.proofs.positions.positions_by_id.Given as goal

abbrev pub invariant-loop-left : goal.invariant-loop-left
invariant-loop-left l = record {
  whole : l.left ++ drop (length l.left) l.fn.obligations ≡ l.fn.obligations;
  positions : (q : List ℕ) → get_by_text l.positions q ≡ option_map (λ found. found.0) (obligation_named q (length l.left) (drop (length l.left) l.fn.obligations));
}

abbrev pub decreases-loop-left : goal.decreases-loop-left
decreases-loop-left l = length l.left
