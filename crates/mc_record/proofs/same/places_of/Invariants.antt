use Rattle.std.proofs.Common.{◌≡◌, ◌++◌, ℕ, List, length, drop}
use Rattle.mc_record.specs.Merged.{place_from}
use Rattle.mc_record.specs.Seen.{place_named}
use Rattle.mc_record.proofs.same.places_of.Given as goal

abbrev pub invariant-loop-left : goal.invariant-loop-left
invariant-loop-left l = record {
  whole : l.left ++ drop (length l.left) l.fn.names ≡ l.fn.names;
  places : (q : List ℕ) → place_named l.places q ≡ place_from (length l.left) (drop (length l.left) l.fn.names) q;
}

abbrev pub decreases-loop-left : goal.decreases-loop-left
decreases-loop-left l = length l.left
