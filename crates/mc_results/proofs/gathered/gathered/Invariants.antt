use Rattle.std.proofs.Common.{◌≡◌, List, All, length, vec_len}
use Rattle.mc_results.specs.Seen.{ArePart, AreRight}
use Rattle.interp_trail.specs.Traced.{Traced}
use Rattle.mc_results.proofs.gathered.gathered.Given as goal

abbrev pub invariant-loop-part : goal.invariant-loop-part
invariant-loop-part l = (all : List Traced) → length all ≡ l.count → All (ArePart all) l.initial.left.items → All (ArePart all) l.left.items × AreRight all l.slots.items

abbrev pub decreases-loop-part : goal.decreases-loop-part
decreases-loop-part l = vec_len l.left
