use Rattle.std.proofs.Common.{List, All}
use Rattle.mc_results.specs.Seen.{AreRight, IsAt}
use Rattle.interp_trail.specs.Traced.{Traced}
use Rattle.mc_results.proofs.gathered.put.Given as goal

abbrev pub invariant-loop-test : goal.invariant-loop-test
invariant-loop-test l = (all : List Traced) → AreRight all l.initial.slots.items → All (IsAt all) l.yielded → AreRight all l.slots.items
