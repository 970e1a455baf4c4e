use Rattle.std.proofs.Common.{◌≡◌, map, take}
use Rattle.interp_trail.specs.Seen.{trace_of}
use Rattle.mc_results.specs.Seen.{AreRight, traced_in}
use Rattle.mc_results.proofs.gathered.in_order.Given as goal

abbrev pub invariant-loop-test : goal.invariant-loop-test
invariant-loop-test l = record {
  right : AreRight (traced_in l.task) l.left.items;
  traces : map trace_of l.traces.items ≡ take l.test (traced_in l.task);
}
