use Rattle.std.proofs.Common.{◌≡◌, ◌≤◌, ◌*◌, min, drop}
use Rattle.types_rules.specs.Profile.{most_counted}
use Rattle.types_scopes.specs.Counted.{product}
use Rattle.types_scopes.proofs.layouts.counted_products.Given as goal

abbrev pub invariant-loop-length : goal.invariant-loop-length
invariant-loop-length l = record {
  few : l.total ≤ most_counted;
  whole : min (l.total * product (drop l.length-index l.lengths)) most_counted
      ≡ min (l.cells * product l.lengths) most_counted;
}
