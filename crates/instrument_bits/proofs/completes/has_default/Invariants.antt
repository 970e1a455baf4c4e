-- What is left tells the same as all.
use Rattle.std.proofs.Common.{◌≡◌, drop, map}
use Rattle.mc_typed.specs.Views.{statement_of, statements_from}
use Rattle.mc_steps.specs.Points.{has_default}
use Rattle.instrument_bits.proofs.completes.has_default.Given as goal

abbrev pub invariant-loop-item : goal.invariant-loop-item
invariant-loop-item l =
    has_default (statements_from (map statement_of (drop l.item-index l.items))) ≡ has_default (statements_from (map statement_of l.items))
