use Rattle.std.proofs.Common.{◌<◌, ℕ, slice_index_or}
use Rattle.mc_cond.specs.Tree.{IsShort, tree_of}
use Rattle.mc_probe.specs.declared.mapped.MappedDecision.{MappedDecision}
use Rattle.mc_station.proofs.records.has_old_bits.Given as goal

abbrev pub invariant-loop-mapped : goal.invariant-loop-mapped
invariant-loop-mapped l =
    (k : ℕ) (d : MappedDecision) → k < l.mapped-index → IsShort (tree_of (slice_index_or l.accepted.map.decisions.items k d).decision.tree)
