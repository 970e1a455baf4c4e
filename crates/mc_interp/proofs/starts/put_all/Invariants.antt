use Rattle.std.proofs.Common.{◌≡◌, ◌+◌, ◌++◌, Some, drop, length, map}
use Rattle.mc_interp.proofs.starts.put_all.Given as goal

-- the values so far stand after the others
abbrev pub invariant-loop-value : goal.invariant-loop-value
invariant-loop-value l =
    (l.cells.cells ++ map Some (drop l.value-index l.values) ≡ l.fn.cells.cells ++ map Some l.values)
    × (l.cells.limit ≡ l.fn.cells.limit)
    × (length l.cells.cells ≡ length l.fn.cells.cells + l.value-index)
