use Rattle.std.proofs.Common.{◌≡◌, ◌+◌, ◌++◌, ◌≤◌, Some, drop, length, map}
use Rattle.mc_typed.specs.Views as plain
use Rattle.mc_interp.specs.Machines.{initial_of}
use Rattle.mc_interp.proofs.starts.put_statics.Given as goal

-- the objects so far stand after the others
abbrev pub invariant-loop-object : goal.invariant-loop-object
invariant-loop-object l =
    (l.cells.cells ++ map Some (initial_of (map plain.static_of (drop l.object-index l.statics)))
    ≡ l.fn.cells.cells ++ map Some (initial_of (map plain.static_of l.statics)))
    × (l.cells.limit ≡ l.fn.cells.limit)
    × (length l.cells.cells + length (initial_of (map plain.static_of (drop l.object-index l.statics))) ≤ l.cells.limit)
