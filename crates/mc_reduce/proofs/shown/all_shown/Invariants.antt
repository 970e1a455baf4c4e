use Rattle.std.proofs.Common.{◌+◌}
use Rattle.mc_probe.specs.BitMaps.{map_of}
use Rattle.mc_probe.specs.Maps.{first_path}
use Rattle.mc_reduce.specs.steps.Loss.{IsCounted, AreShownBefore}
use Rattle.mc_reduce.proofs.Positions.{count_first}
use Rattle.mc_reduce.proofs.shown.all_shown.Given as goal

abbrev pub invariant-loop-mapped : goal.invariant-loop-mapped
invariant-loop-mapped l =
    let m = map_of l.map in
    AreShownBefore m l.mode (IsCounted l.counts) (first_path m + count_first l.mapped-index m.decisions) l.shown.items
