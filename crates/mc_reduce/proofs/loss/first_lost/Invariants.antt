use Rattle.std.proofs.Common.{◌≡◌, ◌+◌}
use Rattle.mc_probe.specs.BitMaps.{map_of}
use Rattle.mc_probe.specs.Maps.{first_path}
use Rattle.mc_reduce.specs.steps.Loss.{IsCounted, IsLeft}
use Rattle.mc_reduce.proofs.Positions.{count_first}
use Rattle.mc_reduce.proofs.Losing.{NoneBefore}
use Rattle.mc_reduce.proofs.loss.first_lost.Given as goal

abbrev pub invariant-loop-mapped : goal.invariant-loop-mapped
invariant-loop-mapped l =
    let m = map_of l.map in
    record {
      place : l.position ≡ first_path m + count_first l.mapped-index m.decisions;
      none : NoneBefore m l.mode (IsCounted l.counts) (IsLeft l.test l.counts l.words) l.position;
    }
