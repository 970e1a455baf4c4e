use Rattle.std.proofs.Common.{arith}
use Rattle.mc_probe.specs.BitMaps.{map_of}
use Rattle.mc_probe.proofs.Kept.{kept}
use Rattle.mc_oblige.proofs.Bounds.{few_places, few_decisions}
use Rattle.mc_probe.specs.Maps.{first_path}
use Rattle.mc_reduce.proofs.shown.events.Goals as goal

pub overflow_add-count-2 : goal.overflow_add-count-2
overflow_add-count-2 c = omega (arith, few_places (map_of c.args.map.now) (kept c.args.map.now))

pub overflow_add-count-3 : goal.overflow_add-count-3
overflow_add-count-3 c = omega (arith, few_places (map_of c.args.map.now) (kept c.args.map.now))

pub overflow_cast-result : goal.overflow_cast-result
overflow_cast-result c = omega (arith, few_places (map_of c.args.map.now) (kept c.args.map.now))

pub returns-clause-inside : goal.returns-clause-inside
returns-clause-inside c =
    let m = map_of c.args.map.now in
    let k = kept c.args.map.now in
    omega (arith, few_decisions m.decisions (first_path m) m.bits k.based)
