use Rattle.std.proofs.Common.{arith}
use Rattle.mc_probe.specs.BitMaps.{map_of}
use Rattle.mc_probe.proofs.Kept.{kept}
use Rattle.mc_oblige.proofs.Bounds.{few_places}
use Rattle.mc_oblige.proofs.evidence.first_path.Goals as goal

pub overflow_add-result-2 : goal.overflow_add-result-2
overflow_add-result-2 c = omega (arith, few_places (map_of c.args.map.now) (kept c.args.map.now))

pub overflow_add-result-3 : goal.overflow_add-result-3
overflow_add-result-3 c = omega (arith, few_places (map_of c.args.map.now) (kept c.args.map.now))
