use Rattle.std.proofs.Common.{length, ap, arith}
use Rattle.mc_probe.specs.BitMaps.{map_of}
use Rattle.mc_probe.proofs.Kept.{kept}
use Rattle.mc_oblige.proofs.Bounds.{few_places}
use Rattle.mc_oblige.proofs.listing.add_events.Goals as goal

pub add_places-requires : goal.add_places-requires
add_places-requires c = omega (arith, few_places (map_of c.args.map.now) (kept c.args.map.now), ap length c.deref.ensures.value)

pub add_places-requires-2 : goal.add_places-requires-2
add_places-requires-2 c = omega (arith, few_places (map_of c.args.map.now) (kept c.args.map.now), ap length c.deref-2.ensures.value)

pub add_places-requires-3 : goal.add_places-requires-3
add_places-requires-3 c = omega (arith, few_places (map_of c.args.map.now) (kept c.args.map.now), ap length c.deref-3.ensures.value)

pub add_places-requires-4 : goal.add_places-requires-4
add_places-requires-4 c = omega (arith, few_places (map_of c.args.map.now) (kept c.args.map.now), ap length c.deref-4.ensures.value)
