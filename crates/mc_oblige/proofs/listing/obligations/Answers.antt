use Rattle.std.proofs.Common.{length, ap, arith}
use Rattle.std.proofs.lemmas.List.{length-map}
use Rattle.mc_probe.specs.BitMaps.{map_of}
use Rattle.mc_probe.specs.Mapped.{mapped_of}
use Rattle.mc_probe.proofs.Kept.{kept}
use Rattle.mc_oblige.proofs.Bounds.{few_places}
use Rattle.mc_oblige.proofs.listing.obligations.Goals as goal

pub add_decisions-requires : goal.add_decisions-requires
add_decisions-requires c =
    omega (arith, few_places (map_of c.args.map.now) (kept c.args.map.now), length-map c.args.map.now.decisions.items mapped_of, ap length c.deref.ensures.value)
