use Rattle.std.proofs.Common.{◌≡◌, ◌<◌, length, arith, refl}
use Rattle.std.specs.Prelude.{slice_get, Some}
use Rattle.std.proofs.lemmas.List.{length-map}
use Rattle.mc_probe.specs.BitMaps.{map_of}
use Rattle.mc_probe.specs.Mapped.{mapped_of}
use Rattle.mc_probe.specs.Maps.{first_path}
use Rattle.mc_probe.proofs.Kept.{kept}
use Rattle.mc_oblige.proofs.Bounds.{based_end}
use Rattle.mc_oblige.proofs.Listed.{known_at}
use Rattle.mc_needs.proofs.Bases.{decision_within}
use Rattle.mc_needs.proofs.decision.decision_at.Goals as goal

pub index-requires : goal.index-requires
index-requires c =
    let ds = c.args.map.now.decisions.items in
    omega (arith, decision_within (map_of c.args.map.now).decisions c.args.d c.requires, length-map ds mapped_of)

pub returns-clause-known : goal.returns-clause-known
returns-clause-known c =
    let ds = c.args.map.now.decisions.items in
    let lt : c.args.d < length ds = omega (arith, decision_within (map_of c.args.map.now).decisions c.args.d c.requires, length-map ds mapped_of) in
    known_at ds ds c.args.d c.index.result.now refl lt c.index.ensures

pub returns-clause-within : goal.returns-clause-within
returns-clause-within c =
    let m = map_of c.args.map.now in
    let ds = c.args.map.now.decisions.items in
    let r = c.index.result.now in
    let lt : c.args.d < length ds = omega (arith, decision_within m.decisions c.args.d c.requires, length-map ds mapped_of) in
    let known : slice_get m.decisions c.args.d ≡ Some (mapped_of r) = known_at ds ds c.args.d r refl lt c.index.ensures in
    let k = kept c.args.map.now in
    based_end m.decisions (first_path m) m.bits c.args.d (mapped_of r) k.based known
