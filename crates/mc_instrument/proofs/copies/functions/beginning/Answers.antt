use Rattle.std.proofs.Common.{ap, length, arith}
use Rattle.mc_probe.specs.BitMaps.{map_of}
use Rattle.mc_probe.proofs.Kept.{kept}
use Rattle.mc_instrument.proofs.Room.{few_places}
use Rattle.mc_instrument.proofs.copies.functions.beginning.Goals as goal

pub bit_after-exit-requires : goal.bit_after-exit-requires
bit_after-exit-requires c =
    let few = few_places (map_of c.args.bit_map.now) (kept c.args.bit_map.now) in
    omega (arith, few, ap length c.deref.ensures.value)

pub bit_after-statement-requires : goal.bit_after-statement-requires
bit_after-statement-requires c =
    let few = few_places (map_of c.args.bit_map.now) (kept c.args.bit_map.now) in
    let a = rw c.deref.ensures.value at c.bit_after-exit.ensures in
    omega (arith, few, a, ap length c.deref-2.ensures.value)

pub bit_after-label-requires : goal.bit_after-label-requires
bit_after-label-requires c =
    let few = few_places (map_of c.args.bit_map.now) (kept c.args.bit_map.now) in
    let a = rw c.deref.ensures.value at c.bit_after-exit.ensures in
    let b = rw c.deref-2.ensures.value at c.bit_after-statement.ensures in
    omega (arith, few, a, b, ap length c.deref-3.ensures.value)

pub returns : goal.returns
returns c =
    let a = rw c.deref.ensures.value at c.bit_after-exit.ensures in
    let b = rw c.deref-2.ensures.value at c.bit_after-statement.ensures in
    let d = rw c.deref-3.ensures.value at c.bit_after-label.ensures in
    record {
      exit = omega (arith, a);
      statement = omega (arith, a, b);
      label = omega (arith, a, b, d);
    }
