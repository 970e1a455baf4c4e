use Rattle.std.proofs.Common.{arith}
use Rattle.mc_probe.specs.BitMaps.{map_of}
use Rattle.mc_probe.proofs.Kept.{kept}
use Rattle.mc_instrument.proofs.Leading.{from}
use Rattle.mc_instrument.proofs.Room.{few_found}
use Rattle.mc_instrument.proofs.copies.functions.decisions_of.Goals as goal

pub overflow_cast-result : goal.overflow_cast-result
overflow_cast-result c =
    let few =
    few_found (map_of c.args.bit_map.now) c.args.function c.args.first _ (kept c.args.bit_map.now)
    (from c.args.function c.args.first _ _ c.args.bit_map.now.decisions.items _ c.decisions_from-list.ensures c.deref.ensures.value c.leading_decisions.ensures) in
    omega (arith, few)

pub returns : goal.returns
returns c =
    from c.args.function c.args.first _ _ c.args.bit_map.now.decisions.items _ c.decisions_from-list.ensures c.deref.ensures.value c.leading_decisions.ensures
