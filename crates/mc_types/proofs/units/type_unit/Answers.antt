use Rattle.mc_tree.specs.Units.{item_of}
use Rattle.mc_types.proofs.UnitArms.{few_items}
use Rattle.mc_types.proofs.units.type_unit.Goals as goal

pub bodies_of-requires : goal.bodies_of-requires
bodies_of-requires c =
    rw c.deref.ensures.value (few_items item_of c.args.unit.now.items.items c.args.unit.now.short)
