use Rattle.name_table.proofs.Kept.{by_last}
use Rattle.name_table.proofs.table.Table.place.Goals as goal

pub returns : goal.returns
returns g c =
    rw (← c.self.view_is) (by_last c.self.inside.entries.items c.self.inside.latest c.args.name.now c.get.result c.self.invariant c.get.ensures)
