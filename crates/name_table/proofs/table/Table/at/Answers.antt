use Rattle.std.proofs.Common.{◌≡◌, ◌∙◌}
use Rattle.name_table.proofs.Kept.{meaning_there}
use Rattle.name_table.proofs.table.Table.at.Goals as goal

pub returns : goal.returns
returns g c =
    let from : c.deref.result.now ≡ c.self.inside.entries.items = c.deref.ensures.value in
    rw (← c.self.view_is) (rw from at c.meaning_at.ensures ∙ meaning_there c.self.inside.entries.items c.args.place)
