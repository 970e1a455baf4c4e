use Rattle.std.proofs.Common.{◌≡◌, ◌∙◌, Some, None, sym}
use Rattle.name_table.proofs.Kept.{by_place}
use Rattle.name_table.proofs.table.Table.get.Goals as goal

pub returns-in-Some : goal.returns-in-Some
returns-in-Some g c =
    let from : c.deref.result.now ≡ c.self.inside.entries.items = c.deref.ensures.value in
    rw (← c.self.view_is) (rw from at c.meaning_at.ensures
    ∙ by_place c.self.inside.entries.items c.self.inside.latest c.args.name.now (Some c.in-Some.place) c.self.invariant
    (sym c.get.ensures ∙ c.in-Some.is))

pub returns-in-None : goal.returns-in-None
returns-in-None g c =
    rw (← c.self.view_is) (by_place c.self.inside.entries.items c.self.inside.latest c.args.name.now None c.self.invariant
    (sym c.get.ensures ∙ c.in-None.is))
