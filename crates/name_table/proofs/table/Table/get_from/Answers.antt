use Rattle.std.proofs.Common.{◌≡◌, ◌∙◌, sym, arith}
use Rattle.name_table.proofs.Kept.{by_late_place, by_early_place, by_no_place}
use Rattle.name_table.proofs.table.Table.get_from.Goals as goal

pub returns-then-place-from : goal.returns-then-place-from
returns-then-place-from g c =
    rw (← c.self.view_is) (by_early_place c.args.from c.self.inside.entries.items c.self.inside.latest c.args.name.now c.in-Some.place c.self.invariant
    (sym c.get.ensures ∙ c.in-Some.is) c.if-place-from.true)

pub returns-else-place-from : goal.returns-else-place-from
returns-else-place-from g c =
    let from : c.deref.result.now ≡ c.self.inside.entries.items = c.deref.ensures.value in
    rw (← c.self.view_is) (rw from at c.meaning_at.ensures
    ∙ by_late_place c.args.from c.self.inside.entries.items c.self.inside.latest c.args.name.now c.in-Some.place c.self.invariant
    (sym c.get.ensures ∙ c.in-Some.is) (omega (arith, c.if-place-from.false)))

pub returns-in-None : goal.returns-in-None
returns-in-None g c =
    rw (← c.self.view_is) (by_no_place c.args.from c.self.inside.entries.items c.self.inside.latest c.args.name.now c.self.invariant
    (sym c.get.ensures ∙ c.in-None.is))
