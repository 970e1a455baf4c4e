use Rattle.std.proofs.Common.{◌∙◌, ◌++◌, ap, subst, refl}
use Rattle.std.specs.Option.{option_to_list}
use Rattle.name_table.specs.Indexed.{IsIndexed}
use Rattle.name_table.proofs.Kept.{indexed_less, last_has_place}
use Rattle.name_table.proofs.table.Table.pop.Goals as goal

pub restore-requires : goal.restore-requires
restore-requires g c =
    let split = c.pop.ensures.items ∙ ap (λ o. c.pop.new.self.items ++ option_to_list o) c.in-Some.is in
    let h = subst (λ es. IsIndexed es c.self.inside.latest) split c.self.invariant in
    rw (last_has_place c.pop.new.self.items c.in-Some.last c.self.inside.latest h) refl

pub invariant_of-self : goal.invariant_of-self
invariant_of-self g c =
    let split = c.pop.ensures.items ∙ ap (λ o. c.pop.new.self.items ++ option_to_list o) c.in-Some.is in
    let h = subst (λ es. IsIndexed es c.self.inside.latest) split c.self.invariant in
    indexed_less c.pop.new.self.items c.in-Some.last c.self.inside.latest c.restore.new.self h c.restore.ensures
