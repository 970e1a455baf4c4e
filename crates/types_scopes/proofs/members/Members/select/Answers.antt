use Rattle.std.proofs.Common.{◌∙◌, Some, None, sym, ap, subst}
use Rattle.name_table.specs.Tables.{last_place_of}
use Rattle.types_scopes.specs.Listed.{AreLaid}
use Rattle.types_scopes.proofs.Laid.{selected_at, numbered_selects, numbered_begins}
use Rattle.types_scopes.proofs.members.Members.select.Goals as goal

pub returns-in-Some-clause-member : goal.returns-in-Some-clause-member
returns-in-Some-clause-member c =
    let is = sym c.in-Some.is ∙ c.place.ensures ∙ ap (last_place_of c.args.name.now) c.self.view_is in
    numbered_selects c.args.name.now c.args.self.now c.in-Some.place c.numbered.result
    (selected_at c.args.name.now c.args.self.now (Some c.in-Some.place) is) c.numbered.ensures

pub returns-in-Some-clause-offset : goal.returns-in-Some-clause-offset
returns-in-Some-clause-offset c =
    let is = sym c.in-Some.is ∙ c.place.ensures ∙ ap (last_place_of c.args.name.now) c.self.view_is in
    numbered_begins c.args.name.now c.args.self.now c.self.inside.cells c.self.inside.nesting c.in-Some.place c.numbered.result
    (subst (λ t. AreLaid t c.self.inside.cells c.self.inside.nesting) c.self.view_is c.self.invariant)
    (selected_at c.args.name.now c.args.self.now (Some c.in-Some.place) is) c.numbered.ensures

pub returns-in-None-clause-member : goal.returns-in-None-clause-member
returns-in-None-clause-member c =
    let is = sym c.in-None.is ∙ c.place.ensures ∙ ap (last_place_of c.args.name.now) c.self.view_is in
    sym (selected_at c.args.name.now c.args.self.now None is)
