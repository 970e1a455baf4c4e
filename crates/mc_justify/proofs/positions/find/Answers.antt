use Rattle.std.proofs.Common.{◌∙◌, sym}
use Rattle.mc_justify.proofs.ById.{named_below, named_first}
use Rattle.mc_justify.proofs.positions.find.Goals as goal

pub bounds-obligations-position : goal.bounds-obligations-position
bounds-obligations-position c =
    named_below c.args.id.now c.args.obligations.now c.in_ok-position.position (sym (c.in_ok-position.ensures ∙ c.requires c.args.id.now))

pub returns : goal.returns
returns c =
    sym (named_first c.args.id.now c.args.obligations.now c.in_ok-position.position _ (sym (c.in_ok-position.ensures ∙ c.requires c.args.id.now)))
