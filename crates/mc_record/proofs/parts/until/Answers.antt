use Rattle.std.proofs.Common.{sym, ◌∙◌}
use Rattle.mc_record.proofs.Fronts.{until_found}
use Rattle.mc_record.proofs.parts.until.Goals as goal

pub returns : goal.returns
returns c = sym (until_found c.args.byte c.args.text.now c.in_ok-place.place (sym c.position.ensures ∙ c.in_ok-place.was))
