use Rattle.std.proofs.Common.{◌∙◌, slice_get, option_map, option_copied, sym, ap}
use Rattle.types_scopes.proofs.Laid.{numbered_is, numbered_none}
use Rattle.types_scopes.proofs.members.Members.numbered.Goals as goal

pub returns-in-Some : goal.returns-in-Some
returns-in-Some c =
    let there = ap option_copied (sym c.in-Some.is) ∙ c.at.ensures
    ∙ ap (λ t. option_map (λ e. e.meaning) (slice_get t c.args.place)) c.self.view_is in
    numbered_is c.args.place (slice_get c.args.self.now c.args.place) c.in-Some.member.now there

pub returns-in-None : goal.returns-in-None
returns-in-None c =
    let there = ap option_copied (sym c.in-None.is) ∙ c.at.ensures
    ∙ ap (λ t. option_map (λ e. e.meaning) (slice_get t c.args.place)) c.self.view_is in
    numbered_none c.args.place (slice_get c.args.self.now c.args.place) there
