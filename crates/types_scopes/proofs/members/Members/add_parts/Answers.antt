use Rattle.std.proofs.Common.{◌∙◌, map, slice_get, option_map, option_copied, sym, ap}
use Rattle.mc_typed.specs.Layout.{object_type_of}
use Rattle.types_scopes.proofs.Laid.{parts_next}
use Rattle.types_scopes.proofs.members.Members.add_parts.Goals as goal

pub loop-place-preserved : goal.loop-place-preserved
loop-place-preserved c =
    let there = ap option_copied (sym c.in-Some.is) ∙ c.at.ensures
    ∙ ap (λ t. option_map (λ e. e.meaning) (slice_get t c.loop-place.place)) c.self.view_is in
    ap (map object_type_of) c.in_ok-push.ensures
    ∙ parts_next c.args.self.now c.loop-place.place c.in-Some.member.now c.loop-place.parts.items c.in_ok-layout.field-0 there c.loop-place.invariant c.in_ok-layout.ensures
