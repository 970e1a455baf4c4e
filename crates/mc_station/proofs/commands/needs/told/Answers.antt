use Rattle.std.proofs.Common.{◌≡◌, ◌∙◌, Bool, List, ap, map, subst, sym}
use Rattle.mc_core.specs.declared.shape.Shape.{Shape}
use Rattle.mc_functions.specs.Asked.{asked_in}
use Rattle.mc_functions.specs.Seen.{measured_of}
use Rattle.mc_needs.specs.Answer.{AreNeeds}
use Rattle.mc_oblige.specs.Shown.{HasEvent}
use Rattle.mc_probe.specs.BitMaps.{map_of}
use Rattle.mc_probe.specs.Mapped.{mapped_of}
use Rattle.needed_paths.specs.Seen.{needs_of}
use Rattle.mc_station.proofs.Needing.{asked_are, told_are}
use Rattle.mc_station.proofs.commands.needs.told.Goals as goal

pub needs-requires-clause-asked : goal.needs-requires-clause-asked
needs-requires-clause-asked c =
    let (named, are) = c.requires.verdicts in
    rw (c.deref.ensures.value) (asked_are (map_of c.args.map.now) c.args.matrix.now c.args.mode named (measured_of c.args.measured.now) c.in_ok-asked.asked.items c.in_ok-asked.ensures c.requires.obligations are)

pub lines_of-requires-clause-told : goal.lines_of-requires-clause-told
lines_of-requires-clause-told c =
    let m = map_of c.args.map.now in
    let x = c.args.matrix.now in
    let parts = measured_of c.args.measured.now in
    let (named, are) = c.requires.verdicts in
    let decisions : map mapped_of c.deref-2.result.now ≡ m.decisions = ap (map mapped_of) c.deref-2.ensures.value in
    let asked : c.deref-3.result.now ≡ asked_in parts = c.deref-3.ensures.value ∙ c.in_ok-asked.ensures in
    let same : c.deref.result.now ≡ c.deref-3.result.now = c.deref.ensures.value ∙ sym c.deref-3.ensures.value in
    told_are _ m x c.args.mode named parts c.requires.tokens decisions c.requires.obligations (sym (ap (λ (s : Shape). s.tests) c.requires.shape)) asked c.requires.obligations are
    (subst (λ (bs : List Bool). AreNeeds (HasEvent m x) m c.args.mode bs (needs_of c.in_ok-needs.needs)) same c.in_ok-needs.ensures)
