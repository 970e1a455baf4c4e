use Rattle.std.proofs.Common.{◌≡◌, ◌<◌, false, length, get_or, arith}
use Rattle.std.specs.Prelude.{slice_get, Some}
use Rattle.std.proofs.lemmas.Option.{slice_get-get_or}
use Rattle.mc_oblige.specs.declared.obligation.Obligation.{Obligation}
use Rattle.mc_oblige.specs.declared.obligation.ObligationId.TheVariants.{Entry}
use Rattle.mc_needs.proofs.Opening.{due_next}
use Rattle.mc_needs.proofs.due.asked_outcomes.Goals as goal

pub loop-at-preserved : goal.loop-at-preserved
loop-at-preserved c =
    let os = c.args.obligations.now in
    let asked = c.args.asked.now in
    let n = c.loop-at.at in
    let blank : Obligation = record { id = Entry 0; span = record { start = 0; end = 0 } } in
    let o : Obligation = get_or os n blank in
    let low : n < length asked = omega (arith, c.loop-at-test.true, c.requires.count) in
    let there : slice_get os n ≡ Some o = slice_get-get_or os n blank c.loop-at-test.true in
    due_next c.args.decisions os asked n o there c.loop-at.due.items c.loop-at.invariant (get_or asked n false) c.mark_if.new.due.items
    (slice_get-get_or asked n false low)
    (λ d x e. omega (arith, c.requires.known n d o x there e, c.loop-at.invariant.count))
    c.mark_if.ensures
