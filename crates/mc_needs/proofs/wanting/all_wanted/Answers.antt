use Rattle.std.proofs.Common.{◌≡◌, ℕ, ◌++◌, List, length, sym, ap, subst, ◌∙◌, arith}
use Rattle.std.specs.Prelude.{slice_get, Some}
use Rattle.std.proofs.lemmas.List.{length-map}
use Rattle.mc_probe.specs.BitMaps.{map_of}
use Rattle.mc_probe.specs.Mapped.{mapped_of}
use Rattle.mc_probe.proofs.Kept.{kept}
use Rattle.mc_oblige.specs.declared.obligation.Obligation.{Obligation}
use Rattle.mc_oblige.specs.declared.obligation.ObligationId.{ObligationId}
use Rattle.mc_oblige.specs.declared.obligation.ObligationId.TheVariants.{Entry}
use Rattle.mc_oblige.specs.Obligations.{obligations_of}
use Rattle.needed_paths.specs.declared.wanted.Wanted.{Wanted}
use Rattle.mc_needs.specs.declared.due.Due.{Due}
use Rattle.mc_needs.specs.Asked.{asked_conditions, asked_outcomes, asked_ids}
use Rattle.mc_needs.specs.steps.Marks.{IsMarkedIn}
use Rattle.mc_needs.specs.steps.Due.{AreDue}
use Rattle.mc_needs.specs.steps.Each.{IsProper}
use Rattle.mc_needs.specs.steps.State.{AreReady, Leads}
use Rattle.mc_needs.proofs.Bases.{decision_within}
use Rattle.mc_needs.proofs.Proper.{proper}
use Rattle.mc_needs.proofs.Start.{fits, all_ready}
use Rattle.mc_needs.proofs.Listed.{left_step}
use Rattle.mc_needs.proofs.wanting.all_wanted.Goals as goal

pub asked_outcomes-requires-clause-known : goal.asked_outcomes-requires-clause-known
asked_outcomes-requires-clause-known c = λ at d o outcome there e.
    let m = map_of c.args.map.now in
    let there_is : slice_get (obligations_of m) at ≡ Some o = subst (λ (os : List Obligation). slice_get os at ≡ Some o) c.requires.obligations there in
    let own = subst (λ (id : ObligationId). IsProper m id) e (proper m (kept c.args.map.now) at o there_is) in
    let low = decision_within m.decisions d own in
    omega (arith, low, length-map c.args.map.now.decisions.items mapped_of, c.len.ensures)

pub loop-left-init : goal.loop-left-init
loop-left-init c =
    let m = map_of c.args.map.now in
    let seen = IsMarkedIn m c.args.marks.items in
    let asked = c.args.asked.now in
    let l = c.new-listing.result in
    let ids : c.as_slice-left.result.now ≡ asked_ids m asked =
    c.as_slice-left.ensures.value ∙ c.in_ok-ids.ensures
    ∙ ap (λ (os : List Obligation). asked_conditions os asked ++ asked_outcomes os asked) c.requires.obligations in
    let count : c.len.result ≡ length m.decisions = omega (arith, length-map c.args.map.now.decisions.items mapped_of, c.len.ensures) in
    let P : ℕ → List Obligation → List Due → Type 0 = λ n os due. AreDue n (length os) os asked due in
    let due = subst (λ (xs : List Due). P (length m.decisions) (obligations_of m) xs) (sym c.new-listing.ensures.due)
    (subst (λ (os : List Obligation). P (length m.decisions) os c.in_ok-due.due.items) c.requires.obligations
    (subst (λ (n : ℕ). P n c.args.obligations.now c.in_ok-due.due.items) count c.in_ok-due.ensures)) in
    record {
      fits = fits m c.args.mode asked l c.args.marks.items c.new-listing.ensures.wanted c.new-listing.ensures.marks c.requires.bits due;
      ready = subst (λ (xs : List ObligationId). AreReady m asked xs) (sym ids) (all_ready m asked (kept c.args.map.now));
      leads = subst (λ (xs : List ObligationId). Leads seen m c.args.mode asked l.wanted.items xs) (sym ids)
          (subst (λ (w : List Wanted). Leads seen m c.args.mode asked w (asked_ids m asked)) (sym c.new-listing.ensures.wanted) (λ all h. h));
    }

pub loop-left-preserved : goal.loop-left-preserved
loop-left-preserved c =
    let m = map_of c.args.map.now in
    let seen = IsMarkedIn m c.args.marks.items in
    let i = c.loop-left.invariant in
    let own = left_step seen m c.args.mode c.args.asked.now (kept c.args.map.now) c.requires.missing c.loop-left.left.now (Entry 0) c.loop-left.listing c.add_for.new.self
    c.in-len1-up.len_at_least i.fits i.ready i.leads c.in_ok-add_for.ensures in
    record { fits = own.0; ready = own.1; leads = own.2 }
