use Rattle.std.proofs.Common.{◌≡◌, ◌+◌, ◌++◌, ℕ, Bool, List, length, sym, ap, subst, ◌∙◌, arith, add-zero}
use Rattle.std.proofs.lemmas.List.{length-map}
use Rattle.mc_probe.specs.BitMaps.{map_of}
use Rattle.mc_probe.specs.Mapped.{mapped_of}
use Rattle.mc_probe.specs.Maps.{first_path}
use Rattle.mc_probe.proofs.Kept.{kept}
use Rattle.mc_oblige.proofs.Listed.{known_at}
use Rattle.mc_oblige.proofs.Bounds.{based_end}
use Rattle.mc_reduce.specs.steps.Loss.{IsCounted, AreKnown, AreShownBefore}
use Rattle.mc_reduce.proofs.Positions.{count_first, length_all}
use Rattle.mc_reduce.proofs.Known.{events_before, decision_before, all_before, count_step}
use Rattle.mc_reduce.proofs.shown.all_shown.Goals as goal

pub loop-mapped-init : goal.loop-mapped-init
loop-mapped-init c =
    let m = map_of c.args.map.now in
    let on = IsCounted c.args.counts.now in
    let own = subst (λ (n : ℕ). AreKnown on n c.in_ok-shown.shown.items) c.events.ensures.value c.in_ok-shown.ensures in
    subst (λ (n : ℕ). AreShownBefore m c.args.mode on n c.in_ok-shown.shown.items) (sym (add-zero (first_path m)))
    (events_before m c.args.mode on c.in_ok-shown.shown.items own)

pub decision_shown-requires : goal.decision_shown-requires
decision_shown-requires c =
    let m = map_of c.args.map.now in
    let k = kept c.args.map.now in
    let i = c.loop-mapped.mapped-index in
    let r = c.mapped-item.result in
    let known = known_at c.deref-mapped-items.result.now c.args.map.now.decisions.items i r c.deref-mapped-items.ensures.value c.loop-mapped-test.true c.mapped-item.is in
    let inside = based_end m.decisions (first_path m) m.bits i (mapped_of r) k.based known in
    let whole = c.requires in
    omega (arith, inside, whole)

pub loop-mapped-preserved : goal.loop-mapped-preserved
loop-mapped-preserved c =
    let m = map_of c.args.map.now in
    let on = IsCounted c.args.counts.now in
    let i = c.loop-mapped.mapped-index in
    let r = c.mapped-item.result in
    let known = known_at c.deref-mapped-items.result.now c.args.map.now.decisions.items i r c.deref-mapped-items.ensures.value c.loop-mapped-test.true c.mapped-item.is in
    let items : c.extend_from_slice.new.self.items ≡ c.loop-mapped.shown.items ++ c.in_ok-own.own.items =
    c.in_ok-extend_from_slice.ensures.items ∙ ap (λ (bs : List Bool). c.loop-mapped.shown.items ++ bs) c.deref.ensures.value in
    let next =
    decision_before m c.args.mode on i (mapped_of r) known r.placed.places c.loop-mapped.shown.items c.in_ok-own.own.items c.loop-mapped.invariant c.in_ok-own.ensures in
    subst (λ (bs : List Bool). AreShownBefore m c.args.mode on (first_path m + count_first (i + 1) m.decisions) bs) (sym items)
    (subst (λ (n : ℕ). AreShownBefore m c.args.mode on n (c.loop-mapped.shown.items ++ c.in_ok-own.own.items)) (sym (count_step m i (mapped_of r) known r.placed.places)) next)

pub returns : goal.returns
returns c =
    let m = map_of c.args.map.now in
    let i = c.loop-mapped.mapped-index in
    let long = length-map c.args.map.now.decisions.items mapped_of in
    let same = ap length c.deref-mapped-items.ensures.value in
    let ended = c.loop-mapped-test.false in
    let last = c.loop-mapped.auto.mapped-index-end in
    let all : i ≡ length m.decisions = omega (arith, long, same, ended, last) in
    all_before m c.args.mode (IsCounted c.args.counts.now) (first_path m + count_first i m.decisions) c.loop-mapped.shown.items c.loop-mapped.invariant
    (ap (λ (n : ℕ). first_path m + count_first n m.decisions) all ∙ sym (length_all m))
