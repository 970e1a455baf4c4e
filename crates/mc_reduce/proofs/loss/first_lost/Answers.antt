use Rattle.std.proofs.Common.{◌≡◌, ◌<◌, ◌≤◌, ◌+◌, ◌%◌, ℕ, Option, length, get_or, sym, ap, subst, ◌∙◌, arith, add-zero}
use Rattle.std.specs.Prelude.{IfSome}
use Rattle.std.specs.Int.{bit_at}
use Rattle.std.proofs.lemmas.List.{length-map}
use Rattle.mc_cond.specs.Tree.{tree_of, size}
use Rattle.mc_probe.specs.BitMaps.{map_of}
use Rattle.mc_probe.specs.Mapped.{mapped_of}
use Rattle.mc_probe.specs.Maps.{first_path}
use Rattle.mc_probe.proofs.Kept.{kept}
use Rattle.mc_oblige.specs.Obligations.{obligations_of}
use Rattle.mc_oblige.proofs.Listed.{known_at}
use Rattle.mc_oblige.proofs.Bounds.{based_end}
use Rattle.mc_reduce.specs.steps.Loss.{IsCounted, IsLeft, along, IsFirstAt, IsFirstMissed, NoneAt}
use Rattle.mc_reduce.proofs.Positions.{count_first}
use Rattle.mc_reduce.proofs.Losing.{NoneBefore, bits_left, bit_missed, decision_left, decision_missed, none_missed, single_counted}
use Rattle.mc_reduce.proofs.Deciding.{still_left}
use Rattle.mc_reduce.proofs.Known.{room, shown_from, count_step, low_position}
use Rattle.mc_reduce.proofs.Trees.{if_none}
use Rattle.mc_reduce.proofs.loss.first_lost.Goals as goal

pub returns-in-Some-clause-lost : goal.returns-in-Some-clause-lost
returns-in-Some-clause-lost c =
    let m = map_of c.args.map.now in
    let counts = c.args.counts.now in
    let words = c.args.words.now in
    let test = c.args.test in
    let b = c.in-Some.bit in
    let high = c.in-Some.ensures.within.1 in
    let value = c.events-position.ensures.value in
    let inside = c.events-position.ensures.inside in
    let long = c.requires.bits in
    let both = single_counted (get_or counts b 0) (bit_at (get_or words b 0) (test % 64)) c.in-Some.ensures.some.one c.in-Some.ensures.some.own in
    bit_missed m c.args.mode (IsCounted counts) (IsLeft test counts words) b (omega (arith, high, value)) both.0 both.1
    (λ k less some. still_left test counts words c.requires.counts k (omega (arith, less, high, inside, long)) (c.in-Some.ensures.first k (omega arith) less) some)

pub loop-mapped-init : goal.loop-mapped-init
loop-mapped-init c =
    let m = map_of c.args.map.now in
    let counts = c.args.counts.now in
    let words = c.args.words.now in
    let test = c.args.test in
    let value = c.events-position.ensures.value in
    let inside = c.events-position.ensures.inside in
    let long = c.requires.bits in
    let before : NoneBefore m c.args.mode (IsCounted counts) (IsLeft test counts words) (first_path m) =
    bits_left m c.args.mode (IsCounted counts) (IsLeft test counts words)
    (λ b lt some. still_left test counts words c.requires.counts b (omega (arith, lt, value, inside, long)) (c.in_default.ensures.none b (omega arith) (omega (arith, lt, value))) some) in
    record {
      place = value ∙ sym (add-zero (first_path m));
      none = subst (λ (n : ℕ). NoneBefore m c.args.mode (IsCounted counts) (IsLeft test counts words) n) (sym value) before;
    }

pub lost_of-requires-clause-paths : goal.lost_of-requires-clause-paths
lost_of-requires-clause-paths c =
    let m = map_of c.args.map.now in
    let k = kept c.args.map.now in
    let i = c.loop-mapped.mapped-index in
    let r = c.mapped-item.result in
    let known = known_at c.deref-mapped-items.result.now c.args.map.now.decisions.items i r c.deref-mapped-items.ensures.value c.loop-mapped-test.true c.mapped-item.is in
    let inside = based_end m.decisions (first_path m) m.bits i (mapped_of r) k.based known in
    let whole = c.requires.bits in
    omega (arith, inside, whole)

pub lost_of-requires-clause-count : goal.lost_of-requires-clause-count
lost_of-requires-clause-count c =
    let m = map_of c.args.map.now in
    let i = c.loop-mapped.mapped-index in
    let r = c.mapped-item.result in
    let known = known_at c.deref-mapped-items.result.now c.args.map.now.decisions.items i r c.deref-mapped-items.ensures.value c.loop-mapped-test.true c.mapped-item.is in
    let all : first_path m + count_first i m.decisions + (2 + size (tree_of r.decision.tree)) ≤ length (obligations_of m) =
    room m c.args.mode (IsCounted c.args.counts.now) i (mapped_of r) known r.placed.places in
    let place : c.loop-mapped.position ≡ first_path m + count_first i m.decisions = c.loop-mapped.invariant.place in
    let count : length c.args.shown.now ≡ length (obligations_of m) = c.requires.shown.count in
    omega (arith, all, place, count)

pub lost_of-requires-clause-shown : goal.lost_of-requires-clause-shown
lost_of-requires-clause-shown c =
    let m = map_of c.args.map.now in
    let i = c.loop-mapped.mapped-index in
    let r = c.mapped-item.result in
    let known = known_at c.deref-mapped-items.result.now c.args.map.now.decisions.items i r c.deref-mapped-items.ensures.value c.loop-mapped-test.true c.mapped-item.is in
    shown_from m c.args.mode (IsCounted c.args.counts.now) i (mapped_of r) known r.placed.places c.loop-mapped.position c.args.shown.now c.loop-mapped.invariant.place c.requires.shown

pub overflow_add-result : goal.overflow_add-result
overflow_add-result c =
    let m = map_of c.args.map.now in
    let i = c.loop-mapped.mapped-index in
    let r = c.mapped-item.result in
    let t = tree_of r.decision.tree in
    let on = along (IsCounted c.args.counts.now) r.base in
    let left = along (IsLeft c.args.test c.args.counts.now c.args.words.now) r.base in
    let lost : IsFirstAt on left c.args.mode t c.in-Some-2.at =
    subst (λ (o : Option ℕ). IfSome o (λ k. IsFirstAt on left c.args.mode t k)) c.in-Some-2.is c.in_ok-at.ensures.lost in
    let lt : c.in-Some-2.at < 2 + size t = lost.within in
    let few : size t ≤ 64 = r.placed.numbered.few in
    let low : first_path m + count_first i m.decisions ≤ 4390912 = low_position m (kept c.args.map.now) i in
    let place : c.loop-mapped.position ≡ first_path m + count_first i m.decisions = c.loop-mapped.invariant.place in
    omega (arith, lt, few, low, place)

pub returns-in-Some-2-clause-lost : goal.returns-in-Some-2-clause-lost
returns-in-Some-2-clause-lost c =
    let m = map_of c.args.map.now in
    let i = c.loop-mapped.mapped-index in
    let r = c.mapped-item.result in
    let t = tree_of r.decision.tree in
    let known = known_at c.deref-mapped-items.result.now c.args.map.now.decisions.items i r c.deref-mapped-items.ensures.value c.loop-mapped-test.true c.mapped-item.is in
    let counted = IsCounted c.args.counts.now in
    let others = IsLeft c.args.test c.args.counts.now c.args.words.now in
    let lost : IsFirstAt (along counted r.base) (along others r.base) c.args.mode t c.in-Some-2.at =
    subst (λ (o : Option ℕ). IfSome o (λ k. IsFirstAt (along counted r.base) (along others r.base) c.args.mode t k)) c.in-Some-2.is c.in_ok-at.ensures.lost in
    let place = c.loop-mapped.invariant.place in
    let before = subst (λ (n : ℕ). NoneBefore m c.args.mode counted others n) place c.loop-mapped.invariant.none in
    subst (λ (n : ℕ). IsFirstMissed m c.args.mode counted others (n + c.in-Some-2.at)) (sym place)
    (decision_missed m c.args.mode counted others i (mapped_of r) known r.placed.places before c.in-Some-2.at lost)

pub overflow_add-position : goal.overflow_add-position
overflow_add-position c =
    let m = map_of c.args.map.now in
    let i = c.loop-mapped.mapped-index in
    let few = c.obligation_count-position.ensures.few in
    let low : first_path m + count_first i m.decisions ≤ 4390912 = low_position m (kept c.args.map.now) i in
    let place : c.loop-mapped.position ≡ first_path m + count_first i m.decisions = c.loop-mapped.invariant.place in
    omega (arith, few, low, place)

pub loop-mapped-preserved : goal.loop-mapped-preserved
loop-mapped-preserved c =
    let m = map_of c.args.map.now in
    let i = c.loop-mapped.mapped-index in
    let r = c.mapped-item.result in
    let t = tree_of r.decision.tree in
    let known = known_at c.deref-mapped-items.result.now c.args.map.now.decisions.items i r c.deref-mapped-items.ensures.value c.loop-mapped-test.true c.mapped-item.is in
    let counted = IsCounted c.args.counts.now in
    let others = IsLeft c.args.test c.args.counts.now c.args.words.now in
    let none : NoneAt (along counted r.base) (along others r.base) c.args.mode t =
    if_none c.in_ok-at.field-0 (NoneAt (along counted r.base) (along others r.base) c.args.mode t) c.in_ok-at.ensures.none (λ k e. c.in_default-2.not-Some k e) in
    let place : c.loop-mapped.position ≡ first_path m + count_first i m.decisions = c.loop-mapped.invariant.place in
    let value : c.obligation_count-position.result ≡ 2 + size t = c.obligation_count-position.ensures.value in
    let step : first_path m + count_first (i + 1) m.decisions ≡ (first_path m + count_first i m.decisions) + (2 + size t) = count_step m i (mapped_of r) known r.placed.places in
    let before = subst (λ (n : ℕ). NoneBefore m c.args.mode counted others n) place c.loop-mapped.invariant.none in
    let next : NoneBefore m c.args.mode counted others (first_path m + count_first i m.decisions + (2 + size t)) =
    decision_left m c.args.mode counted others i (mapped_of r) known r.placed.places before none in
    let same : first_path m + count_first i m.decisions + (2 + size t) ≡ c.loop-mapped.position + c.obligation_count-position.result = omega (arith, place, value) in
    record {
      place = omega (arith, place, value, step);
      none = subst (λ (n : ℕ). NoneBefore m c.args.mode counted others n) same next;
    }

pub returns-clause-none : goal.returns-clause-none
returns-clause-none c =
    let m = map_of c.args.map.now in
    let i = c.loop-mapped.mapped-index in
    let long = length-map c.args.map.now.decisions.items mapped_of in
    let same = ap length c.deref-mapped-items.ensures.value in
    let ended = c.loop-mapped-test.false in
    let last = c.loop-mapped.auto.mapped-index-end in
    let all : i ≡ length m.decisions = omega (arith, long, same, ended, last) in
    none_missed m c.args.mode (IsCounted c.args.counts.now) (IsLeft c.args.test c.args.counts.now c.args.words.now) c.loop-mapped.position
    (c.loop-mapped.invariant.place ∙ ap (λ (n : ℕ). first_path m + count_first n m.decisions) all) c.loop-mapped.invariant.none
