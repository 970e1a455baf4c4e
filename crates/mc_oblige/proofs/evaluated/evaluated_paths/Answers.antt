use Rattle.std.proofs.Common.{◌≡◌, ℕ, ◌+◌, ◌<◌, ◌++◌, Option, None, List, length, get_or, drop, sym, ap, subst, ◌∙◌, arith}
use Rattle.std.proofs.lemmas.List.{length-map}
use Rattle.mc_cond.specs.Tree.{tree_of}
use Rattle.mc_paths.specs.Paths.{count_of}
use Rattle.mc_probe.specs.BitMaps.{map_of}
use Rattle.mc_probe.specs.Mapped.{mapped_of}
use Rattle.mc_probe.proofs.Kept.{kept}
use Rattle.mc_oblige.specs.declared.evaluated.EvaluatedPath.{EvaluatedPath}
use Rattle.report_options.specs.declared.mode.Mode.TheVariants.{Unique}
use Rattle.mc_oblige.specs.Shown.{HasEvent}
use Rattle.mc_oblige.specs.Evidence.{IsEvaluated}
use Rattle.mc_oblige.specs.steps.Table.{IsLeastIf, AreTestsOf}
use Rattle.mc_oblige.specs.steps.Tested.{tested, AreTestedBelow}
use Rattle.mc_oblige.proofs.Bounds.{few_places}
use Rattle.mc_oblige.proofs.Listed.{known_at}
use Rattle.mc_oblige.proofs.Judged.{inside, least_paths}
use Rattle.mc_oblige.proofs.Tested.{decision_more, all_of_them}
use Rattle.mc_oblige.proofs.evaluated.evaluated_paths.Goals as goal

pub overflow_cast-d : goal.overflow_cast-d
overflow_cast-d c =
    let m = map_of c.args.map.now in
    omega (arith, few_places m (kept c.args.map.now), length-map c.args.map.now.decisions.items mapped_of, ap length c.deref-mapped-items.ensures.value)

pub path_tests-requires : goal.path_tests-requires
path_tests-requires c =
    let m = map_of c.args.map.now in
    let i = c.loop-d.d in
    let r = c.mapped-item.result in
    let known = known_at c.deref-mapped-items.result.now c.args.map.now.decisions.items i r c.deref-mapped-items.ensures.value c.loop-d-test.true c.mapped-item.is in
    let h =
    inside m c.args.matrix.now Unique (kept c.args.map.now) c.requires.bits c.in_ok-tests.tests.items c.in_ok-tests.ensures.count c.in_ok-tests.ensures.each i (mapped_of r) known in
    let e = ap length c.deref.ensures.value in
    omega (arith, h, e)

pub add_paths-requires : goal.add_paths-requires
add_paths-requires c = omega (arith, ap length c.deref-in-loop-d.ensures.value, c.in_ok-paths.ensures.few)

pub loop-d-preserved : goal.loop-d-preserved
loop-d-preserved c =
    let m = map_of c.args.map.now in
    let x = c.args.matrix.now in
    let i = c.loop-d.d in
    let r = c.mapped-item.result in
    let tree = tree_of r.decision.tree in
    let known = known_at c.deref-mapped-items.result.now c.args.map.now.decisions.items i r c.deref-mapped-items.ensures.value c.loop-d-test.true c.mapped-item.is in
    let own = c.in_ok-paths.paths.items in
    let B : List (Option ℕ) → Type 0 = λ ts. AreTestsOf tree (drop r.base ts) (count_of tree) own in
    let of = subst B c.deref.ensures.value c.in_ok-paths.ensures.own in
    let least : (p : ℕ) → p < length own → IsLeastIf (IsEvaluated (HasEvent m x) i tree p) (get_or own p None) =
    least_paths m x Unique (kept c.args.map.now) c.requires.bits c.in_ok-tests.tests.items c.in_ok-tests.ensures.count c.in_ok-tests.ensures.each i (mapped_of r) known own of in
    let P : List EvaluatedPath → Type 0 = λ es. AreTestedBelow (HasEvent m x) m (i + 1) 0 es in
    let items = c.in_ok-add_paths.ensures ∙ ap (λ ts. c.loop-d.found.items ++ tested i 0 ts) c.deref-in-loop-d.ensures.value in
    subst P (sym items)
    (decision_more (HasEvent m x) m i (mapped_of r) known own c.loop-d.found.items of.count least c.loop-d.invariant)

pub returns : goal.returns
returns c =
    let m = map_of c.args.map.now in
    let end : c.loop-d.d ≡ length m.decisions =
    omega (arith, length-map c.args.map.now.decisions.items mapped_of, ap length c.deref-mapped-items.ensures.value) in
    all_of_them (HasEvent m c.args.matrix.now) m c.loop-d.d c.loop-d.found.items end c.loop-d.invariant
