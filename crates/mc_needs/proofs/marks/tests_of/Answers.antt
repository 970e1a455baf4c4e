use Rattle.std.proofs.Common.{◌≡◌, ℕ, length, get_or, refl, arith, subst, rules}
use Rattle.std.proofs.lemmas.List.{get_or_default}
use Rattle.std.proofs.lemmas.List.Elements.{Contains-get_or}
use Rattle.mc_probe.specs.BitMaps.{map_of}
use Rattle.mc_probe.specs.Mapped.{mapped_of}
use Rattle.mc_probe.proofs.Kept.{kept}
use Rattle.mc_oblige.specs.declared.evaluated.EvaluatedPath.{EvaluatedPath}
use Rattle.mc_needs.specs.steps.Marks.{entry_of}
use Rattle.mc_needs.proofs.Marking.{path_there, path_below, AreTestsBelow, begun, tests_next, all_tests}
use Rattle.mc_needs.proofs.marks.tests_of.Goals as goal

pub decision_at-mapped-requires : goal.decision_at-mapped-requires
decision_at-mapped-requires c =
    let m = map_of c.args.map.now in
    let es = c.args.evaluated.now in
    let i = c.loop-path.path-index in
    let r : EvaluatedPath = get_or es i (entry_of 0 0 0) in
    path_there m r (c.requires r (Contains-get_or es i (entry_of 0 0 0) c.loop-path-test.true))

pub index_mut-requires : goal.index_mut-requires
index_mut-requires c =
    let m = map_of c.args.map.now in
    let es = c.args.evaluated.now in
    let i = c.loop-path.path-index in
    let r : EvaluatedPath = get_or es i (entry_of 0 0 0) in
    let x = mapped_of c.decision_at-mapped.result.now in
    let is = c.requires r (Contains-get_or es i (entry_of 0 0 0) c.loop-path-test.true) in
    let low = path_below m r x is c.decision_at-mapped.ensures.known in
    omega (arith, low, c.decision_at-mapped.ensures.within, c.loop-path.invariant.count)

pub loop-path-init : goal.loop-path-init
loop-path-init c = begun (map_of c.args.map.now) (kept c.args.map.now) c.args.evaluated.now c.in_ok-tests.tests.items (search rules)

pub loop-path-preserved : goal.loop-path-preserved
loop-path-preserved c =
    let m = map_of c.args.map.now in
    let es = c.args.evaluated.now in
    let i = c.loop-path.path-index in
    let r : EvaluatedPath = get_or es i (entry_of 0 0 0) in
    let x = mapped_of c.decision_at-mapped.result.now in
    let is = c.requires r (Contains-get_or es i (entry_of 0 0 0) c.loop-path-test.true) in
    let low = path_below m r x is c.decision_at-mapped.ensures.known in
    tests_next m (kept c.args.map.now) es i r x c.loop-path.tests.items c.loop-path-test.true (get_or_default es i (entry_of 0 0 0) r c.loop-path-test.true)
    c.decision_at-mapped.ensures.known low c.loop-path.invariant _ refl

pub returns : goal.returns
returns c =
    let es = c.args.evaluated.now in
    let tests = c.loop-path.tests.items in
    let m = map_of c.args.map.now in
    let end : c.loop-path.path-index ≡ length es = omega (arith, c.loop-path-test.false, c.loop-path.auto.path-index-end) in
    let P : ℕ → Type 0 = λ n. AreTestsBelow m es n tests in
    all_tests m (kept c.args.map.now) es tests (subst P end c.loop-path.invariant)
