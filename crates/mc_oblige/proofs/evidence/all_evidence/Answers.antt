use Rattle.std.proofs.Common.{◌≡◌, ℕ, ◌+◌, ◌≤◌, ◌++◌, Option, List, length, take, drop, map, sym, ap, subst, ◌∙◌, arith}
use Rattle.std.proofs.lemmas.List.{length-take-le}
use Rattle.mc_cond.specs.Tree.{tree_of}
use Rattle.mc_paths.specs.Paths.{count_of}
use Rattle.mc_probe.specs.BitMaps.{map_of}
use Rattle.mc_probe.specs.Mapped.{mapped_of}
use Rattle.mc_probe.specs.Maps as maps
use Rattle.mc_probe.proofs.Kept.{kept}
use Rattle.mc_oblige.specs.declared.verdict.Evidence.{Evidence}
use Rattle.mc_oblige.specs.Shown.{HasEvent}
use Rattle.mc_oblige.specs.steps.Table.{evidence_of, AreTestsOf, AreInUse}
use Rattle.mc_oblige.specs.steps.Found.{AreFound, AreEvidence}
use Rattle.mc_oblige.proofs.Listed.{known_at}
use Rattle.mc_oblige.proofs.InUse.{tests_in_use}
use Rattle.mc_oblige.proofs.Judged.{so_far, long, begun, inside, next}
use Rattle.mc_oblige.proofs.evidence.all_evidence.Goals as goal

pub slice_bounds-test_evidence-end : goal.slice_bounds-test_evidence-end
slice_bounds-test_evidence-end c =
    let m = map_of c.args.map.now in
    let h : maps.first_path m ≤ length c.in_ok-tests.tests.items =
    long m c.args.matrix.now c.args.mode (kept c.args.map.now) c.requires c.in_ok-tests.tests.items c.in_ok-tests.ensures.count c.in_ok-tests.ensures.each in
    let e = ap length c.deref.ensures.value in
    let f = c.first_path.ensures in
    sym (length-take-le c.first_path.result c.deref.result.now (omega arith))

pub loop-mapped-init : goal.loop-mapped-init
loop-mapped-init c =
    let m = map_of c.args.map.now in
    let table = c.in_ok-tests.tests.items in
    let P : List Evidence → Type 0 = λ es. AreEvidence (HasEvent m c.args.matrix.now) m c.args.mode (so_far m c.args.matrix.now c.args.mode 0) es in
    let e : c.in_ok-found.found.items ≡ map evidence_of (take (maps.first_path m) table) =
    c.in_ok-found.ensures
    ∙ ap (λ ts. map evidence_of (take c.first_path.result ts)) c.deref.ensures.value
    ∙ ap (λ n. map evidence_of (take n table)) c.first_path.ensures in
    subst P (sym e) (begun m c.args.matrix.now c.args.mode (kept c.args.map.now) c.requires table c.in_ok-tests.ensures.count c.in_ok-tests.ensures.each)

pub path_tests-requires : goal.path_tests-requires
path_tests-requires c =
    let m = map_of c.args.map.now in
    let i = c.loop-mapped.mapped-index in
    let r = c.mapped-item.result in
    let known = known_at c.deref-mapped-items.result.now c.args.map.now.decisions.items i r c.deref-mapped-items.ensures.value c.loop-mapped-test.true c.mapped-item.is in
    let h =
    inside m c.args.matrix.now c.args.mode (kept c.args.map.now) c.requires c.in_ok-tests.tests.items c.in_ok-tests.ensures.count c.in_ok-tests.ensures.each i (mapped_of r) known in
    let e = ap length c.deref-in-loop-mapped.ensures.value in
    omega (arith, h, e)

-- the tests of the decision's numbers, those of its bits
pub decision_evidence-requires-clause-count : goal.decision_evidence-requires-clause-count
decision_evidence-requires-clause-count c = ap length c.deref-in-loop-mapped-2.ensures.value ∙ c.in_ok-paths.ensures.own.count

pub decision_evidence-requires-clause-few : goal.decision_evidence-requires-clause-few
decision_evidence-requires-clause-few c = omega (arith, ap length c.deref-in-loop-mapped-2.ensures.value, c.in_ok-paths.ensures.few)

pub decision_evidence-requires-clause-used : goal.decision_evidence-requires-clause-used
decision_evidence-requires-clause-used c =
    let tree = tree_of c.mapped-item.result.decision.tree in
    let P : List (Option ℕ) → Type 0 = λ ts. AreInUse tree ts in
    subst P (sym c.deref-in-loop-mapped-2.ensures.value) (tests_in_use tree _ (count_of tree) c.in_ok-paths.paths.items c.in_ok-paths.ensures.own)

pub loop-mapped-preserved : goal.loop-mapped-preserved
loop-mapped-preserved c =
    let m = map_of c.args.map.now in
    let x = c.args.matrix.now in
    let i = c.loop-mapped.mapped-index in
    let r = c.mapped-item.result in
    let tree = tree_of r.decision.tree in
    let tests = c.in_ok-paths.paths.items in
    let own = c.in_ok-own.own.items in
    let known = known_at c.deref-mapped-items.result.now c.args.map.now.decisions.items i r c.deref-mapped-items.ensures.value c.loop-mapped-test.true c.mapped-item.is in
    let F : List (Option ℕ) → Type 0 = λ ts. AreFound c.args.mode tree ts own in
    let B : List (Option ℕ) → Type 0 = λ ts. AreTestsOf tree (drop r.base ts) (count_of tree) tests in
    let items : c.extend_from_slice.new.self.items ≡ c.loop-mapped.found.items ++ own =
    c.in_ok-extend_from_slice.ensures.items ∙ ap (λ es. c.loop-mapped.found.items ++ es) c.deref-in-loop-mapped-3.ensures.value in
    let P : List Evidence → Type 0 = λ es. AreEvidence (HasEvent m x) m c.args.mode (so_far m x c.args.mode (i + 1)) es in
    subst P (sym items)
    (next m x c.args.mode (kept c.args.map.now) c.requires c.in_ok-tests.tests.items c.in_ok-tests.ensures.count c.in_ok-tests.ensures.each i (mapped_of r) known tests
    (subst B c.deref-in-loop-mapped.ensures.value c.in_ok-paths.ensures.own) c.loop-mapped.found.items own
    (subst F c.deref-in-loop-mapped-2.ensures.value c.in_ok-own.ensures) c.loop-mapped.invariant)
