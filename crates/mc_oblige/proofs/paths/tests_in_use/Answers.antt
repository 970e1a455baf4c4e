use Rattle.std.proofs.Common.{◌≡◌, ℕ, subst, arith}
use Rattle.mc_cond.specs.Tree.{tree_of}
use Rattle.mc_paths.specs.Paths.{count_of}
use Rattle.mc_oblige.specs.steps.Table.{AreTestsOf}
use Rattle.mc_oblige.proofs.InUse.{no_tests, one_test}
use Rattle.mc_oblige.proofs.paths.tests_in_use.Goals as goal

pub loop-path-init : goal.loop-path-init
loop-path-init c = rw c.new-found.ensures.items (no_tests (tree_of c.args.numbering.now) c.args.tests.now)

pub loop-path-preserved : goal.loop-path-preserved
loop-path-preserved c =
    rw c.in_ok-push.ensures.items
    (one_test (tree_of c.args.numbering.now) c.args.tests.now c.loop-path.path c.loop-path.found.items c.test_in_use.result c.loop-path.invariant c.test_in_use.ensures)

pub returns-clause-own : goal.returns-clause-own
returns-clause-own c =
    let t = tree_of c.args.numbering.now in
    let end : c.loop-path.path ≡ count_of t = omega arith in
    let P : ℕ → Type 0 = λ n. AreTestsOf t c.args.tests.now n c.loop-path.found.items in
    subst P end c.loop-path.invariant

pub returns-clause-few : goal.returns-clause-few
returns-clause-few c = let count = c.loop-path.invariant.count in omega arith
