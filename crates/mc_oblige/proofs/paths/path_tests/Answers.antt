use Rattle.std.proofs.Common.{ℕ, Option, List, length, drop, ap, subst, arith}
use Rattle.std.proofs.lemmas.List.{take_rest, length-drop}
use Rattle.std.proofs.lemmas.Result.{IfOk-weaker}
use Rattle.mc_cond.specs.Tree.{Tree, tree_of}
use Rattle.mc_paths.specs.Paths.{count_of}
use Rattle.mc_probe.proofs.Kept.{equal_trees}
use Rattle.mc_oblige.specs.steps.Table.{AreTestsOf}
use Rattle.mc_oblige.proofs.paths.path_tests.Goals as goal

pub tests_in_use-requires : goal.tests_in_use-requires
tests_in_use-requires c =
    let same = (equal_trees (tree_of c.args.mapped.now.numbering) (tree_of c.args.mapped.now.decision.tree)).0 c.args.mapped.now.same in
    let base = c.args.mapped.now.base in
    let tests = c.args.tests.now in
    omega (arith, ap length (take_rest tests base), length-drop base tests, ap count_of same, c.requires)

pub returns-clause-own : goal.returns-clause-own
returns-clause-own c =
    let own = tree_of c.args.mapped.now.numbering in
    let tree = tree_of c.args.mapped.now.decision.tree in
    let same = (equal_trees own tree).0 c.args.mapped.now.same in
    let base = c.args.mapped.now.base in
    let tests = c.args.tests.now in
    IfOk-weaker c.tests_in_use.result _ _
    (λ v h.
    (let P : List (Option ℕ) → Type 0 = λ bits. AreTestsOf own bits (count_of own) v.items in
    let Q : Tree → Type 0 = λ t. AreTestsOf t (drop base tests) (count_of t) v.items in
    subst Q same (subst P (take_rest tests base) h)))
    c.tests_in_use.ensures.own
