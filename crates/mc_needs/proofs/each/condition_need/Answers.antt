use Rattle.std.proofs.Common.{◌+◌, Bool, List, subst}
use Rattle.mc_cond.specs.Tree.{tree_of}
use Rattle.mc_needs.specs.declared.pairing.Pairing.{Pairing}
use Rattle.mc_needs.specs.steps.Marks.{IsMarked}
use Rattle.mc_needs.specs.steps.Pairing.{IsPairing}
use Rattle.mc_needs.proofs.Marking.{some_at}
use Rattle.mc_needs.proofs.each.condition_need.Goals as goal

pub test_at-test-requires : goal.test_at-test-requires
test_at-test-requires c =
    let d = c.args.mapped.now in
    let t = tree_of d.decision.tree in
    let P : Pairing → Type 0 = λ p. IsPairing c.args.mode t c.args.k (IsMarked c.args.marks.now d.base) p in
    let one = subst P c.in-Beside.is c.in_ok-path.ensures in
    let Q : List Bool → Type 0 = λ marks. IsMarked marks d.base c.in-Beside.partner in
    some_at c.args.tests.now (d.base + c.in-Beside.partner) (subst Q c.requires.marks one.old)
