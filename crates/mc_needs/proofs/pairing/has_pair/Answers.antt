use Rattle.std.proofs.Common.{ℕ, List, sym, subst}
use Rattle.mc_cond.specs.Tree.{tree_of}
use Rattle.mc_paths.specs.Paths.{count_of}
use Rattle.mc_needs.specs.steps.Marks.{IsMarked}
use Rattle.mc_needs.specs.steps.Among.{AreAmong}
use Rattle.mc_needs.proofs.Half.{marked_unpaired}
use Rattle.mc_needs.proofs.Trees.{numbered}
use Rattle.mc_needs.proofs.pairing.has_pair.Goals as goal

pub returns-clause-missing : goal.returns-clause-missing
returns-clause-missing c =
    let d = c.args.mapped.now in
    let t = tree_of d.decision.tree in
    let marked = IsMarked c.args.marks.now d.base in
    let own = subst (λ (xs : List ℕ). AreAmong marked (count_of t) xs) (sym c.deref.ensures.value) c.in_ok-paths.ensures in
    marked_unpaired c.args.mode t c.args.k (numbered d) c.args.marks.now d.base c.deref.result.now own c.in-None.ensures.none
