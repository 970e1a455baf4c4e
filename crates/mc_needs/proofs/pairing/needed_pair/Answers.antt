use Rattle.std.proofs.Common.{ℕ, Option, List, sym, subst, arith}
use Rattle.mc_cond.specs.Tree.{Tree, tree_of}
use Rattle.mc_paths.specs.Paths.{count_of}
use Rattle.mc_paths.proofs.Numbers.{in_use_below}
use Rattle.mc_needs.specs.Needs.{IsHalfKnown}
use Rattle.mc_needs.specs.steps.Marks.{IsMarked}
use Rattle.mc_needs.specs.steps.Among.{AreAmong, IsAny}
use Rattle.mc_needs.specs.steps.Pairing.{IsLeastIfAny}
use Rattle.mc_needs.proofs.Trees.{same_tree}
use Rattle.mc_needs.proofs.pairing.needed_pair.Goals as goal

pub beside-requires : goal.beside-requires
beside-requires c =
    let t = tree_of c.args.mapped.now.decision.tree in
    let H = IsHalfKnown c.args.mode t c.args.k (IsMarked c.args.marks.now c.args.mapped.now.base) in
    let least = subst (λ (o : Option (ℕ × ℕ)). IsLeastIfAny H o) c.in-Some.is c.in_ok-pair.ensures in
    let pair = least.so.paired in
    omega (arith, in_use_below t c.in-Some.pair.0 (pair.v, pair.first_path), c.requires.marks)

pub least_of_all-pair-requires-clause-paths : goal.least_of_all-pair-requires-clause-paths
least_of_all-pair-requires-clause-paths c =
    let d = c.args.mapped.now in
    let t = tree_of d.decision.tree in
    let P : ℕ → List ℕ → Type 0 = λ n xs. AreAmong IsAny n xs in
    let counted = subst (λ (n : ℕ). P n c.in_ok-paths-in-None.paths.items) c.count.ensures.count c.in_ok-paths-in-None.ensures in
    let own = subst (λ (s : Tree). P (count_of s) c.in_ok-paths-in-None.paths.items) (same_tree d) counted in
    subst (λ (xs : List ℕ). P (count_of t) xs) (sym c.deref.ensures.value) own
