use Rattle.std.proofs.Common.{ℕ, Bool, true, false, List, sym, subst}
use Rattle.mc_cond.specs.Tree.{tree_of}
use Rattle.mc_paths.specs.Paths.{count_of}
use Rattle.mc_needs.specs.steps.Among.{AreAmong, IsMember}
use Rattle.mc_needs.proofs.Half.{half_of}
use Rattle.mc_needs.proofs.Trees.{numbered}
use Rattle.mc_needs.proofs.pairing.half_known.Goals as goal

pub chosen_pair-requires-clause-paths : goal.chosen_pair-requires-clause-paths
chosen_pair-requires-clause-paths c =
    let d = c.args.mapped.now in
    let t = tree_of d.decision.tree in
    let own = subst (λ (xs : List ℕ). AreAmong (IsMember t c.args.marks.now d.base c.args.k false) (count_of t) xs) (sym c.deref.ensures.value) c.in_ok-with_second.ensures in
    own.below

pub chosen_pair-requires-2-clause-paths : goal.chosen_pair-requires-2-clause-paths
chosen_pair-requires-2-clause-paths c =
    let d = c.args.mapped.now in
    let t = tree_of d.decision.tree in
    let own = subst (λ (xs : List ℕ). AreAmong (IsMember t c.args.marks.now d.base c.args.k true) (count_of t) xs) (sym c.deref-2.ensures.value) c.in_ok-with_first.ensures in
    own.below

pub returns : goal.returns
returns c =
    let d = c.args.mapped.now in
    let t = tree_of d.decision.tree in
    let on : Bool → List ℕ → Type 0 = λ value xs. AreAmong (IsMember t c.args.marks.now d.base c.args.k value) (count_of t) xs in
    let first = subst (λ (xs : List ℕ). on false xs) (sym c.deref.ensures.value) c.in_ok-with_second.ensures in
    let second = subst (λ (xs : List ℕ). on true xs) (sym c.deref-2.ensures.value) c.in_ok-with_first.ensures in
    rw c.lesser.ensures
    (half_of c.args.mode t c.args.k (numbered d) c.args.marks.now d.base c.requires.missing c.deref.result.now c.deref-2.result.now first second
    c.chosen_pair.result c.chosen_pair-2.result (c.chosen_pair.ensures.chosen, c.chosen_pair.ensures.none) (c.chosen_pair-2.ensures.chosen, c.chosen_pair-2.ensures.none))
