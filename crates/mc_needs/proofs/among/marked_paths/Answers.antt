use Rattle.std.proofs.Common.{◌≡◌, ℕ, true, false, sym, ap, subst, ◌∙◌, arith}
use Rattle.mc_cond.specs.Tree.{tree_of}
use Rattle.mc_paths.specs.Paths.{count_of}
use Rattle.mc_needs.specs.steps.Marks.{IsMarked}
use Rattle.mc_needs.specs.steps.Among.{AreAmong}
use Rattle.mc_needs.proofs.Rising.{paths_next}
use Rattle.mc_needs.proofs.Trees.{same_tree}
use Rattle.mc_needs.proofs.among.marked_paths.Goals as goal

pub is_marked-is_meant-requires : goal.is_marked-is_meant-requires
is_marked-is_meant-requires c =
    omega (arith, c.requires, c.loop-path-test.true, c.count-path-end.ensures.count, ap count_of (same_tree c.args.mapped.now))

pub loop-path-preserved : goal.loop-path-preserved
loop-path-preserved c =
    let on : ℕ → Type 0 = IsMarked c.args.marks.now c.args.mapped.now.base in
    rw c.in_ok-push_if.ensures
    (paths_next on c.loop-path.path c.loop-path.paths.items c.loop-path.invariant c.is_marked-is_meant.result
    c.is_marked-is_meant.ensures.0
    (λ e own. let f : true ≡ false = sym (c.is_marked-is_meant.ensures.1 own) ∙ e in cc))

pub returns : goal.returns
returns c =
    let on : ℕ → Type 0 = IsMarked c.args.marks.now c.args.mapped.now.base in
    let end : c.loop-path.path ≡ count_of (tree_of c.args.mapped.now.decision.tree) =
    omega (arith, c.loop-path-test.false, c.loop-path.auto.path-end, c.count-path-end.ensures.count, ap count_of (same_tree c.args.mapped.now)) in
    subst (λ (n : ℕ). AreAmong on n c.loop-path.paths.items) end c.loop-path.invariant
