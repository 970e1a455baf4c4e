use Rattle.std.proofs.Common.{◌≡◌, true, false, sym, subst, ◌∙◌}
use Rattle.mc_cond.specs.Tree.{Tree, tree_of}
use Rattle.mc_cond.specs.Vectors.{Evaluation}
use Rattle.mc_paths.specs.Paths.{IsPath, IsInUse}
use Rattle.mc_pairs.proofs.Influential.{beq_same}
use Rattle.mc_needs.proofs.Trees.{same_tree}
use Rattle.mc_needs.proofs.outcome.gives.Goals as goal

pub outcome_of-requires : goal.outcome_of-requires
outcome_of-requires c = c.in_use.ensures.0 c.if-not-in_use.false

pub returns : goal.returns
returns c =
    let m = c.args.mapped.now in
    let tree = tree_of m.decision.tree in
    let told : (v : Evaluation) → IsPath tree c.args.path v → c.outcome_of.result ≡ v.outcome =
    subst (λ (t : Tree). (v : Evaluation) → IsPath t c.args.path v → c.outcome_of.result ≡ v.outcome) (same_tree m) c.outcome_of.ensures in
    let v : IsInUse tree c.args.path = subst (λ (t : Tree). IsInUse t c.args.path) (same_tree m) (c.in_use.ensures.0 c.if-not-in_use.false) in (
      λ e. record { v = v.0; is_path = v.1; same = sym (told v.0 v.1) ∙ (beq_same c.outcome_of.result c.args.outcome).0 e },
      λ h. (beq_same c.outcome_of.result c.args.outcome).1 (told h.v h.is_path ∙ h.same),
    )

pub returns-then-not-in_use : goal.returns-then-not-in_use
returns-then-not-in_use c =
    let m = c.args.mapped.now in
    let own : IsInUse (tree_of m.decision.tree) c.args.path → IsInUse (tree_of m.numbering) c.args.path =
    subst (λ (t : Tree). IsInUse t c.args.path) (sym (same_tree m)) in (
      λ e. cc,
      λ h. (let f : true ≡ false = sym (c.in_use.ensures.1 (own (h.v, h.is_path))) ∙ c.if-not-in_use.true in cc),
    )
