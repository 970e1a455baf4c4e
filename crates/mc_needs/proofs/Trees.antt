-- What the numbers of a decision's paths are made from is the decision's own tree.
use Rattle.std.proofs.Common.{◌≡◌, ◌<◌, ℕ, sym, subst}
use Rattle.mc_cond.specs.Tree.{Tree, tree_of, size, IsNumbered}
use Rattle.mc_paths.specs.Paths.{count_of}
use Rattle.mc_probe.specs.declared.mapped.MappedDecision.{MappedDecision}
use Rattle.mc_probe.proofs.Kept.{equal_trees}

pub same_tree : (d : MappedDecision) → tree_of d.numbering ≡ tree_of d.decision.tree
same_tree d = (equal_trees (tree_of d.numbering) (tree_of d.decision.tree)).0 d.same

pub numbered : (d : MappedDecision) → IsNumbered (tree_of d.decision.tree)
numbered d = d.placed.numbered

pub own_numbered : (d : MappedDecision) → IsNumbered (tree_of d.numbering)
own_numbered d = subst (λ (t : Tree). IsNumbered t) (sym (same_tree d)) (numbered d)

pub own_condition : (d : MappedDecision) (k : ℕ) → k < size (tree_of d.decision.tree) → k < size (tree_of d.numbering)
own_condition d k lt = subst (λ (t : Tree). k < size t) (sym (same_tree d)) lt

pub own_count : (d : MappedDecision) (n : ℕ) → n ≡ count_of (tree_of d.decision.tree) → n ≡ count_of (tree_of d.numbering)
own_count d n e = subst (λ (t : Tree). n ≡ count_of t) (sym (same_tree d)) e
