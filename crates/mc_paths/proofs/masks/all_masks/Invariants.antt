use Rattle.mc_cond.specs.Tree.{tree_of}
use Rattle.mc_paths.specs.steps.Masked.{AreMasked}
use Rattle.mc_paths.proofs.masks.all_masks.Given as goal

abbrev pub invariant-loop-path : goal.invariant-loop-path
invariant-loop-path l = AreMasked (tree_of l.tree) l.path l.masks.items
