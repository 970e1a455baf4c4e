use Rattle.mc_cond.specs.Tree.{tree_of}
use Rattle.mc_paths.proofs.Simplifying.{masked_by}
use Rattle.mc_paths.proofs.numbering.simple_masks.Goals as goal

pub returns : goal.returns
returns c =
    masked_by (tree_of c.in_ok-simple.simple) (tree_of c.args.tree.now) c.in_ok-simple.ensures c.all_masks.result (λ m. m.items) c.args.count c.all_masks.ensures
