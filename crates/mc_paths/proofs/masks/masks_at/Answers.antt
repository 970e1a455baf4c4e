use Rattle.mc_cond.specs.Tree.{tree_of}
use Rattle.mc_paths.proofs.Masking.{used_entry}
use Rattle.mc_paths.proofs.masks.masks_at.Goals as goal

pub returns-in-Some : goal.returns-in-Some
returns-in-Some c = used_entry (tree_of c.args.tree.now) c.args.path c.in-Some.vector c.masks_of.result c.in-Some.ensures.found c.masks_of.ensures
