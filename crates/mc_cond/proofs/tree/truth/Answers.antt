use Rattle.std.proofs.Common.{arith}
use Rattle.mc_cond.specs.Tree.{tree_of}
use Rattle.mc_cond.proofs.Numbers.{numbered_below}
use Rattle.mc_cond.proofs.tree.truth.Goals as goal

pub holds-requires : goal.holds-requires
holds-requires c = numbered_below (tree_of c.args.tree.now) 0 64 c.requires.in_order (omega (arith, c.requires.few))
