use Rattle.std.proofs.Common.{arith}
use Rattle.mc_cond.specs.Tree.{tree_of}
use Rattle.mc_cond.proofs.Numbers.{numbered_below}
use Rattle.tests_pairs.proofs.numbers.words_on.Goals as goal

pub by_rust-outcome-requires : goal.by_rust-outcome-requires
by_rust-outcome-requires c = numbered_below (tree_of c.args.tree.now) 0 64 c.requires.in_order (omega (arith, c.requires.few))
