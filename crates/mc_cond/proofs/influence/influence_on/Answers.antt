use Rattle.std.proofs.Common.{length, arith}
use Rattle.std.specs.Int.{bit_at}
use Rattle.mc_cond.specs.Tree.{tree_of}
use Rattle.mc_cond.proofs.Numbers.{numbered_below}
use Rattle.mc_cond.proofs.Lengths.{length_vector}
use Rattle.mc_cond.proofs.Flips.{bit_exact}
use Rattle.mc_cond.proofs.influence.influence_on.Goals as goal

pub returns : goal.returns
returns c = λ k. bit_exact (tree_of c.args.tree.now) k c.args.vector.now (bit_at c.effect_of.result.influence k) c.requires.tree c.requires.vector (c.effect_of.ensures.influence k)

pub effect_of-requires-clause-below : goal.effect_of-requires-clause-below
effect_of-requires-clause-below c =
    numbered_below (tree_of c.args.tree.now) 0 (length c.args.vector.now.answers) c.requires.tree.in_order (omega (arith, length_vector (tree_of c.args.tree.now) c.args.vector.now c.requires.vector))

pub effect_of-requires-clause-few : goal.effect_of-requires-clause-few
effect_of-requires-clause-few c = omega (arith, length_vector (tree_of c.args.tree.now) c.args.vector.now c.requires.vector, c.requires.tree.few)
