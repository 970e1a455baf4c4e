use Rattle.std.proofs.Common.{arith}
use Rattle.mc_cond.proofs.Bits.{bit_leaf}
use Rattle.mc_cond.proofs.influence.+effect_of.Goals as goal

pub returns-in-Leaf-clause-influence : goal.returns-in-Leaf-clause-influence
returns-in-Leaf-clause-influence t c = λ k.
    let below = rw c.in-Leaf.is at c.requires.below in
    rw c.in-Leaf.is (bit_leaf c.in-Leaf.k k (omega (arith, below, c.requires.few)))
