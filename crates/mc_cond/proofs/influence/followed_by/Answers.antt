use Rattle.mc_cond.proofs.Bits.{bit_either}
use Rattle.mc_cond.proofs.influence.followed_by.Goals as goal

pub returns-then-lets_through-clause-influence : goal.returns-then-lets_through-clause-influence
returns-then-lets_through-clause-influence c = λ k x y e f. rw c.if-lets_through.true (bit_either c.args.first.influence c.args.second.influence k x y e f)
