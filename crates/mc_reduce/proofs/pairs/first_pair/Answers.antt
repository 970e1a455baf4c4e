use Rattle.mc_cond.specs.Tree.{tree_of}
use Rattle.mc_reduce.proofs.Pairing.{chosen_is_pair}
use Rattle.mc_reduce.proofs.pairs.first_pair.Goals as goal

pub returns-in-Some-clause-some : goal.returns-in-Some-clause-some
returns-in-Some-clause-some c =
    chosen_is_pair c.args.mode (tree_of c.args.mapped.now.decision.tree) c.args.k c.args.seen.now c.in-Some.pair.0 c.in-Some.pair.1 c.in-Some.ensures.chosen

pub returns-in-None-clause-none : goal.returns-in-None-clause-none
returns-in-None-clause-none c = λ h. c.in-None.ensures.none h.first h.second h.first_on h.second_on h.paired
