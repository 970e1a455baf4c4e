use Rattle.mc_oblige.proofs.Least.{at_within}
use Rattle.mc_oblige.proofs.conditions.pair_evidence.Goals as goal

pub test_at-requires : goal.test_at-requires
test_at-requires c = ((c.requires.seen.each c.in-Some.first).0 c.in-Some.ensures.chosen.first_seen).1

pub test_at-requires-in-Some : goal.test_at-requires-in-Some
test_at-requires-in-Some c = ((c.requires.seen.each c.in-Some.second).0 c.in-Some.ensures.chosen.second_seen).1

pub returns-in-None : goal.returns-in-None
returns-in-None c = λ first second s u one other.
    c.in-None.ensures.none first second
    ((c.requires.seen.each first).1 (at_within c.args.tests.now first s one, (s, one)))
    ((c.requires.seen.each second).1 (at_within c.args.tests.now second u other, (u, other)))
