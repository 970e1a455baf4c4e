use Rattle.decide_walk.proofs.gathered.put.Goals as goal

pub returns : goal.returns
returns c = c.in_ok-push.ensures.items
