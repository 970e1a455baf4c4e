use Rattle.mc_instrument.proofs.Edges.{increment_none, increment_some}
use Rattle.mc_instrument.proofs.copies.walk.Walk.increment.Goals as goal

pub returns-in-Some : goal.returns-in-Some
returns-in-Some c =
    increment_some c.args.self.now.map.now.decisions.items c.deref.result.now _ c.args.c c.in-Some.decision.now c.on_false.result c.deref.ensures.value c.in-Some.ensures.lookup.3.0 c.in-Some.ensures.lookup.1 c.on_false.ensures

pub returns-in-None : goal.returns-in-None
returns-in-None c =
    increment_none c.args.self.now.map.now.decisions.items c.deref.result.now _ c.args.c c.deref.ensures.value c.in-None.ensures.lookup.3
