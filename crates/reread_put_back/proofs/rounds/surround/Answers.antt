use Rattle.std.proofs.Common.{arith}
use Rattle.std.proofs.lemmas.List.{nil_from_length}
use Rattle.reread_put_back.proofs.Nesting.{fewer, last_part, last_pen, one_fewer}
use Rattle.reread_put_back.proofs.rounds.surround.Goals as goal

pub loop-left-preserved : goal.loop-left-preserved
loop-left-preserved c = record {
  within = fewer c.loop-left.left.now c.args.probes.now c.loop-left.invariant.within;
  whole = one_fewer _ c.loop-left.left.now _ _ _ _ _ _ c.in-len1-up.len_at_least c.in_ok-around.ensures.part c.in_ok-around.ensures.pen c.loop-left.invariant.whole;
}

pub returns-clause-part : goal.returns-clause-part
returns-clause-part c =
    let none = nil_from_length c.loop-left.left.now (omega arith) in
    last_part _ c.loop-left.left.now _ _ _ none c.loop-left.invariant.whole

pub returns-clause-pen : goal.returns-clause-pen
returns-clause-pen c =
    let none = nil_from_length c.loop-left.left.now (omega arith) in
    last_pen _ c.loop-left.left.now _ _ _ none c.loop-left.invariant.whole
