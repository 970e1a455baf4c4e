use Rattle.std.proofs.Common.{rules}
use Rattle.mc_typed.specs.Views.{program_of}
use Rattle.reread_put_back.specs.Back as spec
use Rattle.reread_put_back.proofs.Strays.{ends_here, goes_on}
use Rattle.reread_put_back.proofs.judging.faults.Goals as goal

pub returns-in_default : goal.returns-in_default
returns-in_default c =
    ends_here (program_of c.args.program.now) c.args.most c.loop-turn._turn c.loop-turn-test.true c.loop-turn.found (spec.faults c.args.most (program_of c.args.program.now) c.args.placed.now.items)
    c.loop-turn.placed.items c.deref.result.now c.deref.ensures.value c.in_ok-tried.tried.stray c.in_ok-tried.tried.fault c.first_of_both.result
    c.in_ok-tried.ensures.stray c.in_ok-tried.ensures.fault (search rules) c.first_of_both.ensures c.loop-turn.invariant

pub loop-turn-preserved : goal.loop-turn-preserved
loop-turn-preserved c =
    goes_on (program_of c.args.program.now) c.args.most c.loop-turn._turn c.loop-turn-test.true c.loop-turn.found (spec.faults c.args.most (program_of c.args.program.now) c.args.placed.now.items)
    c.loop-turn.placed.items c.deref.result.now c.deref.ensures.value c.in_ok-tried.tried.stray c.in-Some.stray c.first_of-found.result c.remove_at.new.placed.items
    c.in_ok-tried.ensures.stray (search rules) c.first_of-found.ensures c.remove_at.ensures c.loop-turn.invariant
