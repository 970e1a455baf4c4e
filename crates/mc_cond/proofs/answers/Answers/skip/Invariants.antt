use Rattle.std.proofs.Common.{◌≡◌, ◌++◌, replicate, None}
use Rattle.mc_cond.proofs.answers.Answers.skip.Given as goal

abbrev pub invariant-loop-turn : goal.invariant-loop-turn
invariant-loop-turn l = l.self ≡ l.initial.self ++ replicate l._turn None
