use Rattle.mc_interp.proofs.calls.+invoke.Given as goal

-- each activation has one more below it
abbrev pub decreases-invoke : goal.decreases-invoke
decreases-invoke g l = l.called.depth
