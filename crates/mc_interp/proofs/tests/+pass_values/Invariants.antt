use Rattle.std.proofs.Common.{length}
use Rattle.mc_interp.proofs.tests.+pass_values.Given as goal

-- each value has one fewer after it
abbrev pub decreases-pass_values : goal.decreases-pass_values
decreases-pass_values l = length l.values.now
