-- How the turns of a loop end.
use Rattle.std.specs.Prelude.{Option, Some, None}
use Rattle.interp_steps.specs.declared.ends.Flow.{Flow}
use Rattle.interp_steps.specs.declared.ends.Flow.TheVariants.{Completed, Broke, Continued, Left}

-- how a loop ends after its body ended so, if it does (C17 6.8.6.2, 6.8.6.3)
abbrev pub loop_end : Flow → Option Flow
loop_end Completed = None
loop_end Broke = Some Completed
loop_end Continued = None
loop_end Left = Some Left
