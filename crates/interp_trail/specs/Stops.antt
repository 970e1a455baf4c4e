-- Where a run stopped that ended before each call returned.
use Rattle.std.specs.Prelude.{ℕ, List, [], ◌∷◌, Option, Some, None}
use Rattle.mc_typed.specs.declared.plans.Ending.{Ending}
use Rattle.mc_typed.specs.declared.plans.Ending.TheVariants as ending
use Rattle.interp_trail.specs.declared.activation.Activation.{Activation}
use Rattle.interp_trail.specs.declared.stop.Stop.{Stop}
use Rattle.interp_trail.specs.declared.stop.Stop.TheVariants.{NotEntered, AfterEntry, AfterStatement, AfterExit}
use Rattle.interp_trail.specs.Trails.{Trail}

-- in an activation: after its last counted statement that began, or its entry where none did
abbrev pub in_activation : ℕ → Option ℕ → Stop
in_activation f None = AfterEntry f
in_activation f (Some k) = AfterStatement k

-- With no activation open there is a call that the test made. It traps where it had its exit and
-- its value is missing (C17 6.9.1p12). In each other case it could not be entered.
abbrev pub in_call : Ending → Option ℕ → Stop
in_call (ending.Trap t) (Some k) = AfterExit k
in_call e exit = NotEntered

abbrev pub stop_among : Ending → List Activation → Option ℕ → Stop
stop_among e [] exit = in_call e exit
stop_among e (a ∷ around) exit = in_activation a.function a.statement

-- by the ending of the run and its trail
abbrev pub stop_of : Ending → Trail → Option Stop
stop_of ending.Returned t = None
stop_of e t = Some (stop_among e t.activations t.exit)
