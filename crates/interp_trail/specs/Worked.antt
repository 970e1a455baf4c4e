-- Worked runs: where each stops, by its events.
use Rattle.std.specs.Prelude.{◌≡◌, [], ◌∷◌, Some, None}
use Rattle.mc_value.specs.declared.trap.Trap.TheVariants.{Overflow, Division, NoReturn}
use Rattle.mc_typed.specs.declared.plans.Ending.TheVariants.{Returned, Trap, Fuel, Levels}
use Rattle.mc_steps.specs.Events.{Entered, Exited, Started, Chosen}
use Rattle.interp_trail.specs.declared.stop.Stop.TheVariants.{NotEntered, AfterEntry, AfterStatement, AfterExit}
use Rattle.interp_trail.specs.Stops.{stop_of}
use Rattle.interp_trail.specs.Trails.{trail_of}

pub record TrailsAreWorked : Type 0 where
  -- each call returned
  pub returned : stop_of Returned (trail_of (Entered 0 ∷ Started 0 ∷ Exited 0 ∷ [])) ≡ None
  -- statement 1 traps in the function that was called
  pub plain : stop_of (Trap Overflow) (trail_of (Entered 0 ∷ Started 0 ∷ Started 1 ∷ []))
      ≡ Some (AfterStatement 1)
  -- statement 0 calls function 1, which traps in statement 5
  pub inner : stop_of (Trap Overflow)
      (trail_of (Entered 0 ∷ Started 0 ∷ Entered 1 ∷ Started 4 ∷ Started 5 ∷ []))
      ≡ Some (AfterStatement 5)
  -- `return 1 / g();`, where g has returned 0
  pub after_return : stop_of (Trap Division)
      (trail_of (Entered 0 ∷ Started 0 ∷ Entered 1 ∷ Started 4 ∷ Exited 1 ∷ []))
      ≡ Some (AfterStatement 0)
  -- function 1 is entered, and no statement of it began
  pub at_entry : stop_of Fuel (trail_of (Entered 0 ∷ Started 0 ∷ Entered 1 ∷ []))
      ≡ Some (AfterEntry 1)
  -- the first call returned, and the second could not be entered
  pub second_call : stop_of Levels (trail_of (Entered 0 ∷ Started 0 ∷ Exited 0 ∷ []))
      ≡ Some NotEntered
  -- the call came to its closing brace, which is exit 3, and has to return a value
  pub no_value : stop_of (Trap NoReturn) (trail_of (Entered 0 ∷ Started 0 ∷ Exited 3 ∷ []))
      ≡ Some (AfterExit 3)
  -- recursion: the inner activation of function 0 is closed, and the outer one goes on
  pub recursion : stop_of (Trap Overflow)
      (trail_of (Entered 0 ∷ Started 0 ∷ Entered 0 ∷ Started 0 ∷ Started 2 ∷ Exited 1
      ∷ Chosen 0 ∷ []))
      ≡ Some (AfterStatement 0)
