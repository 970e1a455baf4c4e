-- Which activations are open in a run, and what began last in each, by the events of the run.
use Rattle.std.specs.Prelude.{ℕ, List, [], ◌∷◌, drop, Option, Some, None}
use Rattle.mc_steps.specs.Events.{Event, Entered, Exited, Started, Chosen, Evaluated}
use Rattle.interp_trail.specs.declared.activation.Activation.{Activation}

-- the open activations, the innermost first, each with the last of its counted statements that
-- began, and the last exit
pub record Trail : Type 0 where
  pub activations : List Activation
  pub exit : Option ℕ

-- before a run
abbrev pub none_open : Trail
none_open = record { activations = []; exit = None }

-- an entry opens an activation of the function
abbrev pub entered : ℕ → Trail → Trail
entered f t = record {
  activations = record { function = f; statement = None } ∷ t.activations;
  exit = t.exit;
}

-- an exit closes the innermost activation
abbrev pub exited : ℕ → Trail → Trail
exited k t = record { activations = drop 1 t.activations; exit = Some k }

-- a statement begins in the innermost activation
abbrev pub began_in : ℕ → List Activation → List Activation
began_in k [] = []
began_in k (a ∷ around) = record { function = a.function; statement = Some k } ∷ around

abbrev pub began : ℕ → Trail → Trail
began k t = record { activations = began_in k t.activations; exit = t.exit }

abbrev pub after_event : Event → Trail → Trail
after_event (Entered f) t = entered f t
after_event (Exited k) t = exited k t
after_event (Started k) t = began k t
after_event (Chosen k) t = t
after_event (Evaluated d v) t = t

-- after more events, in order
abbrev pub after_events : List Event → Trail → Trail
after_events [] t = t
after_events (e ∷ events) t = after_events events (after_event e t)

-- of the events of a run
abbrev pub trail_of : List Event → Trail
trail_of events = after_events events none_open
