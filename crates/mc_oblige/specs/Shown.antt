-- When an event shows an obligation, and which events a matrix has.
use Rattle.std.specs.Prelude.{◌≡◌, ℕ, ◌<◌, length, slice_get, Option, Some, None}
use Rattle.mc_cond.specs.Vectors.{Evaluation, IsVector}
use Rattle.mc_core.specs.Matrix.{MatrixView, Holds}
use Rattle.mc_steps.specs.Events.{Event, Entered, Exited, Started, Chosen, Evaluated}
use Rattle.mc_probe.specs.Maps.{Mapped, Map, image}
use Rattle.mc_oblige.specs.declared.obligation.ObligationId.{ObligationId}
use Rattle.mc_oblige.specs.declared.obligation.ObligationId.TheVariants.{Entry, Exit, Statement, Label, Outcome, Condition}

-- The event shows the obligation. No event alone shows a condition: two vectors do.
abbrev pub Shows : ObligationId → Event → Type 0
Shows (Entry f) e = e ≡ Entered f
Shows (Exit k) e = e ≡ Exited k
Shows (Statement k) e = e ≡ Started k
Shows (Label k) e = e ≡ Chosen k
Shows (Outcome d outcome) e = (v : Evaluation) × ((e ≡ Evaluated d v) × (v.outcome ≡ outcome))
Shows (Condition d k) e = ⊥

-- the vector is one of the decision's tree
abbrev pub IsVectorOf : Option Mapped → Evaluation → Type 0
IsVectorOf None v = ⊥
IsVectorOf (Some d) v = IsVector d.decision.tree v

-- an event of the program with this map
abbrev pub IsEvent : Map → Event → Type 0
IsEvent m (Entered f) = f < length m.entries
IsEvent m (Exited k) = k < length m.exits
IsEvent m (Started k) = k < length m.statements
IsEvent m (Chosen k) = k < length m.labels
IsEvent m (Evaluated d v) = IsVectorOf (slice_get m.decisions d) v

-- The matrix has the event under the test: it holds its image.
pub record HasEvent (m : Map) (x : MatrixView) (e : Event) (test : ℕ) : Type 0 where
  pub event : IsEvent m e
  pub held : Holds x (image m e) test
