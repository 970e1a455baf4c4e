-- What shows no condition, and what writing leaves of a sink where it fails.
use Rattle.std.specs.Prelude.{ℕ, ◌-◌, ◌^◌, ◌<◌, List, [], ◌∷◌, Option, Some, Err}
use Rattle.mc_steps.specs.Events.{Event}
use Rattle.mc_oblige.specs.declared.obligation.ObligationId.TheVariants.{Condition}
use Rattle.mc_oblige.specs.Shown.{Shows}
use Rattle.mc_report.specs.Written.{Writes}
use Rattle.mc_report.specs.declared.fault.ReportFault.TheVariants.{Put, OutOfMemory}

-- no event alone shows a condition: two do
abbrev pub OneEventIsNoPair : Type 0
OneEventIsNoPair = (d k : ℕ) (e : Event) → ¬ Shows (Condition d k) e

-- for want of memory nothing was put
abbrev pub WantPutsNothing : Type 0
WantPutsNothing =
    (byte before now : ℕ) (text : List ℕ)
    → ¬ Writes (Some []) (Some (byte ∷ [])) before now text (Err OutOfMemory)

-- a sink whose count stayed did not fail; at its last value a count cannot rise
abbrev pub FailuresAreCounted : Type 0
FailuresAreCounted =
    (old new : Option (List ℕ)) (count : ℕ) (text : List ℕ)
    → count < 2 ^ 64 - 1 → ¬ Writes old new count count text (Err Put)

-- so is one at the last count from which it can rise
abbrev pub LastFailureIsCounted : Type 0
LastFailureIsCounted =
    (old new : Option (List ℕ)) (text : List ℕ)
    → ¬ Writes old new (2 ^ 64 - 2) (2 ^ 64 - 2) text (Err Put)
