-- What each asked obligation needs, and the wanted vectors.
use Rattle.std.specs.Prelude.{◌≡◌, ℕ, Bool, true, false, List, Option, Some, None, length, slice_get, slice_index_or}
use Rattle.mc_steps.specs.Events.{Event}
use Rattle.mc_probe.specs.Maps.{Map}
use Rattle.report_options.specs.declared.mode.Mode.{Mode}
use Rattle.mc_oblige.specs.declared.obligation.ObligationId.{ObligationId}
use Rattle.mc_oblige.specs.declared.obligation.ObligationId.TheVariants.{Outcome, Condition}
use Rattle.mc_oblige.specs.declared.obligation.Obligation.{Obligation}
use Rattle.mc_oblige.specs.Obligations.{obligations_of}
use Rattle.needed_paths.specs.declared.need.Need.{Need}
use Rattle.needed_paths.specs.Needs.{Needs}
use Rattle.mc_needs.specs.Needs.{IsSeen, IsNeed}
use Rattle.mc_needs.specs.Wanted.{AreWanted}

-- an outcome or a condition that is asked has a need, and nothing else has one
abbrev pub HasNeed : (ObligationId → Need → Type 0) → Bool → ObligationId → Option Need → Type 0
HasNeed is true (Outcome d outcome) (Some need) = is (Outcome d outcome) need
HasNeed is true (Outcome d outcome) None = ⊥
HasNeed is true (Condition d k) (Some need) = is (Condition d k) need
HasNeed is true (Condition d k) None = ⊥
HasNeed is true id need = need ≡ None
HasNeed is false id need = need ≡ None

-- `asked` says which obligations are asked, and `stands` which events stand under which tests
pub record AreNeeds (stands : Event → ℕ → Type 0) (m : Map) (mode : Mode) (asked : List Bool)
    (n : Needs) : Type 0 where
  pub count : length n.each ≡ length (obligations_of m)
  pub each : (at : ℕ) (o : Obligation) → slice_get (obligations_of m) at ≡ Some o →
      HasNeed (IsNeed stands m mode) (slice_index_or asked at false) o.id
      (slice_index_or n.each at None)
  pub wanted : AreWanted (IsSeen stands m) m mode asked n.wanted
