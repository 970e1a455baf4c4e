-- What some tests show, more tests show.
use Rattle.std.proofs.Common.{ℕ, Option, Some, None}
use Rattle.std.specs.Prelude.{slice_get}
use Rattle.mc_cond.specs.Tree.{Tree}
use Rattle.mc_steps.specs.Events.{Event}
use Rattle.mc_probe.specs.Maps.{Mapped, Map}
use Rattle.report_options.specs.declared.mode.Mode.{Mode}
use Rattle.mc_oblige.specs.declared.obligation.ObligationId.{ObligationId}
use Rattle.mc_oblige.specs.declared.obligation.ObligationId.TheVariants.{Entry, Exit, Statement, Label, Outcome, Condition}
use Rattle.mc_oblige.specs.Evidence.{IsShown, IsEvaluated}
use Rattle.mc_reduce.specs.Shown.{IsConditionShown, AreShowing, StandsKept, IsShownByAll, IsShownBy}

module _ (stands also : Event → ℕ → Type 0) (more : (e : Event) (t : ℕ) → stands e t → also e t) where
  still_shown : (id : ObligationId) (t : ℕ) → IsShown stands id t → IsShown also id t
  still_shown id t h = record { event = h.event; shows = h.shows; under = more h.event t h.under }

  under_some : (id : ObligationId) → ((t : ℕ) × IsShown stands id t) → (t : ℕ) × IsShown also id t
  under_some id h = (h.0, still_shown id h.0 h.1)

  still_evaluated : (d : ℕ) (tree : Tree) (path t : ℕ) → IsEvaluated stands d tree path t → IsEvaluated also d tree path t
  still_evaluated d tree path t h = record { vector = h.vector; is_path = h.is_path; under = more _ t h.under }

  still_condition : (mode : Mode) (d k : ℕ) (o : Option Mapped) → IsConditionShown stands mode d k o → IsConditionShown also mode d k o
  still_condition mode d k None h = absurd h
  still_condition mode d k (Some m) h = record {
    first = h.first;
    first_test = h.first_test;
    second = h.second;
    second_test = h.second_test;
    first_under = still_evaluated d m.decision.tree h.first h.first_test h.first_under;
    second_under = still_evaluated d m.decision.tree h.second h.second_test h.second_under;
    paired = h.paired;
  }

  pub still_showing : (m : Map) (mode : Mode) (id : ObligationId) → AreShowing stands m mode id → AreShowing also m mode id
  still_showing m mode (Entry f) h = under_some (Entry f) h
  still_showing m mode (Exit k) h = under_some (Exit k) h
  still_showing m mode (Statement k) h = under_some (Statement k) h
  still_showing m mode (Label k) h = under_some (Label k) h
  still_showing m mode (Outcome d o) h = under_some (Outcome d o) h
  still_showing m mode (Condition d k) h = still_condition mode d k (slice_get m.decisions d) h

module _ (stands : Event → ℕ → Type 0) (m : Map) (mode : Mode) where
  pub more_kept : (keeps also : ℕ → Type 0) → ((t : ℕ) → keeps t → also t) → (id : ObligationId) → IsShownBy stands m mode keeps id → IsShownBy stands m mode also id
  more_kept keeps also more id h =
      still_showing (StandsKept stands keeps) (StandsKept stands also)
      (λ e t s. record { is_kept = more t s.is_kept; under = s.under }) m mode id h

  pub all_show : (keeps : ℕ → Type 0) (id : ObligationId) → IsShownBy stands m mode keeps id → IsShownByAll stands m mode id
  all_show keeps id h = still_showing (StandsKept stands keeps) stands (λ e t s. s.under) m mode id h

  -- where each test under which events stand is kept
  pub shown_by_each : (keeps : ℕ → Type 0) → ((e : Event) (t : ℕ) → stands e t → keeps t) → (id : ObligationId) → IsShownByAll stands m mode id → IsShownBy stands m mode keeps id
  shown_by_each keeps each id h =
      still_showing stands (StandsKept stands keeps) (λ e t s. record { is_kept = each e t s; under = s }) m mode id h
