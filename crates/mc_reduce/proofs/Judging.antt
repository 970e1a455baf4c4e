-- What is shown is what has evidence.
use Rattle.std.proofs.Common.{◌≡◌, ℕ, true, false, Option, Some, None, refl, subst}
use Rattle.std.specs.Prelude.{◌↔◌, slice_get}
use Rattle.mc_steps.specs.Events.{Event}
use Rattle.mc_probe.specs.Maps.{Mapped, Map}
use Rattle.report_options.specs.declared.mode.Mode.{Mode}
use Rattle.mc_oblige.specs.declared.obligation.ObligationId.{ObligationId}
use Rattle.mc_oblige.specs.declared.obligation.ObligationId.TheVariants.{Entry, Exit, Statement, Label, Outcome, Condition}
use Rattle.mc_oblige.specs.declared.verdict.Evidence.{Evidence}
use Rattle.mc_oblige.specs.declared.verdict.Evidence.TheVariants.{Absent, One, Pair}
use Rattle.mc_oblige.specs.Evidence.{IsShown, IsPair, IsTestEvidence, IsConditionEvidence, IsEvidence}
use Rattle.mc_oblige.specs.Verdicts.{is_shown}
use Rattle.mc_reduce.specs.Shown.{HavePair, IsConditionShown, IsShownByAll}

pub not_true : false ≡ true → ⊥
not_true e = cc

module _ (stands : Event → ℕ → Type 0) where
  by_test : (id : ObligationId) (e : Evidence) → IsTestEvidence stands id e → ((t : ℕ) × IsShown stands id t) ↔ (is_shown e ≡ true)
  by_test id Absent h = (λ s. absurd (h s.0 s.1), λ e. absurd (not_true e))
  by_test id (One test) h = (λ s. refl, λ e. (test, h.so))
  by_test id (Pair first first_test second second_test) h = absurd h

  pair_of : (mode : Mode) (d k : ℕ) (m : Mapped) (first first_test second second_test : ℕ) → IsPair stands mode d k m.decision.tree first first_test second second_test → HavePair stands mode d k m.decision.tree
  pair_of mode d k m first first_test second second_test h = record {
    first = first;
    first_test = first_test;
    second = second;
    second_test = second_test;
    first_under = h.first_least.so;
    second_under = h.second_least.so;
    paired = record {
      v = h.chosen.paired.v;
      w = h.chosen.paired.w;
      first_path = h.chosen.paired.first_path;
      second_path = h.chosen.paired.second_path;
      shown = h.chosen.paired.shown.2;
    };
  }

  by_pair : (mode : Mode) (d k : ℕ) (o : Option Mapped) (e : Evidence) → IsConditionEvidence stands mode d k o e → IsConditionShown stands mode d k o ↔ (is_shown e ≡ true)
  by_pair mode d k None e h = (λ s. absurd s, λ is. absurd (not_true (subst (λ (a : Evidence). is_shown a ≡ true) h is)))
  by_pair mode d k (Some m) Absent h = (
    λ s. absurd (h s.first s.second s.first_test s.second_test s.first_under s.second_under s.paired),
    λ e. absurd (not_true e),
  )
  by_pair mode d k (Some m) (One test) h = absurd h
  by_pair mode d k (Some m) (Pair first first_test second second_test) h = (
    λ s. refl,
    λ e. pair_of mode d k m first first_test second second_test h,
  )

  pub evidence_shown : (m : Map) (mode : Mode) (id : ObligationId) (e : Evidence) → IsEvidence stands m mode id e → IsShownByAll stands m mode id ↔ (is_shown e ≡ true)
  evidence_shown m mode (Entry f) e h = by_test (Entry f) e h
  evidence_shown m mode (Exit k) e h = by_test (Exit k) e h
  evidence_shown m mode (Statement k) e h = by_test (Statement k) e h
  evidence_shown m mode (Label k) e h = by_test (Label k) e h
  evidence_shown m mode (Outcome d o) e h = by_test (Outcome d o) e h
  evidence_shown m mode (Condition d k) e h = by_pair mode d k (slice_get m.decisions d) e h
