-- Verdicts speak of the events that stand, and of nothing else: where two relations have the same
-- events under the same tests, as a program's runs and the matrix of their bits, they have the same
-- verdicts.
use Rattle.std.proofs.Common.{ℕ, Option, Some, None, List, [], ◌∷◌}
use Rattle.std.specs.Prelude.{◌↔◌, suc, slice_get}
use Rattle.mc_cond.specs.Tree.{Tree}
use Rattle.mc_steps.specs.Events.{Event, Evaluated}
use Rattle.mc_probe.specs.Maps.{Mapped, Map}
use Rattle.report_options.specs.declared.mode.Mode.{Mode}
use Rattle.mc_oblige.specs.declared.obligation.ObligationId.{ObligationId}
use Rattle.mc_oblige.specs.declared.obligation.ObligationId.TheVariants.{Entry, Exit, Statement, Label, Outcome, Condition}
use Rattle.mc_oblige.specs.declared.obligation.Obligation.{Obligation}
use Rattle.mc_oblige.specs.declared.justification.Justification.{Justification}
use Rattle.mc_oblige.specs.declared.verdict.Evidence.{Evidence}
use Rattle.mc_oblige.specs.declared.verdict.Evidence.TheVariants.{Absent, One, Pair}
use Rattle.mc_oblige.specs.declared.verdict.Verdict.{Verdict}
use Rattle.mc_oblige.specs.Obligations.{obligations_of}
use Rattle.mc_oblige.specs.Evidence.{IsLeast, IsShown, IsEvaluated, AreSeen, IsTestEvidence, IsConditionEvidence, IsEvidence}
use Rattle.mc_oblige.specs.Verdicts.{AreVerdictsFrom, AreVerdicts}

pub least : (is also : ℕ → Type 0) (t : ℕ) → ((u : ℕ) → is u ↔ also u) → IsLeast is t → IsLeast also t
least is also t same h = record { so = (same t).0 h.so; none_before = λ u less at. h.none_before u less ((same u).1 at) }

module _ (stands standing : Event → ℕ → Type 0) (same : (e : Event) (t : ℕ) → stands e t ↔ standing e t) where
  shown : (id : ObligationId) (t : ℕ) → IsShown stands id t ↔ IsShown standing id t
  shown id t = (
    λ h. record { event = h.event; shows = h.shows; under = (same h.event t).0 h.under },
    λ h. record { event = h.event; shows = h.shows; under = (same h.event t).1 h.under },
  )

  pub evaluated : (d : ℕ) (tree : Tree) (path t : ℕ) → IsEvaluated stands d tree path t ↔ IsEvaluated standing d tree path t
  evaluated d tree path t = (
    λ h. record { vector = h.vector; is_path = h.is_path; under = (same (Evaluated d h.vector) t).0 h.under },
    λ h. record { vector = h.vector; is_path = h.is_path; under = (same (Evaluated d h.vector) t).1 h.under },
  )

  seen : (d : ℕ) (tree : Tree) (paths : List ℕ) → AreSeen stands d tree paths → AreSeen standing d tree paths
  seen d tree paths h = record {
    ascending = h.ascending;
    each = λ p. (
      λ c. (let e = (h.each p).0 c in (e.0, (evaluated d tree p e.0).0 e.1)),
      λ e. (h.each p).1 (e.0, (evaluated d tree p e.0).1 e.1),
    );
  }

  by_test : (id : ObligationId) (e : Evidence) → IsTestEvidence stands id e → IsTestEvidence standing id e
  by_test id Absent h = λ t at. h t ((shown id t).1 at)
  by_test id (One test) h = least (IsShown stands id) (IsShown standing id) test (shown id) h
  by_test id (Pair first first_test second second_test) h = absurd h

  by_pair : (mode : Mode) (d k : ℕ) (o : Option Mapped) (e : Evidence) → IsConditionEvidence stands mode d k o e → IsConditionEvidence standing mode d k o e
  by_pair mode d k None e h = h
  by_pair mode d k (Some m) Absent h =
      let tree : Tree = m.decision.tree in
      λ first second s t one other. h first second s t ((evaluated d tree first s).1 one) ((evaluated d tree second t).1 other)
  by_pair mode d k (Some m) (One test) h = absurd h
  by_pair mode d k (Some m) (Pair first first_test second second_test) h =
      let tree : Tree = m.decision.tree in
      record {
        seen = h.seen;
        are_seen = seen d tree h.seen h.are_seen;
        chosen = h.chosen;
        first_least = least (IsEvaluated stands d tree first) (IsEvaluated standing d tree first) first_test (evaluated d tree first) h.first_least;
        second_least = least (IsEvaluated stands d tree second) (IsEvaluated standing d tree second) second_test (evaluated d tree second) h.second_least;
      }

  evidence : (m : Map) (mode : Mode) (id : ObligationId) (e : Evidence) → IsEvidence stands m mode id e → IsEvidence standing m mode id e
  evidence m mode (Entry f) e h = by_test (Entry f) e h
  evidence m mode (Exit k) e h = by_test (Exit k) e h
  evidence m mode (Statement k) e h = by_test (Statement k) e h
  evidence m mode (Label k) e h = by_test (Label k) e h
  evidence m mode (Outcome d o) e h = by_test (Outcome d o) e h
  evidence m mode (Condition d k) e h = by_pair mode d k (slice_get m.decisions d) e h

  verdicts : (m : Map) (mode : Mode) (named : List Justification) (at : ℕ) (os : List Obligation) (vs : List Verdict)
      → AreVerdictsFrom stands m mode named at os vs → AreVerdictsFrom standing m mode named at os vs
  verdicts m mode named at [] vs h = h
  verdicts m mode named at (o ∷ os) [] h = absurd h
  verdicts m mode named at (o ∷ os) (v ∷ vs) h = (
    record { evidence = evidence m mode o.id v.evidence h.0.evidence; reason = h.0.reason; state = h.0.state },
    verdicts m mode named (suc at) os vs h.1,
  )

  pub same_verdicts : (m : Map) (mode : Mode) (named : List Justification) (vs : List Verdict) → AreVerdicts stands m mode named vs → AreVerdicts standing m mode named vs
  same_verdicts m mode named vs h = verdicts m mode named 0 (obligations_of m) vs h
