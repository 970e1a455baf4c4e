-- What is evaluated meets an outcome that it has, and a condition that it has a pair for.
use Rattle.std.proofs.Common.{◌≡◌, ℕ, Bool, true, Option, Some, None, subst, refl, inl, inr}
use Rattle.std.specs.Prelude.{slice_get}
use Rattle.mc_core.specs.Matrix.{MatrixView}
use Rattle.mc_steps.specs.Events.{Event, Evaluated}
use Rattle.mc_probe.specs.Maps.{Mapped, Map}
use Rattle.report_options.specs.declared.mode.Mode.{Mode}
use Rattle.mc_oblige.specs.declared.obligation.ObligationId.{ObligationId}
use Rattle.mc_oblige.specs.declared.obligation.ObligationId.TheVariants.{Entry, Exit, Statement, Label, Outcome, Condition}
use Rattle.mc_oblige.specs.declared.verdict.Evidence.{Evidence}
use Rattle.mc_oblige.specs.declared.verdict.Evidence.TheVariants.{Absent, One, Pair}
use Rattle.mc_oblige.specs.Shown.{HasEvent}
use Rattle.mc_oblige.specs.Evidence.{IsEvaluated, IsShown, IsTestEvidence, IsConditionEvidence, IsEvidence}
use Rattle.mc_oblige.specs.Verdicts.{is_shown}
use Rattle.needed_paths.specs.declared.need.Need.{Need}
use Rattle.needed_paths.specs.declared.need.Need.TheVariants.{Vector, Beside, Both}
use Rattle.mc_needs.specs.Needs.{Gives, IsPairFor, IsSeen, IsOutcomeNeed, IsConditionNeed, IsNeed}
use Rattle.mc_needs.proofs.Bases.{one_mapped}
use Rattle.mc_needs.proofs.Pairs.{any_order}
use Rattle.mc_needs.proofs.Listed.{same_outcome}
use Rattle.laws_needs.specs.Enough.{HasMore, AreSeenAll, HasNeeded, NeededIsEnough}

module _ (stands : Event → ℕ → Type 0) (m : Map) (mode : Mode) where
  pub under_test : (d path : ℕ) (mapped : Mapped) → slice_get m.decisions d ≡ Some mapped → IsSeen stands m d path
      → (test : ℕ) × IsEvaluated stands d mapped.decision.tree path test
  under_test d path mapped known h =
      let P : Mapped → Type 0 = λ y. IsEvaluated stands d y.decision.tree path h.test in
      (h.test, subst P (one_mapped m.decisions d d h.mapped mapped refl h.known known) h.under)

  by_test : (id : ObligationId) (test : ℕ) → IsShown stands id test → (e : Evidence) → IsTestEvidence stands id e → is_shown e ≡ true
  by_test id test is Absent h = absurd (h test is)
  by_test id test is (One t) h = refl
  by_test id test is (Pair a b c e) h = absurd h

  pub outcome_met : (d path : ℕ) (outcome : Bool) (mapped : Mapped) → slice_get m.decisions d ≡ Some mapped → IsSeen stands m d path
      → Gives mapped.decision.tree outcome path → (e : Evidence) → IsEvidence stands m mode (Outcome d outcome) e → is_shown e ≡ true
  outcome_met d path outcome mapped known seen gives e h =
      let at = under_test d path mapped known seen in
      let own : Gives mapped.decision.tree at.1.vector.outcome path = record { v = at.1.vector; is_path = at.1.is_path; same = refl } in
      let same = same_outcome mapped.decision.tree path at.1.vector.outcome outcome own gives in
      by_test (Outcome d outcome) at.0 (record { event = Evaluated d at.1.vector; shows = (at.1.vector, (refl, same)); under = at.1.under }) e h

  by_pair : (d k p q s t : ℕ) (mapped : Mapped) → IsEvaluated stands d mapped.decision.tree p s → IsEvaluated stands d mapped.decision.tree q t
      → IsPairFor mode mapped.decision.tree k p q → (e : Evidence) → IsConditionEvidence stands mode d k (Some mapped) e → is_shown e ≡ true
  by_pair d k p q s t mapped one two pair Absent h = absurd (h p q s t one two (any_order mode mapped.decision.tree k p q pair))
  by_pair d k p q s t mapped one two pair (One u) h = absurd h
  by_pair d k p q s t mapped one two pair (Pair a b c e) h = refl

  pub condition_met : (d k p q : ℕ) (mapped : Mapped) → slice_get m.decisions d ≡ Some mapped → IsSeen stands m d p → IsSeen stands m d q
      → IsPairFor mode mapped.decision.tree k p q → (e : Evidence) → IsEvidence stands m mode (Condition d k) e → is_shown e ≡ true
  condition_met d k p q mapped known one two pair e h =
      let a = under_test d p mapped known one in
      let b = under_test d q mapped known two in
      let P : Option Mapped → Type 0 = λ o. IsConditionEvidence stands mode d k o e in
      by_pair d k p q a.0 b.0 mapped a.1 b.1 pair e (subst P known h)

module _ (m : Map) (x y : MatrixView) (mode : Mode) (more : HasMore m x y) where
  outcome_enough : (d : ℕ) (outcome : Bool) (o : Option Mapped) → slice_get m.decisions d ≡ o → (need : Need) (e : Evidence)
      → IsOutcomeNeed (HasEvent m x) m mode outcome o need → AreSeenAll m y d need → IsEvidence (HasEvent m y) m mode (Outcome d outcome) e → is_shown e ≡ true
  outcome_enough d outcome None known need e is seen h = absurd is
  outcome_enough d outcome (Some mapped) known (Vector path) e is seen h = outcome_met (HasEvent m y) m mode d path outcome mapped known seen is.so e h
  outcome_enough d outcome (Some mapped) known (Beside path partner test) e is seen h = absurd is
  outcome_enough d outcome (Some mapped) known (Both first second) e is seen h = absurd is

  condition_enough : (d k : ℕ) (o : Option Mapped) → slice_get m.decisions d ≡ o → (need : Need) (e : Evidence)
      → IsConditionNeed (HasEvent m x) m mode d k o need → AreSeenAll m y d need → IsEvidence (HasEvent m y) m mode (Condition d k) e → is_shown e ≡ true
  condition_enough d k None known need e is seen h = absurd is
  condition_enough d k (Some mapped) known (Vector path) e is seen h = absurd is
  condition_enough d k (Some mapped) known (Beside path partner test) e is seen h =
      let old : IsSeen (HasEvent m y) m d partner = more d partner is.0.old in
      elim is.0.least [
        | inl l ↦ condition_met (HasEvent m y) m mode d k path partner mapped known seen old l.so.paired e h
        | inr l ↦ condition_met (HasEvent m y) m mode d k partner path mapped known old seen l.so.paired e h
      ]
  condition_enough d k (Some mapped) known (Both first second) e is seen h =
      condition_met (HasEvent m y) m mode d k first second mapped known seen.0 seen.1 is.least.so e h

  enough : (id : ObligationId) (need : Need) (e : Evidence) → IsNeed (HasEvent m x) m mode id need → HasNeeded m y id need
      → IsEvidence (HasEvent m y) m mode id e → is_shown e ≡ true
  enough (Entry n) need e is seen h = absurd is
  enough (Exit n) need e is seen h = absurd is
  enough (Statement n) need e is seen h = absurd is
  enough (Label n) need e is seen h = absurd is
  enough (Outcome d outcome) need e is seen h = outcome_enough d outcome (slice_get m.decisions d) refl need e is seen h
  enough (Condition d k) need e is seen h = condition_enough d k (slice_get m.decisions d) refl need e is seen h

pub needed_is_enough : NeededIsEnough
needed_is_enough m x y mode id need e is more seen h = enough m x y mode more id need e is seen h
