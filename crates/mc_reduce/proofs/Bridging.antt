-- What tests show is what their bits show.
use Rattle.std.proofs.Common.{◌≡◌, ◌+◌, ℕ, Bool, Option, Some, None, refl, sym, subst}
use Rattle.std.specs.Prelude.{slice_get}
use Rattle.mc_cond.specs.Vectors.{Evaluation}
use Rattle.mc_paths.specs.Paths.{path_of}
use Rattle.mc_core.specs.Matrix.{MatrixView, Holds}
use Rattle.mc_steps.specs.Events.{Event, Entered, Exited, Started, Chosen, Evaluated}
use Rattle.mc_probe.specs.Maps.{Mapped, Map, image, path_bit}
use Rattle.report_options.specs.declared.mode.Mode.{Mode}
use Rattle.mc_oblige.specs.declared.obligation.ObligationId.{ObligationId}
use Rattle.mc_oblige.specs.declared.obligation.ObligationId.TheVariants.{Entry, Exit, Statement, Label, Outcome, Condition}
use Rattle.mc_oblige.specs.Shown.{Shows, IsEvent, IsVectorOf, HasEvent}
use Rattle.mc_oblige.specs.Evidence.{IsShown, IsEvaluated}
use Rattle.mc_reduce.specs.Shown.{IsConditionShown, StandsKept, IsShownBy}
use Rattle.mc_reduce.specs.steps.Bits.{SeesOutcome, SeesPair, OfDecision, See, HasBit, IsListed}

module _ (m : Map) (x : MatrixView) (keeps : ℕ → Type 0) where
  abbrev stands : Event → ℕ → Type 0
  stands = StandsKept (HasEvent m x) keeps

  abbrev seen : ℕ → Type 0
  seen = HasBit x keeps

  -- ---- one event

  shown_bit : (id : ObligationId) (e : Event) → ((f : Event) → Shows id f → f ≡ e) → ((t : ℕ) × IsShown stands id t) → seen (image m e)
  shown_bit id e only h = record {
    test = h.0;
    is_kept = h.1.under.is_kept;
    held = subst (λ (f : Event). Holds x (image m f) h.0) (only h.1.event h.1.shows) h.1.under.under.held;
  }

  bit_shown : (id : ObligationId) (e : Event) → Shows id e → IsEvent m e → seen (image m e) → (t : ℕ) × IsShown stands id t
  bit_shown id e shows is h = (
    h.test,
    record { event = e; shows = shows; under = record { is_kept = h.is_kept; under = record { event = is; held = h.held } } },
  )

  -- ---- an outcome

  path_seen : (outcome : Bool) (v : Evaluation) (d : Option Mapped) → v.outcome ≡ outcome → IsVectorOf d v → seen (path_bit d v) → OfDecision seen (SeesOutcome seen outcome) d
  path_seen outcome v None same is h = absurd is
  path_seen outcome v (Some d) same is h = record {
    path = path_of d.decision.tree v;
    has = record { vector = v; is_path = record { vector = is; number = refl }; same = same };
    is_seen = h;
  }

  abbrev Vector : Bool → Option Mapped → Type 0
  Vector outcome d = (v : Evaluation) × ((v.outcome ≡ outcome) × IsVectorOf d v × seen (path_bit d v))

  seen_path : (outcome : Bool) (d : Option Mapped) → OfDecision seen (SeesOutcome seen outcome) d → Vector outcome d
  seen_path outcome None h = absurd h
  seen_path outcome (Some d) h =
      (h.has.vector, (h.has.same, h.has.is_path.vector, subst (λ (n : ℕ). seen (d.base + n)) (sym h.has.is_path.number) h.is_seen))

  outcome_seen : (d : ℕ) (outcome : Bool) → ((t : ℕ) × IsShown stands (Outcome d outcome) t) → OfDecision seen (SeesOutcome seen outcome) (slice_get m.decisions d)
  outcome_seen d outcome h =
      let v : Evaluation = h.1.shows.0 in
      let under : StandsKept (HasEvent m x) keeps (Evaluated d v) h.0 = subst (λ (e : Event). StandsKept (HasEvent m x) keeps e h.0) h.1.shows.1.0 h.1.under in
      path_seen outcome v (slice_get m.decisions d) h.1.shows.1.1 under.under.event
      record { test = h.0; is_kept = under.is_kept; held = under.under.held }

  seen_outcome : (d : ℕ) (outcome : Bool) → OfDecision seen (SeesOutcome seen outcome) (slice_get m.decisions d) → (t : ℕ) × IsShown stands (Outcome d outcome) t
  seen_outcome d outcome h =
      let v = seen_path outcome (slice_get m.decisions d) h in
      bit_shown (Outcome d outcome) (Evaluated d v.0) (v.0, (refl, v.1.0)) v.1.1 v.1.2

  -- ---- a pair

  bit_of_path : (d path t : ℕ) (mapped : Mapped) → slice_get m.decisions d ≡ Some mapped → IsEvaluated stands d mapped.decision.tree path t → seen (mapped.base + path)
  bit_of_path d path t mapped known h = record {
    test = t;
    is_kept = h.under.is_kept;
    held =
        (let held : Holds x (path_bit (Some mapped) h.vector) t = subst (λ (o : Option Mapped). Holds x (path_bit o h.vector) t) known h.under.under.held in
        subst (λ (n : ℕ). Holds x (mapped.base + n) t) h.is_path.number held);
  }

  path_of_bit : (d path : ℕ) (mapped : Mapped) (v : Evaluation) → slice_get m.decisions d ≡ Some mapped → IsVectorOf (Some mapped) v → path_of mapped.decision.tree v ≡ path → (h : seen (mapped.base + path)) → IsEvaluated stands d mapped.decision.tree path h.test
  path_of_bit d path mapped v known is number h = record {
    vector = v;
    is_path = record { vector = is; number = number };
    under = record {
      is_kept = h.is_kept;
      under = record {
        event = subst (λ (o : Option Mapped). IsVectorOf o v) (sym known) is;
        held = subst (λ (o : Option Mapped). Holds x (path_bit o v) h.test) (sym known) (subst (λ (n : ℕ). Holds x (mapped.base + n) h.test) (sym number) h.held);
      };
    };
  }

  pair_seen : (mode : Mode) (d k : ℕ) (o : Option Mapped) → slice_get m.decisions d ≡ o → IsConditionShown stands mode d k o → OfDecision seen (SeesPair seen mode k) o
  pair_seen mode d k None known h = absurd h
  pair_seen mode d k (Some mapped) known h = record {
    first = h.first;
    second = h.second;
    first_seen = bit_of_path d h.first h.first_test mapped known h.first_under;
    second_seen = bit_of_path d h.second h.second_test mapped known h.second_under;
    paired = h.paired;
  }

  seen_pair : (mode : Mode) (d k : ℕ) (o : Option Mapped) → slice_get m.decisions d ≡ o → OfDecision seen (SeesPair seen mode k) o → IsConditionShown stands mode d k o
  seen_pair mode d k None known h = absurd h
  seen_pair mode d k (Some mapped) known h = record {
    first = h.first;
    first_test = h.first_seen.test;
    second = h.second;
    second_test = h.second_seen.test;
    first_under = path_of_bit d h.first mapped h.paired.v known h.paired.first_path.vector h.paired.first_path.number h.first_seen;
    second_under = path_of_bit d h.second mapped h.paired.w known h.paired.second_path.vector h.paired.second_path.number h.second_seen;
    paired = h.paired;
  }

  -- ---- all obligations

  pub seen_where_shown : (mode : Mode) (id : ObligationId) → IsShownBy (HasEvent m x) m mode keeps id → See seen m mode id
  seen_where_shown mode (Entry f) h = shown_bit (Entry f) (Entered f) (λ e s. s) h
  seen_where_shown mode (Exit k) h = shown_bit (Exit k) (Exited k) (λ e s. s) h
  seen_where_shown mode (Statement k) h = shown_bit (Statement k) (Started k) (λ e s. s) h
  seen_where_shown mode (Label k) h = shown_bit (Label k) (Chosen k) (λ e s. s) h
  seen_where_shown mode (Outcome d outcome) h = outcome_seen d outcome h
  seen_where_shown mode (Condition d k) h = pair_seen mode d k (slice_get m.decisions d) refl h

  pub shown_where_seen : (mode : Mode) (id : ObligationId) → IsListed m id → See seen m mode id → IsShownBy (HasEvent m x) m mode keeps id
  shown_where_seen mode (Entry f) is h = bit_shown (Entry f) (Entered f) refl is h
  shown_where_seen mode (Exit k) is h = bit_shown (Exit k) (Exited k) refl is h
  shown_where_seen mode (Statement k) is h = bit_shown (Statement k) (Started k) refl is h
  shown_where_seen mode (Label k) is h = bit_shown (Label k) (Chosen k) refl is h
  shown_where_seen mode (Outcome d outcome) is h = seen_outcome d outcome h
  shown_where_seen mode (Condition d k) is h = seen_pair mode d k (slice_get m.decisions d) refl h
