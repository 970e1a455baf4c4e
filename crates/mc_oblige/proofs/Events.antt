-- Which bits of a matrix show an obligation, and which evidence follows from their least tests.
use Rattle.std.proofs.Common.{◌≡◌, ℕ, ◌+◌, ◌<◌, ◌≤◌, Bool, Option, Some, None, List, length, get_or, sym, subst, refl, arith, inl, inr}
use Rattle.std.specs.Prelude.{◌↔◌, slice_get}
use Rattle.std.proofs.lemmas.Bool.{cases_lt}
use Rattle.mc_cond.specs.Tree.{Tree}
use Rattle.mc_cond.specs.Vectors.{Evaluation}
use Rattle.mc_core.specs.Matrix.{MatrixView, Holds}
use Rattle.mc_paths.specs.Paths.{count_of, path_of, IsPath, IsInUse}
use Rattle.mc_paths.proofs.Numbers.{vector_below}
use Rattle.mc_steps.specs.Events.{Event, Entered, Exited, Started, Chosen, Evaluated}
use Rattle.mc_probe.specs.Maps.{Mapped, Map, image, path_bit, entry_bit, exit_bit, statement_bit, label_bit}
use Rattle.report_options.specs.declared.mode.Mode.{Mode}
use Rattle.mc_oblige.specs.declared.obligation.ObligationId.{ObligationId}
use Rattle.mc_oblige.specs.declared.obligation.ObligationId.TheVariants.{Entry, Exit, Statement, Label, Outcome}
use Rattle.mc_oblige.specs.declared.verdict.Evidence.{Evidence}
use Rattle.mc_oblige.specs.declared.verdict.Evidence.TheVariants.{Absent, One, Pair}
use Rattle.mc_oblige.specs.Shown.{IsEvent, IsVectorOf, Shows, HasEvent}
use Rattle.mc_oblige.specs.Evidence.{IsLeast, IsShown, IsEvaluated, AreSeen, IsTestEvidence, IsConditionEvidence}
use Rattle.mc_oblige.specs.steps.Table.{IsLeastIf, evidence_of, IsAt, IsTestOf, HasOutcome, AreSeenBelow}
use Rattle.mc_oblige.specs.steps.Found.{IsFoundOutcome, IsFoundCondition}

-- ---- least tests

pub least_at : (is : ℕ → Type 0) (o : Option ℕ) → IsLeastIf is o → (t : ℕ) → is t → (u : ℕ) × (o ≡ Some u) × (u ≤ t)
least_at is None h t at = absurd (h t at)
least_at is (Some u) h t at = elim (cases_lt t u) [ inl less ↦ absurd (h.none_before t less at) | inr more ↦ (u, refl, more) ]

least_by : (is also : ℕ → Type 0) (t : ℕ) → ((u : ℕ) → is u ↔ also u) → IsLeast is t → IsLeast also t
least_by is also t same h = record { so = (same t).0 h.so; none_before = λ u less at. h.none_before u less ((same u).1 at) }

some_is : (o : Option ℕ) (t : ℕ) (is : ℕ → Type 0) → o ≡ Some t → IsLeastIf is o → IsLeast is t
some_is o t is e h = let P : Option ℕ → Type 0 = λ p. IsLeastIf is p in subst P e h

least_if_by : (is also : ℕ → Type 0) (o : Option ℕ) → ((u : ℕ) → is u ↔ also u) → IsLeastIf is o → IsLeastIf also o
least_if_by is also None same h = λ t at. h t ((same t).1 at)
least_if_by is also (Some t) same h = least_by is also t same h

-- ---- obligations that one bit shows

module _ (m : Map) (x : MatrixView) where
  abbrev stands : Event → ℕ → Type 0
  stands = HasEvent m x

  -- the event alone shows the obligation
  by_event : (id : ObligationId) (e : Event) → ((f : Event) → Shows id f ↔ (f ≡ e)) → IsEvent m e → (t : ℕ) → Holds x (image m e) t ↔ IsShown stands id t
  by_event id e only is t =
      let P : Event → Type 0 = λ f. HasEvent m x f t in (
        λ held. record { event = e; shows = (only e).1 refl; under = record { event = is; held = held } },
        λ h. (subst P ((only h.event).0 h.shows) h.under).held,
      )

  test_evidence : (id : ObligationId) (b : ℕ) (o : Option ℕ) → ((t : ℕ) → Holds x b t ↔ IsShown stands id t) → IsLeastIf (Holds x b) o → IsTestEvidence stands id (evidence_of o)
  test_evidence id b None same h = λ t shown. h t ((same t).1 shown)
  test_evidence id b (Some t) same h = least_by (Holds x b) (IsShown stands id) t same h

  pub entry : (f : ℕ) (o : Option ℕ) → f < length m.entries → IsLeastIf (Holds x (entry_bit m f)) o → IsTestEvidence stands (Entry f) (evidence_of o)
  entry f o is h = test_evidence (Entry f) (entry_bit m f) o (by_event (Entry f) (Entered f) (λ e. (λ s. s, λ s. s)) is) h

  pub exit : (k : ℕ) (o : Option ℕ) → k < length m.exits → IsLeastIf (Holds x (exit_bit m k)) o → IsTestEvidence stands (Exit k) (evidence_of o)
  exit k o is h = test_evidence (Exit k) (exit_bit m k) o (by_event (Exit k) (Exited k) (λ e. (λ s. s, λ s. s)) is) h

  pub statement : (k : ℕ) (o : Option ℕ) → k < length m.statements → IsLeastIf (Holds x (statement_bit m k)) o → IsTestEvidence stands (Statement k) (evidence_of o)
  statement k o is h = test_evidence (Statement k) (statement_bit m k) o (by_event (Statement k) (Started k) (λ e. (λ s. s, λ s. s)) is) h

  pub label : (k : ℕ) (o : Option ℕ) → k < length m.labels → IsLeastIf (Holds x (label_bit m k)) o → IsTestEvidence stands (Label k) (evidence_of o)
  label k o is h = test_evidence (Label k) (label_bit m k) o (by_event (Label k) (Chosen k) (λ e. (λ s. s, λ s. s)) is) h

  -- ---- a decision

  module _ (d : ℕ) (mapped : Mapped) (known : slice_get m.decisions d ≡ Some mapped) where
    abbrev tree : Tree
    tree = mapped.decision.tree

    held : (p t : ℕ) (v : Evaluation) → IsPath tree p v → stands (Evaluated d v) t → Holds x (mapped.base + p) t
    held p t v is h =
        let P : Option Mapped → Type 0 = λ o. Holds x (path_bit o v) t in
        let Q : ℕ → Type 0 = λ n. Holds x (mapped.base + n) t in
        subst Q is.number (subst P known h.held)

    has : (p t : ℕ) (v : Evaluation) → IsPath tree p v → Holds x (mapped.base + p) t → stands (Evaluated d v) t
    has p t v is h =
        let P : Option Mapped → Type 0 = λ o. Holds x (path_bit o v) t in
        let Q : ℕ → Type 0 = λ n. Holds x (mapped.base + n) t in
        let R : Option Mapped → Type 0 = λ o. IsVectorOf o v in
        record { event = subst R (sym known) is.vector; held = subst P (sym known) (subst Q (sym is.number) h) }

    evaluated : (p t : ℕ) (v : Evaluation) → IsPath tree p v → Holds x (mapped.base + p) t ↔ IsEvaluated stands d tree p t
    evaluated p t v is = (
      λ h. record { vector = v; is_path = is; under = has p t v is h },
      λ h. held p t h.vector h.is_path h.under,
    )

    -- the test of a number is the least one under which its vector is evaluated; that of an idle one is none
    pub least_of_path : (p : ℕ) (bit test : Option ℕ) → IsTestOf tree p bit test → IsLeastIf (Holds x (mapped.base + p)) bit → IsLeastIf (IsEvaluated stands d tree p) test
    least_of_path p bit test of least =
        let P : Option ℕ → Type 0 = λ o. IsLeastIf (IsEvaluated stands d tree p) o in
        elim of [
          | inl used ↦
              (let v : IsInUse tree p = used.0 in
              subst P (sym used.1) (least_if_by (Holds x (mapped.base + p)) (IsEvaluated stands d tree p) bit (λ t. evaluated p t v.0 v.1) least))
          | inr idle ↦
              (let none : IsLeastIf (IsEvaluated stands d tree p) None = λ t h. idle.0 (h.vector, h.is_path) in
              subst P (sym idle.1) none)
        ]

    module _ (tests : List (Option ℕ)) (whole : length tests ≡ count_of tree) (least : (p : ℕ) → p < length tests → IsLeastIf (IsEvaluated stands d tree p) (get_or tests p None)) where
      below : (p : ℕ) (v : Evaluation) → IsPath tree p v → p < length tests
      below p v is = let h = vector_below tree v is.vector in let n = is.number in omega (arith, h, n, whole)

      evaluated_below : (p t : ℕ) → IsEvaluated stands d tree p t → p < length tests
      evaluated_below p t h = below p h.vector h.is_path

      -- the test of a path whose vector is evaluated
      evaluated_at : (p t : ℕ) → IsEvaluated stands d tree p t → (u : ℕ) × IsAt tests p u × (u ≤ t)
      evaluated_at p t h = least_at (IsEvaluated stands d tree p) (get_or tests p None) (least p (evaluated_below p t h)) t h

      least_evaluated : (p t : ℕ) → p < length tests → IsAt tests p t → IsLeast (IsEvaluated stands d tree p) t
      least_evaluated p t lt e = some_is (get_or tests p None) t (IsEvaluated stands d tree p) e (least p lt)

      -- ---- outcomes

      shown_path : (o : Bool) (t : ℕ) → IsShown stands (Outcome d o) t → (p : ℕ) × HasOutcome tree o p × IsEvaluated stands d tree p t
      shown_path o t h =
          let v : Evaluation = h.shows.0 in
          let P : Event → Type 0 = λ e. HasEvent m x e t in
          let u : HasEvent m x (Evaluated d v) t = subst P h.shows.1.0 h.under in
          let R : Option Mapped → Type 0 = λ q. IsVectorOf q v in
          let is : IsPath tree (path_of tree v) v = record { vector = subst R known u.event; number = refl } in
          (path_of tree v, record { vector = v; is_path = is; same = h.shows.1.1 }, record { vector = v; is_path = is; under = u })

      path_shown : (o : Bool) (p t : ℕ) → HasOutcome tree o p → IsEvaluated stands d tree p t → IsShown stands (Outcome d o) t
      path_shown o p t h e =
          record { event = Evaluated d h.vector; shows = (h.vector, (refl, h.same)); under = has p t h.vector h.is_path (held p t e.vector e.is_path e.under) }

      pub outcome : (o : Bool) (e : Evidence) → IsFoundOutcome tree tests o e → IsTestEvidence stands (Outcome d o) e
      outcome o Absent none = λ t shown.
          let s = shown_path o t shown in
          let f = evaluated_at s.0 t s.2 in
          none s.0 f.0 (evaluated_below s.0 t s.2) (f.1, s.1)
      outcome o (One test) best = record {
        so = (let b = best.0 in path_shown o b.0 test b.2.1 (least_evaluated b.0 test b.1 b.2.0).so);
        none_before = λ u less shown.
            (let s = shown_path o u shown in
            let f = evaluated_at s.0 u s.2 in
            let le = best.1 s.0 f.0 (evaluated_below s.0 u s.2) (f.1, s.1) in
            let up = f.2 in
            omega arith);
      }
      outcome o (Pair first first_test second second_test) h = absurd h

      -- ---- conditions

      seen : (paths : List ℕ) → AreSeenBelow tests (length tests) paths → AreSeen stands d tree paths
      seen paths h = record {
        ascending = h.ascending;
        each = λ p. (
          λ c. (let s = (h.each p).0 c in let l = least_evaluated p s.1.0 s.0 s.1.1 in (s.1.0, l.so)),
          λ e. (let f = evaluated_at p e.0 e.1 in (h.each p).1 (evaluated_below p e.0 e.1, (f.0, f.1))),
        );
      }

      pub condition : (mode : Mode) (k : ℕ) (e : Evidence) → IsFoundCondition mode tree tests k e → IsConditionEvidence stands mode d k (Some mapped) e
      condition mode k Absent none = λ first second s t one other.
          let f = evaluated_at first s one in
          let g = evaluated_at second t other in
          none first second f.0 g.0 f.1 g.1
      condition mode k (One test) h = absurd h
      condition mode k (Pair first first_test second second_test) h =
          let one = (h.are_seen.each first).0 h.chosen.first_seen in
          let other = (h.are_seen.each second).0 h.chosen.second_seen in
          record {
            seen = h.seen;
            are_seen = seen h.seen h.are_seen;
            chosen = h.chosen;
            first_least = least_evaluated first first_test one.0 h.first_at;
            second_least = least_evaluated second second_test other.0 h.second_at;
          }
