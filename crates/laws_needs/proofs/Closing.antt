-- With what is evaluated and all wanted vectors, each asked obligation is met.
use Rattle.std.proofs.Common.{◌≡◌, ℕ, zero, suc, ◌++◌, Bool, true, false, Option, Some, None, List, [], ◌∷◌, sym, ap, subst, ◌∙◌, refl, inl, inr}
use Rattle.std.specs.Prelude.{slice_get}
use Rattle.mc_cond.specs.Tree.{Tree}
use Rattle.mc_core.specs.Matrix.{MatrixView}
use Rattle.mc_probe.specs.Maps.{Mapped, Map}
use Rattle.report_options.specs.declared.mode.Mode.{Mode}
use Rattle.mc_oblige.specs.declared.obligation.ObligationId.{ObligationId}
use Rattle.mc_oblige.specs.declared.obligation.ObligationId.TheVariants.{Entry, Exit, Statement, Label, Outcome, Condition}
use Rattle.mc_oblige.specs.declared.obligation.Obligation.{Obligation}
use Rattle.mc_oblige.specs.declared.verdict.Evidence.{Evidence}
use Rattle.mc_oblige.specs.Obligations.{obligations_of}
use Rattle.mc_oblige.specs.Shown.{HasEvent}
use Rattle.mc_oblige.specs.Evidence.{IsEvidence}
use Rattle.mc_oblige.specs.Verdicts.{is_shown}
use Rattle.needed_paths.specs.declared.wanted.Wanted.{Wanted}
use Rattle.mc_needs.specs.Needs.{Gives, IsPairFor, IsSeen}
use Rattle.mc_needs.specs.Asked.{IsAsked, if_condition, if_outcome, asked_conditions, asked_outcomes, asked_ids}
use Rattle.mc_needs.specs.Wanted.{PutsForCondition, met, one, two, PutsForOutcome, had, new, IsListed, IsKnown, Adds, AddsForCondition, AddsForOutcome, AddsFor, AreWantedFrom, AreWanted}
use Rattle.laws_needs.specs.Enough.{HasMore, WantedIsEnough}
use Rattle.laws_needs.proofs.Meeting.{outcome_met, condition_met}
use Rattle.laws_needs.proofs.Growing.{In, wanted_more, adds_more, still_known, added_listed}

-- ---- asked obligations are among those that are walked

keep_condition : (is : Bool) (id z : ObligationId) (ids : List ObligationId) → In z ids → In z (if_condition is id ids)
keep_condition false id z ids h = h
keep_condition true (Entry n) z ids h = h
keep_condition true (Exit n) z ids h = h
keep_condition true (Statement n) z ids h = h
keep_condition true (Label n) z ids h = h
keep_condition true (Outcome d o) z ids h = h
keep_condition true (Condition d k) z ids h = inr h

keep_outcome : (is : Bool) (id z : ObligationId) (ids : List ObligationId) → In z ids → In z (if_outcome is id ids)
keep_outcome false id z ids h = h
keep_outcome true (Entry n) z ids h = h
keep_outcome true (Exit n) z ids h = h
keep_outcome true (Statement n) z ids h = h
keep_outcome true (Label n) z ids h = h
keep_outcome true (Outcome d o) z ids h = inr h
keep_outcome true (Condition d k) z ids h = h

here_condition : (d k : ℕ) (is : Bool) (id : ObligationId) (ids : List ObligationId) → is ≡ true → id ≡ Condition d k → In (Condition d k) (if_condition is id ids)
here_condition d k is id ids e f =
    let P : Bool → Type 0 = λ b. In (Condition d k) (if_condition b id ids) in
    let Q : ObligationId → Type 0 = λ i. In (Condition d k) (if_condition true i ids) in
    subst P (sym e) (subst Q (sym f) (inl refl))

here_outcome : (d : ℕ) (o is : Bool) (id : ObligationId) (ids : List ObligationId) → is ≡ true → id ≡ Outcome d o → In (Outcome d o) (if_outcome is id ids)
here_outcome d o is id ids e f =
    let P : Bool → Type 0 = λ b. In (Outcome d o) (if_outcome b id ids) in
    let Q : ObligationId → Type 0 = λ i. In (Outcome d o) (if_outcome true i ids) in
    subst P (sym e) (subst Q (sym f) (inl refl))

in_conditions : (d k : ℕ) (os : List Obligation) (is : List Bool) (i : ℕ) (o : Obligation) → slice_get os i ≡ Some o → slice_get is i ≡ Some true
    → o.id ≡ Condition d k → In (Condition d k) (asked_conditions os is)
in_conditions d k [] is i o e f g = cc
in_conditions d k (x ∷ os) [] i o e f g = cc
in_conditions d k (x ∷ os) (b ∷ is) zero o e f g =
    let same : x ≡ o = cc in
    let yes : b ≡ true = cc in
    here_condition d k b x.id (asked_conditions os is) yes (ap (λ (y : Obligation). y.id) same ∙ g)
in_conditions d k (x ∷ os) (b ∷ is) (suc i) o e f g =
    keep_condition b x.id (Condition d k) (asked_conditions os is) (in_conditions d k os is i o e f g)

in_outcomes : (d : ℕ) (v : Bool) (os : List Obligation) (is : List Bool) (i : ℕ) (o : Obligation) → slice_get os i ≡ Some o → slice_get is i ≡ Some true
    → o.id ≡ Outcome d v → In (Outcome d v) (asked_outcomes os is)
in_outcomes d v [] is i o e f g = cc
in_outcomes d v (x ∷ os) [] i o e f g = cc
in_outcomes d v (x ∷ os) (b ∷ is) zero o e f g =
    let same : x ≡ o = cc in
    let yes : b ≡ true = cc in
    here_outcome d v b x.id (asked_outcomes os is) yes (ap (λ (y : Obligation). y.id) same ∙ g)
in_outcomes d v (x ∷ os) (b ∷ is) (suc i) o e f g =
    keep_outcome b x.id (Outcome d v) (asked_outcomes os is) (in_outcomes d v os is i o e f g)

in_left : (z : ObligationId) (xs ys : List ObligationId) → In z xs → In z (xs ++ ys)
in_left z [] ys h = absurd h
in_left z (x ∷ xs) ys h = elim h [ inl here ↦ inl here | inr later ↦ inr (in_left z xs ys later) ]

in_right : (z : ObligationId) (xs ys : List ObligationId) → In z ys → In z (xs ++ ys)
in_right z [] ys h = h
in_right z (x ∷ xs) ys h = inr (in_right z xs ys h)

-- ---- what is met by known vectors

record HasKnownPair (mode : Mode) (m : Map) (known : ℕ → Type 0) (d k : ℕ) : Type 0 where
  mapped : Mapped
  is_decision : slice_get m.decisions d ≡ Some mapped
  p : ℕ
  q : ℕ
  first : known p
  second : known q
  paired : IsPairFor mode mapped.decision.tree k p q

record HasKnownOutcome (m : Map) (known : ℕ → Type 0) (d : ℕ) (outcome : Bool) : Type 0 where
  mapped : Mapped
  is_decision : slice_get m.decisions d ≡ Some mapped
  p : ℕ
  has : known p
  gives : Gives mapped.decision.tree outcome p

module _ (seen : ℕ → ℕ → Type 0) (m : Map) (mode : Mode) (asked : List Bool) where
  abbrev Known : List Wanted → ℕ → ℕ → Type 0
  Known listed d p = IsKnown seen m mode asked listed d p

  abbrev IsMet : List Wanted → ObligationId → Type 0
  IsMet listed (Condition d k) = HasKnownPair mode m (IsKnown seen m mode asked listed d) d k
  IsMet listed (Outcome d outcome) = HasKnownOutcome m (IsKnown seen m mode asked listed d) d outcome
  IsMet listed id = Unit {0}

  still_met : (listed after : List Wanted) → (rest : List Wanted) × (after ≡ listed ++ rest) → (id : ObligationId) → IsMet listed id → IsMet after id
  still_met listed after more (Entry n) h = tt
  still_met listed after more (Exit n) h = tt
  still_met listed after more (Statement n) h = tt
  still_met listed after more (Label n) h = tt
  still_met listed after more (Outcome d o) h = record {
    mapped = h.mapped;
    is_decision = h.is_decision;
    p = h.p;
    has = still_known seen m mode asked listed after d h.p more h.has;
    gives = h.gives;
  }
  still_met listed after more (Condition d k) h = record {
    mapped = h.mapped;
    is_decision = h.is_decision;
    p = h.p;
    q = h.q;
    first = still_known seen m mode asked listed after d h.p more h.first;
    second = still_known seen m mode asked listed after d h.q more h.second;
    paired = h.paired;
  }

  module _ (listed : List Wanted) (d : ℕ) (mapped : Mapped) (known : slice_get m.decisions d ≡ Some mapped) where
    abbrev t : Tree
    t = mapped.decision.tree

    condition_is : (k : ℕ) (paths : List ℕ) (after : List Wanted) → PutsForCondition mode t k (IsKnown seen m mode asked listed d) paths
        → Adds seen m mode asked listed d (Some k) paths after → IsMet after (Condition d k)
    condition_is k [] after (met {p} {q} first second pair) h =
        let more = adds_more seen m mode asked listed d (Some k) [] after h in
        record {
          mapped = mapped;
          is_decision = known;
          p = p;
          q = q;
          first = still_known seen m mode asked listed after d p more first;
          second = still_known seen m mode asked listed after d q more second;
          paired = pair;
        }
    condition_is k (_ ∷ []) after (one {path} {partner} none need) h =
        let more = adds_more seen m mode asked listed d (Some k) (path ∷ []) after h in
        let now : IsKnown seen m mode asked after d path = inr (added_listed seen m mode asked listed d (Some k) (path ∷ []) after h path (inl refl)) in
        let old : IsKnown seen m mode asked after d partner = still_known seen m mode asked listed after d partner more need.old in
        elim need.least [
          | inl l ↦ record { mapped = mapped; is_decision = known; p = path; q = partner; first = now; second = old; paired = l.so.paired }
          | inr l ↦ record { mapped = mapped; is_decision = known; p = partner; q = path; first = old; second = now; paired = l.so.paired }
        ]
    condition_is k (_ ∷ _ ∷ []) after (two {first = a} {second = b} none need) h =
        let at : (p : ℕ) → In p (a ∷ b ∷ []) → IsKnown seen m mode asked after d p =
        λ p is. inr (added_listed seen m mode asked listed d (Some k) (a ∷ b ∷ []) after h p is) in
        record { mapped = mapped; is_decision = known; p = a; q = b; first = at a (inl refl); second = at b (inr (inl refl)); paired = need.least.so }
    condition_is k (_ ∷ _ ∷ _ ∷ _) after puts h = elim puts [ ]

    outcome_is : (o : Bool) (paths : List ℕ) (after : List Wanted) → PutsForOutcome t o (IsKnown seen m mode asked listed d) paths
        → Adds seen m mode asked listed d None paths after → IsMet after (Outcome d o)
    outcome_is o [] after (had {p} is gives) h =
        let more = adds_more seen m mode asked listed d None [] after h in
        record { mapped = mapped; is_decision = known; p = p; has = still_known seen m mode asked listed after d p more is; gives = gives }
    outcome_is o (_ ∷ []) after (new {path} none least) h =
        let now : IsKnown seen m mode asked after d path = inr (added_listed seen m mode asked listed d None (path ∷ []) after h path (inl refl)) in
        record { mapped = mapped; is_decision = known; p = path; has = now; gives = least.so }
    outcome_is o (_ ∷ _ ∷ _) after puts h = elim puts [ ]

  by_condition : (listed : List Wanted) (d k : ℕ) (o : Option Mapped) → slice_get m.decisions d ≡ o → (after : List Wanted)
      → AddsForCondition seen m mode asked listed d k o after → IsMet after (Condition d k)
  by_condition listed d k None known after h = absurd h
  by_condition listed d k (Some mapped) known after h = condition_is listed d mapped known k h.0 after h.1 h.2

  by_outcome : (listed : List Wanted) (d : ℕ) (v : Bool) (o : Option Mapped) → slice_get m.decisions d ≡ o → (after : List Wanted)
      → AddsForOutcome seen m mode asked listed d v o after → IsMet after (Outcome d v)
  by_outcome listed d v None known after h = absurd h
  by_outcome listed d v (Some mapped) known after h = outcome_is listed d mapped known v h.0 after h.1 h.2

  now_met : (listed : List Wanted) (id : ObligationId) (after : List Wanted) → AddsFor seen m mode asked listed id after → IsMet after id
  now_met listed (Entry n) after h = tt
  now_met listed (Exit n) after h = tt
  now_met listed (Statement n) after h = tt
  now_met listed (Label n) after h = tt
  now_met listed (Outcome d v) after h = by_outcome listed d v (slice_get m.decisions d) refl after h
  now_met listed (Condition d k) after h = by_condition listed d k (slice_get m.decisions d) refl after h

  all_met : (listed : List Wanted) (ids : List ObligationId) (all : List Wanted) → AreWantedFrom seen m mode asked listed ids all
      → (id : ObligationId) → In id ids → IsMet all id
  all_met listed [] all h id is = absurd is
  all_met listed (x ∷ ids) all h id is = elim is [
    | inl own ↦
        (let P : ObligationId → Type 0 = λ i. IsMet all i in
        subst P own (still_met h.0 all (wanted_more seen m mode asked h.0 ids all h.2) x (now_met listed x h.0 h.1)))
    | inr later ↦ all_met h.0 ids all h.2 id later
  ]

  asked_condition_met : (all : List Wanted) → AreWanted seen m mode asked all → (d k : ℕ) → IsAsked m asked (Condition d k)
      → HasKnownPair mode m (IsKnown seen m mode asked all d) d k
  asked_condition_met all h d k is =
      let a = is.1 in
      all_met [] (asked_ids m asked) all h (Condition d k)
      (in_left (Condition d k) (asked_conditions (obligations_of m) asked) (asked_outcomes (obligations_of m) asked)
      (in_conditions d k (obligations_of m) asked is.0 a.obligation a.among a.is a.same))

  asked_outcome_met : (all : List Wanted) → AreWanted seen m mode asked all → (d : ℕ) (o : Bool) → IsAsked m asked (Outcome d o)
      → HasKnownOutcome m (IsKnown seen m mode asked all d) d o
  asked_outcome_met all h d o is =
      let a = is.1 in
      all_met [] (asked_ids m asked) all h (Outcome d o)
      (in_right (Outcome d o) (asked_conditions (obligations_of m) asked) (asked_outcomes (obligations_of m) asked)
      (in_outcomes d o (obligations_of m) asked is.0 a.obligation a.among a.is a.same))

module _ (m : Map) (x y : MatrixView) (mode : Mode) (asked : List Bool) (all : List Wanted)
    (more : HasMore m x y) (listed : (d path : ℕ) → IsListed all d path → IsSeen (HasEvent m y) m d path) where
  now_seen : (d p : ℕ) → IsKnown (IsSeen (HasEvent m x) m) m mode asked all d p → IsSeen (HasEvent m y) m d p
  now_seen d p h = elim h [ inl saw ↦ more d p saw | inr on ↦ listed d p on ]

  outcome_closed : (d : ℕ) (o : Bool) (e : Evidence) → HasKnownOutcome m (IsKnown (IsSeen (HasEvent m x) m) m mode asked all d) d o
      → IsEvidence (HasEvent m y) m mode (Outcome d o) e → is_shown e ≡ true
  outcome_closed d o e h is = outcome_met (HasEvent m y) m mode d h.p o h.mapped h.is_decision (now_seen d h.p h.has) h.gives e is

  condition_closed : (d k : ℕ) (e : Evidence) → HasKnownPair mode m (IsKnown (IsSeen (HasEvent m x) m) m mode asked all d) d k
      → IsEvidence (HasEvent m y) m mode (Condition d k) e → is_shown e ≡ true
  condition_closed d k e h is =
      condition_met (HasEvent m y) m mode d k h.p h.q h.mapped h.is_decision (now_seen d h.p h.first) (now_seen d h.q h.second) h.paired e is

pub wanted_is_enough : WantedIsEnough
wanted_is_enough m x y mode asked all are more listed = (
  λ d o e is h. outcome_closed m x y mode asked all more listed d o e (asked_outcome_met (IsSeen (HasEvent m x) m) m mode asked all are d o is) h,
  λ d k e is h. condition_closed m x y mode asked all more listed d k e (asked_condition_met (IsSeen (HasEvent m x) m) m mode asked all are d k is) h,
)
