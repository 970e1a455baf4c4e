-- Needs speak of the events that stand, and of nothing else: where two relations have the same events
-- under the same tests, they have the same needs.
use Rattle.std.proofs.Common.{ℕ, ◌++◌, Bool, true, false, Option, Some, None, List, [], ◌∷◌, inl, inr}
use Rattle.std.specs.Prelude.{◌↔◌, slice_get, get_or}
use Rattle.mc_cond.specs.Tree.{Tree}
use Rattle.mc_steps.specs.Events.{Event}
use Rattle.mc_probe.specs.Maps.{Mapped, Map}
use Rattle.report_options.specs.declared.mode.Mode.{Mode}
use Rattle.mc_oblige.specs.declared.obligation.ObligationId.{ObligationId}
use Rattle.mc_oblige.specs.declared.obligation.ObligationId.TheVariants.{Entry, Exit, Statement, Label, Outcome, Condition}
use Rattle.mc_oblige.specs.Evidence.{IsEvaluated}
use Rattle.mc_oblige.proofs.Alike as oblige
use Rattle.needed_paths.specs.declared.need.Need.{Need}
use Rattle.needed_paths.specs.declared.need.Need.TheVariants.{Vector, Beside, Both}
use Rattle.needed_paths.specs.declared.wanted.Wanted.{Wanted}
use Rattle.needed_paths.specs.Needs.{Needs}
use Rattle.mc_needs.specs.Needs.{IsSeen, IsConditionNeed, IsOutcomeNeed, IsNeed}
use Rattle.mc_needs.specs.Asked.{asked_ids}
use Rattle.mc_needs.specs.Wanted.{IsKnown, Adds, AddsForCondition, AddsForOutcome, AddsFor, AreWantedFrom, AreWanted}
use Rattle.mc_needs.specs.Answer.{HasNeed, AreNeeds}
use Rattle.mc_needs.proofs.Moved.{needs_one, needs_two, puts_for_condition, puts_for_outcome}

-- ---- the list, by the vectors that are seen

module _ (seen saw : ℕ → ℕ → Type 0) (same : (d p : ℕ) → seen d p ↔ saw d p) (m : Map) (mode : Mode) (asked : List Bool) where
  known_too : (listed : List Wanted) (d p : ℕ) → IsKnown seen m mode asked listed d p ↔ IsKnown saw m mode asked listed d p
  known_too listed d p = (
    λ h. elim h [ inl is ↦ inl ((same d p).0 is) | inr on ↦ inr on ],
    λ h. elim h [ inl is ↦ inl ((same d p).1 is) | inr on ↦ inr on ],
  )

  adds : (listed : List Wanted) (d : ℕ) (condition : Option ℕ) (paths : List ℕ) (after : List Wanted)
      → Adds seen m mode asked listed d condition paths after → Adds saw m mode asked listed d condition paths after
  adds listed d condition [] after h = h
  adds listed d condition (path ∷ paths) after h = (h.0, h.1, adds (listed ++ h.0 ∷ []) d condition paths after h.2)

  adds_for_condition : (listed : List Wanted) (d k : ℕ) (o : Option Mapped) (after : List Wanted)
      → AddsForCondition seen m mode asked listed d k o after → AddsForCondition saw m mode asked listed d k o after
  adds_for_condition listed d k None after h = absurd h
  adds_for_condition listed d k (Some mapped) after h = (
    h.0,
    puts_for_condition mode mapped.decision.tree k (IsKnown seen m mode asked listed d) (IsKnown saw m mode asked listed d) (λ p below. known_too listed d p) h.0 h.1,
    adds listed d (Some k) h.0 after h.2,
  )

  adds_for_outcome : (listed : List Wanted) (d : ℕ) (outcome : Bool) (o : Option Mapped) (after : List Wanted)
      → AddsForOutcome seen m mode asked listed d outcome o after → AddsForOutcome saw m mode asked listed d outcome o after
  adds_for_outcome listed d outcome None after h = absurd h
  adds_for_outcome listed d outcome (Some mapped) after h = (
    h.0,
    puts_for_outcome mode mapped.decision.tree 0 (IsKnown seen m mode asked listed d) (IsKnown saw m mode asked listed d) (λ p below. known_too listed d p) outcome h.0 h.1,
    adds listed d None h.0 after h.2,
  )

  adds_for : (listed : List Wanted) (id : ObligationId) (after : List Wanted) → AddsFor seen m mode asked listed id after → AddsFor saw m mode asked listed id after
  adds_for listed (Entry n) after h = absurd h
  adds_for listed (Exit n) after h = absurd h
  adds_for listed (Statement n) after h = absurd h
  adds_for listed (Label n) after h = absurd h
  adds_for listed (Outcome d outcome) after h = adds_for_outcome listed d outcome (slice_get m.decisions d) after h
  adds_for listed (Condition d k) after h = adds_for_condition listed d k (slice_get m.decisions d) after h

  wanted_from : (listed : List Wanted) (ids : List ObligationId) (all : List Wanted) → AreWantedFrom seen m mode asked listed ids all → AreWantedFrom saw m mode asked listed ids all
  wanted_from listed [] all h = h
  wanted_from listed (id ∷ ids) all h = (h.0, adds_for listed id h.0 h.1, wanted_from h.0 ids all h.2)

  pub wanted_alike : (all : List Wanted) → AreWanted seen m mode asked all → AreWanted saw m mode asked all
  wanted_alike all h = wanted_from [] (asked_ids m asked) all h

-- ---- the need of each

pub has_need : (is also : ObligationId → Need → Type 0) → ((id : ObligationId) (need : Need) → is id need → also id need)
    → (asked : Bool) (id : ObligationId) (need : Option Need) → HasNeed is asked id need → HasNeed also asked id need
has_need is also more false id need h = h
has_need is also more true (Entry n) need h = h
has_need is also more true (Exit n) need h = h
has_need is also more true (Statement n) need h = h
has_need is also more true (Label n) need h = h
has_need is also more true (Outcome d outcome) None h = absurd h
has_need is also more true (Outcome d outcome) (Some need) h = more (Outcome d outcome) need h
has_need is also more true (Condition d k) None h = absurd h
has_need is also more true (Condition d k) (Some need) h = more (Condition d k) need h

-- ---- two relations

module _ (shown stand : Event → ℕ → Type 0) (same : (e : Event) (t : ℕ) → shown e t ↔ stand e t) (m : Map) (mode : Mode) where
  seen_too : (d p : ℕ) → IsSeen shown m d p ↔ IsSeen stand m d p
  seen_too d p = (
    λ h. record { mapped = h.mapped; known = h.known; test = h.test; under = (oblige.evaluated shown stand same d h.mapped.decision.tree p h.test).0 h.under },
    λ h. record { mapped = h.mapped; known = h.known; test = h.test; under = (oblige.evaluated shown stand same d h.mapped.decision.tree p h.test).1 h.under },
  )

  condition : (d k : ℕ) (o : Option Mapped) (need : Need) → IsConditionNeed shown m mode d k o need → IsConditionNeed stand m mode d k o need
  condition d k None need h = absurd h
  condition d k (Some mapped) (Vector path) h = absurd h
  condition d k (Some mapped) (Beside path partner test) h =
      let t : Tree = mapped.decision.tree in (
        needs_one mode t k (IsSeen shown m d) (IsSeen stand m d) (λ p below. seen_too d p) path partner h.0,
        oblige.least (IsEvaluated shown d t partner) (IsEvaluated stand d t partner) test (oblige.evaluated shown stand same d t partner) h.1,
      )
  condition d k (Some mapped) (Both first second) h =
      needs_two mode mapped.decision.tree k (IsSeen shown m d) (IsSeen stand m d) (λ p below. seen_too d p) first second h

  outcome_too : (outcome : Bool) (o : Option Mapped) (need : Need) → IsOutcomeNeed shown m mode outcome o need → IsOutcomeNeed stand m mode outcome o need
  outcome_too outcome None need h = h
  outcome_too outcome (Some mapped) (Vector path) h = h
  outcome_too outcome (Some mapped) (Beside path partner test) h = h
  outcome_too outcome (Some mapped) (Both first second) h = h

  need_too : (id : ObligationId) (need : Need) → IsNeed shown m mode id need → IsNeed stand m mode id need
  need_too (Entry n) need h = h
  need_too (Exit n) need h = h
  need_too (Statement n) need h = h
  need_too (Label n) need h = h
  need_too (Outcome d outcome) need h = outcome_too outcome (slice_get m.decisions d) need h
  need_too (Condition d k) need h = condition d k (slice_get m.decisions d) need h

  pub alike : (asked : List Bool) (n : Needs) → AreNeeds shown m mode asked n → AreNeeds stand m mode asked n
  alike asked n h = record {
    count = h.count;
    each = λ at o there. has_need (IsNeed shown m mode) (IsNeed stand m mode) need_too (get_or asked at false) o.id (get_or n.each at None) (h.each at o there);
    wanted = wanted_alike (IsSeen shown m) (IsSeen stand m) seen_too m mode asked n.wanted h.wanted;
  }
