-- What each obligation needs: one more of them, and from marks to what is evaluated.
use Rattle.std.proofs.Common.{◌≡◌, ℕ, ◌+◌, ◌<◌, ◌++◌, Bool, true, false, Option, Some, None, List, [], ◌∷◌, length, map, get_or, sym, ap, subst, ◌∙◌, refl, arith, inl, inr}
use Rattle.std.specs.Prelude.{is_some, slice_get}
use Rattle.std.proofs.lemmas.Option.{slice_get_within}
use Rattle.std.proofs.lemmas.List.{get_or_append_left, get_or_push, length_push}
use Rattle.mc_cond.specs.Tree.{Tree}
use Rattle.mc_paths.specs.Paths.{count_of}
use Rattle.mc_steps.specs.Events.{Event, Evaluated}
use Rattle.mc_probe.specs.Maps.{Mapped, Map}
use Rattle.report_options.specs.declared.mode.Mode.{Mode}
use Rattle.mc_oblige.specs.declared.obligation.ObligationId.{ObligationId}
use Rattle.mc_oblige.specs.declared.obligation.ObligationId.TheVariants.{Entry, Exit, Statement, Label, Outcome, Condition}
use Rattle.mc_oblige.specs.declared.obligation.Obligation.{Obligation}
use Rattle.mc_oblige.specs.declared.evaluated.EvaluatedPath.{EvaluatedPath}
use Rattle.mc_oblige.specs.declared.verdict.Evidence.TheVariants.{Absent}
use Rattle.mc_oblige.specs.Obligations.{obligations_of}
use Rattle.mc_oblige.specs.Evidence.{IsEvaluated, IsShown, IsEvidence, IsConditionEvidence}
use Rattle.mc_oblige.specs.Evaluated.{AreEvaluated}
use Rattle.needed_paths.specs.declared.need.Need.{Need}
use Rattle.needed_paths.specs.declared.need.Need.TheVariants.{Vector, Beside, Both}
use Rattle.mc_needs.specs.Needs.{Gives, IsSeen, IsOutcomeNeed, IsConditionNeed, IsNeed}
use Rattle.mc_needs.specs.Asked.{AreMissing}
use Rattle.mc_needs.specs.Answer.{HasNeed}
use Rattle.mc_needs.specs.steps.Marks.{IsMarked, IsMarkedIn, AreTestsIn}
use Rattle.mc_needs.specs.steps.Each.{IsUnpairedIn, IsMissingBy, IsConditionNeedBy, IsOutcomeNeedBy, IsNeedBy}
use Rattle.mc_needs.specs.steps.State.{AreUnseen}
use Rattle.mc_needs.proofs.Bases.{one_mapped}
use Rattle.mc_needs.proofs.Rising.{next}
use Rattle.mc_needs.proofs.Pairs.{any_order, below_first, below_second}
use Rattle.mc_needs.proofs.Moved.{needs_one, needs_two}
use Rattle.mc_needs.proofs.Listed.{same_outcome}
use Rattle.mc_needs.proofs.Marking.{least_at, seen_is_marked, marked_in_seen}

-- ---- one more need

-- the needs of the first n obligations
pub record HaveNeeds (is : ObligationId → Need → Type 0) (n : ℕ) (os : List Obligation) (asked : List Bool) (needs : List (Option Need)) : Type 0 where
  pub count : length needs ≡ n
  pub each : (at : ℕ) (o : Obligation) → at < n → slice_get os at ≡ Some o → HasNeed is (get_or asked at false) o.id (get_or needs at None)

module _ (is : ObligationId → Need → Type 0) (os : List Obligation) (asked : List Bool) where
  pub no_needs : HaveNeeds is 0 os asked []
  no_needs = record { count = refl; each = λ at o lt there. absurd (omega (arith, lt)) }

  pub one_more : (n : ℕ) (each after : List (Option Need)) (need : Option Need) → HaveNeeds is n os asked each
      → ((o : Obligation) → slice_get os n ≡ Some o → HasNeed is (get_or asked n false) o.id need) → after ≡ each ++ need ∷ [] → HaveNeeds is (n + 1) os asked after
  one_more n each after need h own e =
      let P : List (Option Need) → Type 0 = λ xs. HaveNeeds is (n + 1) os asked xs in
      let c = h.count in
      let len = length_push each need in
      subst P (sym e) (record {
        count = omega (arith, c, len);
        each = λ at o lt there. elim (next at n lt) [
          | inl less ↦
              (let Q : Option Need → Type 0 = λ x. HasNeed is (get_or asked at false) o.id x in
              let same : get_or (each ++ need ∷ []) at None ≡ get_or each at None = get_or_append_left each (need ∷ []) None at (omega (arith, less, c)) in
              subst Q (sym same) (h.each at o less there))
          | inr here ↦
              (let Q : Option Need → Type 0 = λ x. HasNeed is (get_or asked at false) o.id x in
              let R : ℕ → Type 0 = λ k. HasNeed is (get_or asked k false) o.id need in
              let same : get_or (each ++ need ∷ []) at None ≡ need = get_or_push each need None at (omega (arith, here, c)) in
              let at_n : slice_get os n ≡ Some o = ap (λ k. slice_get os k) (sym here) ∙ there in
              subst Q (sym same) (subst R (sym here) (own o at_n)))
        ];
      })

  pub whole : (n : ℕ) (each : List (Option Need)) → n ≡ length os → HaveNeeds is n os asked each
      → (length each ≡ length os) × ((at : ℕ) (o : Obligation) → slice_get os at ≡ Some o → HasNeed is (get_or asked at false) o.id (get_or each at None))
  whole n each e h = (h.count ∙ e, λ at o there. h.each at o (let lt = slice_get_within os at o there in omega (arith, lt, e)) there)

-- ---- from marks to what is evaluated

module _ (stands : Event → ℕ → Type 0) (m : Map) (mode : Mode) (es : List EvaluatedPath) (all : AreEvaluated stands m es)
    (tests : List (Option ℕ)) (h : AreTestsIn m es tests) where
  abbrev Marks : List Bool
  Marks = map is_some tests

  outcome : (o : Bool) (x : Option Mapped) (need : Need) → IsOutcomeNeedBy o x need → IsOutcomeNeed stands m mode o x need
  outcome o None need is = is
  outcome o (Some mapped) (Vector path) is = is
  outcome o (Some mapped) (Beside path partner test) is = is
  outcome o (Some mapped) (Both first second) is = is

  condition : (d k : ℕ) (x : Option Mapped) (need : Need) → slice_get m.decisions d ≡ x → IsConditionNeedBy mode tests Marks k x need → IsConditionNeed stands m mode d k x need
  condition d k None need known is = is
  condition d k (Some mapped) (Vector path) known is = is
  condition d k (Some mapped) (Both first second) known is =
      needs_two mode mapped.decision.tree k (IsMarked Marks mapped.base) (IsSeen stands m d) (seen_is_marked stands m es all tests h d mapped known) first second is
  condition d k (Some mapped) (Beside path partner test) known is =
      let t : Tree = mapped.decision.tree in
      let one = needs_one mode t k (IsMarked Marks mapped.base) (IsSeen stands m d) (seen_is_marked stands m es all tests h d mapped known) path partner is.0 in
      let below : partner < count_of t = elim one.least [
        | inl x ↦ below_second mode t k path partner x.so.paired
        | inr x ↦ below_first mode t k partner path x.so.paired
      ] in
      (one, least_at stands m es all tests h d partner test mapped known below is.1)

  pub need_is : (id : ObligationId) (need : Need) → IsNeedBy m mode tests Marks id need → IsNeed stands m mode id need
  need_is (Entry n) need is = is
  need_is (Exit n) need is = is
  need_is (Statement n) need is = is
  need_is (Label n) need is = is
  need_is (Outcome d o) need is = outcome o (slice_get m.decisions d) need is
  need_is (Condition d k) need is = condition d k (slice_get m.decisions d) need refl is

  -- ---- what is missing

  unpaired : (d k : ℕ) (x : Option Mapped) → slice_get m.decisions d ≡ x → IsConditionEvidence stands mode d k x Absent → IsUnpairedIn mode Marks k x
  unpaired d k None known none = tt
  unpaired d k (Some mapped) known none = λ p q first second pair.
      let t : Tree = mapped.decision.tree in
      let saw : (path : ℕ) → path < count_of t → IsMarked Marks mapped.base path → IsSeen stands m d path =
      λ path below. (seen_is_marked stands m es all tests h d mapped known path below).0 in
      let one : IsSeen stands m d p = saw p (below_first mode t k p q pair) first in
      let two : IsSeen stands m d q = saw q (below_second mode t k p q pair) second in
      let P : Mapped → ℕ → ℕ → Type 0 = λ y path test. IsEvaluated stands d y.decision.tree path test in
      let one_is : P mapped p one.test = subst (λ y. P y p one.test) (one_mapped m.decisions d d one.mapped mapped refl one.known known) one.under in
      let two_is : P mapped q two.test = subst (λ y. P y q two.test) (one_mapped m.decisions d d two.mapped mapped refl two.known known) two.under in
      none p q one.test two.test one_is two_is (any_order mode t k p q pair)

  missing : (id : ObligationId) → IsEvidence stands m mode id Absent → IsMissingBy m mode Marks id
  missing (Entry n) none = tt
  missing (Exit n) none = tt
  missing (Statement n) none = tt
  missing (Label n) none = tt
  missing (Outcome d o) none = tt
  missing (Condition d k) none = unpaired d k (slice_get m.decisions d) refl none

  shown : (d : ℕ) (o : Bool) (path test : ℕ) (mapped : Mapped) → (under : IsEvaluated stands d mapped.decision.tree path test) → under.vector.outcome ≡ o
      → IsShown stands (Outcome d o) test
  shown d o path test mapped under e = record { event = Evaluated d under.vector; shows = (under.vector, (refl, e)); under = under.under }

  module _ (asked : List Bool) (are : AreMissing stands m mode asked) where
    pub missing_at : (at : ℕ) (o : Obligation) → slice_get (obligations_of m) at ≡ Some o → slice_get asked at ≡ Some true → IsMissingBy m mode Marks o.id
    missing_at at o there is = missing o.id (are.each o.id (at, record { obligation = o; among = there; same = refl; is = is }))

    pub unseen : AreUnseen (IsMarkedIn m Marks) m asked
    unseen d o mapped known is path mark gives =
        let saw : IsSeen stands m d path = (marked_in_seen stands m es all tests h d path).0 mark in
        let same : saw.mapped ≡ mapped = one_mapped m.decisions d d saw.mapped mapped refl saw.known known in
        let P : Mapped → Type 0 = λ y. IsEvaluated stands d y.decision.tree path saw.test in
        let under : IsEvaluated stands d mapped.decision.tree path saw.test = subst P same saw.under in
        let has : Gives mapped.decision.tree under.vector.outcome path = record { v = under.vector; is_path = under.is_path; same = refl } in
        are.each (Outcome d o) is saw.test (shown d o path saw.test mapped under (same_outcome mapped.decision.tree path under.vector.outcome o has gives))
