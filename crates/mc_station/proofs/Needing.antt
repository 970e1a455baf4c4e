-- What the command `needs` asks about is missing, and what is needed can be told.
use Rattle.std.proofs.Common.{◌≡◌, ◌∙◌, ◌<◌, ℕ, zero, suc, Bool, true, false, ◌&&◌, List, [], ◌∷◌, ◌++◌, Option, Some, None, Ok, length, inl, inr, refl, sym, ap, subst}
use Rattle.std.specs.Prelude.{All, is_some, slice_get, slice_index_or}
use Rattle.std.proofs.lemmas.List.Elements.{All-nil, All-push}
use Rattle.mc_cond.specs.Tree.{Tree}
use Rattle.mc_paths.specs.Paths.{IsInUse}
use Rattle.mc_core.specs.Matrix.{MatrixView}
use Rattle.mc_lex.specs.declared.token.Dialect.TheVariants.{Plain}
use Rattle.mc_lex.specs.Scans.{Scans}
use Rattle.mc_steps.specs.Events.{Event}
use Rattle.mc_probe.specs.Maps.{Map, Mapped}
use Rattle.report_options.specs.declared.mode.Mode.{Mode}
use Rattle.mc_oblige.specs.declared.justification.Justification.{Justification}
use Rattle.mc_oblige.specs.declared.obligation.Obligation.{Obligation}
use Rattle.mc_oblige.specs.declared.obligation.ObligationId.{ObligationId}
use Rattle.mc_oblige.specs.declared.obligation.ObligationId.TheVariants.{Entry, Exit, Statement, Label, Outcome, Condition}
use Rattle.mc_oblige.specs.declared.verdict.Evidence.{Evidence}
use Rattle.mc_oblige.specs.declared.verdict.Evidence.TheVariants.{Absent, One, Pair}
use Rattle.mc_oblige.specs.declared.verdict.Verdict.{Verdict}
use Rattle.mc_oblige.specs.declared.verdict.VerdictState.{VerdictState}
use Rattle.mc_oblige.specs.declared.verdict.VerdictState.TheVariants.{Met, Justified, Stale, Missing}
use Rattle.mc_oblige.specs.Evidence.{IsEvidence}
use Rattle.mc_oblige.specs.Obligations.{obligations_of}
use Rattle.mc_oblige.specs.Shown.{HasEvent}
use Rattle.mc_oblige.specs.Verdicts.{AreVerdicts, AreVerdictsFrom, is_shown, state_of}
use Rattle.mc_functions.specs.Asked.{asked_from, asked_in}
use Rattle.mc_functions.specs.Counts.{is_verdict}
use Rattle.mc_functions.specs.Measured.{Measured, is_counted}
use Rattle.needed_paths.specs.declared.need.Need.{Need}
use Rattle.needed_paths.specs.declared.need.Need.TheVariants.{Vector, Beside, Both}
use Rattle.needed_paths.specs.declared.wanted.Wanted.{Wanted}
use Rattle.needed_paths.specs.Needs.{Needs}
use Rattle.mc_needs.specs.Answer.{AreNeeds, HasNeed}
use Rattle.mc_needs.specs.Asked.{AreMissing}
use Rattle.mc_needs.specs.Needs.{Gives, IsConditionNeed, IsLeastPair, IsHalfKnown, IsNeed, IsOutcomeNeed, IsPairFor, IsSeen, NeedsOne}
use Rattle.mc_needs.specs.Wanted.{Adds, AddsFor, AddsForCondition, AddsForOutcome, AreWantedFrom, PutsForCondition, PutsForOutcome, had, met, new, one, two}
use Rattle.evidence_texts.specs.Paths.{HasPath}
use Rattle.needs_lines.specs.Report.{AreOf, IsOf, IsReport, NeedsReport, decision_of}

-- ---- what is asked about has no evidence

missing_state : (s : VerdictState) → is_verdict Missing s ≡ true → s ≡ Missing
missing_state Met is = absurd (cc is)
missing_state Justified is = absurd (cc is)
missing_state Stale is = absurd (cc is)
missing_state Missing is = refl

not_shown : (e : Evidence) (named : Bool) → state_of (is_shown e) named ≡ Missing → e ≡ Absent
not_shown Absent named is = refl
not_shown (One test) true is = absurd (cc is)
not_shown (One test) false is = absurd (cc is)
not_shown (Pair first s second t) true is = absurd (cc is)
not_shown (Pair first s second t) false is = absurd (cc is)

second_true : (a b : Bool) → (a && b) ≡ true → b ≡ true
second_true true b is = is
second_true false b is = absurd (cc is)

the_one : {A : Type 0} {x y : A} → Some x ≡ Some y → x ≡ y
the_one is = cc is

module _ (stands : Event → ℕ → Type 0) (m : Map) (mode : Mode) (named : List Justification) (parts : Measured) where
  absent_at : (first : ℕ) (os : List Obligation) (vs : List Verdict) → AreVerdictsFrom stands m mode named first os vs → (at : ℕ) (o : Obligation) → slice_get os at ≡ Some o
      → slice_get (asked_from parts os vs) at ≡ Some true → IsEvidence stands m mode o.id Absent
  absent_at first [] vs are at o among asked = absurd (cc among)
  absent_at first (x ∷ os) [] are at o among asked = absurd are
  absent_at first (x ∷ os) (v ∷ vs) are zero o among asked =
      let same : x ≡ o = the_one among in
      let missing : v.state ≡ Missing = missing_state v.state (second_true (is_counted parts x) (is_verdict Missing v.state) (the_one asked)) in
      let absent : v.evidence ≡ Absent = not_shown v.evidence (is_some v.reason) (sym are.0.state ∙ missing) in
      subst (λ (y : Obligation). IsEvidence stands m mode y.id Absent) same (subst (λ (e : Evidence). IsEvidence stands m mode x.id e) absent are.0.evidence)
  absent_at first (x ∷ os) (v ∷ vs) are (suc at) o among asked = absent_at (suc first) os vs are.1 at o among asked

  as_many : (first : ℕ) (os : List Obligation) (vs : List Verdict) → AreVerdictsFrom stands m mode named first os vs → length (asked_from parts os vs) ≡ length os
  as_many first [] vs are = refl
  as_many first (x ∷ os) [] are = absurd are
  as_many first (x ∷ os) (v ∷ vs) are = ap suc (as_many (suc first) os vs are.1)

  pub asked_missing : parts.obligations ≡ obligations_of m → AreVerdicts stands m mode named parts.verdicts → AreMissing stands m mode (asked_in parts)
  asked_missing same are =
      let of_map : asked_in parts ≡ asked_from parts (obligations_of m) parts.verdicts = ap (λ (os : List Obligation). asked_from parts os parts.verdicts) same in
      subst (AreMissing stands m mode) (sym of_map) record {
        count = as_many 0 (obligations_of m) parts.verdicts are;
        each = λ id is. subst (λ (i : ObligationId). IsEvidence stands m mode i Absent) is.1.same (absent_at 0 (obligations_of m) parts.verdicts are is.0 is.1.obligation is.1.among is.1.is);
      }

-- ---- what is needed is of its decision

first_used : (mode : Mode) (t : Tree) (k p q : ℕ) → IsPairFor mode t k p q → IsInUse t p
first_used mode t k p q is = (is.v, is.first_path)

second_used : (mode : Mode) (t : Tree) (k p q : ℕ) → IsPairFor mode t k p q → IsInUse t q
second_used mode t k p q is = (is.w, is.second_path)

outcome_used : (t : Tree) (outcome : Bool) (p : ℕ) → Gives t outcome p → IsInUse t p
outcome_used t outcome p is = (is.v, is.is_path)

module _ (mode : Mode) (t : Tree) (k : ℕ) (known : ℕ → Type 0) where
  one_used : (path partner : ℕ) → NeedsOne mode t k known path partner → IsInUse t path × IsInUse t partner
  one_used path partner is = elim is.least [
    | inl least ↦ (first_used mode t k path partner least.so.paired, second_used mode t k path partner least.so.paired)
    | inr least ↦ (second_used mode t k partner path least.so.paired, first_used mode t k partner path least.so.paired)
  ]

module _ (m : Map) (x : MatrixView) (mode : Mode) where
  abbrev stands : Event → ℕ → Type 0
  stands = HasEvent m x

  few : (e : Event) (test : ℕ) → stands e test → test < x.shape.tests
  few e test has = has.held.1

  outcome_is_of : (outcome : Bool) (found : Option Mapped) (need : Need) → IsOutcomeNeed stands m mode outcome found need → IsOf x.shape.tests found (Some need)
  outcome_is_of outcome None need is = absurd is
  outcome_is_of outcome (Some mapped) (Vector path) is = outcome_used mapped.decision.tree outcome path is.so
  outcome_is_of outcome (Some mapped) (Beside path partner test) is = absurd is
  outcome_is_of outcome (Some mapped) (Both first second) is = absurd is

  condition_is_of : (d k : ℕ) (found : Option Mapped) (need : Need) → IsConditionNeed stands m mode d k found need → IsOf x.shape.tests found (Some need)
  condition_is_of d k None need is = absurd is
  condition_is_of d k (Some mapped) (Vector path) is = absurd is
  condition_is_of d k (Some mapped) (Beside path partner test) is =
      let used = one_used mode mapped.decision.tree k (IsSeen stands m d) path partner is.0 in
      (used.0, used.1, few _ test is.1.so.under)
  condition_is_of d k (Some mapped) (Both first second) is =
      (first_used mode mapped.decision.tree k first second is.least.so, second_used mode mapped.decision.tree k first second is.least.so)

  need_is_of : (id : ObligationId) (need : Need) → IsNeed stands m mode id need → IsOf x.shape.tests (decision_of m.decisions id) (Some need)
  need_is_of (Outcome d outcome) need is = outcome_is_of outcome (slice_get m.decisions d) need is
  need_is_of (Condition d k) need is = condition_is_of d k (slice_get m.decisions d) need is
  need_is_of (Entry k) need is = absurd is
  need_is_of (Exit k) need is = absurd is
  need_is_of (Statement k) need is = absurd is
  need_is_of (Label k) need is = absurd is

  has_need_of : (asked : Bool) (id : ObligationId) (need : Option Need) → HasNeed (IsNeed stands m mode) asked id need → IsOf x.shape.tests (decision_of m.decisions id) need
  has_need_of asked id None is = tt
  has_need_of true (Outcome d outcome) (Some need) is = need_is_of (Outcome d outcome) need is
  has_need_of true (Condition d k) (Some need) is = need_is_of (Condition d k) need is
  has_need_of true (Entry k) (Some need) is = absurd (cc is)
  has_need_of true (Exit k) (Some need) is = absurd (cc is)
  has_need_of true (Statement k) (Some need) is = absurd (cc is)
  has_need_of true (Label k) (Some need) is = absurd (cc is)
  has_need_of false id (Some need) is = absurd (cc is)

  each_is_of : (os : List Obligation) (asked : List Bool) (needs : List (Option Need)) → length asked ≡ length os → length needs ≡ length os
      → ((at : ℕ) (o : Obligation) → slice_get os at ≡ Some o → HasNeed (IsNeed stands m mode) (slice_index_or asked at false) o.id (slice_index_or needs at None))
      → AreOf x.shape.tests m.decisions os asked needs
  each_is_of [] [] [] many also each = tt
  each_is_of [] [] (need ∷ needs) many also each = absurd (cc also)
  each_is_of [] (is ∷ asked) needs many also each = absurd (cc many)
  each_is_of (o ∷ os) [] needs many also each = absurd (cc many)
  each_is_of (o ∷ os) (is ∷ asked) [] many also each = absurd (cc also)
  each_is_of (o ∷ os) (is ∷ asked) (need ∷ needs) many also each =
      (has_need_of is o.id need (each zero o refl), each_is_of os asked needs (cc many) (cc also) (λ at p there. each (suc at) p there))

  -- ---- and so are the wanted vectors

  abbrev IsThere : Wanted → Type 0
  IsThere w = HasPath (slice_get m.decisions w.decision) w.path

  abbrev AllUsed : Tree → List ℕ → Type 0
  AllUsed t [] = Unit {0}
  AllUsed t (p ∷ ps) = IsInUse t p × AllUsed t ps

  condition_puts : (t : Tree) (k : ℕ) (known : ℕ → Type 0) (paths : List ℕ) → PutsForCondition mode t k known paths → AllUsed t paths
  condition_puts t k known [] (met {p} {q} first second pair) = tt
  condition_puts t k known (_ ∷ []) (one {path} {partner} none needs) = ((one_used mode t k known path partner needs).0, tt)
  condition_puts t k known (_ ∷ _ ∷ []) (two {first} {second} none needs) = (first_used mode t k first second needs.least.so, (second_used mode t k first second needs.least.so, tt))
  condition_puts t k known (_ ∷ _ ∷ _ ∷ _) puts = elim puts [ ]

  outcome_puts : (t : Tree) (outcome : Bool) (known : ℕ → Type 0) (paths : List ℕ) → PutsForOutcome t outcome known paths → AllUsed t paths
  outcome_puts t outcome known [] (had {p} known_one gives) = tt
  outcome_puts t outcome known (_ ∷ []) (new {path} none least) = (outcome_used t outcome path least.so, tt)
  outcome_puts t outcome known (_ ∷ _ ∷ _) puts = elim puts [ ]

  module _ (asked : List Bool) where
    added : (d : ℕ) (mapped : Mapped) (condition : Option ℕ) (paths : List ℕ) (listed after : List Wanted) → slice_get m.decisions d ≡ Some mapped → AllUsed mapped.decision.tree paths
        → Adds (IsSeen stands m) m mode asked listed d condition paths after → All IsThere listed → All IsThere after
    added d mapped condition [] listed after known used is all = subst (All IsThere) (sym is) all
    added d mapped condition (path ∷ paths) listed after known used (entry, is, later) all =
        let here : HasPath (slice_get m.decisions d) path = subst (λ (o : Option Mapped). HasPath o path) (sym known) used.0 in
        let there : IsThere entry = subst (λ (n : ℕ). HasPath (slice_get m.decisions n) entry.path) (sym is.decision) (subst (λ (p : ℕ). HasPath (slice_get m.decisions d) p) (sym is.same) here) in
        added d mapped condition paths (listed ++ entry ∷ []) after known used.1 later (All-push IsThere listed entry all there)

    of_condition_added : (d k : ℕ) (found : Option Mapped) (listed after : List Wanted) → slice_get m.decisions d ≡ found
        → AddsForCondition (IsSeen stands m) m mode asked listed d k found after → All IsThere listed → All IsThere after
    of_condition_added d k None listed after known is all = absurd is
    of_condition_added d k (Some mapped) listed after known (paths, puts, adds) all =
        added d mapped (Some k) paths listed after known (condition_puts mapped.decision.tree k _ paths puts) adds all

    of_outcome_added : (d : ℕ) (outcome : Bool) (found : Option Mapped) (listed after : List Wanted) → slice_get m.decisions d ≡ found
        → AddsForOutcome (IsSeen stands m) m mode asked listed d outcome found after → All IsThere listed → All IsThere after
    of_outcome_added d outcome None listed after known is all = absurd is
    of_outcome_added d outcome (Some mapped) listed after known (paths, puts, adds) all =
        added d mapped None paths listed after known (outcome_puts mapped.decision.tree outcome _ paths puts) adds all

    one_added : (id : ObligationId) (listed after : List Wanted) → AddsFor (IsSeen stands m) m mode asked listed id after → All IsThere listed → All IsThere after
    one_added (Condition d k) listed after is all = of_condition_added d k (slice_get m.decisions d) listed after refl is all
    one_added (Outcome d outcome) listed after is all = of_outcome_added d outcome (slice_get m.decisions d) listed after refl is all
    one_added (Entry k) listed after is all = absurd is
    one_added (Exit k) listed after is all = absurd is
    one_added (Statement k) listed after is all = absurd is
    one_added (Label k) listed after is all = absurd is

    all_added : (ids : List ObligationId) (listed whole : List Wanted) → AreWantedFrom (IsSeen stands m) m mode asked listed ids whole → All IsThere listed → All IsThere whole
    all_added [] listed whole is all = subst (All IsThere) (sym is) all
    all_added (id ∷ ids) listed whole (after, adds, later) all = all_added ids after whole later (one_added id listed after adds all)

  pub each_is_told : (asked : List Bool) (n : Needs) → length asked ≡ length (obligations_of m) → AreNeeds stands m mode asked n → AreOf x.shape.tests m.decisions (obligations_of m) asked n.each
  each_is_told asked n many is = each_is_of (obligations_of m) asked n.each many is.count is.each

  pub wanted_are_told : (asked : List Bool) (n : Needs) → AreNeeds stands m mode asked n → All IsThere n.wanted
  wanted_are_told asked n is = all_added asked _ [] n.wanted is.wanted (All-nil IsThere)

-- ---- what the calls ask for

-- what is asked about is missing
pub asked_are : (m : Map) (x : MatrixView) (mode : Mode) (named : List Justification) (parts : Measured) (asked : List Bool) → asked ≡ asked_in parts → parts.obligations ≡ obligations_of m → AreVerdicts (HasEvent m x) m mode named parts.verdicts → AreMissing (HasEvent m x) m mode asked
asked_are m x mode named parts asked is same are = subst (AreMissing (HasEvent m x) m mode) (sym is) (asked_missing (HasEvent m x) m mode named parts same are)

-- and what it needs can be told
pub told_are : (r : NeedsReport) (m : Map) (x : MatrixView) (mode : Mode) (named : List Justification) (parts : Measured) → Scans Plain [] r.source r.tokens None → r.decisions ≡ m.decisions → r.obligations ≡ obligations_of m → length r.names ≡ x.shape.tests → r.asked ≡ asked_in parts
    → parts.obligations ≡ obligations_of m → AreVerdicts (HasEvent m x) m mode named parts.verdicts → AreNeeds (HasEvent m x) m mode r.asked r.needs → IsReport r
told_are r m x mode named parts scans decisions obligations names asked same are needs =
    let many = (asked_are m x mode named parts r.asked asked same are).count in
    let by_names : AreOf (length r.names) m.decisions (obligations_of m) r.asked r.needs.each =
    subst (λ (n : ℕ). AreOf n m.decisions (obligations_of m) r.asked r.needs.each) (sym names) (each_is_told m x mode r.asked r.needs many needs) in
    let by_obligations : AreOf (length r.names) m.decisions r.obligations r.asked r.needs.each =
    subst (λ (os : List Obligation). AreOf (length r.names) m.decisions os r.asked r.needs.each) (sym obligations) by_names in
    record {
      tokens = scans;
      each = subst (λ (ds : List Mapped). AreOf (length r.names) ds r.obligations r.asked r.needs.each) (sym decisions) by_obligations;
      wanted = subst (λ (ds : List Mapped). All (λ (w : Wanted). HasPath (slice_get ds w.decision) w.path) r.needs.wanted) (sym decisions) (wanted_are_told m x mode r.asked r.needs needs);
    }
