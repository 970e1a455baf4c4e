-- Where a wanted vector stands on the list, an obligation needs it.
use Rattle.std.proofs.Common.{◌≡◌, ℕ, suc, ◌<◌, ◌≤◌, ◌++◌, Bool, true, false, Option, Some, None, List, [], ◌∷◌, length, sym, ap, subst, ◌∙◌, refl, arith, inl, inr, ◌⊎◌, append_assoc}
use Rattle.std.specs.Prelude.{slice_get}
use Rattle.std.proofs.lemmas.Bool.{cases_lt}
use Rattle.std.proofs.lemmas.List.Elements.{Contains-push}
use Rattle.std.proofs.lemmas.List.{length-append, length_push}
use Rattle.mc_cond.specs.Tree.{Tree}
use Rattle.mc_probe.specs.Maps.{Mapped, Map}
use Rattle.report_options.specs.declared.mode.Mode.{Mode}
use Rattle.mc_oblige.specs.declared.obligation.ObligationId.{ObligationId}
use Rattle.mc_oblige.specs.declared.obligation.ObligationId.TheVariants.{Entry, Exit, Statement, Label, Outcome, Condition}
use Rattle.mc_oblige.specs.declared.obligation.Obligation.{Obligation}
use Rattle.mc_oblige.specs.Obligations.{obligations_of}
use Rattle.mc_oblige.specs.Shown.{HasEvent}
use Rattle.needed_paths.specs.declared.wanted.Wanted.{Wanted}
use Rattle.mc_needs.specs.Needs.{Gives, IsPairFor, IsUnpaired, NeedsOne, NeedsTwo, IsSeen}
use Rattle.mc_needs.specs.Asked.{IsAsked, if_condition, if_outcome, asked_conditions, asked_outcomes, asked_ids}
use Rattle.mc_needs.specs.Wanted.{PutsForCondition, met, one, two, PutsForOutcome, had, new, IsListed, IsEntry, IsKnown, Adds, AddsForCondition, AddsForOutcome, AddsFor, AreWantedFrom}
use Rattle.mc_needs.proofs.Listed.{listed_more, listed_cases}
use Rattle.laws_needs.specs.Needed.{IsNeededByCondition, IsNeededByOutcome, WantedIsNeeded}
use Rattle.laws_needs.proofs.Growing.{adds_more, wanted_more}
use Rattle.laws_needs.proofs.Pairing.{not_itself}

-- ---- two ways to cut one list

same_cut : (xs ys us vs : List Wanted) → length xs ≡ length ys → xs ++ us ≡ ys ++ vs → (xs ≡ ys) × (us ≡ vs)
same_cut [] [] us vs e f = (refl, f)
same_cut [] (y ∷ ys) us vs e f = absurd (omega (arith, e))
same_cut (x ∷ xs) [] us vs e f = absurd (omega (arith, e))
same_cut (x ∷ xs) (y ∷ ys) us vs e f =
    let head : x ≡ y = cc in
    let tail : xs ++ us ≡ ys ++ vs = cc in
    let rest = same_cut xs ys us vs (omega (arith, e)) tail in
    (λ i. head i ∷ rest.0 i, rest.1)

-- what comes next at a cut that falls before the end of the first part
next_at : (before : List Wanted) (w : Wanted) (back front rest : List Wanted) → front ++ rest ≡ before ++ w ∷ back → length before < length front
    → (more : List Wanted) × (front ≡ before ++ w ∷ more)
next_at [] w back [] rest e lt = absurd (omega (arith, lt))
next_at [] w back (x ∷ front) rest e lt = let head : x ≡ w = cc in (front, λ i. head i ∷ front)
next_at (b ∷ before) w back [] rest e lt = absurd (omega (arith, lt))
next_at (b ∷ before) w back (x ∷ front) rest e lt =
    let head : x ≡ b = cc in
    let tail : front ++ rest ≡ before ++ w ∷ back = cc in
    let more = next_at before w back front rest tail (omega (arith, lt)) in
    (more.0, λ i. head i ∷ more.1 i)

-- ---- which obligations are walked

abbrev AllAsked : Map → List Bool → List ObligationId → Type 0
AllAsked m asked [] = Unit {0}
AllAsked m asked (id ∷ ids) = IsAsked m asked id × AllAsked m asked ids

module _ (m : Map) (asked : List Bool) where
  asked_both : (xs ys : List ObligationId) → AllAsked m asked xs → AllAsked m asked ys → AllAsked m asked (xs ++ ys)
  asked_both [] ys h g = g
  asked_both (x ∷ xs) ys h g = (h.0, asked_both xs ys h.1 g)

  one_condition : (is : Bool) (id : ObligationId) (ids : List ObligationId) → (is ≡ true → IsAsked m asked id) → AllAsked m asked ids → AllAsked m asked (if_condition is id ids)
  one_condition false id ids own h = h
  one_condition true (Entry n) ids own h = h
  one_condition true (Exit n) ids own h = h
  one_condition true (Statement n) ids own h = h
  one_condition true (Label n) ids own h = h
  one_condition true (Outcome d o) ids own h = h
  one_condition true (Condition d k) ids own h = (own refl, h)

  one_outcome : (is : Bool) (id : ObligationId) (ids : List ObligationId) → (is ≡ true → IsAsked m asked id) → AllAsked m asked ids → AllAsked m asked (if_outcome is id ids)
  one_outcome false id ids own h = h
  one_outcome true (Entry n) ids own h = h
  one_outcome true (Exit n) ids own h = h
  one_outcome true (Statement n) ids own h = h
  one_outcome true (Label n) ids own h = h
  one_outcome true (Outcome d o) ids own h = (own refl, h)
  one_outcome true (Condition d k) ids own h = h

  abbrev AskedIn : List Obligation → List Bool → Type 0
  AskedIn os is = (i : ℕ) (o : Obligation) → slice_get os i ≡ Some o → slice_get is i ≡ Some true → IsAsked m asked o.id

  by_conditions : (os : List Obligation) (is : List Bool) → AskedIn os is → AllAsked m asked (asked_conditions os is)
  by_conditions [] is h = tt
  by_conditions (o ∷ os) [] h = tt
  by_conditions (o ∷ os) (b ∷ is) h =
      one_condition b o.id (asked_conditions os is) (λ e. h 0 o refl (ap (λ (x : Bool). Some x) e)) (by_conditions os is (λ i p at on. h (suc i) p at on))

  by_outcomes : (os : List Obligation) (is : List Bool) → AskedIn os is → AllAsked m asked (asked_outcomes os is)
  by_outcomes [] is h = tt
  by_outcomes (o ∷ os) [] h = tt
  by_outcomes (o ∷ os) (b ∷ is) h =
      one_outcome b o.id (asked_outcomes os is) (λ e. h 0 o refl (ap (λ (x : Bool). Some x) e)) (by_outcomes os is (λ i p at on. h (suc i) p at on))

  all_asked : AllAsked m asked (asked_ids m asked)
  all_asked =
      let own : AskedIn (obligations_of m) asked = λ i o at on. (i, record { obligation = o; among = at; same = refl; is = on }) in
      asked_both (asked_conditions (obligations_of m) asked) (asked_outcomes (obligations_of m) asked) (by_conditions (obligations_of m) asked own) (by_outcomes (obligations_of m) asked own)

-- ---- the second of two vectors

module _ (mode : Mode) (t : Tree) (k : ℕ) (known also : ℕ → Type 0) (first second : ℕ)
    (unpaired : IsUnpaired mode t k known) (need : NeedsTwo mode t k known first second)
    (old : (p : ℕ) → known p → also p) (now : also first) (cases : (p : ℕ) → also p → known p ⊎ (first ≡ p)) where
  pair : IsPairFor mode t k first second
  pair = need.least.so

  first_new : ¬ known first
  first_new is = need.none first second (record { paired = pair; half = inl (is, λ too. unpaired first second is too pair) })

  second_new : ¬ known second
  second_new is = need.none first second (record { paired = pair; half = inr (first_new, is) })

  not_first : (p : ℕ) → first ≡ p → ¬ known p
  not_first p e is = first_new (subst known (sym e) is)

  still_unpaired : IsUnpaired mode t k also
  still_unpaired p q a b is = elim (cases p a) [
    | inl x ↦ elim (cases q b) [
      | inl y ↦ unpaired p q x y is
      | inr f ↦ need.none p q (record { paired = is; half = inl (x, not_first q f) })
    ]
    | inr e ↦ elim (cases q b) [
      | inl y ↦ need.none p q (record { paired = is; half = inr (not_first p e, y) })
      | inr f ↦ not_itself mode t k p q (sym e ∙ f) is
    ]
  ]

  second_is : ¬ also second
  second_is is = elim (cases second is) [ inl own ↦ second_new own | inr e ↦ not_itself mode t k first second e pair ]

  needs_second : NeedsOne mode t k also second first
  needs_second = record {
    new = second_is;
    old = now;
    least = inr (record {
      so = record { paired = pair; half = inl (now, second_is) };
      least = λ p q h. need.least.least p q h.paired;
    });
  }

-- ---- the list

module _ (seen : ℕ → ℕ → Type 0) (m : Map) (mode : Mode) (asked : List Bool) where
  abbrev IsNeeded : List Wanted → ℕ → ℕ → Type 0
  IsNeeded before d path =
      IsNeededByCondition m mode asked (IsKnown seen m mode asked before d) d path ⊎ IsNeededByOutcome m asked (IsKnown seen m mode asked before d) d path

  moved : (before : List Wanted) (d e p q : ℕ) → d ≡ e → p ≡ q → IsNeeded before d p → IsNeeded before e q
  moved before d e p q same way h =
      let P : ℕ → Type 0 = λ n. IsNeeded before n p in
      let Q : ℕ → Type 0 = λ n. IsNeeded before e n in
      subst Q way (subst P same h)

  -- the entry at a cut is the one for a vector among those that are added
  record IsPlaced (listed before : List Wanted) (w : Wanted) (d : ℕ) (condition : Option ℕ) (paths : List ℕ) : Type 0 where
    front : List ℕ
    path : ℕ
    back : List ℕ
    split : paths ≡ front ++ path ∷ back
    added : Adds seen m mode asked listed d condition front before
    entry : IsEntry m asked before d condition path w

  place : (listed : List Wanted) (d : ℕ) (condition : Option ℕ) (paths : List ℕ) (after before : List Wanted) (w : Wanted) (more : List Wanted)
      → Adds seen m mode asked listed d condition paths after → after ≡ before ++ w ∷ more → length listed ≤ length before → IsPlaced listed before w d condition paths
  place listed d condition [] after before w more h e le =
      let len = length-append before (w ∷ more) in
      let same = ap (λ (xs : List Wanted). length xs) (sym h ∙ e) in
      absurd (omega (arith, le, len, same))
  place listed d condition (path ∷ paths) after before w more h e le = elim (cases_lt (length listed) (length before)) [
    | inl less ↦
        (let len = length_push listed h.0 in
        let rest = place (listed ++ h.0 ∷ []) d condition paths after before w more h.2 e (omega (arith, less, len)) in
        record { front = path ∷ rest.front; path = rest.path; back = rest.back; split = ap (λ (ps : List ℕ). path ∷ ps) rest.split; added = (h.0, h.1, rest.added); entry = rest.entry })
    | inr over ↦
        (let tail = adds_more seen m mode asked (listed ++ h.0 ∷ []) d condition paths after h.2 in
        let whole : listed ++ h.0 ∷ tail.0 ≡ before ++ w ∷ more = sym (append_assoc listed (h.0 ∷ []) tail.0) ∙ sym tail.1 ∙ e in
        let cut = same_cut listed before (h.0 ∷ tail.0) (w ∷ more) (omega (arith, le, over)) whole in
        let head : h.0 ≡ w = let f : h.0 ∷ tail.0 ≡ w ∷ more = cut.1 in cc in
        let P : List Wanted → Type 0 = λ xs. IsEntry m asked xs d condition path h.0 in
        let Q : Wanted → Type 0 = λ v. IsEntry m asked before d condition path v in
        record { front = []; path = path; back = paths; split = refl; added = sym cut.0; entry = subst Q head (subst P cut.0 h.1) })
  ]

  -- ---- of a condition

  module _ (d k : ℕ) (mapped : Mapped) (is : slice_get m.decisions d ≡ Some mapped) (ask : IsAsked m asked (Condition d k)) (listed before : List Wanted) where
    abbrev Was : ℕ → Type 0
    Was = IsKnown seen m mode asked listed d

    abbrev Now : ℕ → Type 0
    Now = IsKnown seen m mode asked before d

    needed : (path other : ℕ) → IsUnpaired mode mapped.decision.tree k Now
        → NeedsOne mode mapped.decision.tree k Now path other ⊎ NeedsTwo mode mapped.decision.tree k Now path other → IsNeeded before d path
    needed path other none need =
        inl (record { mapped = mapped; is_decision = is; condition = k; is_asked = ask; missing = none; other = other; needs = need })

    -- the first of those that are added
    at_start : (path other : ℕ) → before ≡ listed → IsUnpaired mode mapped.decision.tree k Was
        → NeedsOne mode mapped.decision.tree k Was path other ⊎ NeedsTwo mode mapped.decision.tree k Was path other → IsNeeded before d path
    at_start path other e none need =
        let P : List Wanted → Type 0 = λ xs. IsUnpaired mode mapped.decision.tree k (IsKnown seen m mode asked xs d) in
        let Q : List Wanted → Type 0 = λ xs. NeedsOne mode mapped.decision.tree k (IsKnown seen m mode asked xs d) path other
        ⊎ NeedsTwo mode mapped.decision.tree k (IsKnown seen m mode asked xs d) path other in
        needed path other (subst P (sym e) none) (subst Q (sym e) need)

    -- the second of two
    at_second : (first second : ℕ) → Adds seen m mode asked listed d (Some k) (first ∷ []) before → IsUnpaired mode mapped.decision.tree k Was
        → NeedsTwo mode mapped.decision.tree k Was first second → IsNeeded before d second
    at_second first second h none need =
        let w : Wanted = h.0 in
        let grown : before ≡ listed ++ w ∷ [] = h.2 in
        let P : List Wanted → Type 0 = λ xs. (p : ℕ) → IsKnown seen m mode asked xs d p → Was p ⊎ (first ≡ p) in
        let Q : List Wanted → Type 0 = λ xs. (p : ℕ) → Was p → IsKnown seen m mode asked xs d p in
        let R : List Wanted → Type 0 = λ xs. IsListed xs d first in
        let cases : (p : ℕ) → Now p → Was p ⊎ (first ≡ p) =
        subst P (sym grown) (λ p known. elim known [
          | inl saw ↦ inl (inl saw)
          | inr on ↦ elim (listed_cases listed w d p on) [ inl old ↦ inl (inr old) | inr own ↦ inr (sym h.1.same ∙ own.1) ]
        ]) in
        let old : (p : ℕ) → Was p → Now p =
        subst Q (sym grown) (λ p known. elim known [ inl saw ↦ inl saw | inr on ↦ inr (listed_more listed w d p on) ]) in
        let on_it : IsListed before d first = subst R (sym grown) (record { entry = w; among = Contains-push listed w; decision = h.1.decision; same = h.1.same }) in
        let now : Now first = inr on_it in
        needed second first (still_unpaired mode mapped.decision.tree k Was Now first second none need old now cases)
        (inl (needs_second mode mapped.decision.tree k Was Now first second none need old now cases))

    of_condition : (paths : List ℕ) → PutsForCondition mode mapped.decision.tree k Was paths → (front : List ℕ) (path : ℕ) (back : List ℕ) → paths ≡ front ++ path ∷ back
        → Adds seen m mode asked listed d (Some k) front before → IsNeeded before d path
    of_condition [] (met {p} {q} a b pair) [] path back e h = cc
    of_condition [] (met {p} {q} a b pair) (x ∷ front) path back e h = cc
    of_condition (_ ∷ []) (one {path = p} {partner} none need) [] path back e h =
        let same : p ≡ path = cc in
        let P : ℕ → Type 0 = λ n. IsNeeded before d n in
        subst P same (at_start p partner h none (inl need))
    of_condition (_ ∷ []) (one {path = p} {partner} none need) (x ∷ []) path back e h = cc
    of_condition (_ ∷ []) (one {path = p} {partner} none need) (x ∷ y ∷ front) path back e h = cc
    of_condition (_ ∷ _ ∷ []) (two {first = p} {second = q} none need) [] path back e h =
        let same : p ≡ path = cc in
        let P : ℕ → Type 0 = λ n. IsNeeded before d n in
        subst P same (at_start p q h none (inr need))
    of_condition (_ ∷ _ ∷ []) (two {first = p} {second = q} none need) (x ∷ []) path back e h =
        let one_is : x ≡ p = cc in
        let same : q ≡ path = cc in
        let P : ℕ → Type 0 = λ n. IsNeeded before d n in
        let Q : ℕ → Type 0 = λ n. Adds seen m mode asked listed d (Some k) (n ∷ []) before in
        subst P same (at_second p q (subst Q one_is h) none need)
    of_condition (_ ∷ _ ∷ []) (two {first = p} {second = q} none need) (x ∷ y ∷ []) path back e h = cc
    of_condition (_ ∷ _ ∷ []) (two {first = p} {second = q} none need) (x ∷ y ∷ z ∷ front) path back e h = cc
    of_condition (_ ∷ _ ∷ _ ∷ _) puts front path back e h = elim puts [ ]

  -- ---- of an outcome

  of_outcome : (d : ℕ) (o : Bool) (mapped : Mapped) → slice_get m.decisions d ≡ Some mapped → IsAsked m asked (Outcome d o) → (listed before : List Wanted) (paths : List ℕ)
      → PutsForOutcome mapped.decision.tree o (IsKnown seen m mode asked listed d) paths → (front : List ℕ) (path : ℕ) (back : List ℕ) → paths ≡ front ++ path ∷ back
      → Adds seen m mode asked listed d None front before → IsNeeded before d path
  of_outcome d o mapped is ask listed before [] (had {p} known gives) [] path back e h = cc
  of_outcome d o mapped is ask listed before [] (had {p} known gives) (x ∷ front) path back e h = cc
  of_outcome d o mapped is ask listed before (_ ∷ []) (new {path = p} none least) [] path back e h =
      let same : p ≡ path = cc in
      let P : ℕ → Type 0 = λ n. IsNeeded before d n in
      let Q : List Wanted → Type 0 = λ xs. (r : ℕ) → IsKnown seen m mode asked xs d r → ¬ Gives mapped.decision.tree o r in
      subst P same (inr (record { mapped = mapped; is_decision = is; outcome = o; is_asked = ask; missing = subst Q (sym h) none; needs = least }))
  of_outcome d o mapped is ask listed before (_ ∷ []) (new {path = p} none least) (x ∷ []) path back e h = cc
  of_outcome d o mapped is ask listed before (_ ∷ []) (new {path = p} none least) (x ∷ y ∷ front) path back e h = cc
  of_outcome d o mapped is ask listed before (_ ∷ _ ∷ _) puts front path back e h = elim puts [ ]

  -- ---- of each obligation

  by_condition : (d k : ℕ) (o : Option Mapped) → slice_get m.decisions d ≡ o → IsAsked m asked (Condition d k) → (listed after before : List Wanted) (w : Wanted) (more : List Wanted)
      → AddsForCondition seen m mode asked listed d k o after → after ≡ before ++ w ∷ more → length listed ≤ length before → IsNeeded before w.decision w.path
  by_condition d k None is ask listed after before w more h e le = absurd h
  by_condition d k (Some mapped) is ask listed after before w more h e le =
      let at = place listed d (Some k) h.0 after before w more h.2 e le in
      moved before d w.decision at.path w.path (sym at.entry.decision) (sym at.entry.same)
      (of_condition d k mapped is ask listed before h.0 h.1 at.front at.path at.back at.split at.added)

  by_outcome : (d : ℕ) (v : Bool) (o : Option Mapped) → slice_get m.decisions d ≡ o → IsAsked m asked (Outcome d v) → (listed after before : List Wanted) (w : Wanted) (more : List Wanted)
      → AddsForOutcome seen m mode asked listed d v o after → after ≡ before ++ w ∷ more → length listed ≤ length before → IsNeeded before w.decision w.path
  by_outcome d v None is ask listed after before w more h e le = absurd h
  by_outcome d v (Some mapped) is ask listed after before w more h e le =
      let at = place listed d None h.0 after before w more h.2 e le in
      moved before d w.decision at.path w.path (sym at.entry.decision) (sym at.entry.same)
      (of_outcome d v mapped is ask listed before h.0 h.1 at.front at.path at.back at.split at.added)

  by_id : (id : ObligationId) → IsAsked m asked id → (listed after before : List Wanted) (w : Wanted) (more : List Wanted)
      → AddsFor seen m mode asked listed id after → after ≡ before ++ w ∷ more → length listed ≤ length before → IsNeeded before w.decision w.path
  by_id (Entry n) ask listed after before w more h e le = absurd h
  by_id (Exit n) ask listed after before w more h e le = absurd h
  by_id (Statement n) ask listed after before w more h e le = absurd h
  by_id (Label n) ask listed after before w more h e le = absurd h
  by_id (Outcome d v) ask listed after before w more h e le = by_outcome d v (slice_get m.decisions d) refl ask listed after before w more h e le
  by_id (Condition d k) ask listed after before w more h e le = by_condition d k (slice_get m.decisions d) refl ask listed after before w more h e le

  walked : (ids : List ObligationId) → AllAsked m asked ids → (listed all before : List Wanted) (w : Wanted) (after : List Wanted)
      → AreWantedFrom seen m mode asked listed ids all → all ≡ before ++ w ∷ after → length listed ≤ length before → IsNeeded before w.decision w.path
  walked [] are listed all before w after h e le =
      let len = length-append before (w ∷ after) in
      let same = ap (λ (xs : List Wanted). length xs) (sym h ∙ e) in
      absurd (omega (arith, le, len, same))
  walked (id ∷ ids) are listed all before w after h e le = elim (cases_lt (length before) (length h.0)) [
    | inl less ↦
        (let rest = wanted_more seen m mode asked h.0 ids all h.2 in
        let more = next_at before w after h.0 rest.0 (sym rest.1 ∙ e) less in
        by_id id are.0 listed h.0 before w more.0 h.1 more.1 le)
    | inr over ↦ walked ids are.1 h.0 all before w after h.2 e over
  ]

pub wanted_is_needed : WantedIsNeeded
wanted_is_needed m x mode asked all before after w are e =
    walked (IsSeen (HasEvent m x) m) m mode asked (asked_ids m asked) (all_asked m asked) [] all before w after are e (omega arith)
