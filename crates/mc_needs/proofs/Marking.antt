-- The tests at the bits are those of the evaluated paths, so a marked vector is one that is seen.
use Rattle.std.proofs.Common.{◌≡◌, ℕ, zero, suc, ◌+◌, ◌<◌, Bool, true, false, Option, Some, None, List, [], ◌∷◌, length, replicate, set, map, get_or, sym, ap, subst, ◌∙◌, refl, arith, inl, inr, ◌⊎◌}
use Rattle.std.specs.Prelude.{◌↔◌, is_some, slice_get, Contains}
use Rattle.std.proofs.lemmas.Bool.{cases_lt}
use Rattle.std.proofs.lemmas.List.{get_or-set_other, length-set, get_or-replicate, length-replicate, get_or_past, get_or_default}
use Rattle.std.proofs.lemmas.Grind.{get_or-set_at}
use Rattle.mc_paths.specs.Paths.{count_of}
use Rattle.mc_paths.proofs.Numbers.{in_use_below}
use Rattle.mc_steps.specs.Events.{Event}
use Rattle.mc_probe.specs.Maps.{Mapped, Map, IsMap}
use Rattle.mc_oblige.specs.declared.evaluated.EvaluatedPath.{EvaluatedPath}
use Rattle.mc_oblige.specs.Evidence.{IsLeast, IsEvaluated}
use Rattle.mc_oblige.specs.Evaluated.{IsEvaluatedPath, AreEvaluated}
use Rattle.mc_needs.specs.Needs.{IsSeen}
use Rattle.mc_needs.specs.steps.Marks.{IsMarked, HasTestAt, IsMarkedIn, IsPathIn, entry_of, AreTestsIn}
use Rattle.mc_needs.specs.steps.Each.{IsDecisionIn}
use Rattle.mc_needs.proofs.Bases.{same_or_not, one_mapped, bit_within, one_decision, one_path}
use Rattle.mc_needs.proofs.Rising.{next}

-- those of the first n evaluated paths
pub record AreTestsBelow (m : Map) (es : List EvaluatedPath) (n : ℕ) (tests : List (Option ℕ)) : Type 0 where
  pub count : length tests ≡ m.bits
  pub sound : (d path test : ℕ) (mapped : Mapped) → slice_get m.decisions d ≡ Some mapped → path < count_of mapped.decision.tree
      → HasTestAt tests (mapped.base + path) test → Contains es (entry_of d path test)
  pub whole : (d path test : ℕ) (mapped : Mapped) → slice_get m.decisions d ≡ Some mapped → (k : ℕ) → k < n
      → get_or es k (entry_of d path test) ≡ entry_of d path test → (t : ℕ) × HasTestAt tests (mapped.base + path) t

abbrev untested : Option ℕ
untested = None

no_test : (n i : ℕ) → get_or (replicate n untested) i None ≡ None
no_test n i = elim (cases_lt i n) [
  | inl less ↦ get_or-replicate n i untested untested less
  | inr more ↦ get_or_past (replicate n untested) i untested (let l = length-replicate n untested in omega (arith, l, more))
]

-- its decision is there
pub path_there : (m : Map) (e : EvaluatedPath) → IsPathIn m e → IsDecisionIn (slice_get m.decisions e.decision)
path_there m e h = subst IsDecisionIn (sym h.known) tt

pub path_below : (m : Map) (e : EvaluatedPath) (x : Mapped) → IsPathIn m e → slice_get m.decisions e.decision ≡ Some x → e.path < count_of x.decision.tree
path_below m e x h known =
    let P : Mapped → Type 0 = λ y. e.path < count_of y.decision.tree in
    subst P (one_mapped m.decisions e.decision e.decision h.mapped x refl h.known known) h.below

module _ (m : Map) (kept : IsMap m) (es : List EvaluatedPath) where
  pub begun : (tests : List (Option ℕ)) → tests ≡ replicate m.bits untested → AreTestsBelow m es 0 tests
  begun tests e = record {
    count = ap (λ (ts : List (Option ℕ)). length ts) e ∙ length-replicate m.bits untested;
    sound = λ d path test mapped known below has.
        (let f : None ≡ Some test = sym (no_test m.bits (mapped.base + path)) ∙ ap (λ (ts : List (Option ℕ)). get_or ts (mapped.base + path) None) (sym e) ∙ has in cc);
    whole = λ d path test mapped known k lt is. absurd (omega (arith, lt));
  }

  module _ (n : ℕ) (r : EvaluatedPath) (x : Mapped) (tests : List (Option ℕ)) (lt : n < length es) (is : r ≡ get_or es n r)
      (known : slice_get m.decisions r.decision ≡ Some x) (below : r.path < count_of x.decision.tree) (h : AreTestsBelow m es n tests) where
    abbrev bit : ℕ
    bit = x.base + r.path

    within : bit < length tests
    within = let b = bit_within m kept r.decision r.path x known below in let c = h.count in omega (arith, b, c)

    same_entry : (d path test : ℕ) → d ≡ r.decision → path ≡ r.path → test ≡ r.test → r ≡ entry_of d path test
    same_entry d path test a b c = λ i. record { decision = sym a i; path = sym b i; test = sym c i }

    inside : Contains es r
    inside = (n, lt, sym is)

    sound_next : (d path test : ℕ) (mapped : Mapped) → slice_get m.decisions d ≡ Some mapped → path < count_of mapped.decision.tree
        → HasTestAt (set tests bit (Some r.test)) (mapped.base + path) test → Contains es (entry_of d path test)
    sound_next d path test mapped own low has = elim (same_or_not (mapped.base + path) bit) [
      | inl e ↦
          (let f : Some r.test ≡ Some test = sym (get_or-set_at tests bit (mapped.base + path) (Some r.test) None e within) ∙ has in
          let t : test ≡ r.test = cc in
          let P : EvaluatedPath → Type 0 = λ y. Contains es y in
          subst P (same_entry d path test (one_decision m kept d r.decision path r.path mapped x own known low below e)
          (one_path m kept d r.decision path r.path mapped x own known low below e) t) inside)
      | inr apart ↦ h.sound d path test mapped own low (sym (get_or-set_other tests bit (mapped.base + path) (Some r.test) None apart) ∙ has)
    ]

    whole_next : (d path test : ℕ) (mapped : Mapped) → slice_get m.decisions d ≡ Some mapped → (k : ℕ) → k < n + 1
        → get_or es k (entry_of d path test) ≡ entry_of d path test → (t : ℕ) × HasTestAt (set tests bit (Some r.test)) (mapped.base + path) t
    whole_next d path test mapped own k less e = elim (same_or_not (mapped.base + path) bit) [
      | inl f ↦ (r.test, get_or-set_at tests bit (mapped.base + path) (Some r.test) None f within)
      | inr apart ↦ elim (next k n less) [
        | inl before ↦
            (let old = h.whole d path test mapped own k before e in
            (old.0, get_or-set_other tests bit (mapped.base + path) (Some r.test) None apart ∙ old.1))
        | inr here ↦
            (let y : EvaluatedPath = entry_of d path test in
            let P : ℕ → Type 0 = λ j. get_or es j y ≡ y in
            let at : get_or es n y ≡ y = subst P here e in
            let one : r ≡ y = is ∙ get_or_default es n r y lt ∙ at in
            let base : x.base ≡ mapped.base = ap (λ (z : Mapped). z.base) (one_mapped m.decisions r.decision d x mapped (ap (λ (z : EvaluatedPath). z.decision) one) known own) in
            let way : r.path ≡ path = ap (λ (z : EvaluatedPath). z.path) one in
            absurd (apart (omega (arith, base, way))))
      ]
    ]

    pub tests_next : (after : List (Option ℕ)) → after ≡ set tests bit (Some r.test) → AreTestsBelow m es (n + 1) after
    tests_next after e =
        let P : List (Option ℕ) → Type 0 = λ ts. AreTestsBelow m es (n + 1) ts in
        subst P (sym e) (record { count = length-set tests bit (Some r.test) ∙ h.count; sound = sound_next; whole = whole_next })

  pub all_tests : (tests : List (Option ℕ)) → AreTestsBelow m es (length es) tests → AreTestsIn m es tests
  all_tests tests h = record {
    count = h.count;
    sound = h.sound;
    whole = λ d path test mapped known c. h.whole d path test mapped known c.0 c.1 c.2;
  }

-- ---- marks

pub some_at : (tests : List (Option ℕ)) (i : ℕ) → get_or (map is_some tests) i false ≡ true → (t : ℕ) × (get_or tests i None ≡ Some t)
some_at [] i e = cc
some_at (None ∷ tests) zero e = cc
some_at (Some t ∷ tests) zero e = (t, refl)
some_at (o ∷ tests) (suc i) e = some_at tests i e

at_some : (tests : List (Option ℕ)) (i t : ℕ) → get_or tests i None ≡ Some t → get_or (map is_some tests) i false ≡ true
at_some [] i t e = cc
at_some (None ∷ tests) zero t e = cc
at_some (Some x ∷ tests) zero t e = refl
at_some (o ∷ tests) (suc i) t e = at_some tests i t e

-- where no number is the least, it holds of none
none_least : (is : ℕ → Type 0) → ((t : ℕ) → ¬ IsLeast is t) → (n t : ℕ) → t < n → ¬ is t
none_least is none zero t lt h = absurd (omega (arith, lt))
none_least is none (suc n) t lt h = elim (cases_lt t n) [
  | inl less ↦ none_least is none n t less h
  | inr more ↦ none t (record { so = h; none_before = λ u before. none_least is none n u (omega (arith, lt, before)) })
]

mark_or_not : (b : Bool) → (b ≡ true) ⊎ (b ≡ false)
mark_or_not true = inl refl
mark_or_not false = inr refl

module _ (stands : Event → ℕ → Type 0) (m : Map) (es : List EvaluatedPath) (all : AreEvaluated stands m es) where
  -- an evaluated path is one of its decision
  pub path_in : (e : EvaluatedPath) → Contains es e → IsPathIn m e
  path_in e c =
      let is : IsEvaluatedPath stands m e = (all.each e).0 c in
      let v = is.least.so in
      record { mapped = is.mapped; known = is.known; below = in_use_below is.mapped.decision.tree e.path (v.vector, v.is_path) }

  module _ (tests : List (Option ℕ)) (h : AreTestsIn m es tests) where
    abbrev Marks : List Bool
    Marks = map is_some tests

    -- the test at a bit is the least one
    pub least_at : (d path test : ℕ) (mapped : Mapped) → slice_get m.decisions d ≡ Some mapped → path < count_of mapped.decision.tree
        → HasTestAt tests (mapped.base + path) test → IsLeast (IsEvaluated stands d mapped.decision.tree path) test
    least_at d path test mapped known below has =
        let is : IsEvaluatedPath stands m (entry_of d path test) = (all.each (entry_of d path test)).0 (h.sound d path test mapped known below has) in
        let same : is.mapped ≡ mapped = one_mapped m.decisions d d is.mapped mapped refl is.known known in
        let P : Mapped → Type 0 = λ x. IsLeast (IsEvaluated stands d x.decision.tree path) test in
        subst P same is.least

    marked_seen : (d path : ℕ) (mapped : Mapped) → slice_get m.decisions d ≡ Some mapped → path < count_of mapped.decision.tree
        → IsMarked Marks mapped.base path → IsSeen stands m d path
    marked_seen d path mapped known below mark =
        let test = some_at tests (mapped.base + path) mark in
        record { mapped = mapped; known = known; test = test.0; under = (least_at d path test.0 mapped known below test.1).so }

    -- a path whose bit is not marked is not evaluated
    unmarked : (d path : ℕ) (mapped : Mapped) → slice_get m.decisions d ≡ Some mapped → ¬ IsMarked Marks mapped.base path
        → (test : ℕ) → ¬ IsEvaluated stands d mapped.decision.tree path test
    unmarked d path mapped known not test is =
        none_least (IsEvaluated stands d mapped.decision.tree path)
        (λ t least.
        let e : EvaluatedPath = entry_of d path t in
        let own : IsEvaluatedPath stands m e = record { mapped = mapped; known = known; least = least } in
        let has = h.whole d path t mapped known ((all.each e).1 own) in
        not (at_some tests (mapped.base + path) has.0 has.1))
        (suc test) test (omega arith) is

    seen_marked : (d path : ℕ) (mapped : Mapped) → slice_get m.decisions d ≡ Some mapped → IsSeen stands m d path → IsMarked Marks mapped.base path
    seen_marked d path mapped known seen =
        let same : seen.mapped ≡ mapped = one_mapped m.decisions d d seen.mapped mapped refl seen.known known in
        let P : Mapped → Type 0 = λ x. IsEvaluated stands d x.decision.tree path seen.test in
        let under : IsEvaluated stands d mapped.decision.tree path seen.test = subst P same seen.under in
        elim (mark_or_not (get_or Marks (mapped.base + path) false)) [
          | inl mark ↦ mark
          | inr off ↦ absurd (unmarked d path mapped known (λ on. let f : true ≡ false = sym on ∙ off in cc) seen.test under)
        ]

    pub seen_is_marked : (d : ℕ) (mapped : Mapped) → slice_get m.decisions d ≡ Some mapped → (path : ℕ) → path < count_of mapped.decision.tree
        → IsMarked Marks mapped.base path ↔ IsSeen stands m d path
    seen_is_marked d mapped known path below = (marked_seen d path mapped known below, seen_marked d path mapped known)

    pub marked_in_seen : (d path : ℕ) → IsMarkedIn m Marks d path ↔ IsSeen stands m d path
    marked_in_seen d path = (
      λ g. marked_seen d path g.mapped g.known g.below g.marked,
      λ g. record {
        mapped = g.mapped;
        known = g.known;
        below = in_use_below g.mapped.decision.tree path (g.under.vector, g.under.is_path);
        marked = seen_marked d path g.mapped g.known g;
      },
    )
