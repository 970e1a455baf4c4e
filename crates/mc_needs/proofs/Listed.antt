-- The list with one more vector, and with what an obligation puts on it: the marks stay those of the
-- known vectors, and the due outcomes those that no vector of the list has.
use Rattle.std.proofs.Common.{◌≡◌, ℕ, ◌+◌, ◌-◌, ◌<◌, ◌≤◌, ◌++◌, take, drop, Bool, true, false, Option, Some, None, List, [], ◌∷◌, length, set, get_or, sym, ap, subst, ◌∙◌, refl, arith, inl, inr, ◌⊎◌}
use Rattle.std.specs.Prelude.{◌↔◌, ◌≢◌, slice_get, if◌then◌else◌}
use Rattle.std.proofs.lemmas.List.{get_or-set_other, length-set, take_all}
use Rattle.std.proofs.lemmas.Grind.{get_or-set_at}
use Rattle.std.proofs.lemmas.List.Elements.{Contains-push, Contains-push_cases, Contains-append_left}
use Rattle.std.proofs.lemmas.Option.{slice_get_within}
use Rattle.mc_cond.specs.Tree.{Tree}
use Rattle.mc_cond.specs.Vectors.{Evaluation}
use Rattle.mc_paths.specs.Paths.{count_of}
use Rattle.mc_paths.proofs.Numbers.{vector_once}
use Rattle.mc_probe.specs.Maps.{Mapped, Map, IsMap}
use Rattle.report_options.specs.declared.mode.Mode.{Mode}
use Rattle.mc_oblige.specs.declared.obligation.ObligationId.{ObligationId}
use Rattle.mc_oblige.specs.declared.obligation.ObligationId.TheVariants.{Entry, Exit, Statement, Label, Outcome, Condition}
use Rattle.needed_paths.specs.declared.wanted.Wanted.{Wanted}
use Rattle.mc_needs.specs.declared.listing.Listing.{Listing}
use Rattle.mc_needs.specs.declared.due.Due.{Due}
use Rattle.mc_needs.specs.Needs.{Gives}
use Rattle.mc_needs.specs.Asked.{IsAsked}
use Rattle.mc_needs.specs.Wanted.{new, had, IsListed, IsFirstWith, IsEntry, IsKnown, Adds, AddsForCondition, AddsForOutcome, AddsFor}
use Rattle.mc_needs.specs.steps.Marks.{IsMarked}
use Rattle.mc_needs.specs.steps.Due.{due_at, is_due, first_of, with_due, with_due_at, none_due}
use Rattle.mc_needs.specs.steps.Listing.{entry_with, IsAddedWith, AreAdded, IsAddedForCondition, IsAddedForOutcome, shut, wide, IsAddedAt, IsAddedFor}
use Rattle.mc_needs.specs.steps.State.{AreUnseen, NoneListed, SomeListed, IsState, Fits, IsReady, AreReady, Leads}
use Rattle.mc_needs.proofs.Bases.{same_or_not, one_mapped, bit_within, one_decision, one_path}
use Rattle.mc_needs.proofs.Moved.{gives_below, puts_for_condition}

pub same_outcome : (t : Tree) (p : ℕ) (a b : Bool) → Gives t a p → Gives t b p → a ≡ b
same_outcome t p a b h g =
    let same : h.v ≡ g.v = vector_once t h.v g.v h.is_path.vector g.is_path.vector (h.is_path.number ∙ sym g.is_path.number) in
    sym h.same ∙ ap (λ (v : Evaluation). v.outcome) same ∙ g.same

gives_at : (t : Tree) (a b : Bool) (p q : ℕ) → a ≡ b → p ≡ q → Gives t a p → Gives t b q
gives_at t a b p q e f h =
    let P : ℕ → Type 0 = λ n. Gives t a n in
    let Q : Bool → Type 0 = λ x. Gives t x q in
    subst Q e (subst P f h)

gives_of : (x y : Mapped) (o : Bool) (p : ℕ) → x ≡ y → Gives x.decision.tree o p → Gives y.decision.tree o p
gives_of x y o p e h = let P : Mapped → Type 0 = λ z. Gives z.decision.tree o p in subst P e h

-- ---- one more entry

module _ (listed : List Wanted) (w : Wanted) where
  pub listed_more : (d p : ℕ) → IsListed listed d p → IsListed (listed ++ w ∷ []) d p
  listed_more d p h = record { entry = h.entry; among = Contains-append_left listed (w ∷ []) h.entry h.among; decision = h.decision; same = h.same }

  pub listed_new : IsListed (listed ++ w ∷ []) w.decision w.path
  listed_new = record { entry = w; among = Contains-push listed w; decision = refl; same = refl }

  pub listed_cases : (d p : ℕ) → IsListed (listed ++ w ∷ []) d p → IsListed listed d p ⊎ ((w.decision ≡ d) × (w.path ≡ p))
  listed_cases d p h = elim (Contains-push_cases listed w h.entry h.among) [
    | inl old ↦ inl (record { entry = h.entry; among = old; decision = h.decision; same = h.same })
    | inr own ↦ inr (ap (λ (x : Wanted). x.decision) own ∙ h.decision, ap (λ (x : Wanted). x.path) own ∙ h.same)
  ]

  state_more : (m : Map) (asked : List Bool) (d : ℕ) (t : Tree) (o : Bool) → (w.decision ≡ d → ¬ Gives t o w.path) → (b : Bool)
      → IsState m asked listed d t o b → IsState m asked (listed ++ w ∷ []) d t o b
  state_more m asked d t o other true h = (
    h.0,
    λ p on gives. elim (listed_cases d p on) [
      | inl old ↦ h.1 p old gives
      | inr own ↦ other own.0 (gives_at t o o p w.path refl (sym own.1) gives)
    ],
  )
  state_more m asked d t o other false h = elim h [ inl not ↦ inl not | inr some ↦ inr (some.0, listed_more d some.0 some.1, some.2) ]

-- the outcome of an entry is the one that it is the first to have
entry_first : (m : Map) (asked : List Bool) (listed : List Wanted) (d path : ℕ) (mapped : Mapped) (outcome o : Bool) → slice_get m.decisions d ≡ Some mapped
    → Gives mapped.decision.tree outcome path → (b : Bool) → IsState m asked listed d mapped.decision.tree outcome b
    → ((if b then Some outcome else None) ≡ Some o) ↔ IsFirstWith m asked listed d path o
entry_first m asked listed d path mapped outcome o known gives true st = (
  λ e. let same : outcome ≡ o = cc in
      let P : Bool → Type 0 = λ x. IsFirstWith m asked listed d path x in
      let own : IsFirstWith m asked listed d path outcome = record { mapped = mapped; known = known; is_asked = st.0; gives = gives; none_before = st.1 } in
      subst P same own,
  λ h. ap Some (same_outcome mapped.decision.tree path outcome o gives (gives_of h.mapped mapped o path (one_mapped m.decisions d d h.mapped mapped refl h.known known) h.gives)),
)
entry_first m asked listed d path mapped outcome o known gives false st = (
  λ e. cc,
  λ h. let own : h.mapped ≡ mapped = one_mapped m.decisions d d h.mapped mapped refl h.known known in
      let same : outcome ≡ o = same_outcome mapped.decision.tree path outcome o gives (gives_of h.mapped mapped o path own h.gives) in
      elim st [
        | inl not ↦ (let P : Bool → Type 0 = λ x. IsAsked m asked (Outcome d x) in absurd (not (subst P (sym same) h.is_asked)))
        | inr some ↦ absurd (h.none_before some.0 some.1 (gives_of mapped h.mapped o some.0 (sym own) (gives_at mapped.decision.tree outcome o some.0 some.0 same refl some.2)))
      ],
)

-- which outcomes are due after one is closed
closed : (x : Due) (outcome o : Bool) → ((outcome ≡ o) × (is_due (with_due x outcome false) o ≡ false)) ⊎ ((outcome ≢ o) × (is_due (with_due x outcome false) o ≡ is_due x o))
closed x true true = inl (refl, refl)
closed x true false = inr (λ e. cc, refl)
closed x false true = inr (λ e. cc, refl)
closed x false false = inl (refl, refl)

module _ (seen : ℕ → ℕ → Type 0) (m : Map) (mode : Mode) (asked : List Bool) (kept : IsMap m) where
  module _ (mapped : Mapped) (d : ℕ) (known : slice_get m.decisions d ≡ Some mapped) (condition : Option ℕ) (path : ℕ) (outcome : Bool)
      (old : Listing) (fits : Fits seen m mode asked old) (gives : Gives mapped.decision.tree outcome path) where
    abbrev entry : Wanted
    entry = entry_with d condition path (first_of (due_at old.due.items d) outcome)

    is_entry : IsEntry m asked old.wanted.items d condition path entry
    is_entry = record {
      decision = refl;
      same = refl;
      put_for = refl;
      first = λ o. entry_first m asked old.wanted.items d path mapped outcome o known gives (is_due (due_at old.due.items d) outcome) (fits.dues d mapped known outcome);
    }

    abbrev more : List Wanted
    more = old.wanted.items ++ entry ∷ []

    abbrev marks : List Bool
    marks = set old.marks.items (mapped.base + path) true

    abbrev due : List Due
    due = with_due_at old.due.items d outcome false

    low : path < count_of mapped.decision.tree
    low = gives_below mapped.decision.tree outcome path gives

    marked_more : (e : ℕ) (x : Mapped) → slice_get m.decisions e ≡ Some x → (p : ℕ) → p < count_of x.decision.tree
        → IsMarked marks x.base p ↔ IsKnown seen m mode asked more e p
    marked_more e x also p below = elim (same_or_not (x.base + p) (mapped.base + path)) [
      | inl bit ↦
          (let one : e ≡ d = one_decision m kept e d p path x mapped also known below low bit in
          let way : p ≡ path = one_path m kept e d p path x mapped also known below low bit in
          let within : mapped.base + path < length old.marks.items = (let b = bit_within m kept d path mapped known low in let c = fits.bits in omega (arith, b, c)) in
          let P : ℕ → Type 0 = λ n. IsListed more n path in
          let Q : ℕ → Type 0 = λ n. IsListed more e n in
          let on : IsListed more d path = listed_new old.wanted.items entry in (
            λ g. inr (subst Q (sym way) (subst P (sym one) on)),
            λ g. get_or-set_at old.marks.items (mapped.base + path) (x.base + p) true false bit within,
          ))
      | inr apart ↦
          (let same : get_or marks (x.base + p) false ≡ get_or old.marks.items (x.base + p) false = get_or-set_other old.marks.items (mapped.base + path) (x.base + p) true false apart in
          let was = fits.marked e x also p below in (
            λ g. elim (was.0 (sym same ∙ g)) [ inl is ↦ inl is | inr on ↦ inr (listed_more old.wanted.items entry e p on) ],
            λ g. elim g [
              | inl is ↦ same ∙ was.1 (inl is)
              | inr on ↦ elim (listed_cases old.wanted.items entry e p on) [
                | inl old ↦ same ∙ was.1 (inr old)
                | inr own ↦
                    (let base : mapped.base ≡ x.base = ap (λ (z : Mapped). z.base) (one_mapped m.decisions d e mapped x own.0 known also) in
                    let way = own.1 in
                    absurd (apart (omega (arith, base, way))))
              ]
            ],
          ))
    ]

    due_more : (e : ℕ) (x : Mapped) → slice_get m.decisions e ≡ Some x → (o : Bool) → IsState m asked more e x.decision.tree o (is_due (due_at due e) o)
    due_more e x also o = elim (same_or_not e d) [
      | inl one ↦
          (let within : d < length old.due.items = (let b = slice_get_within m.decisions d mapped known in let c = fits.decisions in omega (arith, b, c)) in
          let at : due_at due e ≡ with_due (due_at old.due.items d) outcome false = get_or-set_at old.due.items d e (with_due (due_at old.due.items d) outcome false) none_due one within in
          let tree : x ≡ mapped = one_mapped m.decisions e d x mapped one also known in
          let P : Due → Type 0 = λ y. IsState m asked more e x.decision.tree o (is_due y o) in
          let Q : Bool → Type 0 = λ b. IsState m asked more e x.decision.tree o b in
          subst P (sym at) (elim (closed (due_at old.due.items d) outcome o) [
            | inl own ↦
                (let on : IsListed more d path = listed_new old.wanted.items entry in
                let R : ℕ → Type 0 = λ n. IsListed more n path in
                let has : Gives x.decision.tree o path = gives_of mapped x o path (sym tree) (gives_at mapped.decision.tree outcome o path path own.0 refl gives) in
                let is : Q false = inr (path, subst R (sym one) on, has) in
                subst Q (sym own.1) is)
            | inr other ↦
                (let back : due_at old.due.items d ≡ due_at old.due.items e = ap (λ n. due_at old.due.items n) (sym one) in
                let was : Q (is_due (due_at old.due.items e) o) =
                state_more old.wanted.items entry m asked e x.decision.tree o
                (λ same g. other.0 (same_outcome x.decision.tree path outcome o (gives_of mapped x outcome path (sym tree) gives) g))
                (is_due (due_at old.due.items e) o) (fits.dues e x also o) in
                let S : Due → Type 0 = λ y. Q (is_due y o) in
                subst Q (sym other.1) (subst S (sym back) was))
          ]))
      | inr apart ↦
          (let at : due_at due e ≡ due_at old.due.items e = get_or-set_other old.due.items d e (with_due (due_at old.due.items d) outcome false) none_due apart in
          let P : Due → Type 0 = λ y. IsState m asked more e x.decision.tree o (is_due y o) in
          subst P (sym at) (state_more old.wanted.items entry m asked e x.decision.tree o (λ same g. apart (sym same)) (is_due (due_at old.due.items e) o) (fits.dues e x also o)))
    ]

  module _ (mapped : Mapped) (d : ℕ) (known : slice_get m.decisions d ≡ Some mapped) (condition : Option ℕ) where
    one_fits : (path : ℕ) (outcome : Bool) (old after : Listing) → Fits seen m mode asked old → IsAddedWith mapped d condition path outcome old after → Fits seen m mode asked after
    one_fits path outcome old after fits h =
        let x : List Wanted = more mapped d known condition path outcome old fits h.gives in
        let marks-are : List Bool = marks mapped d known condition path outcome old fits h.gives in
        let due-is : List Due = due mapped d known condition path outcome old fits h.gives in
        record {
          bits = ap (λ (ys : List Bool). length ys) h.marks ∙ length-set old.marks.items (mapped.base + path) true ∙ fits.bits;
          decisions = ap (λ (ys : List Due). length ys) h.due ∙ length-set old.due.items d (with_due (due_at old.due.items d) outcome false) ∙ fits.decisions;
          marked = λ e y also p below.
              (let P : List Bool → Type 0 = λ ys. IsMarked ys y.base p ↔ IsKnown seen m mode asked after.wanted.items e p in
              let Q : List Wanted → Type 0 = λ l. IsMarked marks-are y.base p ↔ IsKnown seen m mode asked l e p in
              subst P (sym h.marks) (subst Q (sym h.wanted) (marked_more mapped d known condition path outcome old fits h.gives e y also p below)));
          dues = λ e y also o.
              (let P : List Due → Type 0 = λ ys. IsState m asked after.wanted.items e y.decision.tree o (is_due (due_at ys e) o) in
              let Q : List Wanted → Type 0 = λ l. IsState m asked l e y.decision.tree o (is_due (due_at due-is e) o) in
              subst P (sym h.due) (subst Q (sym h.wanted) (due_more mapped d known condition path outcome old fits h.gives e y also o)));
        }

    all_added : (paths : List ℕ) (old after : Listing) → Fits seen m mode asked old → AreAdded mapped d condition paths old after
        → Adds seen m mode asked old.wanted.items d condition paths after.wanted.items × Fits seen m mode asked after
    all_added [] old after fits h =
        let P : Listing → Type 0 = λ l. Fits seen m mode asked l in
        (ap (λ (l : Listing). l.wanted.items) h, subst P (sym h) fits)
    all_added (path ∷ paths) old after fits h =
        let mid : Listing = h.0 in
        let outcome : Bool = h.1.0 in
        let added : IsAddedWith mapped d condition path outcome old mid = h.1.1 in
        let rest = all_added paths mid after (one_fits path outcome old mid fits added) h.2 in
        let P : List Wanted → Type 0 = λ l. Adds seen m mode asked l d condition paths after.wanted.items in
        ((entry mapped d known condition path outcome old fits added.gives, is_entry mapped d known condition path outcome old fits added.gives, subst P added.wanted rest.0), rest.1)

  -- ---- what an obligation puts on the list

  abbrev Steps : ObligationId → Listing → Listing → Type 0
  Steps id old after = AddsFor seen m mode asked old.wanted.items id after.wanted.items × Fits seen m mode asked after

  by_condition : (d k : ℕ) (o : Option Mapped) → slice_get m.decisions d ≡ o → (old after : Listing) → Fits seen m mode asked old
      → IsAddedAt (λ mapped. IsAddedForCondition mapped mode d k old after) o
      → AddsForCondition seen m mode asked old.wanted.items d k o after.wanted.items × Fits seen m mode asked after
  by_condition d k None known old after fits h = absurd h
  by_condition d k (Some mapped) known old after fits h =
      let added = all_added mapped d known (Some k) h.0 old after fits h.2 in (
        (
          h.0,
          puts_for_condition mode mapped.decision.tree k (IsMarked old.marks.items mapped.base) (IsKnown seen m mode asked old.wanted.items d) (fits.marked d mapped known) h.0 h.1,
          added.0,
        ),
        added.1,
      )

  module _ (unseen : AreUnseen seen m asked) where
    closed_is : (d : ℕ) (t : Tree) (o : Bool) (listed : List Wanted) → IsAsked m asked (Outcome d o) → (b : Bool) → b ≡ false → IsState m asked listed d t o b → SomeListed listed d t o
    closed_is d t o listed is true e st = cc
    closed_is d t o listed is false e st = elim st [ inl not ↦ absurd (not is) | inr some ↦ some ]

    open_is : (d : ℕ) (t : Tree) (o : Bool) (listed : List Wanted) → (b : Bool) → b ≡ true → IsState m asked listed d t o b → NoneListed listed d t o
    open_is d t o listed true e st = st.1
    open_is d t o listed false e st = cc

    outcome_added : (d : ℕ) (outcome : Bool) (mapped : Mapped) → slice_get m.decisions d ≡ Some mapped → IsAsked m asked (Outcome d outcome) → (old after : Listing)
        → Fits seen m mode asked old → IsAddedForOutcome mapped d outcome old after
        → AddsForOutcome seen m mode asked old.wanted.items d outcome (Some mapped) after.wanted.items × Fits seen m mode asked after
    outcome_added d outcome mapped known is old after fits (shut narrow same) =
        let t : Tree = mapped.decision.tree in
        let some = closed_is d t outcome old.wanted.items is (is_due (due_at old.due.items d) outcome) narrow (fits.dues d mapped known outcome) in
        let added = all_added mapped d known None [] old after fits same in
        (([], had (inr some.1) some.2, added.0), added.1)
    outcome_added d outcome mapped known is old after fits (wide {path} is_wide first added_one) =
        let t : Tree = mapped.decision.tree in
        let unlisted = open_is d t outcome old.wanted.items (is_due (due_at old.due.items d) outcome) is_wide (fits.dues d mapped known outcome) in
        let added = all_added mapped d known None (path ∷ []) old after fits (after, added_one, refl) in
        ((path ∷ [], new (λ p seen_or gives. elim seen_or [ inl saw ↦ unseen d outcome mapped known is p saw gives | inr on ↦ unlisted p on gives ]) first, added.0), added.1)

    by_outcome : (d : ℕ) (outcome : Bool) (o : Option Mapped) → slice_get m.decisions d ≡ o → IsAsked m asked (Outcome d outcome) → (old after : Listing)
        → Fits seen m mode asked old → IsAddedAt (λ mapped. IsAddedForOutcome mapped d outcome old after) o
        → AddsForOutcome seen m mode asked old.wanted.items d outcome o after.wanted.items × Fits seen m mode asked after
    by_outcome d outcome None known is old after fits h = absurd h
    by_outcome d outcome (Some mapped) known is old after fits h = outcome_added d outcome mapped known is old after fits h

    for_one : (id : ObligationId) (old after : Listing) → IsReady m asked id → Fits seen m mode asked old → IsAddedFor m mode id old after → Steps id old after
    for_one (Entry n) old after ready fits h = absurd ready
    for_one (Exit n) old after ready fits h = absurd ready
    for_one (Statement n) old after ready fits h = absurd ready
    for_one (Label n) old after ready fits h = absurd ready
    for_one (Outcome d outcome) old after ready fits h = by_outcome d outcome (slice_get m.decisions d) refl ready.1 old after fits h
    for_one (Condition d k) old after ready fits h = by_condition d k (slice_get m.decisions d) refl old after fits h

    pub step : (id : ObligationId) (left : List ObligationId) (old after : Listing) → IsReady m asked id → Fits seen m mode asked old
        → Leads seen m mode asked old.wanted.items (id ∷ left) → IsAddedFor m mode id old after
        → Fits seen m mode asked after × Leads seen m mode asked after.wanted.items left
    step id left old after ready fits leads h =
        let one = for_one id old after ready fits h in
        (one.1, λ all rest. leads all (after.wanted.items, one.0, rest))

    -- the code's own step: the first of the obligations that are left
    pub left_step : (xs : List ObligationId) (d : ObligationId) (old after : Listing) → 1 ≤ length xs → Fits seen m mode asked old → AreReady m asked xs
        → Leads seen m mode asked old.wanted.items xs → IsAddedFor m mode (get_or xs 0 d) old after
        → Fits seen m mode asked after × AreReady m asked (take (length xs - 1) (drop 1 xs)) × Leads seen m mode asked after.wanted.items (take (length xs - 1) (drop 1 xs))
    left_step [] d old after le fits ready leads h = absurd (omega (arith, le))
    left_step (x ∷ xs) d old after le fits ready leads h =
        let own = step x xs old after ready.0 fits leads h in
        let same : xs ≡ take (length (x ∷ xs) - 1) xs = sym (take_all (length (x ∷ xs) - 1) xs (omega arith)) in
        let P : List ObligationId → Type 0 = λ ys. AreReady m asked ys in
        let Q : List ObligationId → Type 0 = λ ys. Leads seen m mode asked after.wanted.items ys in
        (own.0, subst P same ready.1, subst Q same own.1)
