-- The list of wanted vectors only grows, and what is put on it is on it.
use Rattle.std.proofs.Common.{◌≡◌, ℕ, ◌++◌, Bool, Option, Some, None, List, [], ◌∷◌, sym, ap, subst, ◌∙◌, inl, inr, ◌⊎◌, append_assoc}
use Rattle.std.specs.Prelude.{slice_get}
use Rattle.std.proofs.lemmas.List.{append-nil}
use Rattle.std.proofs.lemmas.List.Elements.{Contains-push}
use Rattle.mc_probe.specs.Maps.{Mapped, Map}
use Rattle.report_options.specs.declared.mode.Mode.{Mode}
use Rattle.mc_oblige.specs.declared.obligation.ObligationId.{ObligationId}
use Rattle.mc_oblige.specs.declared.obligation.ObligationId.TheVariants.{Entry, Exit, Statement, Label, Outcome, Condition}
use Rattle.needed_paths.specs.declared.wanted.Wanted.{Wanted}
use Rattle.mc_needs.specs.Wanted.{IsListed, IsKnown, Adds, AddsForCondition, AddsForOutcome, AddsFor, AreWantedFrom}
use Rattle.mc_needs.proofs.Listed.{listed_more}

-- the number is in the list
abbrev pub In : {A : Type 0} → A → List A → Type 0
In x [] = ⊥
In x (y ∷ ys) = (y ≡ x) ⊎ In x ys

module _ (seen : ℕ → ℕ → Type 0) (m : Map) (mode : Mode) (asked : List Bool) where
  -- ---- as lists

  pub adds_more : (listed : List Wanted) (d : ℕ) (condition : Option ℕ) (paths : List ℕ) (after : List Wanted)
      → Adds seen m mode asked listed d condition paths after → (rest : List Wanted) × (after ≡ listed ++ rest)
  adds_more listed d condition [] after h = ([], h ∙ sym (append-nil listed))
  adds_more listed d condition (path ∷ paths) after h =
      let more = adds_more (listed ++ h.0 ∷ []) d condition paths after h.2 in
      (h.0 ∷ more.0, more.1 ∙ append_assoc listed (h.0 ∷ []) more.0)

  by_condition : (listed : List Wanted) (d k : ℕ) (o : Option Mapped) (after : List Wanted) → AddsForCondition seen m mode asked listed d k o after
      → (rest : List Wanted) × (after ≡ listed ++ rest)
  by_condition listed d k None after h = absurd h
  by_condition listed d k (Some mapped) after h = adds_more listed d (Some k) h.0 after h.2

  by_outcome : (listed : List Wanted) (d : ℕ) (outcome : Bool) (o : Option Mapped) (after : List Wanted) → AddsForOutcome seen m mode asked listed d outcome o after
      → (rest : List Wanted) × (after ≡ listed ++ rest)
  by_outcome listed d outcome None after h = absurd h
  by_outcome listed d outcome (Some mapped) after h = adds_more listed d None h.0 after h.2

  pub for_more : (listed : List Wanted) (id : ObligationId) (after : List Wanted) → AddsFor seen m mode asked listed id after → (rest : List Wanted) × (after ≡ listed ++ rest)
  for_more listed (Entry n) after h = absurd h
  for_more listed (Exit n) after h = absurd h
  for_more listed (Statement n) after h = absurd h
  for_more listed (Label n) after h = absurd h
  for_more listed (Outcome d outcome) after h = by_outcome listed d outcome (slice_get m.decisions d) after h
  for_more listed (Condition d k) after h = by_condition listed d k (slice_get m.decisions d) after h

  pub wanted_more : (listed : List Wanted) (ids : List ObligationId) (all : List Wanted) → AreWantedFrom seen m mode asked listed ids all
      → (rest : List Wanted) × (all ≡ listed ++ rest)
  wanted_more listed [] all h = ([], h ∙ sym (append-nil listed))
  wanted_more listed (id ∷ ids) all h =
      let one = for_more listed id h.0 h.1 in
      let more = wanted_more h.0 ids all h.2 in
      (one.0 ++ more.0, more.1 ∙ ap (λ (xs : List Wanted). xs ++ more.0) one.1 ∙ append_assoc listed one.0 more.0)

  -- ---- as sets

  in_front : (listed rest : List Wanted) (d p : ℕ) → IsListed listed d p → IsListed (listed ++ rest) d p
  in_front listed [] d p h =
      let P : List Wanted → Type 0 = λ xs. IsListed xs d p in
      subst P (sym (append-nil listed)) h
  in_front listed (w ∷ rest) d p h =
      let P : List Wanted → Type 0 = λ xs. IsListed xs d p in
      subst P (append_assoc listed (w ∷ []) rest) (in_front (listed ++ w ∷ []) rest d p (listed_more listed w d p h))

  pub still_listed : (listed after : List Wanted) (d p : ℕ) → (rest : List Wanted) × (after ≡ listed ++ rest) → IsListed listed d p → IsListed after d p
  still_listed listed after d p more h =
      let P : List Wanted → Type 0 = λ xs. IsListed xs d p in
      subst P (sym more.1) (in_front listed more.0 d p h)

  pub still_known : (listed after : List Wanted) (d p : ℕ) → (rest : List Wanted) × (after ≡ listed ++ rest)
      → IsKnown seen m mode asked listed d p → IsKnown seen m mode asked after d p
  still_known listed after d p more h = elim h [ inl is ↦ inl is | inr on ↦ inr (still_listed listed after d p more on) ]

  -- each of the vectors is on the list after them
  pub added_listed : (listed : List Wanted) (d : ℕ) (condition : Option ℕ) (paths : List ℕ) (after : List Wanted)
      → Adds seen m mode asked listed d condition paths after → (p : ℕ) → In p paths → IsListed after d p
  added_listed listed d condition [] after h p is = absurd is
  added_listed listed d condition (path ∷ paths) after h p is = elim is [
    | inl own ↦
        (let here : IsListed (listed ++ h.0 ∷ []) d p = record { entry = h.0; among = Contains-push listed h.0; decision = h.1.decision; same = h.1.same ∙ own } in
        still_listed (listed ++ h.0 ∷ []) after d p (adds_more (listed ++ h.0 ∷ []) d condition paths after h.2) here)
    | inr later ↦ added_listed (listed ++ h.0 ∷ []) d condition paths after h.2 p later
  ]
