-- Each obligation of a map is one of its own: its decision is there, and has the condition.
use Rattle.std.proofs.Common.{◌≡◌, ℕ, zero, suc, ◌+◌, ◌<◌, ◌++◌, Some, List, [], ◌∷◌, length, sym, ap, subst, ◌∙◌, arith, add-zero}
use Rattle.std.specs.Prelude.{slice_get}
use Rattle.mc_span.specs.declared.span.Span.{Span}
use Rattle.mc_probe.specs.Maps.{Mapped, Map, IsMap, IsPlaced, ArePlaced}
use Rattle.mc_oblige.specs.declared.obligation.ObligationId.{ObligationId}
use Rattle.mc_oblige.specs.declared.obligation.ObligationId.TheVariants.{Entry, Exit, Statement, Label, Condition}
use Rattle.mc_oblige.specs.declared.obligation.Obligation.{Obligation}
use Rattle.mc_oblige.specs.Obligations.{numbered, of_places, of_decision, of_decisions, obligations_of}
use Rattle.mc_needs.specs.steps.Each.{IsConditionIn, IsDecisionIn, IsProper}

abbrev Each : (ObligationId → Type 0) → List Obligation → Type 0
Each P [] = Unit {0}
Each P (o ∷ os) = P o.id × Each P os

module _ (P : ObligationId → Type 0) where
  both : (xs ys : List Obligation) → Each P xs → Each P ys → Each P (xs ++ ys)
  both [] ys h g = g
  both (x ∷ xs) ys h g = (h.0, both xs ys h.1 g)

  at : (os : List Obligation) (i : ℕ) (o : Obligation) → Each P os → slice_get os i ≡ Some o → P o.id
  at [] i o h e = cc
  at (x ∷ xs) zero o h e =
      let same : x ≡ o = cc in
      let Q : Obligation → Type 0 = λ y. P y.id in
      subst Q same h.0
  at (x ∷ xs) (suc i) o h e = at xs i o h.1 e

  of_numbered : (id : ℕ → ObligationId) (k : ℕ) (spans : List Span) → ((j : ℕ) → j < k + length spans → P (id j)) → Each P (numbered id k spans)
  of_numbered id k [] h = tt
  of_numbered id k (span ∷ spans) h = (h k (omega arith), of_numbered id (k + 1) spans (λ j lt. h j (omega (arith, lt))))

module _ (m : Map) where
  places : Each (IsProper m) (of_places m)
  places =
      let P : ObligationId → Type 0 = IsProper m in
      both P (numbered Entry 0 m.entries) (numbered Exit 0 m.exits ++ (numbered Statement 0 m.statements ++ numbered Label 0 m.labels)) (of_numbered P Entry 0 m.entries (λ j lt. tt))
      (both P (numbered Exit 0 m.exits) (numbered Statement 0 m.statements ++ numbered Label 0 m.labels) (of_numbered P Exit 0 m.exits (λ j lt. tt))
      (both P (numbered Statement 0 m.statements) (numbered Label 0 m.labels) (of_numbered P Statement 0 m.statements (λ j lt. tt))
      (of_numbered P Label 0 m.labels (λ j lt. tt))))

  decision : (d : ℕ) (x : Mapped) → IsPlaced x.decision → slice_get m.decisions d ≡ Some x → Each (IsProper m) (of_decision d x.decision)
  decision d x placed known =
      let there : IsDecisionIn (slice_get m.decisions d) = subst IsDecisionIn (sym known) tt in (
        there,
        (
          there,
          of_numbered (IsProper m) (Condition d) 0 x.decision.conditions
              (λ j lt. subst (IsConditionIn j) (sym known) (omega (arith, lt, placed.places))),
        ),
      )

  decisions : (d : ℕ) (ds : List Mapped) → ArePlaced ds → ((i : ℕ) → slice_get m.decisions (d + i) ≡ slice_get ds i) → Each (IsProper m) (of_decisions d ds)
  decisions d [] placed same = tt
  decisions d (x ∷ ds) placed same =
      let known : slice_get m.decisions d ≡ Some x = ap (λ n. slice_get m.decisions n) (sym (add-zero d)) ∙ same 0 in
      both (IsProper m) (of_decision d x.decision) (of_decisions (d + 1) ds) (decision d x placed.0 known)
      (decisions (d + 1) ds placed.1 (λ i.
      let e : (d + 1) + i ≡ d + suc i = omega arith in
      ap (λ n. slice_get m.decisions n) e ∙ same (suc i)))

  pub proper : IsMap m → (i : ℕ) (o : Obligation) → slice_get (obligations_of m) i ≡ Some o → IsProper m o.id
  proper kept i o there =
      let all = both (IsProper m) (of_places m) (of_decisions 0 m.decisions) places
      (decisions 0 m.decisions kept.placed (λ i. let e : 0 + i ≡ i = omega arith in ap (λ n. slice_get m.decisions n) e)) in
      at (IsProper m) (obligations_of m) i o all there
