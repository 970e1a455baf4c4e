-- The empty list, and the obligations that come onto it.
use Rattle.std.proofs.Common.{◌≡◌, ℕ, suc, ◌<◌, ◌++◌, Bool, true, false, Some, List, [], ◌∷◌, length, sym, ap, subst, ◌∙◌, refl, arith, inl, inr}
use Rattle.std.specs.Prelude.{◌↔◌, slice_get}
use Rattle.std.proofs.lemmas.Option.{slice_get_within}
use Rattle.mc_cond.specs.Tree.{Tree}
use Rattle.mc_probe.specs.Maps.{Mapped, Map, IsMap}
use Rattle.report_options.specs.declared.mode.Mode.{Mode}
use Rattle.mc_oblige.specs.declared.obligation.ObligationId.{ObligationId}
use Rattle.mc_oblige.specs.declared.obligation.ObligationId.TheVariants.{Entry, Exit, Statement, Label, Outcome, Condition}
use Rattle.mc_oblige.specs.declared.obligation.Obligation.{Obligation}
use Rattle.mc_oblige.specs.Obligations.{obligations_of}
use Rattle.needed_paths.specs.declared.wanted.Wanted.{Wanted}
use Rattle.mc_needs.specs.declared.listing.Listing.{Listing}
use Rattle.mc_needs.specs.Asked.{IsAsked, if_condition, if_outcome, asked_conditions, asked_outcomes, asked_ids}
use Rattle.mc_needs.specs.Wanted.{IsListed, IsKnown}
use Rattle.mc_needs.specs.steps.Marks.{IsMarked, IsMarkedIn}
use Rattle.mc_needs.specs.steps.Due.{due_at, is_due, AreDue}
use Rattle.mc_needs.specs.steps.Each.{IsProper}
use Rattle.mc_needs.specs.steps.State.{IsState, Fits, AreReady}
use Rattle.mc_needs.proofs.Bases.{one_mapped}
use Rattle.mc_needs.proofs.Proper.{proper}

-- ---- the empty list

none_listed : (d p : ℕ) → ¬ IsListed [] d p
none_listed d p h = let lt = h.among.1 in absurd (omega (arith, lt))

empty_state : (m : Map) (asked : List Bool) (d : ℕ) (t : Tree) (o : Bool) (b : Bool) → (b ≡ true) ↔ IsAsked m asked (Outcome d o) → IsState m asked [] d t o b
empty_state m asked d t o true h = (h.0 refl, λ p on gives. none_listed d p on)
empty_state m asked d t o false h = inl (λ is. let e : false ≡ true = h.1 is in cc)

module _ (m : Map) (mode : Mode) (asked : List Bool) (l : Listing) (marks : List Bool) (empty : l.wanted.items ≡ []) (same : l.marks.items ≡ marks) where
  pub fits : length marks ≡ m.bits → AreDue (length m.decisions) (length (obligations_of m)) (obligations_of m) asked l.due.items
      → Fits (IsMarkedIn m marks) m mode asked l
  fits bits due = record {
    bits = ap (λ (xs : List Bool). length xs) same ∙ bits;
    decisions = due.count;
    marked = λ d mapped known p below.
        (let P : List Bool → Type 0 = λ xs. IsMarked xs mapped.base p ↔ IsKnown (IsMarkedIn m marks) m mode asked l.wanted.items d p in
        let Q : List Wanted → Type 0 = λ xs. IsMarked marks mapped.base p ↔ IsKnown (IsMarkedIn m marks) m mode asked xs d p in
        subst P (sym same) (subst Q (sym empty) (
          λ mark. inl (record { mapped = mapped; known = known; below = below; marked = mark }),
          λ is. elim is [
            | inl in_it ↦
                (let R : Mapped → Type 0 = λ x. IsMarked marks x.base p in
                subst R (one_mapped m.decisions d d in_it.mapped mapped refl in_it.known known) in_it.marked)
            | inr on ↦ absurd (none_listed d p on)
          ],
        )));
    dues = λ d mapped known o.
        (let lt : d < length m.decisions = slice_get_within m.decisions d mapped known in
        let is = due.each d o lt in
        let P : List Wanted → Type 0 = λ xs. IsState m asked xs d mapped.decision.tree o (is_due (due_at l.due.items d) o) in
        subst P (sym empty) (empty_state m asked d mapped.decision.tree o (is_due (due_at l.due.items d) o) (
          λ e. (let a = is.0 e in (a.at, record { obligation = a.obligation; among = a.among; same = a.same; is = a.is })),
          λ a. is.1 (record {
            at = a.0;
            below = slice_get_within (obligations_of m) a.0 a.1.obligation a.1.among;
            obligation = a.1.obligation;
            among = a.1.among;
            same = a.1.same;
            is = a.1.is;
          }),
        )));
  }

-- ---- the obligations

module _ (m : Map) (asked : List Bool) where
  abbrev AskedIn : List Obligation → List Bool → (ObligationId → Type 0) → Type 0
  AskedIn os is P = (i : ℕ) (o : Obligation) → slice_get os i ≡ Some o → slice_get is i ≡ Some true → P o.id

  ready_both : (xs ys : List ObligationId) → AreReady m asked xs → AreReady m asked ys → AreReady m asked (xs ++ ys)
  ready_both [] ys h g = g
  ready_both (x ∷ xs) ys h g = (h.0, ready_both xs ys h.1 g)

  -- what is known of an asked obligation, of whatever kind it is
  abbrev Own : ObligationId → Type 0
  Own id = IsProper m id × IsAsked m asked id

  one_condition : (is : Bool) (id : ObligationId) (ids : List ObligationId) → (is ≡ true → Own id) → AreReady m asked ids → AreReady m asked (if_condition is id ids)
  one_condition false id ids own h = h
  one_condition true (Entry k) ids own h = h
  one_condition true (Exit k) ids own h = h
  one_condition true (Statement k) ids own h = h
  one_condition true (Label k) ids own h = h
  one_condition true (Outcome d o) ids own h = h
  one_condition true (Condition d k) ids own h = ((own refl).0, h)

  one_outcome : (is : Bool) (id : ObligationId) (ids : List ObligationId) → (is ≡ true → Own id) → AreReady m asked ids → AreReady m asked (if_outcome is id ids)
  one_outcome false id ids own h = h
  one_outcome true (Entry k) ids own h = h
  one_outcome true (Exit k) ids own h = h
  one_outcome true (Statement k) ids own h = h
  one_outcome true (Label k) ids own h = h
  one_outcome true (Condition d k) ids own h = h
  one_outcome true (Outcome d o) ids own h = (own refl, h)

  ready_conditions : (os : List Obligation) (is : List Bool) → AskedIn os is Own → AreReady m asked (asked_conditions os is)
  ready_conditions [] is h = tt
  ready_conditions (o ∷ os) [] h = tt
  ready_conditions (o ∷ os) (x ∷ is) h =
      one_condition x o.id (asked_conditions os is) (λ e. h 0 o refl (ap (λ (b : Bool). Some b) e)) (ready_conditions os is (λ i p at on. h (suc i) p at on))

  ready_outcomes : (os : List Obligation) (is : List Bool) → AskedIn os is Own → AreReady m asked (asked_outcomes os is)
  ready_outcomes [] is h = tt
  ready_outcomes (o ∷ os) [] h = tt
  ready_outcomes (o ∷ os) (x ∷ is) h =
      one_outcome x o.id (asked_outcomes os is) (λ e. h 0 o refl (ap (λ (b : Bool). Some b) e)) (ready_outcomes os is (λ i p at on. h (suc i) p at on))

  pub all_ready : IsMap m → AreReady m asked (asked_ids m asked)
  all_ready kept =
      let own : AskedIn (obligations_of m) asked Own = λ i o at on. (proper m kept i o at, (i, record { obligation = o; among = at; same = refl; is = on })) in
      ready_both (asked_conditions (obligations_of m) asked) (asked_outcomes (obligations_of m) asked)
      (ready_conditions (obligations_of m) asked own) (ready_outcomes (obligations_of m) asked own)
