-- What is kept at a turn, by what its bits show.
use Rattle.std.proofs.Common.{◌≡◌, ◌∙◌, ◌+◌, ℕ, zero, suc, true, false, Some, List, [], ◌∷◌, ◌++◌, length, refl, sym, subst, arith, inl, inr, ◌⊎◌}
use Rattle.std.specs.Prelude.{◌↔◌, slice_get, Contains}
use Rattle.std.proofs.lemmas.Bool.{cases_lt}
use Rattle.std.proofs.lemmas.Option.{slice_get_within, slice_get_read, get_or_from_slice_get}
use Rattle.mc_span.specs.declared.span.Span.{Span}
use Rattle.mc_core.specs.Matrix.{MatrixView}
use Rattle.decide_rules.specs.Decisions.{Decision}
use Rattle.mc_probe.specs.Maps.{Mapped, Map, first_path}
use Rattle.report_options.specs.declared.mode.Mode.{Mode}
use Rattle.mc_oblige.specs.declared.obligation.Obligation.{Obligation}
use Rattle.mc_oblige.specs.declared.obligation.ObligationId.{ObligationId}
use Rattle.mc_oblige.specs.declared.obligation.ObligationId.TheVariants.{Outcome, Condition}
use Rattle.mc_oblige.specs.Shown.{HasEvent}
use Rattle.mc_oblige.specs.Obligations.{numbered, of_places, of_decision, of_decisions, obligations_of}
use Rattle.mc_reduce.specs.Shown.{IsShownBy}
use Rattle.mc_reduce.specs.Kept.{AreEnough}
use Rattle.mc_reduce.specs.steps.Bits.{See, HasBit, IsListed}
use Rattle.mc_reduce.specs.steps.Loss.{IsFirstMissed, NoneMissed}
use Rattle.mc_reduce.proofs.Showing.{all_show}
use Rattle.mc_reduce.proofs.Bridging.{seen_where_shown, shown_where_seen}
use Rattle.mc_reduce.proofs.Positions.{bit_of_position, length_places}
use Rattle.mc_reduce.proofs.Seeing.{see_too}

-- ---- what is listed

module _ (m : Map) where
  condition_listed : (d k : ℕ) (spans : List Span) (i : ℕ) (o : Obligation) → slice_get (numbered (Condition d) k spans) i ≡ Some o → IsListed m o.id
  condition_listed d k [] i o e = cc
  condition_listed d k (s ∷ ss) zero o e =
      let same : record { id = Condition d k; span = s } ≡ o = cc in
      subst (λ (p : Obligation). IsListed m p.id) same tt
  condition_listed d k (s ∷ ss) (suc i) o e = condition_listed d (k + 1) ss i o e

  own_listed : (d : ℕ) (decision : Decision) (i : ℕ) (o : Obligation) → slice_get (of_decision d decision) i ≡ Some o → IsListed m o.id
  own_listed d decision zero o e =
      let same : record { id = Outcome d true; span = decision.root } ≡ o = cc in
      subst (λ (p : Obligation). IsListed m p.id) same tt
  own_listed d decision (suc zero) o e =
      let same : record { id = Outcome d false; span = decision.root } ≡ o = cc in
      subst (λ (p : Obligation). IsListed m p.id) same tt
  own_listed d decision (suc (suc i)) o e = condition_listed d 0 decision.conditions i o e

  -- one of two lists has it
  either : (xs ys : List Obligation) (i : ℕ) (o : Obligation) → slice_get (xs ++ ys) i ≡ Some o → (slice_get xs i ≡ Some o) ⊎ ((j : ℕ) × (i ≡ length xs + j) × (slice_get ys j ≡ Some o))
  either [] ys i o e = inr (i, omega arith, e)
  either (x ∷ xs) ys zero o e = inl e
  either (x ∷ xs) ys (suc i) o e = elim (either xs ys i o e) [
    | inl front ↦ inl front
    | inr back ↦ inr (back.0, (let place = back.1 in omega (arith, place)), back.2)
  ]

  all_listed : (first : ℕ) (ds : List Mapped) (i : ℕ) (o : Obligation) → slice_get (of_decisions first ds) i ≡ Some o → IsListed m o.id
  all_listed first [] i o e = cc
  all_listed first (d ∷ ds) i o e = elim (either (of_decision first d.decision) (of_decisions (first + 1) ds) i o e) [
    | inl front ↦ own_listed first d.decision i o front
    | inr back ↦ all_listed (first + 1) ds back.0 o back.2
  ]

  pub listed_at : (q : ℕ) (o : Obligation) → slice_get (obligations_of m) q ≡ Some o → IsListed m o.id
  listed_at q o e = elim (cases_lt q (first_path m)) [
    | inl less ↦
        (let h = bit_of_position m q less in
        let same : Some h.at.obligation ≡ Some o = sym h.at.there ∙ e in
        let one : h.at.obligation ≡ o = cc in
        subst (λ (p : Obligation). IsListed m p.id) one (subst (λ (id : ObligationId). IsListed m id) (sym h.at.named) h.of_bit.listed))
    | inr more ↦ elim (either (of_places m) (of_decisions 0 m.decisions) q o e) [
      | inl front ↦ absurd (let within = slice_get_within (of_places m) q o front in omega (arith, within, more, length_places m))
      | inr back ↦ all_listed 0 m.decisions back.0 o back.2
    ]
  ]

-- ---- a turn: `keeps` are the tests that are counted, and `others` those without the one that is looked at

module _ (m : Map) (x : MatrixView) (mode : Mode) (keeps others on left : ℕ → Type 0)
    (on_is : (b : ℕ) → on b ↔ HasBit x keeps b) (left_is : (b : ℕ) → left b ↔ HasBit x others b) where
  pub seen_on : (id : ObligationId) → IsShownBy (HasEvent m x) m mode keeps id → See on m mode id
  seen_on id h = see_too (HasBit x keeps) on (λ b has. (on_is b).1 has) m mode id (seen_where_shown m x keeps mode id h)

  pub on_seen : (id : ObligationId) → IsListed m id → See on m mode id → IsShownBy (HasEvent m x) m mode keeps id
  on_seen id is h = shown_where_seen m x keeps mode id is (see_too on (HasBit x keeps) (λ b has. (on_is b).0 has) m mode id h)

  pub seen_left : (id : ObligationId) → IsShownBy (HasEvent m x) m mode others id → See left m mode id
  seen_left id h = see_too (HasBit x others) left (λ b has. (left_is b).1 has) m mode id (seen_where_shown m x others mode id h)

  pub left_seen : (id : ObligationId) → IsListed m id → See left m mode id → IsShownBy (HasEvent m x) m mode others id
  left_seen id is h = shown_where_seen m x others mode id is (see_too left (HasBit x others) (λ b has. (left_is b).0 has) m mode id h)

  pub none_lost : NoneMissed m mode on left → AreEnough (HasEvent m x) m mode keeps → AreEnough (HasEvent m x) m mode others
  none_lost none enough o listed shown =
      let there = slice_get_read (obligations_of m) (length (obligations_of m)) listed.0 o refl listed.1 (sym listed.2) in
      left_seen o.id (listed_at m listed.0 o there) (none listed.0 o there (seen_on o.id (enough o listed shown)))

  pub some_lost : (position : ℕ) → IsFirstMissed m mode on left position → ¬ AreEnough (HasEvent m x) m mode others
  some_lost position h enough =
      let o = h.obligation in
      let listed : Contains (obligations_of m) o = (position, slice_get_within (obligations_of m) position o h.at, get_or_from_slice_get (obligations_of m) position o o h.at) in
      let shown = all_show (HasEvent m x) m mode keeps o.id (on_seen o.id (listed_at m position o h.at) h.shown) in
      h.missed (seen_left o.id (enough o listed shown))
