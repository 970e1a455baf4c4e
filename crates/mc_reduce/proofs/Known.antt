-- What is known of the obligations of a map, one decision after the other.
use Rattle.std.proofs.Common.{◌≡◌, ◌∙◌, ◌+◌, ◌-◌, ◌*◌, ◌<◌, ◌≤◌, ◌++◌, ℕ, zero, suc, Bool, true, false, Some, List, [], ◌∷◌, length, get_or, sym, ap, subst, arith, inl, inr}
use Rattle.std.specs.Prelude.{◌↔◌, slice_get}
use Rattle.std.proofs.lemmas.Bool.{cases_lt}
use Rattle.std.proofs.lemmas.List.{get_or_append_left, get_or-append-add, length-append}
use Rattle.std.proofs.lemmas.Option.{slice_get_within}
use Rattle.mc_cond.specs.Tree.{Tree, size}
use Rattle.mc_probe.specs.Maps.{Mapped, Map, IsMap, ArePlaced, first_path}
use Rattle.report_options.specs.declared.mode.Mode.{Mode}
use Rattle.mc_oblige.specs.declared.obligation.Obligation.{Obligation}
use Rattle.mc_oblige.specs.declared.obligation.ObligationId.{ObligationId}
use Rattle.mc_oblige.specs.Obligations.{obligations_of}
use Rattle.mc_oblige.proofs.Bounds.{few_places}
use Rattle.mc_reduce.specs.steps.Bits.{See, ShowAt}
use Rattle.mc_reduce.specs.steps.Loss.{along, AreKnown, AreShownFrom, AreShownBefore, AreShown}
use Rattle.mc_reduce.proofs.Positions.{IsAt, id_of, bit_of_position, count_first, decision_at}
use Rattle.mc_reduce.proofs.Seeing.{shows_there, shows_back}

-- ---- the decisions of a map

module _ (m : Map) where
  pub count_next : (i : ℕ) (ds : List Mapped) (d : Mapped) → slice_get ds i ≡ Some d → count_first (suc i) ds ≡ count_first i ds + (2 + length d.decision.conditions)
  count_next i [] d e = cc
  count_next zero (x ∷ ds) d e =
      let same : x ≡ d = cc in
      let own : length x.decision.conditions ≡ length d.decision.conditions = ap (λ (y : Mapped). length y.decision.conditions) same in
      omega (arith, own)
  count_next (suc i) (x ∷ ds) d e = let rest = count_next i ds d e in omega (arith, rest)

  -- the obligations of each decision are no more than 66
  pub few_first : (n : ℕ) (ds : List Mapped) → ArePlaced ds → count_first n ds ≤ 66 * length ds
  few_first zero ds h = omega arith
  few_first (suc n) [] h = omega arith
  few_first (suc n) (d ∷ ds) h =
      let rest = few_first n ds h.1 in
      let places = h.0.places in
      let few = h.0.numbered.few in
      omega (arith, rest, places, few)

  pub count_step : (i : ℕ) (d : Mapped) → slice_get m.decisions i ≡ Some d → length d.decision.conditions ≡ size d.decision.tree
      → first_path m + count_first (i + 1) m.decisions ≡ (first_path m + count_first i m.decisions) + (2 + size d.decision.tree)
  count_step i d known whole =
      let same : suc i ≡ i + 1 = omega arith in
      let next : count_first (i + 1) m.decisions ≡ count_first i m.decisions + (2 + length d.decision.conditions) =
      subst (λ (k : ℕ). count_first k m.decisions ≡ count_first i m.decisions + (2 + length d.decision.conditions)) same (count_next i m.decisions d known) in
      omega (arith, next, whole)

  -- so positions are small numbers
  pub low_position : IsMap m → (i : ℕ) → first_path m + count_first i m.decisions ≤ 4390912
  low_position kept i =
      let few = few_first i m.decisions kept.placed in
      let places = few_places m kept in
      omega (arith, few, places)

-- ---- the obligations before a position

module _ (m : Map) (mode : Mode) (on : ℕ → Type 0) where
  -- what stands at a position has the name that is known of it
  named_there : (q : ℕ) (o : Obligation) (id : ObligationId) → IsAt (obligations_of m) q id → slice_get (obligations_of m) q ≡ Some o → o.id ≡ id
  named_there q o id h there =
      let same : Some o ≡ Some h.obligation = sym there ∙ h.there in
      let one : o ≡ h.obligation = cc in
      ap (λ (p : Obligation). p.id) one ∙ h.named

  pub events_before : (shown : List Bool) → AreKnown on (first_path m) shown → AreShownBefore m mode on (first_path m) shown
  events_before shown known = record {
    count = known.count;
    each = λ q o lt there.
        (let h = bit_of_position m q lt in
        let name = named_there q o h.id h.at there in
        let own = known.each q lt in (
          λ e. subst (λ (id : ObligationId). See on m mode id) (sym name) (h.of_bit.back on mode (own.0 e)),
          λ s. own.1 (h.of_bit.forth on mode (subst (λ (id : ObligationId). See on m mode id) name s)),
        ));
  }

  pub all_before : (position : ℕ) (shown : List Bool) → AreShownBefore m mode on position shown → position ≡ length (obligations_of m) → AreShown m mode on shown
  all_before position shown h all = record {
    count = h.count ∙ all;
    each = λ q o there. h.each q o (let within = slice_get_within (obligations_of m) q o there in omega (arith, within, all)) there;
  }

  -- ---- a decision

  module _ (d : ℕ) (mapped : Mapped) (known : slice_get m.decisions d ≡ Some mapped) (whole : length mapped.decision.conditions ≡ size mapped.decision.tree) where
    abbrev tree : Tree
    tree = mapped.decision.tree

    abbrev first : ℕ
    first = first_path m + count_first d m.decisions

    own_at : (at : ℕ) → at < 2 + size tree → IsAt (obligations_of m) (first + at) (id_of d at)
    own_at at lt = decision_at m d mapped at (first + at) known (omega (arith, lt, whole)) (omega arith)

    -- its obligations are among all
    pub room : first + (2 + size tree) ≤ length (obligations_of m)
    room =
        let last = own_at (1 + size tree) (omega arith) in
        let within = slice_get_within (obligations_of m) (first + (1 + size tree)) last.obligation last.there in
        omega (arith, within)

    -- what an obligation of it shows
    own_is : (at : ℕ) (o : Obligation) → at < 2 + size tree → slice_get (obligations_of m) (first + at) ≡ Some o → ShowAt (along on mapped.base) mode tree at ↔ See on m mode o.id
    own_is at o lt there =
        let name = named_there (first + at) o (id_of d at) (own_at at lt) there in (
          λ h. subst (λ (id : ObligationId). See on m mode id) (sym name) (shows_back on m mode d mapped known at h),
          λ s. shows_there on m mode d mapped known at (subst (λ (id : ObligationId). See on m mode id) name s),
        )

    pub decision_before : (shown own : List Bool) → AreShownBefore m mode on first shown → AreKnown (ShowAt (along on mapped.base) mode tree) (2 + size tree) own → AreShownBefore m mode on (first + (2 + size tree)) (shown ++ own)
    decision_before shown own before are = record {
      count = (let e = length-append shown own in let f = before.count in let g = are.count in omega (arith, e, f, g));
      each = λ q o lt there. elim (cases_lt q first) [
        | inl less ↦
            (let same : get_or (shown ++ own) q false ≡ get_or shown q false = get_or_append_left shown own false q (let f = before.count in omega (arith, less, f)) in
            subst (λ (b : Bool). (b ≡ true) ↔ See on m mode o.id) (sym same) (before.each q o less there))
        | inr more ↦
            (let at : ℕ = q - first in
            let e : first + at ≡ q = omega (arith, more) in
            let within : at < 2 + size tree = omega (arith, lt, e) in
            let place : length shown + at ≡ q = (let f = before.count in omega (arith, f, e)) in
            let same : get_or (shown ++ own) q false ≡ get_or own at false =
            subst (λ (k : ℕ). get_or (shown ++ own) k false ≡ get_or own at false) place (get_or-append-add shown own at false) in
            let is = own_is at o within (subst (λ (k : ℕ). slice_get (obligations_of m) k ≡ Some o) (sym e) there) in
            let has = are.each at within in
            subst (λ (b : Bool). (b ≡ true) ↔ See on m mode o.id) (sym same) (λ t. is.0 (has.0 t), λ s. has.1 (is.1 s)))
      ];
    }

    pub shown_from : (position : ℕ) (shown : List Bool) → position ≡ first → AreShown m mode on shown → AreShownFrom (along on mapped.base) mode tree position shown
    shown_from position shown place are = record {
      each = λ at lt.
          (let there = own_at at lt in
          let is = own_is at there.obligation lt there.there in
          let has = are.each (first + at) there.obligation there.there in
          subst (λ (p : ℕ). (get_or shown (p + at) false ≡ true) ↔ ShowAt (along on mapped.base) mode tree at) (sym place)
          (λ e. is.1 (has.0 e), λ s. has.1 (is.0 s)));
    }
