-- What is kept speaks of the events that stand, and of nothing else: where two relations have the
-- same events under the same tests, the same tests are kept for the same obligations.
use Rattle.std.proofs.Common.{ℕ, zero, suc, List, [], ◌∷◌, inl, inr}
use Rattle.std.specs.Prelude.{◌↔◌, Contains}
use Rattle.std.specs.List.{AllZip}
use Rattle.mc_steps.specs.Events.{Event}
use Rattle.mc_probe.specs.Maps.{Map}
use Rattle.report_options.specs.declared.mode.Mode.{Mode}
use Rattle.mc_oblige.specs.declared.obligation.ObligationId.{ObligationId}
use Rattle.mc_reduce.specs.Shown.{StandsKept, IsShownByAll, IsShownBy}
use Rattle.mc_reduce.specs.Kept.{AreEnough, IsStillKept, Leaves, IsOther, IsLost, IsFirstLost, IsReduced}
use Rattle.mc_reduce.proofs.Showing.{still_showing}

-- ---- one way

module _ (stands standing : Event → ℕ → Type 0) (more : (e : Event) (t : ℕ) → stands e t → standing e t) (m : Map) (mode : Mode) where
  by_all : (id : ObligationId) → IsShownByAll stands m mode id → IsShownByAll standing m mode id
  by_all id h = still_showing stands standing more m mode id h

  by_some : (keeps : ℕ → Type 0) (id : ObligationId) → IsShownBy stands m mode keeps id → IsShownBy standing m mode keeps id
  by_some keeps id h =
      still_showing (StandsKept stands keeps) (StandsKept standing keeps)
      (λ e t s. record { is_kept = s.is_kept; under = more e t s.under }) m mode id h

-- ---- both ways

module _ (stands standing : Event → ℕ → Type 0) (same : (e : Event) (t : ℕ) → stands e t ↔ standing e t) (m : Map) (mode : Mode) where
  to : (e : Event) (t : ℕ) → stands e t → standing e t
  to e t = (same e t).0

  from : (e : Event) (t : ℕ) → standing e t → stands e t
  from e t = (same e t).1

  enough : (keeps : ℕ → Type 0) → AreEnough stands m mode keeps → AreEnough standing m mode keeps
  enough keeps h o listed shown = by_some stands standing to m mode keeps o.id (h o listed (by_all standing stands from m mode o.id shown))

  enough_back : (keeps : ℕ → Type 0) → AreEnough standing m mode keeps → AreEnough stands m mode keeps
  enough_back keeps h o listed shown = by_some standing stands from m mode keeps o.id (h o listed (by_all stands standing to m mode o.id shown))

  leaves : (n : ℕ) (stayed kept : List ℕ) → Leaves stands m mode n stayed kept → Leaves standing m mode n stayed kept
  leaves zero stayed kept h = h
  leaves (suc n) stayed kept h = elim h [
    | inl dropped ↦ inl (enough (IsStillKept n stayed) dropped.0, leaves n stayed kept dropped.1)
    | inr stays ↦ inr (λ so. stays.0 (enough_back (IsStillKept n stayed) so), leaves n (n ∷ stayed) kept stays.1)
  ]

  lost : (kept : List ℕ) (t : ℕ) (id : ObligationId) → IsLost stands m mode kept t id → IsLost standing m mode kept t id
  lost kept t id h = record {
    shown = by_some stands standing to m mode (Contains kept) id h.shown;
    missed = λ shown. h.missed (by_some standing stands from m mode (IsOther kept t) id shown);
  }

  lost_back : (kept : List ℕ) (t : ℕ) (id : ObligationId) → IsLost standing m mode kept t id → IsLost stands m mode kept t id
  lost_back kept t id h = record {
    shown = by_some standing stands from m mode (Contains kept) id h.shown;
    missed = λ shown. h.missed (by_some stands standing to m mode (IsOther kept t) id shown);
  }

  first_lost : (kept : List ℕ) (t position : ℕ) → IsFirstLost stands m mode kept t position → IsFirstLost standing m mode kept t position
  first_lost kept t position h = record {
    obligation = h.obligation;
    at = h.at;
    lost = lost kept t h.obligation.id h.lost;
    none_before = λ q o less there is. h.none_before q o less there (lost_back kept t o.id is);
  }

  all_first : (kept ts ps : List ℕ) → AllZip (IsFirstLost stands m mode kept) ts ps → AllZip (IsFirstLost standing m mode kept) ts ps
  all_first kept [] [] h = h
  all_first kept [] (p ∷ ps) h = absurd h
  all_first kept (t ∷ ts) [] h = absurd h
  all_first kept (t ∷ ts) (p ∷ ps) h = (first_lost kept t p h.0, all_first kept ts ps h.1)

  pub same_reduced : (tests : ℕ) (kept lost : List ℕ) → IsReduced stands m mode tests kept lost → IsReduced standing m mode tests kept lost
  same_reduced tests kept lost h = record {
    are_kept = leaves tests [] kept h.are_kept;
    are_lost = all_first kept kept lost h.are_lost;
  }
