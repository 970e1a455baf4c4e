-- The tests that a suite keeps, and what each of them is kept for. `stands` says which events stand
-- under which tests: those of the plain runs, or those that a matrix has.
use Rattle.std.specs.Prelude.{◌≡◌, ◌≢◌, ℕ, zero, suc, ◌<◌, ◌⊎◌, Some, List, [], ◌∷◌, Contains, slice_get}
use Rattle.std.specs.List.{AllZip}
use Rattle.mc_steps.specs.Events.{Event}
use Rattle.mc_probe.specs.Maps.{Map}
use Rattle.report_options.specs.declared.mode.Mode.{Mode}
use Rattle.mc_oblige.specs.declared.obligation.ObligationId.{ObligationId}
use Rattle.mc_oblige.specs.declared.obligation.Obligation.{Obligation}
use Rattle.mc_oblige.specs.Obligations.{obligations_of}
use Rattle.mc_reduce.specs.Shown.{IsShownByAll, IsShownBy}

-- the first n tests, and the ones after them that stayed
abbrev pub IsStillKept : ℕ → List ℕ → ℕ → Type 0
IsStillKept n stayed test = (test < n) ⊎ Contains stayed test

-- the kept tests without this one
abbrev pub IsOther : List ℕ → ℕ → ℕ → Type 0
IsOther kept test other = Contains kept other × (other ≢ test)

module _ (stands : Event → ℕ → Type 0) (m : Map) (mode : Mode) where
  -- each obligation that all tests show is shown by these
  abbrev pub AreEnough : (ℕ → Type 0) → Type 0
  AreEnough keeps =
      (o : Obligation) → Contains (obligations_of m) o → IsShownByAll stands m mode o.id →
      IsShownBy stands m mode keeps o.id

  -- From the last of the first n tests to the first: a test is dropped where the others that are
  -- still kept are enough, and else it stays. `kept` is what is left in the end.
  abbrev pub Leaves : ℕ → List ℕ → List ℕ → Type 0
  Leaves zero stayed kept = kept ≡ stayed
  Leaves (suc n) stayed kept =
      (AreEnough (IsStillKept n stayed) × Leaves n stayed kept)
      ⊎ ((¬ AreEnough (IsStillKept n stayed)) × Leaves n (n ∷ stayed) kept)

  -- of this number of tests
  abbrev pub AreKept : ℕ → List ℕ → Type 0
  AreKept tests kept = Leaves tests [] kept

  -- the kept tests show it, and without this one they do not
  pub record IsLost (kept : List ℕ) (test : ℕ) (id : ObligationId) : Type 0 where
    pub shown : IsShownBy stands m mode (Contains kept) id
    pub missed : ¬ IsShownBy stands m mode (IsOther kept test) id

  -- the first obligation that is lost without this test, by its position in the list of obligations
  pub record IsFirstLost (kept : List ℕ) (test position : ℕ) : Type 0 where
    pub obligation : Obligation
    pub at : slice_get (obligations_of m) position ≡ Some obligation
    pub lost : IsLost kept test obligation.id
    pub none_before : (q : ℕ) (o : Obligation) → q < position →
        slice_get (obligations_of m) q ≡ Some o → ¬ IsLost kept test o.id

  -- of this number of tests, the kept ones, and for each of them the first obligation that is lost
  -- without it
  pub record IsReduced (tests : ℕ) (kept lost : List ℕ) : Type 0 where
    pub are_kept : AreKept tests kept
    pub are_lost : AllZip (IsFirstLost kept) kept lost
