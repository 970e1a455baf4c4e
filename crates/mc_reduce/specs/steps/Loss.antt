-- What is lost without a test, by the counts of the bits and by the words of the test.
use Rattle.std.specs.Prelude.{◌≡◌, ℕ, ◌+◌, ◌%◌, ◌<◌, ◌↔◌, Bool, true, false, Some, List, length, slice_get, slice_index, slice_index_or, All, Contains}
use Rattle.std.specs.Int.{bit_at}
use Rattle.std.specs.List.Sorted.{IsStrictlyIncreasing}
use Rattle.mc_cond.specs.Tree.{Tree, size}
use Rattle.mc_probe.specs.Maps.{Map}
use Rattle.report_options.specs.declared.mode.Mode.{Mode}
use Rattle.mc_oblige.specs.declared.obligation.Obligation.{Obligation}
use Rattle.mc_oblige.specs.Obligations.{obligations_of}
use Rattle.mc_reduce.specs.steps.Bits.{See, ShowAt}

-- some counted test has the bit
abbrev pub IsCounted : List ℕ → ℕ → Type 0
IsCounted counts b = 0 < slice_index counts b

-- a counted test other than this one has it
abbrev pub IsLeft : ℕ → List ℕ → List ℕ → ℕ → Type 0
IsLeft test counts words b = bit_at (slice_index words b) (test % 64) < slice_index counts b

-- the bits from `base` on, by their places
abbrev pub along : (ℕ → Type 0) → ℕ → ℕ → Type 0
along on base place = on (base + place)

-- those of the first n paths on which it holds, in ascending order
pub record ArePathsOn (on : ℕ → Type 0) (n : ℕ) (seen : List ℕ) : Type 0 where
  pub ascending : IsStrictlyIncreasing seen
  pub below : All (λ path. path < n) seen
  pub each : (path : ℕ) → Contains seen path ↔ ((path < n) × on path)

-- of which of the first n numbers it holds
pub record AreKnown (is : ℕ → Type 0) (n : ℕ) (known : List Bool) : Type 0 where
  pub count : length known ≡ n
  pub each : (i : ℕ) → i < n → (slice_index_or known i false ≡ true) ↔ is i

-- ---- one decision

-- which of its obligations are shown, from a position on
pub record AreShownFrom (on : ℕ → Type 0) (mode : Mode) (tree : Tree) (position : ℕ)
    (shown : List Bool) : Type 0 where
  pub each : (at : ℕ) → at < 2 + size tree →
      (slice_index_or shown (position + at) false ≡ true) ↔ ShowAt on mode tree at

-- the first of its obligations that is shown by `on` and not by `left`
pub record IsFirstAt (on left : ℕ → Type 0) (mode : Mode) (tree : Tree) (at : ℕ) : Type 0 where
  pub within : at < 2 + size tree
  pub shown : ShowAt on mode tree at
  pub missed : ¬ ShowAt left mode tree at
  pub none_before : (b : ℕ) → b < at → ShowAt on mode tree b → ShowAt left mode tree b

-- there is none
abbrev pub NoneAt : (ℕ → Type 0) → (ℕ → Type 0) → Mode → Tree → Type 0
NoneAt on left mode tree =
    (b : ℕ) → b < 2 + size tree → ShowAt on mode tree b → ShowAt left mode tree b

-- true from a position on
abbrev pub AreTrueFrom : List Bool → ℕ → ℕ → Type 0
AreTrueFrom shown position at = slice_index_or shown (position + at) false ≡ true

-- the first of n numbers of which `is` holds, and `also` does not
pub record IsFirstOf (is also : ℕ → Type 0) (n at : ℕ) : Type 0 where
  pub within : at < n
  pub so : is at
  pub not_also : ¬ also at
  pub none_before : (b : ℕ) → b < at → is b → also b

-- there is none
abbrev pub NoneOf : (ℕ → Type 0) → (ℕ → Type 0) → ℕ → Type 0
NoneOf is also n = (b : ℕ) → b < n → is b → also b

-- ---- all obligations

-- which of the obligations before a position are shown
pub record AreShownBefore (m : Map) (mode : Mode) (on : ℕ → Type 0) (position : ℕ)
    (shown : List Bool) : Type 0 where
  pub count : length shown ≡ position
  pub each : (q : ℕ) (o : Obligation) → q < position →
      slice_get (obligations_of m) q ≡ Some o →
      (slice_index_or shown q false ≡ true) ↔ See on m mode o.id

pub record AreShown (m : Map) (mode : Mode) (on : ℕ → Type 0) (shown : List Bool) : Type 0 where
  pub count : length shown ≡ length (obligations_of m)
  pub each : (q : ℕ) (o : Obligation) → slice_get (obligations_of m) q ≡ Some o →
      (slice_index_or shown q false ≡ true) ↔ See on m mode o.id

pub record IsFirstMissed (m : Map) (mode : Mode) (on left : ℕ → Type 0) (position : ℕ) : Type 0
  where
    pub obligation : Obligation
    pub at : slice_get (obligations_of m) position ≡ Some obligation
    pub shown : See on m mode obligation.id
    pub missed : ¬ See left m mode obligation.id
    pub none_before : (q : ℕ) (o : Obligation) → q < position →
        slice_get (obligations_of m) q ≡ Some o → See on m mode o.id → See left m mode o.id

abbrev pub NoneMissed : Map → Mode → (ℕ → Type 0) → (ℕ → Type 0) → Type 0
NoneMissed m mode on left =
    (q : ℕ) (o : Obligation) → slice_get (obligations_of m) q ≡ Some o → See on m mode o.id →
    See left m mode o.id

abbrev pub SomeMissed : Map → Mode → (ℕ → Type 0) → (ℕ → Type 0) → Type 0
SomeMissed m mode on left = (position : ℕ) × IsFirstMissed m mode on left position
