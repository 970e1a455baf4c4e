-- Faults of names and types, and which of them answers.
use Rattle.std.specs.Prelude.{◌≡◌, ◌⊎◌, ℕ, ◌<◌, ◌≤◌, nat_lt, nat_le, Bool, true, false, if◌then◌else◌, List, [], ◌∷◌, ◌++◌, Option, Some, None}
use Rattle.types_faults.specs.declared.fault.Fault.{Fault}
use Rattle.types_faults.specs.declared.fault.FaultKind.{FaultKind}
use Rattle.types_faults.specs.declared.fault.FaultKind.TheVariants.{Undeclared, Redeclared, Mismatch, NotConstant, DuplicateLabel, NoBody, Limit}

abbrev pub number_of : FaultKind → ℕ
number_of Undeclared = 1
number_of Redeclared = 2
number_of Mismatch = 3
number_of NotConstant = 4
number_of DuplicateLabel = 5
number_of NoBody = 6
number_of Limit = 7

abbrev pub fault : FaultKind → ℕ → List Fault
fault kind at = record { kind = kind; at = at } ∷ []

-- a fault exactly where the test holds
abbrev pub fault_if : Bool → FaultKind → ℕ → List Fault
fault_if b kind at = if b then fault kind at else []

abbrev pub has_none : List Fault → Bool
has_none [] = true
has_none (f ∷ fs) = false

-- what has a fault inside has no type
abbrev pub unless_faulty : {A : Type 0} → List Fault → Option A → Option A
unless_faulty [] value = value
unless_faulty (f ∷ fs) value = None

-- ---- the fault that answers

-- at a lesser place, or at one place with no greater number
abbrev pub NotAfter : Fault → Fault → Type 0
NotAfter f g = (f.at < g.at) ⊎ ((f.at ≡ g.at) × (number_of f.kind ≤ number_of g.kind))

abbrev pub IsAmong : Fault → List Fault → Type 0
IsAmong f [] = ⊥
IsAmong f (g ∷ gs) = (f ≡ g) ⊎ IsAmong f gs

abbrev pub NoneBefore : Fault → List Fault → Type 0
NoneBefore f [] = Unit {0}
NoneBefore f (g ∷ gs) = NotAfter f g × NoneBefore f gs

-- one of the faults, with none of them before it
pub record IsFirst (fs : List Fault) (f : Fault) : Type 0 where
  pub there : IsAmong f fs
  pub first : NoneBefore f fs

abbrev pub lesser_of : Fault → Fault → Fault
lesser_of f g =
    if nat_lt f.at g.at then f
    else if nat_lt g.at f.at then g
    else if nat_le (number_of f.kind) (number_of g.kind) then f
    else g

abbrev pub lesser : Option Fault → Option Fault → Option Fault
lesser None g = g
lesser (Some f) None = Some f
lesser (Some f) (Some g) = Some (lesser_of f g)

abbrev pub least_of : List Fault → Option Fault
least_of [] = None
least_of (f ∷ fs) = lesser (Some f) (least_of fs)

-- ---- laws

-- The least of joined lists is the lesser of their leasts, so that one fault is enough to keep.
abbrev pub LeastOfJoined : Type 0
LeastOfJoined = (fs gs : List Fault) → least_of (fs ++ gs) ≡ lesser (least_of fs) (least_of gs)

abbrev pub LeastIsFirst : Type 0
LeastIsFirst = (fs : List Fault) (f : Fault) → least_of fs ≡ Some f → IsFirst fs f

abbrev pub NoLeastOfNone : Type 0
NoLeastOfNone = (fs : List Fault) → least_of fs ≡ None → fs ≡ []
