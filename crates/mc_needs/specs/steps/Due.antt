-- A step of the proofs: it follows the code, and no public clause rests on it.
-- Outcomes of decisions that are due: asked, and no wanted vector has them.
use Rattle.std.specs.Prelude.{◌≡◌, ◌↔◌, ℕ, ◌<◌, Bool, true, false, if◌then◌else◌, Option, Some, None, List, length, get_or, set, slice_get}
use Rattle.mc_oblige.specs.declared.obligation.ObligationId.{ObligationId}
use Rattle.mc_oblige.specs.declared.obligation.ObligationId.TheVariants.{Outcome}
use Rattle.mc_oblige.specs.declared.obligation.Obligation.{Obligation}
use Rattle.mc_needs.specs.declared.due.Due.{Due}

abbrev pub none_due : Due
none_due = record { on_true = false; on_false = false }

abbrev pub is_due : Due → Bool → Bool
is_due o true = o.on_true
is_due o false = o.on_false

abbrev pub first_of : Due → Bool → Option Bool
first_of o outcome = if is_due o outcome then Some outcome else None

abbrev pub with_due : Due → Bool → Bool → Due
with_due o true is = record { on_true = is; on_false = o.on_false }
with_due o false is = record { on_true = o.on_true; on_false = is }

-- the outcome of decision d, in a list of all decisions
abbrev pub due_at : List Due → ℕ → Due
due_at due d = get_or due d none_due

abbrev pub with_due_at : List Due → ℕ → Bool → Bool → List Due
with_due_at due d outcome is = set due d (with_due (due_at due d) outcome is)

abbrev pub due_if : Bool → ObligationId → List Due → List Due
due_if true (Outcome d outcome) due = with_due_at due d outcome true
due_if _ id due = due

-- one of the first n obligations is this outcome, and it is asked
pub record IsAskedBelow (n : ℕ) (os : List Obligation) (asked : List Bool) (d : ℕ) (outcome : Bool)
    : Type 0 where
  pub at : ℕ
  pub below : at < n
  pub obligation : Obligation
  pub among : slice_get os at ≡ Some obligation
  pub same : obligation.id ≡ Outcome d outcome
  pub is : slice_get asked at ≡ Some true

-- those that are asked of the first n obligations are due, and no others
pub record AreDue (decisions n : ℕ) (os : List Obligation) (asked : List Bool) (due : List Due)
    : Type 0 where
  pub count : length due ≡ decisions
  pub each : (d : ℕ) (outcome : Bool) → d < decisions →
      (is_due (due_at due d) outcome ≡ true) ↔ IsAskedBelow n os asked d outcome
