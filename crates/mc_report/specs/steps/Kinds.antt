-- Conditions among obligations.
use Rattle.std.specs.Prelude.{◌≡◌, ℕ}
use Rattle.mc_oblige.specs.declared.obligation.ObligationId.{ObligationId}
use Rattle.mc_oblige.specs.declared.obligation.ObligationId.TheVariants.{Condition}

-- it is a condition of the decision with this number
abbrev pub IsIn : ℕ → ObligationId → Type 0
IsIn decision (Condition d k) = d ≡ decision
IsIn decision id = ⊥

abbrev pub IsCondition : ObligationId → Type 0
IsCondition (Condition d k) = Unit {0}
IsCondition id = ⊥
