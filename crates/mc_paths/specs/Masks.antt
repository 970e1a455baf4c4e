-- Vectors as masks: words of which bit k speaks of condition k.
use Rattle.std.specs.Prelude.{◌≡◌, ℕ, Bool, true, Some, slice_get, ◌↔◌}
use Rattle.std.specs.Int.{bit_at}
use Rattle.mc_cond.specs.Vectors.{Evaluation}

-- bit k of the word is set exactly where the fact holds of k
abbrev pub IsMaskOf : ℕ → (ℕ → Type 0) → Type 0
IsMaskOf word holds = (k : ℕ) → (bit_at word k ≡ 1) ↔ holds k

-- condition k is evaluated in the vector
abbrev pub IsEvaluated : Evaluation → ℕ → Type 0
IsEvaluated v k = (x : Bool) × (slice_get v.answers k ≡ Some (Some x))

-- condition k is evaluated in the vector, and true
abbrev pub IsOn : Evaluation → ℕ → Type 0
IsOn v k = slice_get v.answers k ≡ Some (Some true)
