-- Tests that a closer skips.
use Rattle.std.proofs.Common.{ℕ, zero, suc, [], ◌∷◌, refl, arith}
use Rattle.std.specs.Prelude.{Contains}
use Rattle.laws_cases.specs.Skipped.{FirstIsNotSkipped, SkippedShowNothing}

none : (test : ℕ) → ¬ Contains [] test
none test c = absurd (let less = c.1 in omega arith)

pub skipped_show_nothing : SkippedShowNothing
skipped_show_nothing skipped p plans e test = (
  (λ s. (record { plan = s.plan; planned = s.planned; happened = s.happened; kept = none test }, s.kept)),
  (λ both. let s = both.0 in record { plan = s.plan; planned = s.planned; happened = s.happened; kept = both.1 }),
)

-- 0 is not in the list of 1
not_first : ¬ Contains {X = ℕ} (1 ∷ []) 0
not_first (zero, less, is) = omega (arith, is)
not_first (suc k, less, is) = absurd (omega (arith, less))

is_second : Contains {X = ℕ} (1 ∷ []) 1
is_second = (0, omega arith, refl)

pub first_is_not_skipped : FirstIsNotSkipped
first_is_not_skipped p first second e = (
  (
    (λ s. ((skipped_show_nothing (1 ∷ []) p (first ∷ second ∷ []) e 0).0 s).0),
    (λ s. (skipped_show_nothing (1 ∷ []) p (first ∷ second ∷ []) e 0).1 (s, not_first)),
  ),
  (λ s. s.kept is_second),
)
