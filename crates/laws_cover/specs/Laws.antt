-- What holds after any steps of any passes.
use Rattle.std.specs.Prelude.{◌≡◌, ◌↔◌, ◌<◌, ℕ, ◌*◌, List, [], ◌∷◌, count_by, min}
use Rattle.mc_core.specs.declared.shape.Shape.{Shape}
use Rattle.mc_core.specs.Shape.{rows}
use Rattle.mc_core.specs.Matrix.{bit_of}
use Rattle.mc_cover.specs.Rule.{Shared, IsKept, draws, coverage}
use Rattle.mc_cover.specs.Words.{IsRuled}
use Rattle.mc_cover.specs.Steps.{opened}
use Rattle.laws_cover.specs.Runs.{Step, Fork, Claim, Hit, Join, Look, AreSteps, is_claim, is_hit}

-- the rule in plain words holds after any steps since the cover was opened
abbrev pub StepsKeepRule : Type 0
StepsKeepRule =
    (k : Shape) (steps : List Step) (t : Shared) → AreSteps k (opened k) steps t → IsRuled k t

-- word 0 counts the claims, and a bit is 1 where it was hit, once or more often, and else 0
pub record AreCounted (k : Shape) (steps : List Step) (t : Shared) : Type 0 where
  pub claims : draws t.words ≡ count_by is_claim steps
  pub hits : (bit test : ℕ) → bit < k.bits → test < 64 * rows k →
      bit_of k (coverage t.words) bit test ≡ min 1 (count_by (is_hit bit test) steps)

abbrev pub StepsAreCounted : Type 0
StepsAreCounted =
    (k : Shape) (steps : List Step) (t : Shared) → AreSteps k (opened k) steps t →
    AreCounted k steps t

-- the rule and its plain words say the same
abbrev pub RuleIsItsWords : Type 0
RuleIsItsWords = (k : Shape) (s : Shared) → IsKept k s ↔ IsRuled k s

-- Two workers for two tests of a program with one bit: the second worker takes the first number.
-- Both hit the bit, the one of them twice, and a third claim ends it.
abbrev pub EachStepIsMade : Type 0
EachStepIsMade =
    (t : Shared)
    × AreSteps record { bits = 1; tests = 2 } (opened record { bits = 1; tests = 2 })
    (Fork 0 ∷ Fork 0 ∷ Claim 2 ∷ Claim 1 ∷ Hit 1 0 1 ∷ Hit 2 0 0 ∷ Hit 2 0 0 ∷ Claim 2
    ∷ Look 0 0
    ∷ Join 0 1
    ∷ Join 0 2
    ∷ [])
    t
    × (t.words ≡ 3 ∷ 3 ∷ [])
