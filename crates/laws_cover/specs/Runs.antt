-- The steps of the passes of a cover, in any order.
use Rattle.std.specs.Prelude.{◌≡◌, ◌≢◌, ◌<◌, ℕ, ◌==◌, ◌&&◌, Bool, true, false, List, [], ◌∷◌, Contains}
use Rattle.mc_limits.specs.Limits.{most_workers}
use Rattle.mc_core.specs.declared.shape.Shape.{Shape}
use Rattle.mc_cover.specs.declared.view.View.{View}
use Rattle.mc_cover.specs.declared.view.Role.TheVariants.{Opener, Worker, Spent}
use Rattle.mc_cover.specs.Rule.{Shared, HasView}
use Rattle.mc_cover.specs.Steps.{forked, drawn, marked, joined, looked}

-- a step, with the number of the pass that makes it
pub data Step : Type 0 where
  -- the opener gives a new worker a pass
  Fork : (id : ℕ) → Step
  -- a worker takes the next number
  Claim : (id : ℕ) → Step
  -- a bit under a test
  Hit : (id bit test : ℕ) → Step
  -- the opener takes in what a worker has
  Join : (id other : ℕ) → Step
  -- at a coverage word
  Look : (id index : ℕ) → Step

-- The pass may make the step, and it leads from the first words and views to the second. A worker
-- claims until a number that is no test ends it, and hits under tests that it claimed.
abbrev pub IsStep : Shape → Shared → Step → Shared → Type 0
IsStep k s (Fork id) t =
    (v : View) × HasView s id v × (v.role ≡ Opener) × (v.forks < most_workers)
    × (t ≡ forked s id v)
IsStep k s (Claim id) t =
    (v : View) × HasView s id v × (v.role ≡ Worker) × (v.over ≡ 0) × (t ≡ drawn s id v)
IsStep k s (Hit id bit test) t =
    (v : View) × HasView s id v × (v.role ≢ Spent) × (bit < k.bits) × Contains v.claims test
    × (t ≡ marked k s id v bit test)
IsStep k s (Join id other) t =
    (v w : View) × HasView s id v × HasView s other w × (v.role ≡ Opener) × (w.role ≡ Worker)
    × (t ≡ joined s id v other w)
IsStep k s (Look id index) t =
    (v : View) × HasView s id v × (v.role ≢ Spent) × (t ≡ looked s id v index)

-- the steps, one after the other, whichever pass makes each
abbrev pub AreSteps : Shape → Shared → List Step → Shared → Type 0
AreSteps k s [] t = t ≡ s
AreSteps k s (step ∷ steps) t =
    (next : Shared) × IsStep k s step next × AreSteps k next steps t

abbrev pub is_claim : Step → Bool
is_claim (Claim id) = true
is_claim step = false

-- the step hits this bit under this test
abbrev pub is_hit : ℕ → ℕ → Step → Bool
is_hit b t (Hit id bit test) = (bit == b) && (test == t)
is_hit b t step = false
