-- How far the workers of the interleaving core are: their claims, and the pairs that they have hit.
use Rattle.std.specs.Prelude.{◌≡◌, ℕ, ◌-◌, ◌<◌, ◌≤◌, true, List, [], ◌∷◌, ◌++◌, length, map, take, flat_map, count_by, All}
use Rattle.mc_core.specs.Schedule.{Worker, Core, script_of, last_claim}

-- the claimed tests, worker by worker
abbrev pub all_claims : List Worker → List ℕ
all_claims workers = flat_map (λ w. w.claimed) workers

abbrev pub ended_count : List Worker → ℕ
ended_count workers = count_by (λ w. w.ended) workers

-- these bits, each with the test
abbrev pub pairs_of : ℕ → List ℕ → List (ℕ × ℕ)
pairs_of t bits = map (λ b. (b, t)) bits

-- the pairs of tests claimed in this order: all of a finished test, and of the last one all but
-- those that remain
abbrev pub hits_of : List (List ℕ) → List ℕ → ℕ → List (ℕ × ℕ)
hits_of scripts [] rest = []
hits_of scripts (t ∷ []) rest =
    pairs_of t (take (length (script_of scripts t) - rest) (script_of scripts t))
hits_of scripts (t ∷ u ∷ us) rest =
    pairs_of t (script_of scripts t) ++ hits_of scripts (u ∷ us) rest

-- the pairs hit so far, worker by worker
abbrev pub all_hits : List (List ℕ) → List Worker → List (ℕ × ℕ)
all_hits scripts workers = flat_map (λ w. hits_of scripts w.claimed w.rest) workers

-- the bits that remain to a worker are bits of its last test, and none remain to one that has ended
pub record IsInOrder (scripts : List (List ℕ)) (tests : ℕ) (w : Worker) : Type 0 where
  pub claims : All (λ t. t < tests) w.claimed
  pub some : 0 < w.rest → 0 < length w.claimed
  pub rest : w.rest ≤ length (script_of scripts (last_claim w))
  pub ended : w.ended ≡ true → w.rest ≡ 0

-- so it is with each worker
abbrev pub IsReady : List (List ℕ) → Core → Type 0
IsReady scripts core = All (IsInOrder scripts core.matrix.shape.tests) core.workers
