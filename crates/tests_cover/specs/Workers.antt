-- A worker's pass before and after its work.
use Rattle.std.specs.Prelude.{◌≡◌, ◌<◌, ℕ, List, length, slice_index_or}
use Rattle.mc_cover.specs.declared.view.Role.TheVariants.{Worker}
use Rattle.mc_cover.specs.Model.{CoverView, PassView, IsOf}

-- it may claim
abbrev pub IsRunning : CoverView → PassView → Type 0
IsRunning c p = IsOf c p × (p.view.role ≡ Worker) × (p.view.over ≡ 0)

-- it may be joined
abbrev pub IsDone : CoverView → PassView → Type 0
IsDone c p = (p.cover ≡ c.cover) × (p.view.role ≡ Worker)

abbrev pub AllRunning : CoverView → List PassView → Type 0
AllRunning c passes =
    (i : ℕ) (d : PassView) → i < length passes → IsRunning c (slice_index_or passes i d)

abbrev pub AllDone : CoverView → List PassView → Type 0
AllDone c passes =
    (i : ℕ) (d : PassView) → i < length passes → IsDone c (slice_index_or passes i d)
