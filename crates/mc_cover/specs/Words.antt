-- The rule of the shared words in plain words, part by part.
use Rattle.std.specs.Prelude.{◌≡◌, ◌≢◌, ◌≤◌, ◌↔◌, ℕ, ◌+◌, ◌-◌, ◌*◌, ◌<◌, List, length, slice_index, sum_by, min, All, Contains}
use Rattle.std.specs.Int.{bit_at}
use Rattle.mc_limits.specs.Limits.{most_workers}
use Rattle.mc_core.specs.declared.shape.Shape.{Shape}
use Rattle.mc_core.specs.Shape.{rows, word_count}
use Rattle.mc_core.specs.Matrix.{bit_of}
use Rattle.mc_core.specs.Counts.{times}
use Rattle.mc_cover.specs.declared.view.View.{View}
use Rattle.mc_cover.specs.declared.view.Role.TheVariants.{Opener, Worker, Spent}
use Rattle.mc_cover.specs.Views.{works, runs, spent}
use Rattle.mc_cover.specs.Rule.{Shared, HasView, draws, coverage}

-- it holds of the view of some pass
abbrev pub OfSome : Shared → (View → Type 0) → Type 0
OfSome s P = (id : ℕ) × (v : View) × HasView s id v × P v

-- it holds of the view of exactly one pass
abbrev pub OfOne : Shared → (View → Type 0) → Type 0
OfOne s P =
    OfSome s P
    × ((i j : ℕ) (v w : View) → HasView s i v → HasView s j w → P v → P w → i ≡ j)

-- the numbers that were drawn and are tests
abbrev pub IsDrawnTest : Shape → Shared → ℕ → Type 0
IsDrawnTest k s n = n < min (draws s.words) k.tests

-- what the opener's view counts
pub record OpenerCounts (s : Shared) (v : View) : Type 0 where
  pub workers : sum_by (λ w. works w.role) s.views + v.joined ≡ v.forks
  pub running : sum_by (λ w. w.over) s.views + sum_by runs s.views ≤ v.forks
  pub forks : v.forks ≤ most_workers

-- what holds of one pass's view
pub record IsOrderly (k : Shape) (words : List ℕ) (v : View) : Type 0 where
  -- each hit's test is among its own view's claims, and its bit is in range
  pub hits : All (λ h. (h.0 < k.bits) × Contains v.claims h.1) v.hits
  -- each set bit of a value that was seen is set in that coverage word
  pub seen : All (λ x. (i : ℕ) → bit_at x.1 i ≡ 1 →
      bit_at (slice_index (coverage words) x.0) i ≡ 1) v.seen
  -- no number is claimed twice
  pub claims : (n : ℕ) → times n v.claims ≤ 1
  pub worker : v.role ≡ Worker → (v.over ≤ 1) × (v.forks ≡ 0) × (v.joined ≡ 0)
  pub shape : v.role ≢ Spent → v.shape ≡ k
  pub empty : v.role ≡ Spent → v ≡ spent

pub record IsRuled (k : Shape) (s : Shared) : Type 0 where
  pub whole : length s.words ≡ word_count k + 1
  -- the sum of `over` is the number of draws beyond the tests
  pub over : sum_by (λ v. v.over) s.views ≡ draws s.words - k.tests
  -- each test that was drawn stands in the claims of exactly one view, and no other number in any
  pub claimed : (n : ℕ) → IsDrawnTest k s n → OfOne s (λ v. Contains v.claims n)
  pub drawn : (n : ℕ) → OfSome s (λ v. Contains v.claims n) → IsDrawnTest k s n
  -- a bit is set exactly where some view has the hit, and any other bit is clear
  pub set : (b t : ℕ) → b < k.bits → t < 64 * rows k →
      (bit_of k (coverage s.words) b t ≡ 1) ↔ OfSome s (λ v. Contains v.hits (b, t))
  pub clear : (b t : ℕ) → b < k.bits → t < 64 * rows k →
      ¬ OfSome s (λ v. Contains v.hits (b, t)) → bit_of k (coverage s.words) b t ≡ 0
  pub each : (id : ℕ) (v : View) → HasView s id v → IsOrderly k s.words v
  pub opener : OfOne s (λ v. v.role ≡ Opener)
  pub counts : (id : ℕ) (v : View) → HasView s id v → v.role ≡ Opener → OpenerCounts s v
  -- so word 0 never wraps
  pub small : draws s.words ≤ k.tests + most_workers
