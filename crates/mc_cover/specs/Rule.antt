-- The rule of the shared words, as it is kept from step to step: each part that speaks of several
-- views is a sum over them.
use Rattle.std.specs.Prelude.{◌≡◌, ◌≢◌, ◌≤◌, ℕ, ◌+◌, ◌-◌, ◌*◌, ◌<◌, List, [], ◌∷◌, length, slice_index, sum_by, min, All, Contains}
use mathlib.Core.Option.{some}
use lib.ListN.{get_elem?}
use Rattle.std.specs.Int.{bit_at}
use Rattle.atomic_table.specs.Table.{State}
use Rattle.mc_limits.specs.Limits.{most_workers}
use Rattle.mc_core.specs.declared.shape.Shape.{Shape}
use Rattle.mc_core.specs.Shape.{rows, word_count}
use Rattle.mc_core.specs.Matrix.{bit_of}
use Rattle.mc_core.specs.Counts.{times, once_below, marks}
use Rattle.mc_cover.specs.declared.view.View.{View}
use Rattle.mc_cover.specs.declared.view.Role.TheVariants.{Worker, Spent}
use Rattle.mc_cover.specs.Views.{opens, works, runs, spent}

-- the words and the views of all passes, at one moment
abbrev pub Shared : Type 0
Shared = State (Unit {0}) View

-- this is the view of pass number id
abbrev pub HasView : Shared → ℕ → View → Type 0
HasView s id v = get_elem? s.views id ≡ some v

-- word 0 counts the draws
abbrev pub draws : List ℕ → ℕ
draws words = slice_index words 0

-- the coverage words stand after it, in the order of a matrix
abbrev pub coverage : List ℕ → List ℕ
coverage [] = []
coverage (w ∷ ws) = ws

-- the values that a pass loaded from coverage words: no bit was cleared since
abbrev pub IsStillSet : List ℕ → List (ℕ × ℕ) → Type 0
IsStillSet words seen =
    All (λ x. (i : ℕ) → bit_at x.1 i ≤ bit_at (slice_index (coverage words) x.0) i) seen

-- what holds of each view by itself
pub record IsSound (k : Shape) (words : List ℕ) (v : View) : Type 0 where
  pub hits : All (λ h. (h.0 < k.bits) × Contains v.claims h.1) v.hits
  pub seen : IsStillSet words v.seen
  pub shape : v.role ≢ Spent → v.shape ≡ k
  pub worker : v.role ≡ Worker → (v.over ≤ 1) × (v.forks ≡ 0) × (v.joined ≡ 0)
  pub empty : v.role ≡ Spent → v ≡ spent

pub record IsKept (k : Shape) (s : Shared) : Type 0 where
  pub whole : length s.words ≡ word_count k + 1
  -- the draws beyond the tests ended a worker each
  pub over : sum_by (λ v. v.over) s.views ≡ draws s.words - k.tests
  -- each number that was drawn and is a test is claimed once, and no other number is
  pub claims : (n : ℕ) →
      sum_by (λ v. times n v.claims) s.views ≡ once_below n (min (draws s.words) k.tests)
  -- a bit is set exactly where some view has the hit, and so up to the end of each word
  pub bits : (b t : ℕ) → b < k.bits → t < 64 * rows k →
      bit_of k (coverage s.words) b t ≡ min 1 (sum_by (λ v. marks b t v.hits) s.views)
  pub opener : sum_by (λ v. opens v.role) s.views ≡ 1
  pub workers : sum_by (λ v. works v.role) s.views + sum_by (λ v. v.joined) s.views
      ≡ sum_by (λ v. v.forks) s.views
  pub running : sum_by (λ v. v.over) s.views + sum_by runs s.views ≤ sum_by (λ v. v.forks) s.views
  pub forks : sum_by (λ v. v.forks) s.views ≤ most_workers
  pub each : (id : ℕ) (v : View) → HasView s id v → IsSound k s.words v
