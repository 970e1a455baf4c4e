-- What a watcher tells: counts that do not fall, and that stay within what is recorded at the end.
use Rattle.std.specs.Prelude.{◌≡◌, ◌≤◌, ◌↔◌, ℕ, List, [], length, All, Contains}
use Rattle.std.specs.List.Sorted.{IsNonDecreasing}
use Rattle.mc_core.specs.Counts.{marks}
use Rattle.mc_core.specs.Shape.{word_count}
use Rattle.mc_core.specs.declared.shape.Shape.{Shape}
use Rattle.mc_cover.specs.declared.view.View.{View}
use Rattle.mc_cover.specs.Model.{CoverView, PassView, IsOf}
use Rattle.mc_limits.specs.Limits.{most_looks}
use Rattle.mc_watch.specs.Looks.{AreLooks}

-- there are n different pairs of a bit and a test of which it holds
pub record AreSoMany (has : ℕ → ℕ → Type 0) (n : ℕ) : Type 0 where
  pub pairs : List (ℕ × ℕ)
  pub once : (b t : ℕ) → marks b t pairs ≤ 1
  pub exact : (b t : ℕ) → Contains pairs (b, t) ↔ has b t
  pub count : length pairs ≡ n

-- the pass has seen nothing yet, and there is room for as many counts as looks
pub record CanWatch (c : CoverView) (p : PassView) (looks counts room : ℕ) : Type 0 where
  pub own : IsOf c p
  pub unseen : p.view.seen ≡ []
  pub few : looks ≤ most_looks
  pub empty : counts ≡ 0
  pub fits : looks ≤ room

-- a pass has made so many looks at so many words, and nothing else of what it knows has changed
pub record HasLooked (words looks : ℕ) (old new : View) (counts : List ℕ) : Type 0 where
  pub kept : new ≡ record old { seen = new.seen }
  pub looked : AreLooks words new.seen counts
  pub as_many : length counts ≡ looks
  pub rising : IsNonDecreasing counts

-- The pass that comes back has seen what so many looks loaded, each every coverage word once. Of
-- the counts of set bits none is less than the one before, and none is more than the number of
-- different pairs that were hit.
pub record IsWatched (k : Shape) (v : View) (looks : ℕ) (counts : List ℕ) : Type 0 where
  pub looked : AreLooks (word_count k) v.seen counts
  pub as_many : length counts ≡ looks
  pub rising : IsNonDecreasing counts
  pub within : (n : ℕ) → AreSoMany (λ b t. Contains v.hits (b, t)) n → All (λ c. c ≤ n) counts
