-- What contracts see of a cover and of a pass.
use Rattle.std.specs.Prelude.{◌≡◌, ◌≤◌, ℕ, ◌+◌, Option, Some, None, nat_lt, if◌then◌else◌}
use Rattle.atomic_table.specs.Seated.{TableId}
use Rattle.mc_limits.specs.Limits.{most_words}
use Rattle.mc_core.specs.declared.shape.Shape.{Shape}
use Rattle.mc_core.specs.Shape.{word_count}
use Rattle.mc_cover.specs.declared.view.View.{View}
use Rattle.mc_cover.specs.Views.{after_claim}

-- which cover it is, and its shape
pub record CoverView : Type 0 where
  pub cover : TableId
  pub shape : Shape

-- of which cover it is, and what it knows
pub record PassView : Type 0 where
  pub cover : TableId
  pub view : View

-- the pass is of this cover, and knows its shape
abbrev pub IsOf : CoverView → PassView → Type 0
IsOf c p = (p.cover ≡ c.cover) × (p.view.shape ≡ c.shape)

-- one number was drawn: it is the answer where it is a test
pub record Draws (tests : ℕ) (old new : View) (answer : Option ℕ) : Type 0 where
  pub number : ℕ
  pub answers : answer ≡ (if nat_lt number tests then Some number else None)
  pub view : new ≡ after_claim old number

-- the table has the words of the shape, and there is room for the matrix
pub record IsSized (table : TableId) (key shape : Shape) (room : ℕ) : Type 0 where
  pub keyed : key ≡ shape
  pub words : table.words ≡ word_count shape + 1
  pub slots : table.slots ≡ 0
  pub limited : word_count shape ≤ most_words
  pub room_is : room ≡ word_count shape
