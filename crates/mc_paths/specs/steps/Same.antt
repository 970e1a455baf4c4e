-- A step of the proofs: it follows the code, and no public clause rests on it.
-- Decisions that differ in chains of NOT alone.
use Rattle.std.specs.Prelude.{◌≡◌, ℕ, Bool, true, false}
use Rattle.mc_cond.specs.Tree.{Tree, Not, size, IsNumberedFrom}
use Rattle.mc_cond.specs.Vectors.{Row, evaluated}
use Rattle.mc_paths.specs.Paths.{room, false_edges}

-- the two decisions have the same evaluations, conditions and path numbers
pub record AreSame (s t : Tree) : Type 0 where
  pub vectors : (row : Row) → evaluated s row ≡ evaluated t row
  pub sizes : size s ≡ size t
  pub numbers : (first : ℕ) → IsNumberedFrom first t → IsNumberedFrom first s
  pub rooms : (x y : ℕ) → room s x y ≡ room t x y
  pub edges : (x y : ℕ) → false_edges s x y ≡ false_edges t x y

abbrev pub turned_where : Bool → Tree → Tree
turned_where true t = Not t
turned_where false t = t
