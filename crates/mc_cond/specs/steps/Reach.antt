-- A step of the proofs: it follows the code, and no public clause rests on it.
-- Influence on one row, operand by operand. It is the same on every completion of a vector.
use Rattle.std.specs.Prelude.{ℕ, Bool, true, false, not, ◌&&◌, ◌||◌, ◌==◌, if◌then◌else◌, Option, Some, None, slice_get}
use Rattle.mc_cond.specs.Tree.{Tree, Leaf, Not, And, Or, FullAnd, FullOr, FullXor}
use Rattle.mc_cond.specs.Vectors.{Row, Evaluation, truth_of}

-- A flip in the first operand shows where the second is not evaluated, for that can take the value
-- that lets it through. Where the second is evaluated, it shows only if that value lets it through,
-- and flips in the second show always.
abbrev pub shown_where : Bool → Bool → Bool → Bool → Bool
shown_where evaluated lets_through first second =
    if evaluated then (lets_through && first) || second else first

-- Both operands are evaluated: a flip in one shows if the other has a value that lets it through.
abbrev pub shown_both : Bool → Bool → Bool → Bool → Bool
shown_both shows_first shows_second first second =
    (shows_first && first) || (shows_second && second)

-- a flip of condition k shows in the outcome
abbrev pub reaches : Tree → Row → ℕ → Bool
reaches (Leaf j) row k = k == j
reaches (Not a) row k = reaches a row k
reaches (And a b) row k =
    shown_where (truth_of a row) (truth_of b row) (reaches a row k) (reaches b row k)
reaches (Or a b) row k =
    shown_where (not (truth_of a row)) (not (truth_of b row)) (reaches a row k) (reaches b row k)
reaches (FullAnd a b) row k =
    shown_both (truth_of b row) (truth_of a row) (reaches a row k) (reaches b row k)
reaches (FullOr a b) row k =
    shown_both (not (truth_of b row)) (not (truth_of a row)) (reaches a row k) (reaches b row k)
reaches (FullXor a b) row k = shown_both true true (reaches a row k) (reaches b row k)

abbrev pub is_on : Option (Option Bool) → Bool
is_on (Some (Some x)) = x
is_on (Some None) = false
is_on None = false

-- one completion of a vector: what was not evaluated is false
abbrev pub filled : Evaluation → Row
filled v k = is_on (slice_get v.answers k)
