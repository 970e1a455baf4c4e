-- A step of the proofs: it follows the code, and no public clause rests on it.
-- A path followed through a tree by its number.
use Rattle.std.specs.Prelude.{ℕ, ◌-◌, Bool, true, false, if◌then◌else◌, not, ◌&&◌, ◌||◌, nat_lt, Option, Some, List, [], ◌∷◌, ◌++◌, slice_index}
use Rattle.mc_cond.specs.Tree.{Tree, Leaf, Not, And, Or, FullAnd, FullOr, FullXor}
use Rattle.mc_cond.specs.Vectors.{skipped, xor}

-- the answers of the conditions passed, the outcome that is come to, and what is left of the number
pub record Descent : Type 0 where
  pub answers : List (Option Bool)
  pub outcome : Bool
  pub left : ℕ

-- after the first operand, the second where it is needed
abbrev pub descended_where : Bool → Descent → Tree → Descent → Descent
descended_where true first right second =
    record {
      answers = first.answers ++ second.answers;
      outcome = second.outcome;
      left = second.left;
    }
descended_where false first right second =
    record {
      answers = first.answers ++ skipped right;
      outcome = first.outcome;
      left = first.left;
    }

-- both operands, and the outcome of their outcomes
abbrev pub descended_both : (Bool → Bool → Bool) → Descent → Descent → Descent
descended_both op first second =
    record {
      answers = first.answers ++ second.answers;
      outcome = op first.outcome second.outcome;
      left = second.left;
    }

-- at a condition: true where the number is below what its false edge adds, else false, and that is
-- taken off
abbrev pub taken : ℕ → ℕ → Descent
taken on_false path = if nat_lt path on_false
    then record { answers = Some true ∷ []; outcome = true; left = path }
    else record { answers = Some false ∷ []; outcome = false; left = path - on_false }

-- `on_false` lists what the false edge of each condition adds
abbrev pub descent : Tree → List ℕ → ℕ → Descent
descent (Leaf k) on_false path = taken (slice_index on_false k) path
descent (Not a) on_false path =
    record {
      answers = (descent a on_false path).answers;
      outcome = not (descent a on_false path).outcome;
      left = (descent a on_false path).left;
    }
descent (And a b) on_false path =
    descended_where (descent a on_false path).outcome
    (descent a on_false path) b (descent b on_false (descent a on_false path).left)
descent (Or a b) on_false path =
    descended_where (not (descent a on_false path).outcome)
    (descent a on_false path) b (descent b on_false (descent a on_false path).left)
descent (FullAnd a b) on_false path =
    descended_both (λ x y. x && y)
    (descent a on_false path) (descent b on_false (descent a on_false path).left)
descent (FullOr a b) on_false path =
    descended_both (λ x y. x || y)
    (descent a on_false path) (descent b on_false (descent a on_false path).left)
descent (FullXor a b) on_false path =
    descended_both xor
    (descent a on_false path) (descent b on_false (descent a on_false path).left)
