-- Vectors: what evaluation of a decision gives.
use Rattle.std.specs.Prelude.{◌≡◌, ℕ, Bool, true, false, if◌then◌else◌, not, ◌&&◌, ◌||◌, ◌==◌, Some, None, List, [], ◌∷◌, ◌++◌, replicate, slice_get, unwrap_or}
use Rattle.std.specs.Int.{bit_at}
use Rattle.mc_cond.specs.Tree.{Tree, Leaf, Not, And, Or, FullAnd, FullOr, FullXor, size}
use Rattle.mc_cond.specs.Order.{Answer}

-- a row of the truth table: which conditions are true
abbrev pub Row : Type 0
Row = ℕ → Bool

-- the row that a list of answers gives, condition 0 first
abbrev pub row_of : List Bool → Row
row_of answers k = unwrap_or (slice_get answers k) false

-- the row that a word gives: bit k is condition k
abbrev pub row_in : ℕ → Row
row_in word k = bit_at word k == 1

-- the row with condition k flipped, and no other
abbrev pub flipped : ℕ → Row → Row
flipped k row j = if j == k then not (row j) else row j

-- XOR: true where the two differ
abbrev pub xor : Bool → Bool → Bool
xor true y = not y
xor false y = y

-- the decision's outcome on a row, by AND, OR, XOR and NOT
abbrev pub truth_of : Tree → Row → Bool
truth_of (Leaf k) row = row k
truth_of (Not a) row = not (truth_of a row)
truth_of (And a b) row = truth_of a row && truth_of b row
truth_of (Or a b) row = truth_of a row || truth_of b row
truth_of (FullAnd a b) row = truth_of a row && truth_of b row
truth_of (FullOr a b) row = truth_of a row || truth_of b row
truth_of (FullXor a b) row = xor (truth_of a row) (truth_of b row)

-- an evaluation: the answer of each condition, and the decision's outcome
pub record Evaluation : Type 0 where
  pub answers : List Answer
  pub outcome : Bool

-- an operand that is not evaluated
abbrev pub skipped : Tree → List Answer
skipped t = replicate (size t) None

-- After its first operand the second is evaluated where it is needed, and then gives the outcome.
-- Else the first settles it.
abbrev pub followed_where : Bool → Evaluation → Tree → Evaluation → Evaluation
followed_where true first right second =
    record { answers = first.answers ++ second.answers; outcome = second.outcome }
followed_where false first right second =
    record { answers = first.answers ++ skipped right; outcome = first.outcome }

-- both operands are evaluated, and an operator gives the outcome of their outcomes
abbrev pub evaluated_both : (Bool → Bool → Bool) → Evaluation → Evaluation → Evaluation
evaluated_both op first second =
    record {
      answers = first.answers ++ second.answers;
      outcome = op first.outcome second.outcome;
    }

-- Evaluation on a row. `!` turns the outcome round (C17 6.5.3.3). The second operand
-- of `&&` is evaluated only where the first is true (C17 6.5.13), and that of `||` only where the
-- first is false (C17 6.5.14). `&`, `|` and `^` evaluate both, and leave out nothing (C17 6.5.10 to
-- 6.5.12).
abbrev pub evaluated : Tree → Row → Evaluation
evaluated (Leaf k) row = record { answers = Some (row k) ∷ []; outcome = row k }
evaluated (Not a) row =
    record { answers = (evaluated a row).answers; outcome = not (evaluated a row).outcome }
evaluated (And a b) row =
    followed_where (evaluated a row).outcome (evaluated a row) b (evaluated b row)
evaluated (Or a b) row =
    followed_where (not (evaluated a row).outcome) (evaluated a row) b (evaluated b row)
evaluated (FullAnd a b) row = evaluated_both (λ x y. x && y) (evaluated a row) (evaluated b row)
evaluated (FullOr a b) row = evaluated_both (λ x y. x || y) (evaluated a row) (evaluated b row)
evaluated (FullXor a b) row = evaluated_both xor (evaluated a row) (evaluated b row)

-- a vector of a tree is what evaluation of some row gives
abbrev pub IsVector : Tree → Evaluation → Type 0
IsVector t v = (row : Row) × (evaluated t row ≡ v)

-- a completion of a vector is a row that agrees with it at each condition that was evaluated
abbrev pub IsCompletion : Evaluation → Row → Type 0
IsCompletion v row = (k : ℕ) (x : Bool) → slice_get v.answers k ≡ Some (Some x) → row k ≡ x
