-- Small decisions whose numbers were worked out by hand.
use Rattle.std.specs.Prelude.{ℕ, zero, suc, Bool, true, false, Some, None, List}
use Rattle.mc_cond.specs.Tree.{Tree, Leaf, And, FullAnd, FullXor}
use Rattle.mc_cond.specs.Order.{Answer}
use Rattle.mc_paths.specs.Paths.{IsPath}

-- `(a ^ b) && c`
abbrev pub xor_then_and : Tree
xor_then_and = And (FullXor (Leaf 0) (Leaf 1)) (Leaf 2)

-- `a & b`
abbrev pub full_and : Tree
full_and = FullAnd (Leaf 0) (Leaf 1)

-- conditions joined by so many `^`
abbrev pub many_xors : ℕ → Tree
many_xors zero = Leaf 0
many_xors (suc n) = FullXor (many_xors n) (Leaf (suc n))

-- what a vector says of a condition, as reports write it: `T`, `F` and `-`
abbrev pub on : Answer
on = Some true

abbrev pub off : Answer
off = Some false

abbrev pub skip : Answer
skip = None

-- the vector of these answers and this outcome has this number
abbrev pub HasNumber : Tree → List Answer → Bool → ℕ → Type 0
HasNumber t answers outcome path = IsPath t path (record { answers = answers; outcome = outcome })
