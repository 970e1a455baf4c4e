-- One row of cells with registers, and the bits that are hit.
use Rattle.std.specs.Prelude.{ℕ, ◌+◌, ◌-◌, ◌%◌, ◌^◌, nat_lt, ℤ, pos, if◌then◌else◌, List, [], ◌∷◌, slice_get, slice_set, unwrap_or, Option, Some, None}
use Rattle.mc_typed.specs.Tree.{Object}
use Rattle.mc_cells.specs.Rows.{filled, moved}
use Rattle.mc_steps.specs.Runs.{Acts, gives, lists, changes}
use Rattle.mc_steps.specs.Memories.{Lent, Memory}
use Rattle.mc_steps.specs.Statements.{Given, Flow}
use Rattle.mc_steps.specs.Calls.{Passed}

-- the cells of the static objects and then those of each open activation, and the registers of each
-- open activation
pub record Flat : Type 0 where
  pub cells : List (Option ℤ)
  pub registers : List ℕ

abbrev pub with_cells : Flat → List (Option ℤ) → Flat
with_cells m cells = record { cells = cells; registers = m.registers }

abbrev pub value_in : Option (Option ℤ) → Option ℤ
value_in None = None
value_in (Some cell) = cell

-- a place is the number of its first cell
abbrev pub flat : Memory Flat ℕ
flat = record {
  part = λ i offset at. at + offset;
  read = λ at m. value_in (slice_get m.cells at);
  put = λ at n v m. with_cells m (filled at n v m.cells);
  zero_rest = λ at i offset n m.
      with_cells m (filled (at + offset) (n - offset) (Some (pos 0)) m.cells);
  copy = λ from to n m. with_cells m (moved from to n m.cells);
}

-- what a part of a tree does: it changes the row and hits bits
abbrev pub Does : Type 0 → Type 0
Does A = Acts Flat ℕ A

abbrev pub Runs : Type 0
Runs = Does (Flow ℕ)

-- ---- activations

-- a function, the place for the structure that it returns, the arguments
abbrev pub Callee : Type 0
Callee = ℕ → Option ℕ → List (Passed ℕ) → Does (Given ℕ)

-- an activation: what its calls do, its objects, its first cell and register, the arrays that its
-- array parameters name, and how many bits there are
pub record Activation : Type 0 where
  pub call : Callee
  pub objects : List Object
  pub base : ℕ
  pub first : ℕ
  pub arrays : List (Lent ℕ)
  pub bits : ℕ

abbrev pub register : ℕ → Flat → ℕ
register r m = unwrap_or (slice_get m.registers r) 0

abbrev pub with_register : ℕ → ℕ → Flat → Flat
with_register r v m = record { cells = m.cells; registers = slice_set m.registers r v }

-- sums wrap
abbrev pub wrapped_sum : ℕ → ℕ → ℕ
wrapped_sum a b = (a + b) % 2 ^ 32

module _ (w : Activation) where
  -- a bit that is none of the tree's is not hit
  abbrev pub hits : ℕ → Does (Unit {0})
  hits b = lists (if nat_lt b w.bits then b ∷ [] else [])

  abbrev pub hits_some : Option ℕ → Does (Unit {0})
  hits_some None s = gives tt s
  hits_some (Some b) s = hits b s

  -- register r of the activation becomes v
  abbrev pub sets : ℕ → ℕ → Does (Unit {0})
  sets r v = changes (with_register (w.first + r) v)

  abbrev pub adds : ℕ → ℕ → Does (Unit {0})
  adds r v s = sets r (wrapped_sum (register (w.first + r) s.memory) v) s
