-- The cells of a run as a list.
use Rattle.std.specs.Prelude.{ℕ, ◌+◌, ◌^◌, ℤ, pos, neg_ℤ, ◌≤ℤ◌, ◌<ℤ◌, Bool, if◌then◌else◌, nat_le, List, ◌++◌, length, take, drop, replicate, Option, Some, None}

-- the cells in use, the lowest first, each a number or unset, and how many there can be
pub record Row : Type 0 where
  pub cells : List (Option ℤ)
  pub limit : ℕ

-- the same with other cells
abbrev pub with_cells : Row → List (Option ℤ) → Row
with_cells row cells = record { cells = cells; limit = row.limit }

-- so many more cells do not pass the limit
abbrev pub fits : Row → ℕ → Bool
fits row count = nat_le (length row.cells + count) row.limit

-- where so many more cells begin
abbrev pub base_of : Row → ℕ → Option ℕ
base_of row count = if fits row count then Some (length row.cells) else None

-- the row with so many more cells, all unset, where they fit
abbrev pub entered : Row → ℕ → Row
entered row count =
    if fits row count then with_cells row (row.cells ++ replicate count None) else row

-- the row without the cells from a place on
abbrev pub left : Row → ℕ → Row
left row base = with_cells row (take base row.cells)

-- the value in each of so many cells from a place on
abbrev pub filled : {A : Type 0} → ℕ → ℕ → A → List A → List A
filled at count value cells = take at cells ++ replicate count value ++ drop (at + count) cells

-- in so many cells from `to` on what stood in those from `from` on
abbrev pub moved : {A : Type 0} → ℕ → ℕ → ℕ → List A → List A
moved from to count cells = take to cells ++ take count (drop from cells) ++ drop (to + count) cells

-- a number of 64 bits, with a sign and without
pub record IsSigned (n : ℤ) : Type 0 where
  pub least : neg_ℤ (pos (2 ^ 63)) ≤ℤ n
  pub greatest : n <ℤ pos (2 ^ 63)

pub record IsUnsigned (n : ℤ) : Type 0 where
  pub least : pos 0 ≤ℤ n
  pub greatest : n <ℤ pos (2 ^ 64)
