-- Values in a row that has room for so many.
use Rattle.std.specs.Prelude.{ℕ, List}

-- the values in use, the first at the bottom, and how many there can be
pub record Room (A : Type 0) : Type 0 where
  pub items : List A
  pub limit : ℕ

-- the same with other values
abbrev pub with_values : {A : Type 0} → Room A → List A → Room A
with_values room items = record { items = items; limit = room.limit }
