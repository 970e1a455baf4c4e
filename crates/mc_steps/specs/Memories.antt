-- What a program does with memory, over any memory `M` and anything `P` that stands for a place.
use Rattle.std.specs.Prelude.{ℕ, ℤ, Option}

-- an array that an array parameter names: where it begins, and its length
pub record Lent (P : Type 0) : Type 0 where
  pub place : P
  pub length : ℕ

pub record Memory (M P : Type 0) : Type 0 where
  -- the element or member with this number, which begins after so many cells (C17 6.5.2.1, 6.5.2.3)
  pub part : ℕ → ℕ → P → P
  -- the value of a scalar, or nothing where it is unset
  pub read : P → M → Option ℤ
  -- each scalar of an object of so many cells gets this value, or becomes unset
  pub put : P → ℕ → Option ℤ → M → M
  -- The parts from this number on, which begin after so many cells of so many, become 0.
  pub zero_rest : P → ℕ → ℕ → ℕ → M → M
  -- An object of so many cells is copied from the first place to the second; what is unset there
  -- is unset here.
  pub copy : P → P → ℕ → M → M
