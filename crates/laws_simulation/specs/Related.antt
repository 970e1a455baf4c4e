-- Places and cells. The row of cells is laid out as one structure: its first member has the static
-- objects, and member n the objects of the n-th open activation.
use Rattle.std.specs.Prelude.{◌≡◌, ◌⊎◌, ℕ, ℤ, pos, List, length, slice_get, Option, Some, None}
use Rattle.mc_value.specs.declared.int_type.IntType.{IntType}
use Rattle.mc_value.specs.declared.int_type.IntType.TheVariants as the
use Rattle.mc_typed.specs.Layout.{ObjectType, Scalar, Structure, Members, cells_all, Leads}
use Rattle.mc_meaning.specs.Stores.{Store}

-- the structure of all that stands; its number plays no part
abbrev pub whole : Members → ObjectType
whole ms = Structure 0 ms

-- _Bool has the values 0 and 1 (C17 6.2.5p2, 6.3.1.2p1); of numbers of other types nothing is asked
abbrev pub Suits : IntType → ℤ → Type 0
Suits the.Bool v = (v ≡ pos 0) ⊎ (v ≡ pos 1)
Suits _ v = Unit {0}

-- a scalar of the type is unset, or has such a number
abbrev pub MayHold : IntType → Option ℤ → Type 0
MayHold a None = Unit {0}
MayHold a (Some v) = Suits a v

-- each scalar that stands has its own cell, with its value, and one of type _Bool has 0, 1 or none
pub record Same (ms : Members) (m : Store) (row : List (Option ℤ)) : Type 0 where
  pub room : length row ≡ cells_all ms
  pub same : (p : List ℕ) (a : IntType) (n : ℕ) →
      Leads (whole ms) p (Scalar a) n → slice_get row n ≡ Some (m p)
  pub held : (p : List ℕ) (a : IntType) (n : ℕ) →
      Leads (whole ms) p (Scalar a) n → MayHold a (m p)
