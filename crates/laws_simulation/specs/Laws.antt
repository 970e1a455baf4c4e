-- What keeps places and cells alike.
use Rattle.std.specs.Prelude.{◌≡◌, ℕ, ◌+◌, ◌-◌, ◌*◌, ◌≤◌, ℤ, pos, List, [], ◌∷◌, ◌++◌, take, replicate, Option, Some, None}
use Rattle.mc_value.specs.declared.int_type.IntType.{IntType}
use Rattle.mc_typed.specs.Layout.{ObjectType, Scalar, Array, Structure, Members, cells, cells_all, count, with_last, start, Leads}
use Rattle.mc_cells.specs.Rows.{filled, moved}
use Rattle.mc_meaning.specs.Stores.{Store, put, zeroed, copied}
use Rattle.mc_typed.specs.Tree.{Program}
use Rattle.mc_typed.specs.Sound.{IsSound}
use Rattle.mc_probe.specs.Erase.{erase}
use Rattle.mc_probe.specs.Maps.{Map}
use Rattle.mc_probe.specs.Table.{instrumented}
use Rattle.mc_probe.specs.WellFormed.{IsWellFormed}
use Rattle.laws_simulation.specs.Related.{whole, MayHold, Same}

-- after how many cells of an array or a structure the part with this number begins
abbrev pub begins : ObjectType → ℕ → ℕ
begins (Scalar a) i = 0
begins (Array k t) i = i * cells t
begins (Structure k ts) i = start ts i

abbrev pub HasParts : ObjectType → Type 0
HasParts (Scalar a) = ⊥
HasParts (Array k t) = Unit {0}
HasParts (Structure k ts) = Unit {0}

-- the value can stand in each scalar of an object of the type
abbrev pub Fills : ObjectType → Option ℤ → Type 0
Fills u x = (p : List ℕ) (a : IntType) (n : ℕ) → Leads u p (Scalar a) n → MayHold a x

pub record StoresAreKept : Type 0 where
  -- a value that can stand there is put into each scalar of an object
  pub is_put : (ms : Members) (m : Store) (row : List (Option ℤ)) (p : List ℕ) (u : ObjectType)
      (n : ℕ) (x : Option ℤ) → Same ms m row → Leads (whole ms) p u n → Fills u x →
      Same ms (put p x m) (filled n (cells u) x row)
  -- an object is copied to another one of its type
  pub is_copied : (ms : Members) (m : Store) (row : List (Option ℤ)) (o p : List ℕ) (u : ObjectType)
      (from to : ℕ) → Same ms m row → Leads (whole ms) o u from → Leads (whole ms) p u to →
      Same ms (copied o p m) (moved from to (cells u) row)
  -- the parts of an array or a structure become 0 from one on
  pub is_zeroed : (ms : Members) (m : Store) (row : List (Option ℤ)) (p : List ℕ) (u : ObjectType)
      (n i : ℕ) → Same ms m row → Leads (whole ms) p u n → HasParts u → begins u i ≤ cells u →
      Same ms (zeroed p i m) (filled (n + begins u i) (cells u - begins u i) (Some (pos 0)) row)
  -- an activation begins: its objects are unset
  pub begins_unset : (ms : Members) (t : ObjectType) (m : Store) (row : List (Option ℤ)) →
      Same ms m row → Same (with_last ms t) (put (count ms ∷ []) None m)
      (row ++ replicate (cells t) None)
  -- and ends
  pub ends : (ms : Members) (t : ObjectType) (m : Store) (row : List (Option ℤ)) (base : ℕ) →
      base ≡ cells_all ms → Same (with_last ms t) m row → Same ms m (take base row)

-- the probes taken away, an instrumented program is the program
abbrev pub InstrumentedErases : Type 0
InstrumentedErases = (m : Map) (p : Program) → erase (instrumented m p).program ≡ p

-- and well-formed where the program is sound
abbrev pub InstrumentedIsWellFormed : Type 0
InstrumentedIsWellFormed = (m : Map) (p : Program) → IsSound p → IsWellFormed (instrumented m p)
