-- The store of a program: what stands in each place.
use Rattle.std.specs.Prelude.{ℕ, zero, suc, ◌+◌, ◌*◌, ℤ, pos, Bool, true, false, not, nat_lt, ◌&&◌, List, [], ◌∷◌, ◌++◌, slice_get, Option, Some, None}
use Rattle.mc_typed.specs.Layout.{ObjectType, Scalar, Array, Structure, Members, no_members, members, cells, is_below, rest}
use Rattle.mc_typed.specs.Tree.{StaticObject, Program}
use Rattle.mc_steps.specs.Memories.{Memory}

-- The path to a place: first 0 for the objects with static storage duration, or the number of an
-- open activation, the first called being 1; then the number of the object; then the indexes and
-- member numbers down to the place.
abbrev pub Path : Type 0
Path = List ℕ

-- the number at each place, or nothing where it is unset
abbrev pub Store : Type 0
Store = Path → Option ℤ

-- every place at or below the path gets this value
abbrev pub put : Path → Option ℤ → Store → Store
put p x m q = elim (is_below p q) as (λ _. Option ℤ) [ true ↦ x | false ↦ m q ]

abbrev pub starts_from : ℕ → List ℕ → Bool
starts_from i [] = false
starts_from i (j ∷ q) = not (nat_lt j i)

-- the parts of the object at the path become 0, from the part with this number on
abbrev pub zeroed : Path → ℕ → Store → Store
zeroed p i m q =
    elim (is_below p q && starts_from i (rest p q)) as (λ _. Option ℤ)
    [ true ↦ Some (pos 0) | false ↦ m q ]

-- what stands at and below the first path stands at and below the second too
abbrev pub copied : Path → Path → Store → Store
copied o p m q =
    elim (is_below p q) as (λ _. Option ℤ) [ true ↦ m (o ++ rest p q) | false ↦ m q ]

-- places and stores; cells have no part in it
abbrev pub on_places : Memory Store Path
on_places = record {
  part = λ i offset p. p ++ i ∷ [];
  read = λ p m. m p;
  put = λ p n x m. put p x m;
  zero_rest = λ p i offset n m. zeroed p i m;
  copy = λ o p n m. copied o p m;
}

-- ---- the store at the start of a test

-- with which of an object's scalars, in their order, the part at the path begins
abbrev mutual
  pub scalar_at : ObjectType → List ℕ → ℕ
  scalar_at (Scalar a) p = 0
  scalar_at (Array k t) [] = 0
  scalar_at (Array k t) (i ∷ p) = i * cells t + scalar_at t p
  scalar_at (Structure k ts) [] = 0
  scalar_at (Structure k ts) (i ∷ p) = scalar_in ts i p

  pub scalar_in : Members → ℕ → List ℕ → ℕ
  scalar_in no_members i p = 0
  scalar_in (members t ts) zero p = scalar_at t p
  scalar_in (members t ts) (suc i) p = cells t + scalar_in ts i p

abbrev pub initial_in : Option StaticObject → List ℕ → Option ℤ
initial_in None p = None
initial_in (Some s) p = slice_get s.initial (scalar_at s.object.object_type p)

-- objects with static storage duration have their initial values (C17 6.2.4p3, 6.7.9p10)
abbrev pub initial : Program → Store
initial p [] = None
initial p (k ∷ []) = None
initial p (zero ∷ k ∷ q) = initial_in (slice_get p.statics k) q
initial p (suc n ∷ k ∷ q) = None
