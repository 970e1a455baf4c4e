-- Types of objects, and where the parts of an object stand.
use Rattle.std.specs.Prelude.{◌≡◌, ℕ, zero, suc, ◌+◌, ◌*◌, ◌<◌, max, Bool, true, false, if◌then◌else◌, List, [], ◌∷◌, ◌++◌, slice_get, Option, Some, None}
use Rattle.mc_value.specs.declared.int_type.IntType.{IntType}
use Rattle.mc_value.specs.declared.object_type.ObjType.{ObjType}
use Rattle.mc_value.specs.declared.object_type.ObjType.TheOpen.{ObjType-F}
use Rattle.mc_value.specs.declared.object_type.ObjType.TheFolds.{fold-ObjType}

-- ---- types

-- the type of an object: an integer type, so many elements of one type, or a structure type by its
-- number with the types of its members in their order (C17 6.2.5)
mutual
  pub data ObjectType : Type 0 where
    Scalar : IntType → ObjectType
    Array : ℕ → ObjectType → ObjectType
    Structure : ℕ → Members → ObjectType

  pub data Members : Type 0 where
    no_members : Members
    members : ObjectType → Members → Members

abbrev pub members_from : List ObjectType → Members
members_from [] = no_members
members_from (t ∷ ts) = members t (members_from ts)

abbrev pub node_type : ObjType-F ObjectType → ObjectType
node_type (ObjType-F.Int a) = Scalar a
node_type (ObjType-F.Array element length) = Array length element.value
node_type (ObjType-F.Struct number parts) = Structure number (members_from parts.value.items)

-- what a type of the program stands for
abbrev pub object_type_of : ObjType → ObjectType
object_type_of = fold-ObjType ObjectType node_type

-- ---- sizes

-- of how many scalars an object of the type consists
abbrev mutual
  pub cells : ObjectType → ℕ
  cells (Scalar a) = 1
  cells (Array n t) = n * cells t
  cells (Structure k ts) = cells_all ts

  pub cells_all : Members → ℕ
  cells_all no_members = 0
  cells_all (members t ts) = cells t + cells_all ts

-- how many arrays and structures stand inside one another
abbrev mutual
  pub nesting : ObjectType → ℕ
  nesting (Scalar a) = 0
  nesting (Array n t) = nesting t + 1
  nesting (Structure k ts) = nesting_all ts + 1

  pub nesting_all : Members → ℕ
  nesting_all no_members = 0
  nesting_all (members t ts) = max (nesting t) (nesting_all ts)

-- ---- members

abbrev pub count : Members → ℕ
count no_members = 0
count (members t ts) = suc (count ts)

-- the type of the member with this number
abbrev pub member : Members → ℕ → Option ObjectType
member no_members i = None
member (members t ts) zero = Some t
member (members t ts) (suc i) = member ts i

-- after how many cells that member begins (C17 6.7.2.1p15)
abbrev pub start : Members → ℕ → ℕ
start no_members i = 0
start (members t ts) zero = 0
start (members t ts) (suc i) = cells t + start ts i

-- the members with one more after the last
abbrev pub with_last : Members → ObjectType → Members
with_last no_members u = members u no_members
with_last (members t ts) u = members t (with_last ts u)

-- ---- places

-- A path of indexes and member numbers leads from an object of the first type to an object of the
-- type u in it, which begins so many cells after the first one begins (C17 6.2.5p20).
abbrev mutual
  pub Leads : ObjectType → List ℕ → ObjectType → ℕ → Type 0
  Leads (Scalar a) [] u n = (Scalar a ≡ u) × (n ≡ 0)
  Leads (Scalar a) (i ∷ p) u n = ⊥
  Leads (Array k t) [] u n = (Array k t ≡ u) × (n ≡ 0)
  Leads (Array k t) (i ∷ p) u n = (m : ℕ) × (i < k) × Leads t p u m × (n ≡ i * cells t + m)
  Leads (Structure k ts) [] u n = (Structure k ts ≡ u) × (n ≡ 0)
  Leads (Structure k ts) (i ∷ p) u n = LeadsIn ts i p u n

  -- the same from the members of a structure, through the member i
  pub LeadsIn : Members → ℕ → List ℕ → ObjectType → ℕ → Type 0
  LeadsIn no_members i p u n = ⊥
  LeadsIn (members t ts) zero p u n = Leads t p u n
  LeadsIn (members t ts) (suc i) p u n = (m : ℕ) × LeadsIn ts i p u m × (n ≡ cells t + m)

-- ---- paths

abbrev pub same : ℕ → ℕ → Bool
same zero zero = true
same zero (suc j) = false
same (suc i) zero = false
same (suc i) (suc j) = same i j

-- the second path is the first or goes on from it
abbrev pub is_below : List ℕ → List ℕ → Bool
is_below [] q = true
is_below (i ∷ p) [] = false
is_below (i ∷ p) (j ∷ q) = if same i j then is_below p q else false

-- how it goes on
abbrev pub rest : List ℕ → List ℕ → List ℕ
rest [] q = q
rest (i ∷ p) [] = []
rest (i ∷ p) (j ∷ q) = rest p q

-- ---- the types of an object's scalars

abbrev pub repeated : {A : Type 0} → ℕ → List A → List A
repeated zero xs = []
repeated (suc n) xs = xs ++ repeated n xs

-- the type of each scalar, in the order of the cells
abbrev mutual
  pub scalars : ObjectType → List IntType
  scalars (Scalar a) = a ∷ []
  scalars (Array n t) = repeated n (scalars t)
  scalars (Structure k ts) = scalars_all ts

  pub scalars_all : Members → List IntType
  scalars_all no_members = []
  scalars_all (members t ts) = scalars t ++ scalars_all ts

-- the cells from one on are those of an object of the type t
abbrev pub IsPart : List IntType → ℕ → ObjectType → Type 0
IsPart all at t = (j : ℕ) → j < cells t → slice_get all (at + j) ≡ slice_get (scalars t) j
