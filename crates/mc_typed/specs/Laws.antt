-- What follows from the definitions of layouts and of constant expressions.
use Rattle.std.specs.Prelude.{◌≡◌, ℕ, ◌+◌, ◌*◌, ◌<◌, ◌≤◌, ℤ, ◌⊎◌, true, List, [], ◌++◌, length, slice_get, Some, option_and_then}
use Rattle.mc_value.specs.declared.int_type.IntType.{IntType}
use Rattle.mc_value.specs.declared.operators.UnOp.{UnOp}
use Rattle.mc_value.specs.IntTypes.{InRange}
use Rattle.mc_value.specs.Conversions.{promoted}
use Rattle.mc_value.specs.Arithmetic.{unary_of}
use Rattle.mc_typed.specs.declared.operators.Operator.{Operator}
use Rattle.mc_typed.specs.Operators.{operated}
use Rattle.mc_typed.specs.Constants.{unless_trap, unary_value, binary_value, constant_value}
use Rattle.mc_typed.specs.Tree.{Expression}
use Rattle.mc_typed.specs.Sound.{Scope, type_of, HasOperands, IsExpression}
use Rattle.mc_typed.specs.Layout.{ObjectType, Scalar, Array, Structure, Members, cells, cells_all, count, member, start, with_last, Leads, LeadsIn, is_below, rest, scalars, IsPart}

-- a part of an object lies within it
abbrev pub PartsLieWithin : Type 0
PartsLieWithin =
    (t : ObjectType) (p : List ℕ) (u : ObjectType) (n : ℕ) → Leads t p u n → n + cells u ≤ cells t

-- The empty path leads to the object itself, a member's number to that member, and a path may go on
-- from its end.
pub record PathsLeadOn : Type 0 where
  pub here : (t : ObjectType) → Leads t [] t 0
  pub into :
      (ms : Members) (i : ℕ) (u : ObjectType) → member ms i ≡ Some u →
      LeadsIn ms i [] u (start ms i)
  pub joined :
      (t : ObjectType) (p : List ℕ) (u : ObjectType) (n : ℕ) (q : List ℕ) (r : ObjectType) (m : ℕ) →
      Leads t p u n → Leads u q r m → Leads t (p ++ q) r (n + m)
  pub split :
      (t : ObjectType) (p : List ℕ) (u : ObjectType) (n : ℕ) (q : List ℕ) (a : IntType) (l : ℕ) →
      Leads t p u n → Leads t q (Scalar a) l → is_below p q ≡ true →
      (m : ℕ) × Leads u (rest p q) (Scalar a) m × (l ≡ n + m)

-- a scalar that has one of an object's cells is a part of that object
abbrev pub ScalarsAreApart : Type 0
ScalarsAreApart =
    (t : ObjectType) (p : List ℕ) (u : ObjectType) (n : ℕ) (q : List ℕ) (a : IntType) (l : ℕ) →
    Leads t p u n → Leads t q (Scalar a) l → n ≤ l → l < n + cells u → is_below p q ≡ true

-- the path through the members with one more at their end: it goes through an old member or through
-- the last
abbrev pub GoesThroughLast : Members → ObjectType → ℕ → List ℕ → ObjectType → ℕ → Type 0
GoesThroughLast ms t i p u n =
    ((i < count ms) × LeadsIn ms i p u n)
    ⊎ ((i ≡ count ms) × (m : ℕ) × Leads t p u m × (n ≡ cells_all ms + m))

pub record MembersCanBeAdded : Type 0 where
  pub old : (ms : Members) (t : ObjectType) (i : ℕ) (p : List ℕ) (u : ObjectType) (n : ℕ) →
      LeadsIn ms i p u n → LeadsIn (with_last ms t) i p u n
  pub last : (ms : Members) (t : ObjectType) (p : List ℕ) (u : ObjectType) (n : ℕ) →
      Leads t p u n → LeadsIn (with_last ms t) (count ms) p u (cells_all ms + n)
  pub either : (ms : Members) (t : ObjectType) (i : ℕ) (p : List ℕ) (u : ObjectType) (n : ℕ) →
      LeadsIn (with_last ms t) i p u n → GoesThroughLast ms t i p u n
  pub room : (ms : Members) (t : ObjectType) → cells_all (with_last ms t) ≡ cells_all ms + cells t

-- an element of an array, a member of a structure and a scalar have the types of their cells
pub record CellsHaveTypes : Type 0 where
  pub number : (t : ObjectType) → length (scalars t) ≡ cells t
  pub item : (all : List IntType) (at k : ℕ) (t : ObjectType) (i : ℕ) →
      IsPart all at (Array k t) → i < k → IsPart all (at + i * cells t) t
  pub member_of : (all : List IntType) (at k : ℕ) (ms : Members) (i : ℕ) (u : ObjectType) →
      IsPart all at (Structure k ms) → member ms i ≡ Some u → IsPart all (at + start ms i) u
  pub scalar :
      (all : List IntType) (at : ℕ) (a : IntType) → IsPart all at (Scalar a) →
      slice_get all at ≡ Some a

-- In a sound program the value of a constant expression is one of its type, so each operand is one
-- of its operator, and none is refused.
pub record ConstantsAreValues : Type 0 where
  pub within :
      (c : Scope) (e : Expression) (v : ℤ) → IsExpression e c → constant_value e ≡ Some v →
      InRange (type_of e) v
  pub unary :
      (c : Scope) (operator : UnOp) (a : IntType) (e : Expression) → IsExpression e c →
      promoted a ≡ a → type_of e ≡ a →
      unary_value operator a (constant_value e)
      ≡ option_and_then (λ x. unless_trap (unary_of operator a x)) (constant_value e)
  pub binary :
      (c : Scope) (operator : Operator) (a : IntType) (e f : Expression) → IsExpression e c →
      IsExpression f c → HasOperands operator a (type_of e) (type_of f) →
      binary_value operator a (constant_value e) (constant_value f)
      ≡ option_and_then (λ x. option_and_then (λ y. unless_trap (operated operator a x y))
      (constant_value f)) (constant_value e)
