-- The scalars of an object's cells.
use Rattle.std.proofs.Common.{◌≡◌, ℕ, zero, suc, ◌+◌, ◌*◌, ◌<◌, ◌≤◌, List, [], ◌∷◌, ◌++◌, length, refl, ap, ◌∙◌, subst, arith, Option, Some, None, length-append}
use Rattle.std.specs.Prelude.{slice_get}
use Rattle.mc_value.specs.declared.int_type.IntType.{IntType}
use Rattle.mc_typed.specs.Layout.{ObjectType, Scalar, Array, Structure, Members, no_members, members, cells, cells_all, member, start, repeated, scalars, scalars_all, IsPart}
use Rattle.mc_typed.specs.Laws.{CellsHaveTypes}
use Rattle.mc_typed.proofs.Places.{block_fits}

abbrev from : {A : Type 0} → A → Option A → A
from d None = d
from d (Some x) = x

abbrev IsNone' : {A : Type 0} → Option A → Type 0
IsNone' None = Unit {0}
IsNone' (Some x) = ⊥

get_old : {A : Type 0} (r s : List A) (k : ℕ) → k < length r → slice_get (r ++ s) k ≡ slice_get r k
get_old [] s k a = absurd (omega (arith, a))
get_old (y ∷ r) s zero a = refl
get_old (y ∷ r) s (suc k) a = get_old r s k (omega (arith, a))

get_after : {A : Type 0} (r s : List A) (k : ℕ) → slice_get (r ++ s) (length r + k) ≡ slice_get s k
get_after [] s k = let e : 0 + k ≡ k = omega arith in rw e refl
get_after (y ∷ r) s k = let e : suc (length r) + k ≡ suc (length r + k) = omega arith in rw e (get_after r s k)

length_repeated : {A : Type 0} (n : ℕ) (xs : List A) → length (repeated n xs) ≡ n * length xs
length_repeated zero xs = omega arith
length_repeated (suc n) xs = length-append xs (repeated n xs) ∙ omega (arith, length_repeated n xs)

mutual
  pub length_scalars : (t : ObjectType) → length (scalars t) ≡ cells t
  length_scalars (Scalar a) = refl
  length_scalars (Array k t) = length_repeated k (scalars t) ∙ ap (λ c. k * c) (length_scalars t)
  length_scalars (Structure number ts) = length_scalars_all ts

  pub length_scalars_all : (ts : Members) → length (scalars_all ts) ≡ cells_all ts
  length_scalars_all no_members = refl
  length_scalars_all (members t ts) = length-append (scalars t) (scalars_all ts) ∙ omega (arith, length_scalars t, length_scalars_all ts)

get_repeated : {A : Type 0} (n : ℕ) (xs : List A) (c i j : ℕ) → length xs ≡ c → i < n → j < c → slice_get (repeated n xs) (i * c + j) ≡ slice_get xs j
get_repeated zero xs c i j e l m = absurd (omega (arith, l))
get_repeated (suc n) xs c zero j e l m = let z : 0 * c + j ≡ j = omega arith in rw z (get_old xs (repeated n xs) j (omega (arith, m, e)))
get_repeated (suc n) xs c (suc i) j e l m =
    let z : suc i * c + j ≡ length xs + (i * c + j) = omega (arith, e) in
    rw z (get_after xs (repeated n xs) (i * c + j) ∙ get_repeated n xs c i j e (omega (arith, l)) m)

get_member : (ts : Members) (i : ℕ) (u : ObjectType) (j : ℕ) → member ts i ≡ Some u → j < cells u → slice_get (scalars_all ts) (start ts i + j) ≡ slice_get (scalars u) j
get_member no_members i u j e l = absurd (subst IsNone' e tt)
get_member (members t ts) zero u j e l =
    let s : t ≡ u = ap (from t) e in
    let z : 0 + j ≡ j = omega arith in
    rw z (subst (λ x. slice_get (scalars t ++ scalars_all ts) j ≡ slice_get (scalars x) j) s (get_old (scalars t) (scalars_all ts) j (omega (arith, length_scalars t, ap cells s, l))))
get_member (members t ts) (suc i) u j e l =
    let z : cells t + start ts i + j ≡ length (scalars t) + (start ts i + j) = omega (arith, length_scalars t) in
    rw z (get_after (scalars t) (scalars_all ts) (start ts i + j) ∙ get_member ts i u j e l)

within_member : (ts : Members) (i : ℕ) (u : ObjectType) → member ts i ≡ Some u → start ts i + cells u ≤ cells_all ts
within_member no_members i u e = absurd (subst IsNone' e tt)
within_member (members t ts) zero u e = let s : cells t ≡ cells u = ap (λ o. cells (from t o)) e in omega (arith, s)
within_member (members t ts) (suc i) u e = omega (arith, within_member ts i u e)

-- an item of an array and a member of a structure have their scalars
pub part_item : (all : List IntType) (at k : ℕ) (t : ObjectType) (i : ℕ) → IsPart all at (Array k t) → i < k → IsPart all (at + i * cells t) t
part_item all at k t i h l j m =
    let f = block_fits (cells t) i k l in
    let z : at + i * cells t + j ≡ at + (i * cells t + j) = omega arith in
    rw z (h (i * cells t + j) (omega (arith, f, m)) ∙ get_repeated k (scalars t) (cells t) i j (length_scalars t) l m)

pub part_member : (all : List IntType) (at number : ℕ) (ts : Members) (i : ℕ) (u : ObjectType) → IsPart all at (Structure number ts) → member ts i ≡ Some u → IsPart all (at + start ts i) u
part_member all at number ts i u h e j m =
    let z : at + start ts i + j ≡ at + (start ts i + j) = omega arith in
    rw z (h (start ts i + j) (omega (arith, within_member ts i u e, m)) ∙ get_member ts i u j e m)

pub part_scalar : (all : List IntType) (at : ℕ) (a : IntType) → IsPart all at (Scalar a) → slice_get all at ≡ Some a
part_scalar all at a h = let z : at + 0 ≡ at = omega arith in subst (λ x. slice_get all x ≡ Some a) z (h 0 (omega arith))

pub have_types : CellsHaveTypes
have_types = record { number = length_scalars; item = part_item; member_of = part_member; scalar = part_scalar }
