-- The cells of an activation and their types.
use Rattle.std.proofs.Common.{◌≡◌, ℕ, zero, suc, ◌+◌, ◌-◌, ◌<◌, ◌≤◌, ◌⊎◌, ℤ, List, [], ◌∷◌, ◌++◌, length, map, take, replicate, refl, sym, ap, subst, ◌∙◌, arith, inl, inr, length-append, Option, Some, None}
use Rattle.std.specs.Prelude.{slice_get, sum}
use Rattle.std.proofs.lemmas.Bool.{cases_lt}
use Rattle.std.proofs.lemmas.List.{length-replicate}
use Rattle.std.proofs.lemmas.List.Sums.{sum_by-cons}
use Rattle.std.proofs.lemmas.Option.{slice_get_within}
use Rattle.mc_value.specs.declared.int_type.IntType.{IntType}
use Rattle.mc_value.specs.IntTypes.{InRange}
use Rattle.mc_typed.specs.Layout.{ObjectType, Array, cells, scalars, IsPart}
use Rattle.mc_typed.specs.Tree.{Object, ParameterType, ResultType, StructureResult}
use Rattle.mc_typed.specs.Tree as t
use Rattle.mc_typed.specs.Sound.{AreLaidOut, Begins, arrays_of}
use Rattle.mc_typed.proofs.CellTypes.{length_scalars}
use Rattle.mc_steps.specs.Calls as steps
use Rattle.mc_interp.specs.declared.values.Passed.{Passed}
use Rattle.mc_interp.specs.declared.values.Passed.TheVariants as passed
use Rattle.mc_interp.specs.Stores.{passed_of}
use Rattle.mc_interp.specs.Typed.{HasTypes, IsLent, Stands}
use Rattle.mc_interp.specs.Calls.{ArePassed, IsInto, IsPassed}
use Rattle.mc_interp.specs.Entries.{StandAll}
use Rattle.mc_interp.proofs.Placed.{none_some, some_eq}

-- the types of the cells of a frame
abbrev pub frame_types : List Object → List IntType
frame_types [] = []
frame_types (o ∷ os) = scalars o.object_type ++ frame_types os

pub length_frame : (all : List ObjectType) (n : ℕ) (os : List Object) → AreLaidOut all n os →
    length (frame_types os) ≡ sum (map (λ (o : Object). o.cells) os)
length_frame all n [] h = refl
length_frame all n (o ∷ os) h =
    let d = length_frame all (n + o.cells) os h.3 in
    let e : length (scalars o.object_type) ≡ o.cells = length_scalars o.object_type ∙ sym h.1 in
    length-append (scalars o.object_type) (frame_types os) ∙ ap (λ k. k + length (frame_types os)) e ∙ ap (λ k. o.cells + k) d
    ∙ sym (sum_by-cons (λ (x : ℕ). x) o.cells (map (λ (o : Object). o.cells) os))

-- ---- one list and then another

get_before : {A : Type 0} (xs ys : List A) (k : ℕ) → k < length xs → slice_get (xs ++ ys) k ≡ slice_get xs k
get_before [] ys k l = absurd (omega (arith, l))
get_before (x ∷ xs) ys zero l = refl
get_before (x ∷ xs) ys (suc k) l = get_before xs ys k (omega (arith, l))

get_behind : {A : Type 0} (xs ys : List A) (k : ℕ) → slice_get (xs ++ ys) (length xs + k) ≡ slice_get ys k
get_behind [] ys k = ap (slice_get ys) (omega arith)
get_behind (x ∷ xs) ys k =
    let e : length (x ∷ xs) + k ≡ suc (length xs + k) = omega arith in
    ap (slice_get (x ∷ (xs ++ ys))) e ∙ get_behind xs ys k

get_taken : {A : Type 0} (n : ℕ) (xs : List A) (k : ℕ) → k < n → slice_get (take n xs) k ≡ slice_get xs k
get_taken zero xs k l = absurd (omega (arith, l))
get_taken (suc n) [] k l = refl
get_taken (suc n) (x ∷ xs) zero l = refl
get_taken (suc n) (x ∷ xs) (suc k) l = get_taken n xs k (omega (arith, l))

-- a cell that is unset
abbrev pub unset : Option ℤ
unset = None

not_set : {X : Type 0} (n k : ℕ) (v : ℤ) → slice_get (replicate n unset) k ≡ Some (Some v) → X
not_set zero k v e = none_some (Some v) e
not_set (suc n) zero v e = none_some v (some_eq unset (Some v) e)
not_set (suc n) (suc k) v e = not_set n k v e

module _ (types more : List IntType) where
  part_before : (at : ℕ) (u : ObjectType) → at + cells u ≤ length types → IsPart types at u → IsPart (types ++ more) at u
  part_before at u w h j l = get_before types more (at + j) (omega (arith, w, l)) ∙ h j l

  pub stands_before : (at : ℕ) (u : ObjectType) → Stands types at u → Stands (types ++ more) at u
  stands_before at u h = record {
    part = part_before at u h.within h.part;
    within = omega (arith, length-append types more, h.within);
  }

  pub passed_before : (x : Passed) (q : ParameterType) → IsPassed types x q → IsPassed (types ++ more) x q
  passed_before (passed.Number of word) (t.NumberParameter a) h = h
  passed_before (passed.Number of word) (t.StructureParameter u) h = absurd h
  passed_before (passed.Number of word) (t.ArrayParameter u) h = absurd h
  passed_before (passed.Structure at) (t.NumberParameter a) h = absurd h
  passed_before (passed.Structure at) (t.StructureParameter u) h = stands_before at u h
  passed_before (passed.Structure at) (t.ArrayParameter u) h = absurd h
  passed_before (passed.Array l) (t.NumberParameter a) h = absurd h
  passed_before (passed.Array l) (t.StructureParameter u) h = absurd h
  passed_before (passed.Array l) (t.ArrayParameter u) h = stands_before l.base (Array l.length u) h

  pub all_passed_before : (xs : List Passed) (qs : List ParameterType) → ArePassed types xs qs → ArePassed (types ++ more) xs qs
  all_passed_before [] [] h = tt
  all_passed_before [] (q ∷ qs) h = absurd h
  all_passed_before (x ∷ xs) [] h = absurd h
  all_passed_before (x ∷ xs) (q ∷ qs) h = (passed_before x q h.0, all_passed_before xs qs h.1)

  pub into_before : (into : Option ℕ) (r : ResultType) → IsInto types into r → IsInto (types ++ more) into r
  into_before (Some at) (t.StructureResult u) h = stands_before at u h
  into_before (Some at) t.NoResult h = absurd h
  into_before (Some at) (t.NumberResult a) h = absurd h
  into_before None (t.StructureResult u) h = tt
  into_before None t.NoResult h = tt
  into_before None (t.NumberResult a) h = tt

  -- so many cells more, all unset
  pub typed_grown : (row : List (Option ℤ)) (n : ℕ) → length more ≡ n → HasTypes types row → HasTypes (types ++ more) (row ++ replicate n unset)
  typed_grown row n e h = record {
    room = omega (arith, length-append row (replicate n unset), length-append types more, length-replicate n unset, e, h.room);
    each = λ k a v x y. go k a v x y (cases_lt k (length row));
  }
    where
      go : (k : ℕ) (a : IntType) (v : ℤ) → slice_get (types ++ more) k ≡ Some a → slice_get (row ++ replicate n unset) k ≡ Some (Some v) →
          (k < length row) ⊎ (length row ≤ k) → InRange a v
      go k a v x y (inl l) =
          h.each k a v (sym (get_before types more k (omega (arith, l, h.room))) ∙ x) (sym (get_before row (replicate n unset) k l) ∙ y)
      go k a v x y (inr l) =
          let j = k - length row in
          let s : k ≡ length row + j = omega (arith, l) in
          not_set n j v (sym (get_behind row (replicate n unset) j) ∙ subst (λ i. slice_get (row ++ replicate n unset) i ≡ Some (Some v)) s y)

  -- the first cells
  pub typed_taken : (row : List (Option ℤ)) (n : ℕ) → length types ≡ n → HasTypes (types ++ more) row → HasTypes types (take n row)
  typed_taken row n e h = record {
    room = taken_room n row (omega (arith, h.room, length-append types more, e)) ∙ sym e;
    each = λ k a v x y.
        let l : k < n = omega (arith, slice_get_within types k a x, e) in
        h.each k a v (get_before types more k (omega (arith, l, e)) ∙ x) (sym (get_taken n row k l) ∙ y);
  }
    where
      taken_room : (n : ℕ) (xs : List (Option ℤ)) → n ≤ length xs → length (take n xs) ≡ n
      taken_room zero xs l = refl
      taken_room (suc n) [] l = absurd (omega (arith, l))
      taken_room (suc n) (x ∷ xs) l = ap suc (taken_room n xs (omega (arith, l)))

-- ---- the objects of an activation

-- from a cell on the row has the types of these
abbrev HasFrom : List IntType → ℕ → List IntType → Type 0
HasFrom all at more = (j : ℕ) → j < length more → slice_get all (at + j) ≡ slice_get more j

module _ (all : List IntType) (structures : List ObjectType) (base : ℕ) where
  later_from : (at n : ℕ) (u : ObjectType) (more : List IntType) → n ≡ cells u → HasFrom all at (scalars u ++ more) → HasFrom all (at + n) more
  later_from at n u more e h j l =
      let s : at + n + j ≡ at + (length (scalars u) + j) = omega (arith, e, length_scalars u) in
      ap (slice_get all) s
      ∙ h (length (scalars u) + j) (omega (arith, length-append (scalars u) more, l))
      ∙ get_behind (scalars u) more j

  first_stands : (at : ℕ) (u : ObjectType) (more : List IntType) → HasFrom all at (scalars u ++ more) →
      at + length (scalars u ++ more) ≤ length all → Stands all at u
  first_stands at u more h w = record {
    part = λ j l.
        let k : j < length (scalars u) = omega (arith, l, length_scalars u) in
        h j (omega (arith, k, length-append (scalars u) more)) ∙ get_before (scalars u) more j k;
    within = omega (arith, w, length-append (scalars u) more, length_scalars u);
  }

  pub objects_stand : (n : ℕ) (os : List Object) → AreLaidOut structures n os → HasFrom all (base + n) (frame_types os) →
      base + n + length (frame_types os) ≤ length all → (k : ℕ) (o : Object) → slice_get os k ≡ Some o → Stands all (base + o.start) o.object_type
  objects_stand n [] h f w k o e = none_some o e
  objects_stand n (p ∷ os) h f w zero o e =
      let s = first_stands (base + n) p.object_type (frame_types os) f w in
      subst (λ (x : Object). Stands all (base + x.start) x.object_type) (some_eq p o e)
      (subst (λ i. Stands all (base + i) p.object_type) (sym h.2) s)
  objects_stand n (p ∷ os) h f w (suc k) o e =
      let a : base + n + p.cells ≡ base + (n + p.cells) = omega arith in
      objects_stand (n + p.cells) os h.3
      (subst (λ i. HasFrom all i (frame_types os)) a (later_from (base + n) p.cells p.object_type (frame_types os) h.1 f))
      (omega (arith, w, length-append (scalars p.object_type) (frame_types os), length_scalars p.object_type, h.1)) k o e

  -- the parameters among them
  pub parameters_stand : (n : ℕ) (us : List ObjectType) (os : List Object) → Begins us os → AreLaidOut structures n os →
      ((k : ℕ) (o : Object) → slice_get os k ≡ Some o → Stands all (base + o.start) o.object_type) → StandAll all base us os
  parameters_stand n [] os b h s = tt
  parameters_stand n (u ∷ us) [] b h s = absurd b
  parameters_stand n (u ∷ us) (o ∷ os) b h s = (
    h.1 ∙ ap cells b.0,
    subst (Stands all (base + o.start)) b.0 (s 0 o refl),
    parameters_stand (n + o.cells) us os b.1 h.3 (λ k p e. s (suc k) p e),
  )

-- the types of the frame come after those of the row
pub frame_from : (types : List IntType) (base : ℕ) (os : List Object) → length types ≡ base → HasFrom (types ++ frame_types os) (base + 0) (frame_types os)
frame_from types base os e j l =
    let s : base + 0 + j ≡ length types + j = omega (arith, e) in
    ap (slice_get (types ++ frame_types os)) s ∙ get_behind types (frame_types os) j

-- ---- the arrays that are passed

pub arrays_lent : (types : List IntType) (xs : List Passed) (qs : List ParameterType) → ArePassed types xs qs →
    (k : ℕ) (u : ObjectType) → slice_get (arrays_of qs) k ≡ Some u → IsLent types (slice_get (steps.lent_of (map passed_of xs)) k) u
arrays_lent types [] [] h k u e = none_some u e
arrays_lent types [] (q ∷ qs) h k u e = absurd h
arrays_lent types (x ∷ xs) [] h k u e = absurd h
arrays_lent types (passed.Number of word ∷ xs) (t.NumberParameter a ∷ qs) h k u e = arrays_lent types xs qs h.1 k u e
arrays_lent types (passed.Number of word ∷ xs) (t.StructureParameter v ∷ qs) h k u e = absurd h.0
arrays_lent types (passed.Number of word ∷ xs) (t.ArrayParameter v ∷ qs) h k u e = absurd h.0
arrays_lent types (passed.Structure at ∷ xs) (t.NumberParameter a ∷ qs) h k u e = absurd h.0
arrays_lent types (passed.Structure at ∷ xs) (t.StructureParameter v ∷ qs) h k u e = arrays_lent types xs qs h.1 k u e
arrays_lent types (passed.Structure at ∷ xs) (t.ArrayParameter v ∷ qs) h k u e = absurd h.0
arrays_lent types (passed.Array l ∷ xs) (t.NumberParameter a ∷ qs) h k u e = absurd h.0
arrays_lent types (passed.Array l ∷ xs) (t.StructureParameter v ∷ qs) h k u e = absurd h.0
arrays_lent types (passed.Array l ∷ xs) (t.ArrayParameter v ∷ qs) h zero u e =
    subst (λ w. Stands types l.base (Array l.length w)) (some_eq v u e) h.0
arrays_lent types (passed.Array l ∷ xs) (t.ArrayParameter v ∷ qs) h (suc k) u e = arrays_lent types xs qs h.1 k u e
