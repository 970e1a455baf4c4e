-- An activation begins and ends alike on places and on cells.
use Rattle.std.proofs.Common.{◌≡◌, ◌∙◌, refl, sym, ap, subst, ℕ, zero, suc, ◌+◌, ◌<◌, ◌≤◌, ℤ, List, [], ◌∷◌, ◌++◌, length, map, sum, take, replicate, Option, Some, None, arith, length-append}
use Rattle.std.specs.Prelude.{slice_get, unwrap_or}
use Rattle.std.proofs.lemmas.List.{length-replicate}
use Rattle.std.proofs.lemmas.List.Sums.{sum_by-cons}
use Rattle.std.proofs.lemmas.Option.{slice_get_past}
use Rattle.mc_typed.specs.Layout.{ObjectType, Scalar, Array, Structure, Members, no_members, members, cells, cells_all, count, member, start, with_last}
use Rattle.mc_typed.specs.Tree.{ParameterType, NumberParameter, StructureParameter, ArrayParameter, Object}
use Rattle.mc_typed.specs.Sound.{AreLaidOut, values_of, arrays_of, Begins}
use Rattle.mc_typed.proofs.Places.{still_in, last_in, begins}
use Rattle.mc_steps.specs.Calls.{Passed, PassedNumber, PassedStructure, PassedArray, passed_to, lent_of}
use Rattle.mc_steps.specs.Memories.{Lent}
use Rattle.mc_meaning.specs.Stores.{Path, Store, put, on_places}
use Rattle.mc_meaning.specs.Calls.{objects_from}
use Rattle.mc_probe.specs.Flat.{Flat, flat}
use Rattle.mc_probe.specs.Calls.{targets}
use Rattle.laws_simulation.specs.Follows.{AreOne}
use Rattle.laws_simulation.specs.Activations.{At, AreLent, IsPassed, ArePassed}
use Rattle.laws_simulation.proofs.Values.{number_fills}
use Rattle.laws_simulation.proofs.Keep.{same_put, same_copy, same_enter}
use Rattle.laws_simulation.proofs.Rows.{get_old, get_take}
use Rattle.laws_simulation.proofs.Follow.{some_same_value}
use Rattle.laws_simulation.proofs.Expressions.{none_some}

-- ---- the objects of a function as one structure

abbrev pub locals_of : List Object → Members
locals_of [] = no_members
locals_of (o ∷ os) = members o.object_type (locals_of os)

abbrev pub frame : List Object → ObjectType
frame os = Structure 0 (locals_of os)

pub local_member : (os : List Object) (k : ℕ) (o : Object) → slice_get os k ≡ Some o → member (locals_of os) k ≡ Some o.object_type
local_member [] k o e = none_some o e
local_member (x ∷ os) zero o e = ap (λ (z : Object). Some z.object_type) (some_same_value x o e)
local_member (x ∷ os) (suc k) o e = local_member os k o e

pub laid_start : (ss : List ObjectType) (base : ℕ) (os : List Object) (k : ℕ) (o : Object) → AreLaidOut ss base os → slice_get os k ≡ Some o → o.start ≡ base + start (locals_of os) k
laid_start ss base [] k o h e = none_some o e
laid_start ss base (x ∷ os) zero o h e =
    let s : x.start ≡ o.start = ap (λ (z : Object). z.start) (some_same_value x o e) in omega (arith, s, h.2)
laid_start ss base (x ∷ os) (suc k) o h e =
    let s = laid_start ss (base + x.cells) os k o h.3 e in omega (arith, s, h.1)

pub laid_cells : (ss : List ObjectType) (base : ℕ) (os : List Object) (k : ℕ) (o : Object) → AreLaidOut ss base os → slice_get os k ≡ Some o → o.cells ≡ cells o.object_type
laid_cells ss base [] k o h e = none_some o e
laid_cells ss base (x ∷ os) zero o h e = subst (λ (z : Object). z.cells ≡ cells z.object_type) (some_same_value x o e) h.1
laid_cells ss base (x ∷ os) (suc k) o h e = laid_cells ss (base + x.cells) os k o h.3 e

pub frame_size : (ss : List ObjectType) (base : ℕ) (os : List Object) → AreLaidOut ss base os → sum (map (λ o. o.cells) os) ≡ cells_all (locals_of os)
frame_size ss base [] h = refl
frame_size ss base (x ∷ os) h =
    let s = frame_size ss (base + x.cells) os h.3 in
    sum_by-cons (λ (k : ℕ). k) x.cells (map (λ o. o.cells) os) ∙ omega (arith, s, h.1)

pub object_at : (ms : Members) (ss : List ObjectType) (os : List Object) (k : ℕ) (o : Object) → AreLaidOut ss 0 os → slice_get os k ≡ Some o → At (with_last ms (frame os)) o.object_type (count ms ∷ k ∷ []) (cells_all ms + o.start)
object_at ms ss os k o h e =
    let s : o.start ≡ start (locals_of os) k = omega (arith, laid_start ss 0 os k o h e) in
    subst (λ (z : ℕ). At (with_last ms (frame os)) o.object_type (count ms ∷ k ∷ []) (cells_all ms + z)) (sym s)
    (tt, last_in ms (frame os) (k ∷ []) o.object_type (start (locals_of os) k) (begins (locals_of os) k o.object_type (local_member os k o e)))

-- ---- what stood before

pub still_at : (ms : Members) (t u : ObjectType) (p : Path) (n : ℕ) → At ms u p n → At (with_last ms t) u p n
still_at ms t u [] n h = absurd h.0
still_at ms t u (i ∷ p) n h = (tt, still_in ms t i p u n h.1)

still_lent : (ms : Members) (t u : ObjectType) (x : Lent Path) (y : Lent ℕ) → AreLent ms u x y → AreLent (with_last ms t) u x y
still_lent ms t u x y h = record { length = h.length; place = still_at ms t (Array x.length u) x.place y.place h.place }

pub still_passed : (ms : Members) (t : ObjectType) (ps : List ParameterType) (xs : List (Passed Path)) (ys : List (Passed ℕ)) → ArePassed ms ps xs ys → ArePassed (with_last ms t) ps xs ys
still_passed ms t [] [] [] h = tt
still_passed ms t [] [] (y ∷ ys) h = absurd h
still_passed ms t [] (x ∷ xs) [] h = absurd h
still_passed ms t [] (x ∷ xs) (y ∷ ys) h = absurd h
still_passed ms t (a ∷ ps) [] [] h = absurd h
still_passed ms t (a ∷ ps) [] (y ∷ ys) h = absurd h
still_passed ms t (a ∷ ps) (x ∷ xs) [] h = absurd h
still_passed ms t (a ∷ ps) (x ∷ xs) (y ∷ ys) h = (one a x y h.0, still_passed ms t ps xs ys h.1)
  where
    one : (a : ParameterType) (x : Passed Path) (y : Passed ℕ) → IsPassed ms a x y → IsPassed (with_last ms t) a x y
    one (NumberParameter a) (PassedNumber v) (PassedNumber w) h = h
    one (NumberParameter a) (PassedNumber v) (PassedStructure w) h = absurd h
    one (NumberParameter a) (PassedNumber v) (PassedArray w) h = absurd h
    one (NumberParameter a) (PassedStructure v) y h = absurd h
    one (NumberParameter a) (PassedArray v) y h = absurd h
    one (StructureParameter u) (PassedStructure p) (PassedStructure n) h = still_at ms t u p n h
    one (StructureParameter u) (PassedStructure p) (PassedNumber w) h = absurd h
    one (StructureParameter u) (PassedStructure p) (PassedArray w) h = absurd h
    one (StructureParameter u) (PassedNumber v) y h = absurd h
    one (StructureParameter u) (PassedArray v) y h = absurd h
    one (ArrayParameter u) (PassedArray v) (PassedArray w) h = still_lent ms t u v w h
    one (ArrayParameter u) (PassedArray v) (PassedNumber w) h = absurd h
    one (ArrayParameter u) (PassedArray v) (PassedStructure w) h = absurd h
    one (ArrayParameter u) (PassedNumber v) y h = absurd h
    one (ArrayParameter u) (PassedStructure v) y h = absurd h

-- ---- parameters

module _ (new : Members) (rooms activation base : ℕ) where
  -- the objects from number k on stand where they have to
  abbrev pub Stand : ℕ → List Object → Type 0
  Stand k os =
      (j : ℕ) (o : Object) → slice_get os j ≡ Some o →
      At new o.object_type (activation ∷ (k + j) ∷ []) (base + o.start) × (o.cells ≡ cells o.object_type)

  next_stand : (k : ℕ) (o : Object) (os : List Object) → Stand k (o ∷ os) → Stand (suc k) os
  next_stand k o os h j x e =
      subst (λ (z : ℕ). At new x.object_type (activation ∷ z ∷ []) (base + x.start) × (x.cells ≡ cells x.object_type)) (omega arith) (h (suc j) x e)

  first_at : (k : ℕ) (o : Object) (os : List Object) (u : ObjectType) → Stand k (o ∷ os) → o.object_type ≡ u → At new u (activation ∷ k ∷ []) (base + o.start) × (o.cells ≡ cells u)
  first_at k o os u h e =
      subst (λ (z : ObjectType). At new z (activation ∷ k ∷ []) (base + o.start) × (o.cells ≡ cells z)) e
      (subst (λ (z : ℕ). At new o.object_type (activation ∷ z ∷ []) (base + o.start) × (o.cells ≡ cells o.object_type)) (omega arith) (h 0 o refl))

  pub bound : (ps : List ParameterType) (os : List Object) (k : ℕ) (xs : List (Passed Path)) (ys : List (Passed ℕ)) (m : Store) (n : Flat) → Stand k os → Begins (values_of ps) os → ArePassed new ps xs ys → AreOne new rooms m n → AreOne new rooms (passed_to on_places (objects_from activation k os) xs m) (passed_to flat (targets base os) ys n)
  bound [] os k [] [] m n s b h r = r
  bound [] os k [] (y ∷ ys) m n s b h r = absurd h
  bound [] os k (x ∷ xs) [] m n s b h r = absurd h
  bound [] os k (x ∷ xs) (y ∷ ys) m n s b h r = absurd h
  bound (a ∷ ps) os k [] [] m n s b h r = absurd h
  bound (a ∷ ps) os k [] (y ∷ ys) m n s b h r = absurd h
  bound (a ∷ ps) os k (x ∷ xs) [] m n s b h r = absurd h
  bound (NumberParameter a ∷ ps) [] k (x ∷ xs) (y ∷ ys) m n s b h r = absurd b
  bound (NumberParameter a ∷ ps) (o ∷ os) k (PassedNumber v ∷ xs) (PassedNumber w ∷ ys) m n s b h r =
      let f = first_at k o os (Scalar a) s b.0 in
      let one : AreOne new rooms (on_places.put (activation ∷ k ∷ []) 1 (Some v) m) (flat.put (base + o.start) 1 (Some w) n) =
      subst (λ (z : ℤ). AreOne new rooms (on_places.put (activation ∷ k ∷ []) 1 (Some v) m) (flat.put (base + o.start) 1 (Some z) n)) h.0.0
      (record { same = same_put new m n.cells (activation ∷ k ∷ []) (Scalar a) (base + o.start) (Some v) r.same f.0.1 (number_fills a v h.0.1); room = r.room }) in
      bound ps os (suc k) xs ys _ _ (next_stand k o os s) b.1 h.1 one
  bound (NumberParameter a ∷ ps) (o ∷ os) k (PassedNumber v ∷ xs) (PassedStructure w ∷ ys) m n s b h r = absurd h.0
  bound (NumberParameter a ∷ ps) (o ∷ os) k (PassedNumber v ∷ xs) (PassedArray w ∷ ys) m n s b h r = absurd h.0
  bound (NumberParameter a ∷ ps) (o ∷ os) k (PassedStructure v ∷ xs) (y ∷ ys) m n s b h r = absurd h.0
  bound (NumberParameter a ∷ ps) (o ∷ os) k (PassedArray v ∷ xs) (y ∷ ys) m n s b h r = absurd h.0
  bound (StructureParameter u ∷ ps) [] k (x ∷ xs) (y ∷ ys) m n s b h r = absurd b
  bound (StructureParameter u ∷ ps) (o ∷ os) k (PassedStructure p ∷ xs) (PassedStructure l ∷ ys) m n s b h r =
      let f = first_at k o os u s b.0 in
      let one : AreOne new rooms (on_places.copy p (activation ∷ k ∷ []) 0 m) (flat.copy l (base + o.start) o.cells n) =
      subst (λ (z : ℕ). AreOne new rooms (on_places.copy p (activation ∷ k ∷ []) 0 m) (flat.copy l (base + o.start) z n)) (sym f.1)
      (record { same = same_copy new m n.cells p (activation ∷ k ∷ []) u l (base + o.start) r.same h.0.1 f.0.1; room = r.room }) in
      bound ps os (suc k) xs ys _ _ (next_stand k o os s) b.1 h.1 one
  bound (StructureParameter u ∷ ps) (o ∷ os) k (PassedStructure v ∷ xs) (PassedNumber w ∷ ys) m n s b h r = absurd h.0
  bound (StructureParameter u ∷ ps) (o ∷ os) k (PassedStructure v ∷ xs) (PassedArray w ∷ ys) m n s b h r = absurd h.0
  bound (StructureParameter u ∷ ps) (o ∷ os) k (PassedNumber v ∷ xs) (y ∷ ys) m n s b h r = absurd h.0
  bound (StructureParameter u ∷ ps) (o ∷ os) k (PassedArray v ∷ xs) (y ∷ ys) m n s b h r = absurd h.0
  bound (ArrayParameter u ∷ ps) [] k (PassedArray v ∷ xs) (PassedArray w ∷ ys) m n s b h r = bound ps [] k xs ys m n s b h.1 r
  bound (ArrayParameter u ∷ ps) (o ∷ os) k (PassedArray v ∷ xs) (PassedArray w ∷ ys) m n s b h r = bound ps (o ∷ os) k xs ys m n s b h.1 r
  bound (ArrayParameter u ∷ ps) os k (PassedArray v ∷ xs) (PassedNumber w ∷ ys) m n s b h r = absurd h.0
  bound (ArrayParameter u ∷ ps) os k (PassedArray v ∷ xs) (PassedStructure w ∷ ys) m n s b h r = absurd h.0
  bound (ArrayParameter u ∷ ps) os k (PassedNumber v ∷ xs) (y ∷ ys) m n s b h r = absurd h.0
  bound (ArrayParameter u ∷ ps) os k (PassedStructure v ∷ xs) (y ∷ ys) m n s b h r = absurd h.0

-- the arrays that are lent
pub lent_passed : (ms : Members) (ps : List ParameterType) (xs : List (Passed Path)) (ys : List (Passed ℕ)) → ArePassed ms ps xs ys → (k : ℕ) (u : ObjectType) → slice_get (arrays_of ps) k ≡ Some u → (x : Lent Path) × (y : Lent ℕ) × (slice_get (lent_of xs) k ≡ Some x) × (slice_get (lent_of ys) k ≡ Some y) × AreLent ms u x y
lent_passed ms [] xs ys h k u e = none_some u e
lent_passed ms (a ∷ ps) [] [] h k u e = absurd h
lent_passed ms (a ∷ ps) [] (y ∷ ys) h k u e = absurd h
lent_passed ms (a ∷ ps) (x ∷ xs) [] h k u e = absurd h
lent_passed ms (NumberParameter a ∷ ps) (PassedNumber v ∷ xs) (PassedNumber w ∷ ys) h k u e = lent_passed ms ps xs ys h.1 k u e
lent_passed ms (NumberParameter a ∷ ps) (PassedNumber v ∷ xs) (PassedStructure w ∷ ys) h k u e = absurd h.0
lent_passed ms (NumberParameter a ∷ ps) (PassedNumber v ∷ xs) (PassedArray w ∷ ys) h k u e = absurd h.0
lent_passed ms (NumberParameter a ∷ ps) (PassedStructure v ∷ xs) (y ∷ ys) h k u e = absurd h.0
lent_passed ms (NumberParameter a ∷ ps) (PassedArray v ∷ xs) (y ∷ ys) h k u e = absurd h.0
lent_passed ms (StructureParameter t ∷ ps) (PassedStructure v ∷ xs) (PassedStructure w ∷ ys) h k u e = lent_passed ms ps xs ys h.1 k u e
lent_passed ms (StructureParameter t ∷ ps) (PassedStructure v ∷ xs) (PassedNumber w ∷ ys) h k u e = absurd h.0
lent_passed ms (StructureParameter t ∷ ps) (PassedStructure v ∷ xs) (PassedArray w ∷ ys) h k u e = absurd h.0
lent_passed ms (StructureParameter t ∷ ps) (PassedNumber v ∷ xs) (y ∷ ys) h k u e = absurd h.0
lent_passed ms (StructureParameter t ∷ ps) (PassedArray v ∷ xs) (y ∷ ys) h k u e = absurd h.0
lent_passed ms (ArrayParameter t ∷ ps) (PassedArray v ∷ xs) (PassedArray w ∷ ys) h zero u e =
    (v, w, refl, refl, subst (λ (z : ObjectType). AreLent ms z v w) (some_same_value t u e) h.0)
lent_passed ms (ArrayParameter t ∷ ps) (PassedArray v ∷ xs) (PassedArray w ∷ ys) h (suc k) u e = lent_passed ms ps xs ys h.1 k u e
lent_passed ms (ArrayParameter t ∷ ps) (PassedArray v ∷ xs) (PassedNumber w ∷ ys) h k u e = absurd h.0
lent_passed ms (ArrayParameter t ∷ ps) (PassedArray v ∷ xs) (PassedStructure w ∷ ys) h k u e = absurd h.0
lent_passed ms (ArrayParameter t ∷ ps) (PassedNumber v ∷ xs) (y ∷ ys) h k u e = absurd h.0
lent_passed ms (ArrayParameter t ∷ ps) (PassedStructure v ∷ xs) (y ∷ ys) h k u e = absurd h.0

-- ---- the begin and the end

pub entry_one : (ms : Members) (rooms size regs : ℕ) (t : ObjectType) (m : Store) (n : Flat) → size ≡ cells t → AreOne ms rooms m n → AreOne (with_last ms t) (rooms + regs) (put (count ms ∷ []) None m) (record { cells = n.cells ++ replicate size None; registers = n.registers ++ replicate regs 0 })
entry_one ms rooms size regs t m n e r =
    subst (λ (z : ℕ). AreOne (with_last ms t) (rooms + regs) (put (count ms ∷ []) None m) (record { cells = n.cells ++ replicate z None; registers = n.registers ++ replicate regs 0 })) (sym e)
    (record {
      same = same_enter ms t m n.cells r.same;
      room = let zeros : List ℕ = replicate regs 0 in let l : length zeros ≡ regs = length-replicate regs 0 in length-append n.registers zeros ∙ omega (arith, l, r.room);
    })

-- the registers below a number are those of a longer list, and the others are not there
pub old_register : (rs new : List ℕ) (i : ℕ) → i < length rs → unwrap_or (slice_get (rs ++ new) i) 0 ≡ unwrap_or (slice_get rs i) 0
old_register rs new i lt = ap (λ (o : Option ℕ). unwrap_or o 0) (get_old rs new i lt)

pub cut_register : (rs : List ℕ) (k i : ℕ) → i < k → unwrap_or (slice_get (take k rs) i) 0 ≡ unwrap_or (slice_get rs i) 0
cut_register rs k i lt = ap (λ (o : Option ℕ). unwrap_or o 0) (get_take k rs i lt)

pub no_register : (rs : List ℕ) (i : ℕ) → length rs ≤ i → unwrap_or (slice_get rs i) 0 ≡ 0
no_register rs i le = ap (λ (o : Option ℕ). unwrap_or o 0) (slice_get_past rs i le)
