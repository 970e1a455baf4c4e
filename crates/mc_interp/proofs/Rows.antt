-- Cells that are read and written keep their types.
use Rattle.std.proofs.Common.{◌≡◌, ℕ, zero, suc, ◌+◌, ◌<◌, ◌⊎◌, ℤ, pos, true, false, List, [], ◌∷◌, length, refl, sym, ap, subst, ◌∙◌, arith, inl, inr, Option, Some, None, length-set}
use Rattle.std.specs.Prelude.{slice_get, slice_set, IfSome}
use Rattle.std.proofs.lemmas.Bool.{cases_eq}
use Rattle.std.proofs.lemmas.Int.{ints}
use Rattle.std.proofs.lemmas.Option.{slice_get_within}
use Rattle.mc_value.specs.declared.int_type.IntType.{IntType}
use Rattle.mc_value.specs.IntTypes.{signed_of, least_of, InRange}
use Rattle.mc_value.proofs.Bounds.{low_side, high_side, signed_side}
use Rattle.mc_typed.specs.Layout.{Scalar}
use Rattle.mc_typed.specs.Sound.{Scope}
use Rattle.mc_typed.proofs.CellTypes.{part_scalar}
use Rattle.mc_cells.specs.Rows.{with_cells, filled, IsSigned, IsUnsigned}
use Rattle.mc_steps.specs.Runs.{changes}
use Rattle.mc_probe.specs.Flat.{Activation, flat}
use Rattle.mc_interp.specs.declared.store.Store.{Store}
use Rattle.mc_interp.specs.Stores.{state_of, told}
use Rattle.mc_interp.specs.Typed.{HasTypes, IsPlaced}
use Rattle.mc_interp.specs.Frames.{IsKept}
use Rattle.mc_interp.proofs.Placed.{some_eq}

-- ---- numbers of 64 bits

unsigned_least : (t : IntType) → signed_of t ≡ false → least_of t ≡ pos 0
unsigned_least t s = rw s refl

pub signed_cell : (t : IntType) (o : Option (Option ℤ)) → signed_of t ≡ true →
    ((v : ℤ) → o ≡ Some (Some v) → InRange t v) → IfSome o (λ cell. IfSome cell IsSigned)
signed_cell t None s h = tt
signed_cell t (Some None) s h = tt
signed_cell t (Some (Some v)) s h =
    let r = h v refl in
    let low = (low_side t).0 in
    let high = signed_side t s in
    let least = r.least in
    let greatest = r.greatest in
    record { least = omega (arith, ints); greatest = omega (arith, ints) }

pub unsigned_cell : (t : IntType) (o : Option (Option ℤ)) → signed_of t ≡ false →
    ((v : ℤ) → o ≡ Some (Some v) → InRange t v) → IfSome o (λ cell. IfSome cell IsUnsigned)
unsigned_cell t None s h = tt
unsigned_cell t (Some None) s h = tt
unsigned_cell t (Some (Some v)) s h =
    let r = h v refl in
    let z = unsigned_least t s in
    let high = (high_side t).1 in
    let least = r.least in
    let greatest = r.greatest in
    record { least = omega (arith, ints); greatest = omega (arith, ints) }

-- ---- one cell

filled_one : {A : Type 0} (row : List A) (at : ℕ) (x : A) → at < length row → filled at 1 x row ≡ slice_set row at x
filled_one [] at x h = absurd (omega (arith, h))
filled_one (y ∷ row) zero x h = refl
filled_one (y ∷ row) (suc at) x h =
    let e : suc at + 1 ≡ suc (at + 1) = omega arith in rw e (ap (λ l. y ∷ l) (filled_one row at x (omega (arith, h))))

get_set : {A : Type 0} (row : List A) (at : ℕ) (x : A) → at < length row → slice_get (slice_set row at x) at ≡ Some x
get_set [] at x l = absurd (omega (arith, l))
get_set (y ∷ row) zero x l = refl
get_set (y ∷ row) (suc at) x l = get_set row at x (omega (arith, l))

get_other : {A : Type 0} (row : List A) (at k : ℕ) (x : A) → (k ≡ at → ⊥) →
    slice_get (slice_set row at x) k ≡ slice_get row k
get_other [] at k x l = refl
get_other (y ∷ row) zero zero x l = absurd (l refl)
get_other (y ∷ row) zero (suc k) x l = refl
get_other (y ∷ row) (suc at) zero x l = refl
get_other (y ∷ row) (suc at) (suc k) x l = get_other row at k x (λ e. l (ap suc e))

-- a write
typed_set : (types : List IntType) (cells : List (Option ℤ)) (at : ℕ) (t : IntType) (v : ℤ) → HasTypes types cells →
    slice_get types at ≡ Some t → InRange t v → HasTypes types (slice_set cells at (Some v))
typed_set types cells at t v h s r = record {
  room = length-set cells at (Some v) ∙ h.room;
  each = λ k u w a b. go k u w a b (cases_eq k at);
}
  where
    go : (k : ℕ) (u : IntType) (w : ℤ) → slice_get types k ≡ Some u →
        slice_get (slice_set cells at (Some v)) k ≡ Some (Some w) → (k ≡ at) ⊎ (k ≡ at → ⊥) → InRange u w
    go k u w a b (inl e) =
        let there = slice_get_within types at t s in
        let one : Some (Some v) ≡ Some (Some w) = sym (get_set cells at (Some v) (omega (arith, there, h.room))) ∙ (rw e at b) in
        let two : t ≡ u = some_eq t u (sym s ∙ rw e at a) in
        subst (λ x. InRange x w) two (subst (InRange t) (some_eq v w (some_eq (Some v) (Some w) one)) r)
    go k u w a b (inr n) = h.each k u w a (sym (get_other cells at k (Some v) n) ∙ b)

-- ---- a write to the store

abbrev pub written : Store → ℕ → ℤ → Store
written m at v = record m { cells = with_cells m.cells (slice_set m.cells.cells at (Some v)) }

pub write_ran : (m n : Store) (at : ℕ) (v : ℤ) → at < length m.cells.cells → n ≡ written m at v →
    changes {E = ℕ} (flat.put at 1 (Some v)) (state_of m) ≡ told (Some tt) n
write_ran m n at v l e =
    ap (λ (row : List (Option ℤ)). told (Some tt) (record m { cells = with_cells m.cells row }))
    (filled_one m.cells.cells at (Some v) l)
    ∙ ap (λ (n : Store). told (Some tt) n) (sym e)

kept_written : (c : Scope) (w : Activation) (m : Store) (at : ℕ) (t : IntType) (v : ℤ) →
    IsPlaced c w at (Some (Scalar t)) → InRange t v → IsKept c w m (written m at v)
kept_written c w m at t v p r = record {
  cells = length-set m.cells.cells at (Some v);
  limit = refl;
  registers = refl;
  registers_limit = refl;
  output = refl;
  fuel = omega arith;
  typed = λ types ok has. typed_set types m.cells.cells at t v has (part_scalar types at t (p types ok).part) r;
}

pub write_kept : (c : Scope) (w : Activation) (m n : Store) (at : ℕ) (t : IntType) (v : ℤ) →
    IsPlaced c w at (Some (Scalar t)) → InRange t v → n ≡ written m at v → IsKept c w m n
write_kept c w m n at t v p r e = subst (IsKept c w m) (sym e) (kept_written c w m at t v p r)
