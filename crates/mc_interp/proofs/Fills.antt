-- Cells that are filled and copied keep their types.
use Rattle.std.proofs.Common.{◌≡◌, ℕ, ◌+◌, ◌-◌, ◌<◌, ◌≤◌, ◌⊎◌, ℤ, pos, List, length, refl, sym, ap, subst, ◌∙◌, arith, inl, inr, Option, Some, None}
use Rattle.std.specs.Prelude.{slice_get}
use Rattle.std.proofs.lemmas.Bool.{cases_lt}
use Rattle.std.proofs.lemmas.Grind.{common_steps}
use Rattle.std.proofs.lemmas.Option.{gets}
use Rattle.mc_value.specs.declared.int_type.IntType.{IntType}
use Rattle.mc_value.specs.IntTypes.{InRange}
use Rattle.mc_value.proofs.Bounds.{low_side, high_side}
use Rattle.mc_typed.specs.Layout.{ObjectType, cells}
use Rattle.mc_typed.specs.Sound.{Scope}
use Rattle.mc_cells.specs.Rows.{Row, with_cells, filled, moved}
use Rattle.mc_steps.specs.Runs.{changes}
use Rattle.mc_probe.specs.Flat.{Activation, flat}
use Rattle.mc_interp.specs.declared.store.Store.{Store}
use Rattle.mc_interp.specs.Stores.{state_of, told}
use Rattle.mc_interp.specs.Typed.{HasTypes, Stands, IsPlaced}
use Rattle.mc_interp.specs.Frames.{IsKept}
use Rattle.mc_interp.proofs.Placed.{none_some, some_eq}

module _ {A : Type 0} (x : A) where
  pub length_filled : (n c : ℕ) (r : List A) → n + c ≤ length r → length (filled n c x r) ≡ length r
  length_filled n c r a = grind (arith, common_steps, gets)

  get_filled_in : (n c : ℕ) (r : List A) (k : ℕ) → n + c ≤ length r → n ≤ k → k < n + c → slice_get (filled n c x r) k ≡ Some x
  get_filled_in n c r k l a b = grind (arith, common_steps, gets)

  get_filled_under : (n c : ℕ) (r : List A) (k : ℕ) → n + c ≤ length r → k < n → slice_get (filled n c x r) k ≡ slice_get r k
  get_filled_under n c r k l a = grind (arith, common_steps, gets)

  get_filled_over : (n c : ℕ) (r : List A) (k : ℕ) → n + c ≤ length r → n + c ≤ k → slice_get (filled n c x r) k ≡ slice_get r k
  get_filled_over n c r k l a = grind (arith, common_steps, gets)

pub length_moved : {A : Type 0} (f n c : ℕ) (r : List A) → f + c ≤ length r → n + c ≤ length r → length (moved f n c r) ≡ length r
length_moved f n c r a b = grind (arith, common_steps)

get_moved_in : {A : Type 0} (f n c : ℕ) (r : List A) (k : ℕ) → f + c ≤ length r → n + c ≤ length r → k < c →
    slice_get (moved f n c r) (n + k) ≡ slice_get r (f + k)
get_moved_in f n c r k a b l = grind (arith, common_steps, gets)

get_moved_under : {A : Type 0} (f n c : ℕ) (r : List A) (k : ℕ) → f + c ≤ length r → n + c ≤ length r → k < n →
    slice_get (moved f n c r) k ≡ slice_get r k
get_moved_under f n c r k a b l = grind (arith, common_steps, gets)

get_moved_over : {A : Type 0} (f n c : ℕ) (r : List A) (k : ℕ) → f + c ≤ length r → n + c ≤ length r → n + c ≤ k →
    slice_get (moved f n c r) k ≡ slice_get r k
get_moved_over f n c r k a b l = grind (arith, common_steps, gets)

-- ---- types

pub zero_in : (t : IntType) → InRange t (pos 0)
zero_in t = record { least = (low_side t).1; greatest = (high_side t).0 }

-- what a cell can be filled with, whatever its type
abbrev pub FitsAny : Option ℤ → Type 0
FitsAny x = (t : IntType) (v : ℤ) → x ≡ Some v → InRange t v

pub unset_fits : FitsAny None
unset_fits t v e = none_some v e

pub zero_fits : FitsAny (Some (pos 0))
zero_fits t v e = subst (InRange t) (some_eq (pos 0) v e) (zero_in t)

pub typed_filled : (types : List IntType) (row : List (Option ℤ)) (at n : ℕ) (x : Option ℤ) → at + n ≤ length row →
    FitsAny x → HasTypes types row → HasTypes types (filled at n x row)
typed_filled types row at n x l f h = record {
  room = length_filled x at n row l ∙ h.room;
  each = λ k t v a b. go k t v a b (cases_lt k at) (cases_lt k (at + n));
}
  where
    go : (k : ℕ) (t : IntType) (v : ℤ) → slice_get types k ≡ Some t → slice_get (filled at n x row) k ≡ Some (Some v) →
        (k < at) ⊎ (at ≤ k) → (k < at + n) ⊎ (at + n ≤ k) → InRange t v
    go k t v a b (inl u) z = h.each k t v a (sym (get_filled_under x at n row k l u) ∙ b)
    go k t v a b (inr u) (inl z) = f t v (some_eq x (Some v) (sym (get_filled_in x at n row k l u z) ∙ b))
    go k t v a b (inr u) (inr z) = h.each k t v a (sym (get_filled_over x at n row k l z) ∙ b)

pub typed_moved : (types : List IntType) (row : List (Option ℤ)) (from to n : ℕ) (u : ObjectType) → n ≡ cells u →
    Stands types from u → Stands types to u → HasTypes types row → HasTypes types (moved from to n row)
typed_moved types row from to n u e p q h = record {
  room = length_moved from to n row source target ∙ h.room;
  each = λ k t v a b. go k t v a b (cases_lt k to) (cases_lt k (to + n));
}
  where
    source : from + n ≤ length row
    source = omega (arith, p.within, e, h.room)

    target : to + n ≤ length row
    target = omega (arith, q.within, e, h.room)

    go : (k : ℕ) (t : IntType) (v : ℤ) → slice_get types k ≡ Some t → slice_get (moved from to n row) k ≡ Some (Some v) →
        (k < to) ⊎ (to ≤ k) → (k < to + n) ⊎ (to + n ≤ k) → InRange t v
    go k t v a b (inl y) z = h.each k t v a (sym (get_moved_under from to n row k source target y) ∙ b)
    go k t v a b (inr y) (inl z) =
        let j = k - to in
        let s : k ≡ to + j = omega (arith, y) in
        let lt : j < n = omega (arith, y, z) in
        let m : j < cells u = omega (arith, lt, e) in
        h.each (from + j) t v
        (p.part j m ∙ sym (q.part j m) ∙ subst (λ i. slice_get types i ≡ Some t) s a)
        (sym (get_moved_in from to n row j source target lt) ∙ subst (λ i. slice_get (moved from to n row) i ≡ Some (Some v)) s b)
    go k t v a b (inr y) (inr z) = h.each k t v a (sym (get_moved_over from to n row k source target z) ∙ b)

-- ---- the store

abbrev pub filled_in : Store → ℕ → ℕ → Option ℤ → Store
filled_in m at n x = record m { cells = with_cells m.cells (filled at n x m.cells.cells) }

abbrev pub copied_in : Store → ℕ → ℕ → ℕ → Store
copied_in m from to n = record m { cells = with_cells m.cells (moved from to n m.cells.cells) }

kept_filled : (c : Scope) (w : Activation) (m : Store) (at n : ℕ) (x : Option ℤ) → at + n ≤ length m.cells.cells → FitsAny x →
    IsKept c w m (filled_in m at n x)
kept_filled c w m at n x l f = record {
  cells = length_filled x at n m.cells.cells l;
  limit = refl;
  registers = refl;
  registers_limit = refl;
  output = refl;
  fuel = omega arith;
  typed = λ types ok has. typed_filled types m.cells.cells at n x l f has;
}

pub fill_kept : (c : Scope) (w : Activation) (m : Store) (row : Row) (at n : ℕ) (x : Option ℤ) → at + n ≤ length m.cells.cells → FitsAny x →
    row ≡ with_cells m.cells (filled at n x m.cells.cells) → IsKept c w m (record m { cells = row })
fill_kept c w m row at n x l f e = subst (λ r. IsKept c w m (record m { cells = r })) (sym e) (kept_filled c w m at n x l f)

kept_copied : (c : Scope) (w : Activation) (m : Store) (from to n : ℕ) (u : ObjectType) → from + n ≤ length m.cells.cells →
    to + n ≤ length m.cells.cells → n ≡ cells u → IsPlaced c w from (Some u) → IsPlaced c w to (Some u) →
    IsKept c w m (copied_in m from to n)
kept_copied c w m from to n u a b e p q = record {
  cells = length_moved from to n m.cells.cells a b;
  limit = refl;
  registers = refl;
  registers_limit = refl;
  output = refl;
  fuel = omega arith;
  typed = λ types ok has. typed_moved types m.cells.cells from to n u e (p types ok) (q types ok) has;
}

pub copy_kept : (c : Scope) (w : Activation) (m : Store) (row : Row) (from to n : ℕ) (u : ObjectType) → from + n ≤ length m.cells.cells →
    to + n ≤ length m.cells.cells → n ≡ cells u → IsPlaced c w from (Some u) → IsPlaced c w to (Some u) →
    row ≡ with_cells m.cells (moved from to n m.cells.cells) → IsKept c w m (record m { cells = row })
copy_kept c w m row from to n u a b e p q s =
    subst (λ r. IsKept c w m (record m { cells = r })) (sym s) (kept_copied c w m from to n u a b e p q)

pub fill_ran : (m : Store) (row : Row) (at n : ℕ) (x : Option ℤ) → row ≡ with_cells m.cells (filled at n x m.cells.cells) →
    changes {E = ℕ} (flat.put at n x) (state_of m) ≡ told (Some tt) (record m { cells = row })
fill_ran m row at n x e = ap (λ (r : Row). told (Some tt) (record m { cells = r })) (sym e)

pub copy_ran : (m : Store) (row : Row) (from to n : ℕ) → row ≡ with_cells m.cells (moved from to n m.cells.cells) →
    changes {E = ℕ} (flat.copy from to n) (state_of m) ≡ told (Some tt) (record m { cells = row })
copy_ran m row from to n e = ap (λ (r : Row). told (Some tt) (record m { cells = r })) (sym e)
