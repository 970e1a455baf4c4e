-- Cells of rows that are filled, moved, lengthened and cut.
use Rattle.std.proofs.Common.{◌≡◌, ℕ, zero, suc, ◌+◌, ◌<◌, ◌≤◌, List, [], ◌∷◌, ◌++◌, length, take, replicate, refl, arith, Some}
use Rattle.std.specs.Prelude.{slice_get}
use Rattle.std.proofs.lemmas.Grind.{common_steps}
use Rattle.std.proofs.lemmas.Option.{gets}
use Rattle.mc_cells.specs.Rows.{filled, moved}

module _ {A : Type 0} (x : A) where
  get_replicate : (c k : ℕ) → k < c → slice_get (replicate c x) k ≡ Some x
  get_replicate zero k a = absurd (omega (arith, a))
  get_replicate (suc c) zero a = refl
  get_replicate (suc c) (suc k) a = get_replicate c k (omega (arith, a))

  pub get_new : (r : List A) (c k : ℕ) → k < c → slice_get (r ++ replicate c x) (length r + k) ≡ Some x
  get_new [] c k a = let e : 0 + k ≡ k = omega arith in rw e (get_replicate c k a)
  get_new (y ∷ r) c k a = let e : suc (length r) + k ≡ suc (length r + k) = omega arith in rw e (get_new r c k a)

  pub length_filled : (n c : ℕ) (r : List A) → n + c ≤ length r → length (filled n c x r) ≡ length r
  length_filled n c r a = grind (arith, common_steps, gets)

  pub get_filled_in : (n c : ℕ) (r : List A) (k : ℕ) → n + c ≤ length r → n ≤ k → k < n + c → slice_get (filled n c x r) k ≡ Some x
  get_filled_in n c r k l a b = grind (arith, common_steps, gets)

  pub get_filled_under : (n c : ℕ) (r : List A) (k : ℕ) → n + c ≤ length r → k < n → slice_get (filled n c x r) k ≡ slice_get r k
  get_filled_under n c r k l a = grind (arith, common_steps, gets)

  pub get_filled_over : (n c : ℕ) (r : List A) (k : ℕ) → n + c ≤ length r → n + c ≤ k → slice_get (filled n c x r) k ≡ slice_get r k
  get_filled_over n c r k l a = grind (arith, common_steps, gets)

pub get_old : {A : Type 0} (r s : List A) (k : ℕ) → k < length r → slice_get (r ++ s) k ≡ slice_get r k
get_old [] s k a = absurd (omega (arith, a))
get_old (y ∷ r) s zero a = refl
get_old (y ∷ r) s (suc k) a = get_old r s k (omega (arith, a))

pub get_take : {A : Type 0} (c : ℕ) (r : List A) (k : ℕ) → k < c → slice_get (take c r) k ≡ slice_get r k
get_take zero r k a = absurd (omega (arith, a))
get_take (suc c) [] k a = refl
get_take (suc c) (y ∷ r) zero a = refl
get_take (suc c) (y ∷ r) (suc k) a = get_take c r k (omega (arith, a))

pub length_moved : {A : Type 0} (f n c : ℕ) (r : List A) → f + c ≤ length r → n + c ≤ length r → length (moved f n c r) ≡ length r
length_moved f n c r a b = grind (arith, common_steps)

pub get_moved_in : {A : Type 0} (f n c : ℕ) (r : List A) (k : ℕ) → f + c ≤ length r → n + c ≤ length r → k < c → slice_get (moved f n c r) (n + k) ≡ slice_get r (f + k)
get_moved_in f n c r k a b l = grind (arith, common_steps, gets)

pub get_moved_under : {A : Type 0} (f n c : ℕ) (r : List A) (k : ℕ) → f + c ≤ length r → n + c ≤ length r → k < n → slice_get (moved f n c r) k ≡ slice_get r k
get_moved_under f n c r k a b l = grind (arith, common_steps, gets)

pub get_moved_over : {A : Type 0} (f n c : ℕ) (r : List A) (k : ℕ) → f + c ≤ length r → n + c ≤ length r → n + c ≤ k → slice_get (moved f n c r) k ≡ slice_get r k
get_moved_over f n c r k a b l = grind (arith, common_steps, gets)
