-- Lists that begin with others, and what stands at a place of a list.
use Rattle.std.proofs.Common.{◌≡◌, ℕ, zero, suc, ◌<◌, List, [], ◌∷◌, ◌++◌, length, slice_get, slice_set, take, Some, None, refl, ap, sym, ◌∙◌, arith, append_assoc, ◌≢◌, ◌⊎◌, inl, inr}
use Rattle.std.proofs.Math.Seq.{take-append_seam}
use Rattle.laws_soundness.specs.Growth.{Begins}

pub right_nil : {A : Type 0} (xs : List A) → xs ++ [] ≡ xs
right_nil [] = refl
right_nil (x ∷ xs) = ap (λ ys. x ∷ ys) (right_nil xs)

pub begins_refl : (A : Type 0) (xs : List A) → Begins A xs xs
begins_refl A xs = ([], sym (right_nil xs))

pub begins_trans : (A : Type 0) (xs ys zs : List A) → Begins A xs ys → Begins A ys zs → Begins A xs zs
begins_trans A xs ys zs p q =
    (p.0 ++ q.0, q.1 ∙ ap (λ l. l ++ q.0) p.1 ∙ append_assoc xs p.0 q.0)

pub begins_with : (A : Type 0) (xs : List A) (more : List A) → Begins A xs (xs ++ more)
begins_with A xs more = (more, refl)

pub cut_back : (A : Type 0) (xs ys : List A) → Begins A xs ys → take (length xs) ys ≡ xs
cut_back A xs ys p = ap (take (length xs)) p.1 ∙ take-append_seam xs p.0

-- ---- places

pub get_below : {A : Type 0} (xs : List A) (k : ℕ) (x : A) → slice_get xs k ≡ Some x → k < length xs
get_below [] k x h = absurd (cc)
get_below (y ∷ xs) zero x h = omega arith
get_below (y ∷ xs) (suc k) x h = let below = get_below xs k x h in omega (arith, below)

pub get_past : {A : Type 0} (xs : List A) → slice_get xs (length xs) ≡ None
get_past [] = refl
get_past (x ∷ xs) = get_past xs

pub get_appended : {A : Type 0} (xs ys : List A) (k : ℕ) (x : A) → slice_get xs k ≡ Some x
    → slice_get (xs ++ ys) k ≡ Some x
get_appended [] ys k x h = absurd (cc)
get_appended (y ∷ xs) ys zero x h = h
get_appended (y ∷ xs) ys (suc k) x h = get_appended xs ys k x h

pub get_begun : (A : Type 0) (xs ys : List A) (k : ℕ) (x : A) → Begins A xs ys
    → slice_get xs k ≡ Some x → slice_get ys k ≡ Some x
get_begun A xs ys k x p h = ap (λ l. slice_get l k) p.1 ∙ get_appended xs p.0 k x h

pub get_next : {A : Type 0} (xs : List A) (x : A) (more : List A)
    → slice_get (xs ++ (x ∷ more)) (length xs) ≡ Some x
get_next [] x more = refl
get_next (y ∷ xs) x more = get_next xs x more

pub get_set_other : {A : Type 0} (xs : List A) (n k : ℕ) (new x : A) → k ≢ n
    → slice_get xs k ≡ Some x → slice_get (slice_set xs n new) k ≡ Some x
get_set_other [] n k new x d h = absurd (cc)
get_set_other (y ∷ xs) zero zero new x d h = absurd (d refl)
get_set_other (y ∷ xs) zero (suc k) new x d h = h
get_set_other (y ∷ xs) (suc n) zero new x d h = h
get_set_other (y ∷ xs) (suc n) (suc k) new x d h =
    get_set_other xs n k new x (λ e. d (ap suc e)) h

pub get_set_same : {A : Type 0} (xs : List A) (n : ℕ) (new x : A)
    → slice_get (slice_set xs n new) n ≡ Some x → new ≡ x
get_set_same [] n new x h = absurd (cc)
get_set_same (y ∷ xs) zero new x h = cc
get_set_same (y ∷ xs) (suc n) new x h = get_set_same xs n new x h

pub get_unset : {A : Type 0} (xs : List A) (n k : ℕ) (new x : A) → k ≢ n
    → slice_get (slice_set xs n new) k ≡ Some x → slice_get xs k ≡ Some x
get_unset [] n k new x d h = h
get_unset (y ∷ xs) zero zero new x d h = absurd (d refl)
get_unset (y ∷ xs) zero (suc k) new x d h = h
get_unset (y ∷ xs) (suc n) zero new x d h = h
get_unset (y ∷ xs) (suc n) (suc k) new x d h = get_unset xs n k new x (λ e. d (ap suc e)) h

pub is_or_not : (k n : ℕ) → (k ≡ n) ⊎ (k ≢ n)
is_or_not zero zero = inl refl
is_or_not zero (suc n) = inr (λ e. omega (arith, e))
is_or_not (suc k) zero = inr (λ e. omega (arith, e))
is_or_not (suc k) (suc n) = elim (is_or_not k n) [
  | inl e ↦ inl (ap suc e)
  | inr d ↦ inr (λ e. d (omega (arith, e)))
]

pub slice_get-before : {A : Type 0} (xs ys : List A) (k : ℕ) → k < length xs
    → slice_get (xs ++ ys) k ≡ slice_get xs k
slice_get-before [] ys k h = absurd (omega (arith, h))
slice_get-before (x ∷ xs) ys zero h = refl
slice_get-before (x ∷ xs) ys (suc k) h = slice_get-before xs ys k (omega (arith, h))
