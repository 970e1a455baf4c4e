-- Cells as far as they are counted.
use Rattle.std.proofs.Common.{◌≡◌, ◌∙◌, ◌<◌, ◌≤◌, ◌⊎◌, ◌*◌, ◌+◌, ℕ, zero, suc, min, ◌&&◌, nat_le, nat_lt, true, false, List, [], ◌∷◌, length, drop, drop-cons, get_or, refl, sym, ap, subst, arith, inl, inr}
use Rattle.std.proofs.Math.Nat.{le-mul_of_pos_right, mul_assoc, mul_comm, mul_left_comm, mul-zero}
use Rattle.std.proofs.lemmas.Bool.{cases_lt}
use Rattle.std.proofs.lemmas.List.{drop_all}
use Rattle.std.proofs.lemmas.Bool.Decides.{Decides-ltb, Decides-like, leb_tells, same_from_decides}
use Rattle.mc_typed.specs.Layout.{ObjectType, cells, nesting}
use Rattle.types_rules.specs.Types.{arrays_of}
use Rattle.types_rules.specs.Limits.{is_passed_with}
use Rattle.types_rules.specs.Profile.{most_counted}
use Rattle.types_scopes.specs.Counted.{product}

pub product_counted : (l a b : ℕ) → min (min a l * b) l ≡ min (a * b) l
product_counted l a zero = rw (mul-zero (min a l), mul-zero a) refl
product_counted l a (suc b) = go (cases_lt l a)
  where
    go : ((l < a) ⊎ (a ≤ l)) → min (min a l * suc b) l ≡ min (a * suc b) l
    go (inl more) =
        let is : min a l ≡ l = omega (arith, more) in
        let one : l ≤ l * suc b = le-mul_of_pos_right l (omega arith) in
        let other : a ≤ a * suc b = le-mul_of_pos_right a (omega arith) in
        rw is (omega (arith, more, one, other))
    go (inr few) =
        let is : min a l ≡ a = omega (arith, few) in
        rw is refl

-- one more factor
pub factors_counted : (l a n p : ℕ) → min (min (a * n) l * p) l ≡ min (a * (n * p)) l
factors_counted l a n p = product_counted l (a * n) p ∙ ap (λ m. min m l) (mul_assoc a n p)

-- the cells of arrays
pub cells_of_arrays : (ns : List ℕ) (u : ObjectType) → cells (arrays_of ns u) ≡ cells u * product ns
cells_of_arrays [] u = omega arith
cells_of_arrays (n ∷ ns) u =
    ap (λ m. n * m) (cells_of_arrays ns u) ∙ mul_left_comm n (cells u) (product ns)

pub nesting_of_arrays : (ns : List ℕ) (u : ObjectType) → nesting (arrays_of ns u) ≡ length ns + nesting u
nesting_of_arrays [] u = omega arith
nesting_of_arrays (n ∷ ns) u = omega (arith, nesting_of_arrays ns u)

-- in one structure more
pub deeper_counted : (n : ℕ) → min (min n most_counted + 1) most_counted ≡ min (n + 1) most_counted
deeper_counted n = omega arith

-- of arrays with such a base
pub nesting_counted : (ns : List ℕ) (u : ObjectType) (base : ℕ)
    → min base most_counted ≡ min (nesting u) most_counted
    → min (length ns + base) most_counted ≡ min (nesting (arrays_of ns u)) most_counted
nesting_counted ns u base h =
    let e = nesting_of_arrays ns u in omega (arith, e, h)

-- what stands inside one structure more
pub deep_counted : (k n : ℕ) → k < most_counted → nat_le k (min n most_counted) ≡ nat_lt k (n + 1)
deep_counted k n h = go (leb_tells k (min n most_counted)) (leb_tells (suc k) (n + 1))
  where
    go : ((nat_le k (min n most_counted) ≡ true) × (k ≤ min n most_counted))
        ⊎ ((nat_le k (min n most_counted) ≡ false) × (min n most_counted < k))
        → ((nat_le (suc k) (n + 1) ≡ true) × (suc k ≤ n + 1)) ⊎ ((nat_le (suc k) (n + 1) ≡ false) × (n + 1 < suc k))
        → nat_le k (min n most_counted) ≡ nat_lt k (n + 1)
    go (inl p) (inl q) = p.0 ∙ sym q.0
    go (inl p) (inr q) = absurd (omega (arith, p.1, q.1))
    go (inr p) (inl q) = absurd (omega (arith, p.1, q.1, h))
    go (inr p) (inr q) = p.0 ∙ sym q.0

-- more than the limit are counted as more
pub many_counted : (k n : ℕ) → k < most_counted → nat_lt k (min n most_counted) ≡ nat_lt k n
many_counted k n h =
    same_from_decides (nat_lt k (min n most_counted)) (nat_lt k n)
    (Decides-like (nat_lt k (min n most_counted)) (λ e. omega (arith, e, h)) (λ e. omega (arith, e, h))
    (Decides-ltb k (min n most_counted)))
    (Decides-ltb k n)

pub passed_counted : (most before n : ℕ) → most < most_counted
    → is_passed_with most before (min n most_counted) ≡ is_passed_with most before n
passed_counted most before n h =
    ap (λ b. nat_le before most && b)
    (same_from_decides (nat_lt most (before + min n most_counted)) (nat_lt most (before + n))
    (Decides-like (nat_lt most (before + min n most_counted)) (λ e. omega (arith, e, h)) (λ e. omega (arith, e, h))
    (Decides-ltb most (before + min n most_counted)))
    (Decides-ltb most (before + n)))

not_within : (a b : ℕ) → b < a → nat_le a b ≡ false
not_within a b h = go (leb_tells a b)
  where
    go : ((nat_le a b ≡ true) × (a ≤ b)) ⊎ ((nat_le a b ≡ false) × (b < a)) → nat_le a b ≡ false
    go (inl p) = absurd (omega (arith, p.1, h))
    go (inr p) = p.0

-- after so many cells as are counted
pub passed_after_counted : (most before more : ℕ) → most < most_counted
    → is_passed_with most (min before most_counted) more ≡ is_passed_with most before more
passed_after_counted most before more h = go (cases_lt most_counted before)
  where
    go : ((most_counted < before) ⊎ (before ≤ most_counted))
        → is_passed_with most (min before most_counted) more ≡ is_passed_with most before more
    go (inl many) =
        ap (λ b. b && nat_lt most (min before most_counted + more))
        (not_within (min before most_counted) most (omega (arith, many, h)))
        ∙ sym (ap (λ b. b && nat_lt most (before + more)) (not_within before most (omega (arith, many, h))))
    go (inr few) =
        let is : min before most_counted ≡ before = omega (arith, few) in
        ap (λ n. is_passed_with most n more) is

-- ---- factors in turn

pub product_next : (ns : List ℕ) (i d : ℕ) → i < length ns
    → product (drop i ns) ≡ get_or ns i d * product (drop (i + 1) ns)
product_next ns i d h =
    let e : suc i ≡ i + 1 = omega arith in
    ap product (drop-cons ns i d h) ∙ ap (λ k. get_or ns i d * product (drop k ns)) e

pub product_end : (ns : List ℕ) (i : ℕ) → length ns ≤ i → product (drop i ns) ≡ 1
product_end ns i h = ap product (drop_all i ns h)
