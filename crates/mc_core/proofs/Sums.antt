-- Sums and counts over lists.
use Rattle.std.proofs.Common.{◌≡◌, ℕ, zero, suc, ◌+◌, ◌<◌, List, [], ◌∷◌, ◌++◌, length, get_or, set, replicate, sym, refl, ap, ◌∙◌, subst, arith, Bool, cond}
use Rattle.std.specs.Prelude.{◌==◌, ◌&&◌, sum_by, flat_map, All, Contains, slice_get, Some}
use Rattle.std.proofs.lemmas.List.Sums.{sum_by-set, get_or-le-sum_by, sum_by-cons, sum_by-append, sum_by_push}
use Rattle.std.proofs.lemmas.List.Elements.{All-append, All-head, All-tail, All-nil}
use Rattle.std.proofs.lemmas.Option.{get_or_from_slice_get, slice_get_within}
use Rattle.std.proofs.lemmas.Bool.Decides.{nat_tests}
use native.Mathlib.Decide.{ℕ_discrete, dec_lt}
use mathlib.Core.Logic.{dite}
use Rattle.mc_core.specs.Counts.{times, once_below, marks}

module _ {V : Type 0} where
  -- a sum changes by what one element's part changes
  pub sum_set : (f : V → ℕ) (xs : List V) (i : ℕ) (v w : V) → slice_get xs i ≡ Some v → sum_by f (set xs i w) + f v ≡ sum_by f xs + f w
  sum_set f xs i v w at = subst (λ (x : V). sum_by f (set xs i w) + f x ≡ sum_by f xs + f w) (get_or_from_slice_get xs i v v at) (sum_by-set f xs i w v (slice_get_within xs i v at))

  pub sum_kept : (f : V → ℕ) (xs : List V) (i : ℕ) (v w : V) → slice_get xs i ≡ Some v → f w ≡ f v → sum_by f (set xs i w) ≡ sum_by f xs
  sum_kept f xs i v w at same = let law = sum_set f xs i v w at in omega arith

  pub sum_replicate : (f : V → ℕ) (n : ℕ) (v : V) → f v ≡ 0 → sum_by f (replicate n v) ≡ 0
  sum_replicate f zero v none = refl
  sum_replicate f (suc n) v none = let h = sum_replicate f n v none in let c = sum_by-cons f v (replicate n v) in omega arith

  pub sum_flat_map : {A : Type 0} (f : A → ℕ) (g : V → List A) (xs : List V) → sum_by f (flat_map g xs) ≡ sum_by (λ x. sum_by f (g x)) xs
  sum_flat_map f g [] = refl
  sum_flat_map f g (x ∷ xs) = let h = sum_flat_map f g xs in let a = sum_by-append f (g x) (flat_map g xs) in let c = sum_by-cons (λ y. sum_by f (g y)) x xs in omega arith

  -- a sum that is not 0 has a part that is not 0
  pub some_part : (f : V → ℕ) (d : V) (xs : List V) → 0 < sum_by f xs → (k : ℕ) × (k < length xs) × (0 < f (get_or xs k d))
  some_part f d [] more = absurd (omega arith)
  some_part f d (x ∷ xs) more = dite (dec_lt 0 (f x))
      (λ y. (0, (omega arith), y))
      (λ no. let c = sum_by-cons f x xs in let h = some_part f d xs (omega arith) in let l = h.1 in (suc h.0, (omega arith), h.2))

  pub all_flat_map : {A : Type 0} (P : A → Type 0) (g : V → List A) (xs : List V) → All (λ x. All P (g x)) xs → All P (flat_map g xs)
  all_flat_map P g [] all = All-nil P
  all_flat_map P g (x ∷ xs) all = All-append P (g x) (flat_map g xs) (All-head (λ y. All P (g y)) x xs all) (all_flat_map P g xs (All-tail (λ y. All P (g y)) x xs all))

-- 1 where the test gives true
abbrev pub tally : Bool → ℕ
tally b = cond b 1 0

pub pair_yes : (b t : ℕ) → tally ((b == b) && (t == t)) ≡ 1
pair_yes b t = grind (arith, nat_tests)

pub pair_no : (b t c u : ℕ) → ¬ ((b ≡ c) × (t ≡ u)) → tally ((c == b) && (u == t)) ≡ 0
pair_no b t c u apart = dite (ℕ_discrete c b) (λ x. dite (ℕ_discrete u t) (λ y. absurd (apart (sym x, sym y))) (λ y. grind (arith, nat_tests))) (λ x. grind (arith, nat_tests))

pub marks_push : (b t c u : ℕ) (hits : List (ℕ × ℕ)) → marks b t (hits ++ (c, u) ∷ []) ≡ marks b t hits + tally ((c == b) && (u == t))
marks_push b t c u hits = sum_by_push (λ (h : ℕ × ℕ). tally ((h.0 == b) && (h.1 == t))) hits (c, u)

pub times_push : (n : ℕ) (xs : List ℕ) (x : ℕ) → times n (xs ++ x ∷ []) ≡ times n xs + tally (x == n)
times_push n xs x = sum_by_push (λ (y : ℕ). tally (y == n)) xs x

pub once_more : (n x : ℕ) → once_below n (x + 1) ≡ once_below n x + tally (x == n)
once_more n x = grind (arith, nat_tests)

pub once_none : (n : ℕ) → once_below n 0 ≡ 0
once_none n = grind (arith, nat_tests)

pub once_yes : (n m : ℕ) → n < m → once_below n m ≡ 1
once_yes n m less = grind (arith, nat_tests)

-- what is counted is contained
pub marked_is_in : (b t : ℕ) (hits : List (ℕ × ℕ)) → 0 < marks b t hits → Contains hits (b, t)
marked_is_in b t hits more =
    let p = some_part (λ (h : ℕ × ℕ). tally ((h.0 == b) && (h.1 == t))) (b, t) hits more in
    let h : ℕ × ℕ = get_or hits p.0 (b, t) in
    let one : 0 < tally ((h.0 == b) && (h.1 == t)) = p.2 in (
      p.0,
      p.1,
      dite (ℕ_discrete h.0 b)
          (λ x. dite (ℕ_discrete h.1 t) (λ y i. (x i, y i)) (λ ne. let z = pair_no b t h.0 h.1 (λ q. ne (sym q.1)) in absurd (omega arith)))
          (λ ne. let z = pair_no b t h.0 h.1 (λ q. ne (sym q.0)) in absurd (omega arith)),
    )

pub in_is_marked : (b t : ℕ) (hits : List (ℕ × ℕ)) → Contains hits (b, t) → 0 < marks b t hits
in_is_marked b t hits c =
    let le = get_or-le-sum_by (λ (h : ℕ × ℕ). tally ((h.0 == b) && (h.1 == t))) hits c.0 (b, t) c.1 in
    let one : tally (((get_or hits c.0 (b, t)).0 == b) && ((get_or hits c.0 (b, t)).1 == t)) ≡ 1 = ap (λ (h : ℕ × ℕ). tally ((h.0 == b) && (h.1 == t))) c.2 ∙ pair_yes b t in
    omega arith

pub timed_is_in : (n : ℕ) (xs : List ℕ) → 0 < times n xs → Contains xs n
timed_is_in n xs more =
    let p = some_part (λ (x : ℕ). tally (x == n)) n xs more in
    let x : ℕ = get_or xs p.0 n in
    let one : 0 < tally (x == n) = p.2 in
    (p.0, p.1, dite (ℕ_discrete x n) (λ e. e) (λ ne. let z : tally (x == n) ≡ 0 = grind (arith, nat_tests) in absurd (omega arith)))
