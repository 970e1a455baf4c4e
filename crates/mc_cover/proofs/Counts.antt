-- How often something stands in a list.
use Rattle.std.proofs.Common.{◌≡◌, ℕ, zero, suc, ◌+◌, ◌<◌, ◌≤◌, List, [], ◌∷◌, ◌++◌, length, get_or, sym, refl, ap, ◌∙◌, subst, arith}
use Rattle.std.specs.Prelude.{Contains, sum_by, cond, Bool, ◌==◌, ◌&&◌, nat_lt}
use Rattle.std.proofs.lemmas.List.Sums.{sum_by_push, sum_by-cons, sum_by-append, get_or-le-sum_by}
use Rattle.std.proofs.lemmas.Bool.Decides.{nat_tests}
use native.Mathlib.Decide.{dec_lt, ℕ_discrete}
use mathlib.Core.Logic.{dite}
use Rattle.mc_core.specs.Counts.{times, once_below, marks}
use Rattle.mc_cover.specs.Tells.{AreDifferentBelow}

abbrev pub tally : Bool → ℕ
tally b = cond b 1 0

-- ---- pairs
pub pair_yes : (b t : ℕ) → tally ((b == b) && (t == t)) ≡ 1
pair_yes b t = grind (arith, nat_tests)

pub pair_no : (b t c u : ℕ) → ¬ ((b ≡ c) × (t ≡ u)) → tally ((c == b) && (u == t)) ≡ 0
pair_no b t c u apart = dite (ℕ_discrete c b) (λ x. dite (ℕ_discrete u t) (λ y. absurd (apart (sym x, sym y))) (λ y. grind (arith, nat_tests))) (λ x. grind (arith, nat_tests))

pub marks_same : (b t : ℕ) (hits : List (ℕ × ℕ)) → marks b t (hits ++ (b, t) ∷ []) ≡ marks b t hits + 1
marks_same b t hits = sum_by_push (λ (h : ℕ × ℕ). tally ((h.0 == b) && (h.1 == t))) hits (b, t) ∙ ap (λ n. marks b t hits + n) (pair_yes b t)

pub marks_other : (b t c u : ℕ) (hits : List (ℕ × ℕ)) → ¬ ((b ≡ c) × (t ≡ u)) → marks b t (hits ++ (c, u) ∷ []) ≡ marks b t hits
marks_other b t c u hits apart = let p = sum_by_push (λ (h : ℕ × ℕ). tally ((h.0 == b) && (h.1 == t))) hits (c, u) in let e = pair_no b t c u apart in omega arith

pub marks_append : (b t : ℕ) (xs ys : List (ℕ × ℕ)) → marks b t (xs ++ ys) ≡ marks b t xs + marks b t ys
marks_append b t xs ys = sum_by-append (λ (h : ℕ × ℕ). tally ((h.0 == b) && (h.1 == t))) xs ys

pub contains_of_marks : (b t : ℕ) (xs : List (ℕ × ℕ)) → 0 < marks b t xs → Contains xs (b, t)
contains_of_marks b t [] h = absurd (omega arith)
contains_of_marks b t (x ∷ xs) h =
    let c = sum_by-cons (λ (y : ℕ × ℕ). tally ((y.0 == b) && (y.1 == t))) x xs in
    let later = λ (apart : ¬ ((b ≡ x.0) × (t ≡ x.1))). let o = pair_no b t x.0 x.1 apart in let r = contains_of_marks b t xs (omega arith) in let u : Contains (x ∷ xs) (b, t) = (suc r.0, omega (arith, r.1), r.2) in u in
    dite (ℕ_discrete x.0 b)
    (λ e. dite (ℕ_discrete x.1 t) (λ f. (0, omega arith, λ i. (e i, f i))) (λ ne. later (λ p. ne (sym p.1))))
    (λ ne. later (λ p. ne (sym p.0)))

pub marks_of_contains : (b t : ℕ) (xs : List (ℕ × ℕ)) → Contains xs (b, t) → 0 < marks b t xs
marks_of_contains b t xs h =
    let f : ℕ × ℕ → ℕ = λ y. tally ((y.0 == b) && (y.1 == t)) in
    let g : f (get_or xs h.0 (b, t)) ≤ sum_by f xs = get_or-le-sum_by f xs h.0 (b, t) h.1 in
    let one : f (get_or xs h.0 (b, t)) ≡ 1 = ap f h.2 ∙ pair_yes b t in omega arith

-- ---- numbers
pub times_push : (n : ℕ) (xs : List ℕ) (x : ℕ) → times n (xs ++ x ∷ []) ≡ times n xs + tally (x == n)
times_push n xs x = sum_by_push (λ (y : ℕ). tally (y == n)) xs x

pub times_append : (n : ℕ) (xs ys : List ℕ) → times n (xs ++ ys) ≡ times n xs + times n ys
times_append n xs ys = sum_by-append (λ (y : ℕ). tally (y == n)) xs ys

pub contains_of_times : (t : ℕ) (xs : List ℕ) → 0 < times t xs → Contains xs t
contains_of_times t [] h = absurd (omega arith)
contains_of_times t (x ∷ xs) h = dite (ℕ_discrete x t)
    (λ e. (0, omega arith, e))
    (λ ne. let a = sum_by-cons (λ y. tally (y == t)) x xs in let o : tally (x == t) ≡ 0 = grind (arith, nat_tests) in let r = contains_of_times t xs (omega arith) in let less = r.1 in (suc r.0, omega arith, r.2))

pub times_of_contains : (n : ℕ) (xs : List ℕ) → Contains xs n → 0 < times n xs
times_of_contains n xs h =
    let f : ℕ → ℕ = λ y. tally (y == n) in
    let g : f (get_or xs h.0 n) ≤ sum_by f xs = get_or-le-sum_by f xs h.0 n h.1 in
    let t : tally (n == n) ≡ 1 = grind (arith, nat_tests) in
    let one : f (get_or xs h.0 n) ≡ 1 = ap f h.2 ∙ t in omega arith

pub once_more : (n x : ℕ) → once_below n (x + 1) ≡ once_below n x + tally (x == n)
once_more n x = grind (arith, nat_tests)

pub once_none : (n : ℕ) → once_below n 0 ≡ 0
once_none n = grind (arith, nat_tests)

pub once_le : (n x m : ℕ) → x ≤ m → once_below n x ≤ once_below n m
once_le n x m h = grind (arith, nat_tests)

pub once_le_one : (n m : ℕ) → once_below n m ≤ 1
once_le_one n m = grind (arith, nat_tests)

pub once_in : (n m : ℕ) → n < m → once_below n m ≡ 1
once_in n m h = grind (arith, nat_tests)

pub once_out : (n m : ℕ) → m ≤ n → once_below n m ≡ 0
once_out n m h = grind (arith, nat_tests)

pub below_of_once : (n m : ℕ) → 0 < once_below n m → n < m
below_of_once n m h = dite (dec_lt n m) (λ l. l) (λ no. let o = once_out n m (omega arith) in absurd (omega arith))

-- ---- different numbers below m are at most m
abbrev below : ℕ → List ℕ → ℕ
below m xs = sum_by (λ x. tally (nat_lt x m)) xs

tally_more : (x m : ℕ) → tally (nat_lt x (m + 1)) ≡ tally (nat_lt x m) + tally (x == m)
tally_more x m = grind (arith, nat_tests)

below_more : (m : ℕ) (xs : List ℕ) → below (m + 1) xs ≡ below m xs + times m xs
below_more m [] = refl
below_more m (x ∷ xs) = let a = sum_by-cons (λ y. tally (nat_lt y (m + 1))) x xs in let b = sum_by-cons (λ y. tally (nat_lt y m)) x xs in let c = sum_by-cons (λ y. tally (y == m)) x xs in let h = below_more m xs in let t = tally_more x m in omega arith

below_none : (xs : List ℕ) → below 0 xs ≡ 0
below_none [] = refl
below_none (x ∷ xs) = let a = sum_by-cons (λ y. tally (nat_lt y 0)) x xs in let h = below_none xs in let t : tally (nat_lt x 0) ≡ 0 = grind (arith, nat_tests) in omega arith

below_le : (m : ℕ) (xs : List ℕ) → AreDifferentBelow m xs → (j : ℕ) → below j xs ≤ j
below_le m xs d zero = let h = below_none xs in omega arith
below_le m xs d (suc j) = let h = below_le m xs d j in let a = below_more j xs in let e = d j in let o = once_le_one j m in let s : below (suc j) xs ≡ below j xs + times j xs = subst (λ (i : ℕ). below i xs ≡ below j xs + times j xs) (let q : j + 1 ≡ suc j = omega arith in q) a in omega arith

all_below : (m : ℕ) (xs : List ℕ) → ((n : ℕ) → m ≤ n → times n xs ≡ 0) → length xs ≡ below m xs
all_below m [] free = refl
all_below m (x ∷ xs) free =
    let h = all_below m xs (λ n le. let a = sum_by-cons (λ y. tally (y == n)) x xs in let b = free n le in omega arith) in
    let c = sum_by-cons (λ y. tally (nat_lt y m)) x xs in
    let lt : x < m = dite (dec_lt x m) (λ l. l) (λ no. let a = sum_by-cons (λ y. tally (y == x)) x xs in let b = free x (omega arith) in let t : tally (x == x) ≡ 1 = grind (arith, nat_tests) in absurd (omega arith)) in
    let t : tally (nat_lt x m) ≡ 1 = grind (arith, nat_tests) in omega arith

pub different_few : (m : ℕ) (xs : List ℕ) → AreDifferentBelow m xs → length xs ≤ m
different_few m xs d = let a = all_below m xs (λ n le. let b = d n in let c = once_out n m le in omega arith) in let b = below_le m xs d m in omega arith
