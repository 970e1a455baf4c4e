-- The machine's operators on 128 bits, and the digits of a type.
use Rattle.std.proofs.Common.{arith, rules, add_comm, ◌≡◌, ℕ, zero, suc, ◌<◌, ◌≤◌, ◌+◌, ◌-◌, ◌*◌, ◌/◌, ◌%◌, ◌^◌, min, max, ℤ, pos, negsuc, Bool, true, false, not, ◌&&◌, ◌||◌, if◌then◌else◌, ◌==◌, sym, ◌∙◌, ap, refl, ⊎_elim, bit_and, bit_or, bit_xor, Fits, FitsSigned, to_z, of_z}
use Rattle.std.proofs.lemmas.Int.{ints}
use Rattle.std.proofs.lemmas.Bool.{cases_lt}
use Rattle.std.proofs.lemmas.Nat.{or_lt, xor_lt, pow_pos, pow-add, mod-pow-add, shr_split}
use Rattle.std.proofs.lemmas.Nat.Bits.{bit_at_and, bit_at_or, bit_at_xor, bit_at_not, bit_at-lt, bit_at_cat_low, bit_at_cat_high, same_from_bits_below}
use Rattle.std.specs.Int.{bit_at, bit_not}
use Rattle.std.proofs.Math.Nat.{mod-eq_of_lt}
use Rattle.std.proofs.Math.Facts.{sfits_to_z, of_z-to_z}
use mir.Syntax.{w128}
use Rattle.mc_value.specs.declared.int_type.IntType.{IntType}
use Rattle.mc_value.specs.IntTypes.{width_of, InRange}
use Rattle.mc_value.specs.Conversions.{modulo, wrapped}
use Rattle.mc_value.specs.Digits.{digit, number_of_digits, value_of_digits, digitwise}
use Rattle.mc_value.specs.Arithmetic.{exclusive}
use Rattle.mc_value.proofs.Bounds.{width_le}
use Rattle.mc_value.proofs.Wrapping.{modulo_lifted, modulo_lt, wrapped_same, wrapped_modulo, wrapped_own}

-- ---- the pattern of 128 bits has the number's remainders

power_splits : (n : ℕ) → n ≤ 128 → 2 ^ (128 - n) * 2 ^ n ≡ 2 ^ 128
power_splits n h =
    let e : 128 - n + n ≡ 128 = omega arith in
    sym (pow-add 2 (128 - n) n) ∙ ap (λ k. 2 ^ k) e

pub pattern_modulo : (v : ℤ) (n : ℕ) → n ≤ 128 → FitsSigned w128 v → modulo v (2 ^ n) ≡ of_z w128 v % 2 ^ n
pattern_modulo (pos a) n h f = refl
pattern_modulo (negsuc a) n h f =
    let s = power_splits n h in
    let g = f.sfits in
    modulo_lifted (negsuc a) (2 ^ n) (2 ^ (128 - n)) (2 ^ 128 - suc a) (pow_pos n) (omega (arith, ints))

pub read_modulo : (x : ℕ) (n : ℕ) → n ≤ 128 → x < 2 ^ 128 → modulo (to_z w128 x) (2 ^ n) ≡ x % 2 ^ n
read_modulo x n h f =
    let fits : Fits w128 x = record { fits = f } in
    pattern_modulo (to_z w128 x) n h (sfits_to_z fits) ∙ ap (λ y. y % 2 ^ n) (of_z-to_z fits)

-- ---- digits of numbers

pub bit_of_rest : (x n k : ℕ) → k < n → bit_at (x % 2 ^ n) k ≡ bit_at x k
bit_of_rest x n k h = sym (bit_at_cat_low (x / 2 ^ n) n (x % 2 ^ n) k h) ∙ ap (λ y. bit_at y k) (shr_split x n)

pub number_same : (n : ℕ) (d e : ℕ → Bool) → ((k : ℕ) → k < n → d k ≡ e k) → number_of_digits n d ≡ number_of_digits n e
number_same zero d e h = refl
number_same (suc n) d e h =
    let low = number_same n d e (λ k l. h k (omega arith)) in
    let top = h n (omega arith) in
    rw (low, top) refl

bit_times : (b m : ℕ) → b < 2 → b * m ≡ (if b == 1 then m else 0)
bit_times zero m h = grind arith
bit_times (suc zero) m h = grind arith
bit_times (suc (suc b)) m h = absurd (omega arith)

pub number_of_bits : (x n : ℕ) → number_of_digits n (λ k. bit_at x k == 1) ≡ x % 2 ^ n
number_of_bits x zero = grind arith
number_of_bits x (suc n) =
    let low = number_of_bits x n in
    let turned : suc n ≡ 1 + n = omega arith in
    let split : x % 2 ^ (1 + n) ≡ (x / 2 ^ n % 2 ^ 1) * 2 ^ n + x % 2 ^ n = mod-pow-add x 1 n in
    let top = bit_times (bit_at x n) (2 ^ n) (bit_at-lt x n) in
    let sum : number_of_digits n (λ k. bit_at x k == 1) + (if bit_at x n == 1 then 2 ^ n else 0) ≡ (x / 2 ^ n % 2 ^ 1) * 2 ^ n + x % 2 ^ n =
    rw (low, ← top) (add_comm (x % 2 ^ n) (bit_at x n * 2 ^ n)) in
    sum ∙ sym split ∙ ap (λ k. x % 2 ^ k) (sym turned)

-- the number with these digits has them
pub number_below : (n : ℕ) (d : ℕ → Bool) → number_of_digits n d < 2 ^ n
number_below zero d = omega arith
number_below (suc n) d =
    let low = number_below n d in
    let double : 2 ^ suc n ≡ 2 ^ n + 2 ^ n = grind arith in
    let top : (b : Bool) → (if b then 2 ^ n else 0) ≤ 2 ^ n = elim [ true ↦ omega arith | false ↦ omega arith ] in
    let t = top (d n) in
    omega arith

abbrev as_number : Bool → ℕ
as_number b = if b then 1 else 0

as_times : (b : Bool) (m : ℕ) → (if b then m else 0) ≡ as_number b * m
as_times true m = grind arith
as_times false m = grind arith

as_test : (b : Bool) → (bit_at (as_number b) 0 == 1) ≡ b
as_test true = refl
as_test false = refl

-- a number of n digits with one more before them
joined : (n : ℕ) (d : ℕ → Bool) → number_of_digits (suc n) d ≡ as_number (d n) * 2 ^ n + number_of_digits n d
joined n d = rw (as_times (d n) (2 ^ n)) (add_comm (number_of_digits n d) (as_number (d n) * 2 ^ n))

pub bits_of_number : (n : ℕ) (d : ℕ → Bool) (k : ℕ) → k < n → (bit_at (number_of_digits n d) k == 1) ≡ d k
bits_of_number zero d k h = absurd (omega arith)
bits_of_number (suc n) d k h =
    let e = joined n d in
    ⊎_elim
    (λ l. ap (λ x. bit_at x k == 1) e ∙ ap (λ x. x == 1) (bit_at_cat_low (as_number (d n)) n (number_of_digits n d) k l) ∙ bits_of_number n d k l)
    (λ g. let same : k ≡ n = omega arith in
    ap (λ x. bit_at x k == 1) e
    ∙ ap (λ x. x == 1) (bit_at_cat_high (as_number (d n)) n (number_of_digits n d) k (number_below n d) g)
    ∙ ap (λ i. bit_at (as_number (d n)) i == 1) (let z : k - n ≡ 0 = omega arith in z)
    ∙ as_test (d n) ∙ ap d (sym same))
    (cases_lt k n)

-- ---- a type's digits of a number are those of its pattern

pub digit_of_pattern : (t : IntType) (v : ℤ) (k : ℕ) → FitsSigned w128 v → k < width_of t → digit t v k ≡ (bit_at (of_z w128 v) k == 1)
digit_of_pattern t v k f h =
    let w = width_le t in
    ap (λ m. bit_at m k == 1) (pattern_modulo v (width_of t) (omega arith) f) ∙ ap (λ b. b == 1) (bit_of_rest (of_z w128 v) (width_of t) k h)

pub value_of_pattern : (t : IntType) (x : ℕ) (d : ℕ → Bool) → x < 2 ^ 128 → ((k : ℕ) → k < width_of t → (bit_at x k == 1) ≡ d k) → wrapped t (to_z w128 x) ≡ value_of_digits t d
value_of_pattern t x d f h =
    let w = width_le t in
    let n = width_of t in
    wrapped_same t (to_z w128 x) (pos (number_of_digits n d))
    (read_modulo x n (omega arith) f ∙ sym (number_of_bits x n) ∙ number_same n (λ k. bit_at x k == 1) d h ∙ sym (mod-eq_of_lt (number_below n d)))

pub digits_of_value : (t : IntType) (d : ℕ → Bool) (k : ℕ) → k < width_of t → digit t (value_of_digits t d) k ≡ d k
digits_of_value t d k h =
    let n = width_of t in
    ap (λ m. bit_at m k == 1) (wrapped_modulo t (pos (number_of_digits n d)) ∙ mod-eq_of_lt (number_below n d)) ∙ bits_of_number n d k h

-- ---- one digit of each operator

and_digit : (x y : ℕ) → x < 2 → y < 2 → (min x y == 1) ≡ ((x == 1) && (y == 1))
and_digit zero zero h l = refl
and_digit zero (suc zero) h l = refl
and_digit (suc zero) zero h l = refl
and_digit (suc zero) (suc zero) h l = refl
and_digit (suc (suc x)) y h l = absurd (omega arith)
and_digit x (suc (suc y)) h l = absurd (omega arith)

or_digit : (x y : ℕ) → x < 2 → y < 2 → (max x y == 1) ≡ ((x == 1) || (y == 1))
or_digit zero zero h l = refl
or_digit zero (suc zero) h l = refl
or_digit (suc zero) zero h l = refl
or_digit (suc zero) (suc zero) h l = refl
or_digit (suc (suc x)) y h l = absurd (omega arith)
or_digit x (suc (suc y)) h l = absurd (omega arith)

xor_digit : (x y : ℕ) → x < 2 → y < 2 → ((x + y) % 2 == 1) ≡ exclusive (x == 1) (y == 1)
xor_digit zero zero h l = refl
xor_digit zero (suc zero) h l = refl
xor_digit (suc zero) zero h l = refl
xor_digit (suc zero) (suc zero) h l = refl
xor_digit (suc (suc x)) y h l = absurd (omega arith)
xor_digit x (suc (suc y)) h l = absurd (omega arith)

not_digit : (x : ℕ) → x < 2 → (1 - x == 1) ≡ not (x == 1)
not_digit zero h = refl
not_digit (suc zero) h = refl
not_digit (suc (suc x)) h = absurd (omega arith)

pub and_is : (t : IntType) (a b : ℤ) → FitsSigned w128 a → FitsSigned w128 b → wrapped t (to_z w128 (bit_and (of_z w128 a) (of_z w128 b))) ≡ digitwise ◌&&◌ t a b
and_is t a b fa fb = value_of_pattern t (bit_and (of_z w128 a) (of_z w128 b)) (λ k. digit t a k && digit t b k) (search rules)
    (λ k h. ap (λ x. x == 1) (bit_at_and (of_z w128 a) (of_z w128 b) k)
    ∙ and_digit (bit_at (of_z w128 a) k) (bit_at (of_z w128 b) k) (bit_at-lt (of_z w128 a) k) (bit_at-lt (of_z w128 b) k)
    ∙ rw (digit_of_pattern t a k fa h, digit_of_pattern t b k fb h) refl)

pub or_is : (t : IntType) (a b : ℤ) → FitsSigned w128 a → FitsSigned w128 b → wrapped t (to_z w128 (bit_or (of_z w128 a) (of_z w128 b))) ≡ digitwise ◌||◌ t a b
or_is t a b fa fb =
    let la : of_z w128 a < 2 ^ 128 = search rules in
    let lb : of_z w128 b < 2 ^ 128 = search rules in
    value_of_pattern t (bit_or (of_z w128 a) (of_z w128 b)) (λ k. digit t a k || digit t b k) (or_lt 128 (of_z w128 a) (of_z w128 b) la lb)
    (λ k h. ap (λ x. x == 1) (bit_at_or (of_z w128 a) (of_z w128 b) k)
    ∙ or_digit (bit_at (of_z w128 a) k) (bit_at (of_z w128 b) k) (bit_at-lt (of_z w128 a) k) (bit_at-lt (of_z w128 b) k)
    ∙ rw (digit_of_pattern t a k fa h, digit_of_pattern t b k fb h) refl)

pub xor_is : (t : IntType) (a b : ℤ) → FitsSigned w128 a → FitsSigned w128 b → wrapped t (to_z w128 (bit_xor (of_z w128 a) (of_z w128 b))) ≡ digitwise exclusive t a b
xor_is t a b fa fb =
    let la : of_z w128 a < 2 ^ 128 = search rules in
    let lb : of_z w128 b < 2 ^ 128 = search rules in
    value_of_pattern t (bit_xor (of_z w128 a) (of_z w128 b)) (λ k. exclusive (digit t a k) (digit t b k)) (xor_lt 128 (of_z w128 a) (of_z w128 b) la lb)
    (λ k h. ap (λ x. x == 1) (bit_at_xor (of_z w128 a) (of_z w128 b) k)
    ∙ xor_digit (bit_at (of_z w128 a) k) (bit_at (of_z w128 b) k) (bit_at-lt (of_z w128 a) k) (bit_at-lt (of_z w128 b) k)
    ∙ rw (digit_of_pattern t a k fa h, digit_of_pattern t b k fb h) refl)

pub not_is : (t : IntType) (a : ℤ) → FitsSigned w128 a → wrapped t (to_z w128 (bit_not w128 (of_z w128 a))) ≡ value_of_digits t (λ k. not (digit t a k))
not_is t a fa =
    let w = width_le t in
    let small : of_z w128 a < 2 ^ 128 = search rules in
    value_of_pattern t (bit_not w128 (of_z w128 a)) (λ k. not (digit t a k)) (omega arith)
    (λ k h. ap (λ x. x == 1) (bit_at_not w128 (of_z w128 a) k small (omega arith))
    ∙ not_digit (bit_at (of_z w128 a) k) (bit_at-lt (of_z w128 a) k)
    ∙ rw (digit_of_pattern t a k fa h) refl)

-- ---- a value is the one with its digits

bit_from_test : (x y : ℕ) → x < 2 → y < 2 → (x == 1) ≡ (y == 1) → x ≡ y
bit_from_test zero zero h l e = refl
bit_from_test zero (suc zero) h l e = cc
bit_from_test (suc zero) zero h l e = cc
bit_from_test (suc zero) (suc zero) h l e = refl
bit_from_test (suc (suc x)) y h l e = absurd (omega arith)
bit_from_test x (suc (suc y)) h l e = absurd (omega arith)

pub same_digits : (t : IntType) (a b : ℤ) → InRange t a → InRange t b → ((k : ℕ) → k < width_of t → digit t a k ≡ digit t b k) → a ≡ b
same_digits t a b ha hb same =
    let m = 2 ^ width_of t in
    let some = pow_pos (width_of t) in
    let x = modulo a m in
    let y = modulo b m in
    let e : x ≡ y = same_from_bits_below (width_of t) x y (modulo_lt a m some) (modulo_lt b m some)
    (λ k h. bit_from_test (bit_at x k) (bit_at y k) (bit_at-lt x k) (bit_at-lt y k) (same k h)) in
    sym (wrapped_own t a ha) ∙ wrapped_same t a b e ∙ wrapped_own t b hb
