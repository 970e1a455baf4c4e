-- Results stay in the range of their type, and in 128 bits.
use Rattle.std.proofs.Common.{arith, subst, ◌≡◌, not, int_lt, int_le, nat_lt, ℕ, zero, suc, ◌<◌, ◌≤◌, ◌^◌, ◌*◌, ℤ, pos, negsuc, neg_ℤ, ◌≤ℤ◌, ◌+ℤ◌, ◌-ℤ◌, ◌*ℤ◌, true, false, sym, ◌∙◌, ap, refl, ◌/◌, ◌%◌, FitsSigned, to_z, of_z, inl, inr, ◌⊎◌, unsigned_abs, int_div, int_rem, Ok, Err}
use Rattle.std.proofs.lemmas.Int.{to_z-of_z, to_z_pos, ints, fits_signed_mul, fits_signed_from_abs, quot-rem}
use Rattle.std.proofs.lemmas.Bool.{ne_eqb, lt-ltb, leb-false, cond-true, cond-false}
use Rattle.std.proofs.lemmas.Nat.{one_shl, pow_below, shr_le}
use Rattle.std.proofs.Math.Nat.{pow-le-pow_right}
use mir.Syntax.{w128}
use Rattle.std.specs.Int.Signed.{shr_z}
use Rattle.mc_value.specs.declared.int_type.IntType.{IntType}
use Rattle.mc_value.specs.declared.int_type.IntType.TheVariants as the
use Rattle.mc_value.specs.IntTypes.{width_of, signed_of, least_of, greatest_of, InRange, in_range}
use Rattle.mc_value.specs.Conversions.{is_zero, wrapped}
use Rattle.mc_value.specs.declared.operators.ShiftOp.{ShiftOp}
use Rattle.mc_value.specs.Shifts.{shifted_right, shifted_left, shifted_by, shift_of}
use Rattle.mc_value.specs.Arithmetic.{quotient, remainder, divided}
use Rattle.mc_value.specs.declared.trap.Trap.TheVariants.{Overflow}

-- ---- each type lies round 0, in 64 bits and a sign

pub low_side : (t : IntType) → (negsuc 9223372036854775807 ≤ℤ least_of t) × (least_of t ≤ℤ pos 0)
low_side the.Bool = grind (arith, ints)
low_side the.Char = grind (arith, ints)
low_side the.SChar = grind (arith, ints)
low_side the.UChar = grind (arith, ints)
low_side the.Short = grind (arith, ints)
low_side the.UShort = grind (arith, ints)
low_side the.Int = grind (arith, ints)
low_side the.UInt = grind (arith, ints)
low_side the.Long = grind (arith, ints)
low_side the.ULong = grind (arith, ints)
low_side the.LLong = grind (arith, ints)
low_side the.ULLong = grind (arith, ints)

pub high_side : (t : IntType) → (pos 0 ≤ℤ greatest_of t) × (greatest_of t ≤ℤ pos 18446744073709551615)
high_side the.Bool = grind (arith, ints)
high_side the.Char = grind (arith, ints)
high_side the.SChar = grind (arith, ints)
high_side the.UChar = grind (arith, ints)
high_side the.Short = grind (arith, ints)
high_side the.UShort = grind (arith, ints)
high_side the.Int = grind (arith, ints)
high_side the.UInt = grind (arith, ints)
high_side the.Long = grind (arith, ints)
high_side the.ULong = grind (arith, ints)
high_side the.LLong = grind (arith, ints)
high_side the.ULLong = grind (arith, ints)

pub signed_side : (t : IntType) → signed_of t ≡ true → greatest_of t ≤ℤ pos 9223372036854775807
signed_side the.Char s = grind (arith, ints)
signed_side the.SChar s = grind (arith, ints)
signed_side the.Short s = grind (arith, ints)
signed_side the.Int s = grind (arith, ints)
signed_side the.Long s = grind (arith, ints)
signed_side the.LLong s = grind (arith, ints)
signed_side _ s = cc

pub width_le : (t : IntType) → width_of t ≤ 64
width_le the.Bool = omega arith
width_le the.Char = omega arith
width_le the.SChar = omega arith
width_le the.UChar = omega arith
width_le the.Short = omega arith
width_le the.UShort = omega arith
width_le the.Int = omega arith
width_le the.UInt = omega arith
width_le the.Long = omega arith
width_le the.ULong = omega arith
width_le the.LLong = omega arith
width_le the.ULLong = omega arith

abs_between : (a lo hi : ℤ) → lo ≤ℤ a → a ≤ℤ hi → (m : ℕ) → negsuc m ≤ℤ lo → hi ≤ℤ pos (suc m) → unsigned_abs a ≤ suc m
abs_between (pos n) lo hi l h m p q = omega (arith, ints)
abs_between (negsuc n) lo hi l h m p q = omega (arith, ints)

pub abs_of_signed : (t : IntType) (a : ℤ) → signed_of t ≡ true → InRange t a → unsigned_abs a ≤ 9223372036854775808
abs_of_signed t a s h = abs_between a _ _ h.least h.greatest 9223372036854775807 (low_side t).0 (let g = signed_side t s in omega (arith, ints))

pub abs_of : (t : IntType) (a : ℤ) → InRange t a → unsigned_abs a ≤ 18446744073709551615
abs_of t a h = abs_between a _ _ h.least h.greatest 18446744073709551614 (let g = (low_side t).0 in omega (arith, ints)) (high_side t).1

-- ---- products and quotients

pub product_fits : (t : IntType) (a b : ℤ) → signed_of t ≡ true → InRange t a → InRange t b → FitsSigned w128 (a *ℤ b)
product_fits t a b s ha hb = fits_signed_mul w128 a b 9223372036854775808 9223372036854775808 (abs_of_signed t a s ha) (abs_of_signed t b s hb) (omega arith)

pub quotient_is : (a b : ℤ) → quotient a b ≡ int_div a b
quotient_is (pos a) (pos b) = refl
quotient_is (pos a) (negsuc b) = refl
quotient_is (negsuc a) (pos b) = refl
quotient_is (negsuc a) (negsuc b) = refl

difference : (x r a : ℤ) → x +ℤ r ≡ a → a -ℤ x ≡ r
difference x r a e = omega (arith, ints)

pub remainder_is : (a b : ℤ) → remainder a b ≡ int_rem a b
remainder_is a b = rw (quotient_is a b) (difference _ _ _ (quot-rem a b))

neg_fits : (n : ℕ) → n < 2 ^ 127 → FitsSigned w128 (neg_ℤ (pos n))
neg_fits zero h = record { sfits = omega arith }
neg_fits (suc n) h = record { sfits = omega arith }

small_quotient : (a b : ℕ) → a < 2 ^ 65 → a / b < 2 ^ 127
small_quotient a b h = let le : a / b ≤ a = grind arith in omega arith

pub quotient_fits : (t : IntType) (a b : ℤ) → InRange t a → FitsSigned w128 b → (of_z w128 b ≡ 0 → ⊥) → FitsSigned w128 (int_div a b)
quotient_fits t (pos a) (pos b) h fb ne = let l = abs_of t (pos a) h in record { sfits = small_quotient a b (omega arith) }
quotient_fits t (pos a) (negsuc b) h fb ne = let l = abs_of t (pos a) h in neg_fits (a / suc b) (small_quotient a (suc b) (omega arith))
quotient_fits t (negsuc a) (pos b) h fb ne = let l = abs_of t (negsuc a) h in neg_fits (suc a / b) (small_quotient (suc a) b (omega arith))
quotient_fits t (negsuc a) (negsuc b) h fb ne = let l = abs_of t (negsuc a) h in record { sfits = small_quotient (suc a) (suc b) (omega arith) }

-- what the code's test of the divisor says
pub nonzero_is : (b : ℤ) → (of_z w128 b ≡ 0 → ⊥) → FitsSigned w128 b → is_zero b ≡ false
nonzero_is (pos zero) ne f = absurd (ne refl)
nonzero_is (pos (suc n)) ne f = ne_eqb (suc n) 0 (λ e. omega arith)
nonzero_is (negsuc n) ne f = refl

pub division_is : (t : IntType) (a b r : ℤ) → (of_z w128 b ≡ 0 → ⊥) → FitsSigned w128 b → in_range t (int_div a b) ≡ true → Ok r ≡ divided t a b r
division_is t a b r ne f i = sym (cond-false (is_zero b) _ _ (nonzero_is b ne f) ∙ cond-true (in_range t (quotient a b)) _ _ (ap (in_range t) (quotient_is a b) ∙ i))

pub division_traps : (t : IntType) (a b r : ℤ) → (of_z w128 b ≡ 0 → ⊥) → FitsSigned w128 b → in_range t (int_div a b) ≡ false → Err Overflow ≡ divided t a b r
division_traps t a b r ne f i = sym (cond-false (is_zero b) _ _ (nonzero_is b ne f) ∙ cond-false (in_range t (quotient a b)) _ _ (ap (in_range t) (quotient_is a b) ∙ i))

-- ---- remainders and right shifts lie between 0 and the number

pub toward_zero : (t : IntType) (a r : ℤ) → InRange t a → unsigned_abs r ≤ unsigned_abs a → ((pos 0 ≤ℤ r) × (pos 0 ≤ℤ a)) ⊎ ((r ≤ℤ pos 0) × (a ≤ℤ pos 0)) → InRange t r
toward_zero t (pos n) (pos m) h le s = let g = (low_side t).1 in record { least = omega (arith, ints); greatest = let u = h.greatest in omega (arith, ints) }
toward_zero t (negsuc n) (negsuc m) h le s = let g = (high_side t).0 in record { least = let u = h.least in omega (arith, ints); greatest = omega (arith, ints) }
toward_zero t (pos n) (negsuc m) h le (inl s) = absurd (let u = s.0 in omega (arith, ints))
toward_zero t (pos n) (negsuc m) h le (inr s) = absurd (let u = s.1 in omega (arith, ints))
toward_zero t (negsuc n) (pos m) h le (inl s) = absurd (let u = s.1 in omega (arith, ints))
toward_zero t (negsuc n) (pos m) h le (inr s) = let g = high_side t in let k = low_side t in record { least = let u = h.least in omega (arith, ints); greatest = let u = s.0 in omega (arith, ints) }

rem_below_or_equal : (a b : ℕ) → a % b ≤ a
rem_below_or_equal a b = grind arith

neg_below : (m : ℕ) → neg_ℤ (pos m) ≤ℤ pos 0
neg_below zero = omega (arith, ints)
neg_below (suc m) = omega (arith, ints)

neg_abs : (m : ℕ) → unsigned_abs (neg_ℤ (pos m)) ≡ m
neg_abs zero = refl
neg_abs (suc m) = refl

pub remainder_side : (a b : ℤ) → ((pos 0 ≤ℤ int_rem a b) × (pos 0 ≤ℤ a)) ⊎ ((int_rem a b ≤ℤ pos 0) × (a ≤ℤ pos 0))
remainder_side (pos a) (pos b) = inl (omega (arith, ints), omega (arith, ints))
remainder_side (pos a) (negsuc b) = inl (omega (arith, ints), omega (arith, ints))
remainder_side (negsuc a) (pos b) = inr (neg_below (suc a % b), omega (arith, ints))
remainder_side (negsuc a) (negsuc b) = inr (neg_below (suc a % suc b), omega (arith, ints))

pub remainder_abs : (a b : ℤ) → unsigned_abs (int_rem a b) ≤ unsigned_abs a
remainder_abs (pos a) (pos b) = rem_below_or_equal a b
remainder_abs (pos a) (negsuc b) = rem_below_or_equal a (suc b)
remainder_abs (negsuc a) (pos b) = rw (neg_abs (suc a % b)) (rem_below_or_equal (suc a) b)
remainder_abs (negsuc a) (negsuc b) = rw (neg_abs (suc a % suc b)) (rem_below_or_equal (suc a) (suc b))

pub remainder_within : (t : IntType) (a b : ℤ) → InRange t a → InRange t (int_rem a b)
remainder_within t a b h = toward_zero t a (int_rem a b) h (remainder_abs a b) (remainder_side a b)

right_side : (a : ℤ) (k : ℕ) → ((pos 0 ≤ℤ shifted_right a k) × (pos 0 ≤ℤ a)) ⊎ ((shifted_right a k ≤ℤ pos 0) × (a ≤ℤ pos 0))
right_side (pos n) k = inl (omega (arith, ints), omega (arith, ints))
right_side (negsuc n) k = inr (omega (arith, ints), omega (arith, ints))

right_abs : (a : ℤ) (k : ℕ) → unsigned_abs (shifted_right a k) ≤ unsigned_abs a
right_abs (pos n) k = shr_le n k
right_abs (negsuc n) k = let l = shr_le n k in omega arith

pub right_within : (t : IntType) (a : ℤ) (k : ℕ) → InRange t a → InRange t (shifted_right a k)
right_within t a k h = toward_zero t a (shifted_right a k) h (right_abs a k) (right_side a k)

pub within_fits : (t : IntType) (v : ℤ) → InRange t v → FitsSigned w128 v
within_fits t v h = fits_signed_from_abs w128 v (let l = abs_of t v h in omega arith)

right_is : (a : ℤ) (k : ℕ) → shr_z a (2 ^ k) ≡ shifted_right a k
right_is (pos n) k = refl
right_is (negsuc n) k = refl

-- what the code's `a >> k` gives
pub right_returns : (t : IntType) (a : ℤ) (k : ℕ) → InRange t a → FitsSigned w128 a → InRange t (to_z w128 (of_z w128 (shr_z (to_z w128 (of_z w128 a)) (2 ^ k))))
right_returns t a k h f =
    let w = right_within t a k h in
    let e = ap (λ z. to_z w128 (of_z w128 (shr_z z (2 ^ k)))) (to_z-of_z w128 a f) ∙ ap (λ z. to_z w128 (of_z w128 z)) (right_is a k) ∙ to_z-of_z w128 (shifted_right a k) (within_fits t (shifted_right a k) w) in
    subst (InRange t) (sym e) w

-- ---- left shifts

pub power_is : (k : ℕ) → k < 64 → to_z w128 ((1 * 2 ^ k) % 2 ^ 128) ≡ pos (2 ^ k)
power_is k h = rw (one_shl k 128 (omega arith)) (to_z_pos w128 (2 ^ k) (pow_below k 127 (omega arith)))

power_le : (k : ℕ) → k < 64 → 2 ^ k ≤ 9223372036854775808
power_le k h = let le : k ≤ 63 = omega arith in pow-le-pow_right {n = 2} (omega arith) le

pub shift_fits : (t : IntType) (a : ℤ) (k : ℕ) → InRange t a → k < 64 → FitsSigned w128 (a *ℤ pos (2 ^ k))
shift_fits t a k h l = fits_signed_mul w128 a (pos (2 ^ k)) 18446744073709551615 9223372036854775808 (abs_of t a h) (power_le k l) (omega arith)

pub left_wraps : (t : IntType) (a : ℤ) (k : ℕ) → signed_of t ≡ false → Ok (wrapped t (a *ℤ pos (2 ^ k))) ≡ shifted_left t a k
left_wraps t a k s = sym (cond-true (not (signed_of t)) _ _ (ap not s))

pub left_fits : (t : IntType) (a : ℤ) (k : ℕ) → signed_of t ≡ true → int_le (pos 0) a ≡ true → in_range t (a *ℤ pos (2 ^ k)) ≡ true → Ok (a *ℤ pos (2 ^ k)) ≡ shifted_left t a k
left_fits t (pos n) k s p i = sym (cond-false (not (signed_of t)) _ _ (ap not s) ∙ cond-true (in_range t (pos n *ℤ pos (2 ^ k))) _ _ i)
left_fits t (negsuc n) k s p i = cc

pub by_amount : (op : ShiftOp) (t : IntType) (a count : ℤ) → int_lt count (pos 0) ≡ false → int_le (pos (width_of t)) count ≡ false → shifted_by op t a (unsigned_abs count) ≡ shift_of op t a count
by_amount op t a (pos k) low high = sym (cond-true (nat_lt k (width_of t)) _ _ (lt-ltb k (width_of t) (leb-false (width_of t) k high)))
by_amount op t a (negsuc n) low high = cc
