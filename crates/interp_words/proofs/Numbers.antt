-- Words and the numbers that they stand for.
use Rattle.std.proofs.Common.{◌≡◌, ℕ, ◌-◌, ◌*◌, ◌%◌, ◌<◌, ◌≤◌, ◌^◌, ◌==◌, ℤ, pos, negsuc, ◌+ℤ◌, Bool, true, false, nat_lt, if◌then◌else◌, refl, sym, ap, ◌∙◌, arith, inl, inr, FitsSigned, to_z, Err}
use Rattle.std.proofs.lemmas.Int.{ints, to_z_pos}
use Rattle.std.proofs.lemmas.Bool.{cases_lt, cond-true, cond-false, le-ltb}
use Rattle.std.proofs.lemmas.Nat.{pow_pos}
use Rattle.std.proofs.Common.{◌≤ℤ◌, ◌⊎◌}
use Rattle.mc_value.specs.declared.trap.Trap.TheVariants.{Shift}
use mir.Syntax.{w64}
use Rattle.mc_value.specs.declared.int_type.IntType.{IntType}
use Rattle.mc_value.specs.declared.int_type.IntType.TheVariants as the
use Rattle.mc_value.specs.declared.operators.ShiftOp.{ShiftOp}
use Rattle.mc_value.specs.IntTypes.{signed_of, width_of, least_of, InRange}
use Rattle.mc_value.specs.Conversions.{modulo, wrapped, converted, is_zero}
use Rattle.mc_value.specs.Shifts.{shift_of}
use Rattle.mc_value.proofs.Bounds.{low_side, high_side, signed_side, width_le}
use Rattle.mc_value.proofs.Wrapping.{modulo_lifted, wrapped_same}
use Rattle.interp_words.specs.Words.{number_of}

-- ---- a word as a number with a sign

abbrev pub with_sign : ℕ → ℤ
with_sign word = to_z w64 word

pub sign_low : (w : ℕ) → w < 9223372036854775808 → with_sign w ≡ pos w
sign_low w h = to_z_pos w64 w (omega (arith, h))

pub sign_high : (w : ℕ) → 9223372036854775808 ≤ w → w < 18446744073709551616 →
    with_sign w ≡ negsuc (18446744073709551615 - w)
sign_high w h l = grind (arith, ints)

-- ---- numbers by their type

pub number_signed : (t : IntType) (w : ℕ) → signed_of t ≡ true → number_of t w ≡ with_sign w
number_signed t w s = cond-true (signed_of t) (with_sign w) (pos w) s

pub number_unsigned : (t : IntType) (w : ℕ) → signed_of t ≡ false → number_of t w ≡ pos w
number_unsigned t w s = cond-false (signed_of t) (with_sign w) (pos w) s

-- by the two cases of a type's sign
by_sign : (P : ℤ → Type 0) (t : IntType) (w : ℕ) → P (with_sign w) → P (pos w) → P (number_of t w)
by_sign P t w s u = go (signed_of t)
  where
    go : (b : Bool) → P (if b then with_sign w else pos w)
    go true = s
    go false = u

unsigned_least : (t : IntType) → signed_of t ≡ false → least_of t ≡ pos 0
unsigned_least t s = cond-false (signed_of t) _ _ s

-- ---- the same remainders

lifted : (w : ℕ) (k m : ℕ) → 0 < m → k * m ≡ 18446744073709551616 → 9223372036854775808 ≤ w →
    w < 18446744073709551616 → modulo (with_sign w) m ≡ w % m
lifted w k m h e low high =
    modulo_lifted (with_sign w) m k w h
    (ap (λ x. with_sign w +ℤ pos x) e ∙ omega (arith, ints, sign_high w low high))

signed_modulo : (w : ℕ) (k m : ℕ) → 0 < m → k * m ≡ 18446744073709551616 →
    w < 18446744073709551616 → modulo (with_sign w) m ≡ w % m
signed_modulo w k m h e high = go (cases_lt w 9223372036854775808)
  where
    go : (w < 9223372036854775808) ⊎ (9223372036854775808 ≤ w) → modulo (with_sign w) m ≡ w % m
    go (inl l) = ap (λ z. modulo z m) (sign_low w (omega (arith, l)))
    go (inr l) = lifted w k m h e (omega (arith, l)) high

pub whole : (t : IntType) → 2 ^ (64 - width_of t) * 2 ^ width_of t ≡ 18446744073709551616
whole the.Bool = refl
whole the.Char = refl
whole the.SChar = refl
whole the.UChar = refl
whole the.Short = refl
whole the.UShort = refl
whole the.Int = refl
whole the.UInt = refl
whole the.Long = refl
whole the.ULong = refl
whole the.LLong = refl
whole the.ULLong = refl

pub number_modulo : (u t : IntType) (w : ℕ) → w < 18446744073709551616 →
    modulo (number_of u w) (2 ^ width_of t) ≡ w % 2 ^ width_of t
number_modulo u t w h =
    by_sign (λ z. modulo z (2 ^ width_of t) ≡ w % 2 ^ width_of t) u w
    (signed_modulo w (2 ^ (64 - width_of t)) (2 ^ width_of t) (pow_pos (width_of t)) (whole t) h) refl

-- ---- what does not ask for the type of a word

pub zero_words : (u : IntType) (w : ℕ) → w < 18446744073709551616 → is_zero (number_of u w) ≡ (w == 0)
zero_words u w h = by_sign (λ z. is_zero z ≡ (w == 0)) u w (go (cases_lt w 9223372036854775808)) refl
  where
    go : (w < 9223372036854775808) ⊎ (9223372036854775808 ≤ w) → is_zero (with_sign w) ≡ (w == 0)
    go (inl l) = ap is_zero (sign_low w (omega (arith, l)))
    go (inr l) = ap is_zero (sign_high w (omega (arith, l)) h) ∙ grind arith

pub wrapped_words : (u t : IntType) (w : ℕ) → w < 18446744073709551616 →
    wrapped t (number_of u w) ≡ wrapped t (pos w)
wrapped_words u t w h = wrapped_same t (number_of u w) (pos w) (number_modulo u t w h)

pub converted_words : (u t : IntType) (w : ℕ) → w < 18446744073709551616 →
    converted t (number_of u w) ≡ converted t (pos w)
converted_words u the.Bool w h = ap (λ b. if b then pos 0 else pos 1) (zero_words u w h)
converted_words u the.Char w h = wrapped_words u the.Char w h
converted_words u the.SChar w h = wrapped_words u the.SChar w h
converted_words u the.UChar w h = wrapped_words u the.UChar w h
converted_words u the.Short w h = wrapped_words u the.Short w h
converted_words u the.UShort w h = wrapped_words u the.UShort w h
converted_words u the.Int w h = wrapped_words u the.Int w h
converted_words u the.UInt w h = wrapped_words u the.UInt w h
converted_words u the.Long w h = wrapped_words u the.Long w h
converted_words u the.ULong w h = wrapped_words u the.ULong w h
converted_words u the.LLong w h = wrapped_words u the.LLong w h
converted_words u the.ULLong w h = wrapped_words u the.ULLong w h

too_far : (op : ShiftOp) (t : IntType) (a : ℤ) (w : ℕ) → 9223372036854775808 ≤ w →
    shift_of op t a (pos w) ≡ Err Shift
too_far op t a w h =
    cond-false (nat_lt w (width_of t)) _ _ (le-ltb w (width_of t) (let l = width_le t in omega arith))

pub shift_words : (op : ShiftOp) (u t : IntType) (a : ℤ) (w : ℕ) → w < 18446744073709551616 →
    shift_of op t a (number_of u w) ≡ shift_of op t a (pos w)
shift_words op u t a w h =
    by_sign (λ z. shift_of op t a z ≡ shift_of op t a (pos w)) u w (go (cases_lt w 9223372036854775808)) refl
  where
    go : (w < 9223372036854775808) ⊎ (9223372036854775808 ≤ w) → shift_of op t a (with_sign w) ≡ shift_of op t a (pos w)
    go (inl l) = ap (shift_of op t a) (sign_low w (omega (arith, l)))
    go (inr l) = ap (shift_of op t a) (sign_high w (omega (arith, l)) h) ∙ sym (too_far op t a w (omega (arith, l)))

-- ---- the word of a value

pub signed_fits : (t : IntType) (v : ℤ) → signed_of t ≡ true → InRange t v → FitsSigned w64 v
signed_fits t (pos n) s h =
    let g = signed_side t s in let r = h.greatest in record { sfits = omega (arith, ints) }
signed_fits t (negsuc n) s h =
    let g = (low_side t).0 in let r = h.least in record { sfits = omega (arith, ints) }

pub unsigned_is : (t : IntType) (v : ℤ) → signed_of t ≡ false → InRange t v → (n : ℕ) × (v ≡ pos n) × (n < 18446744073709551616)
unsigned_is t (pos n) s h =
    let g = (high_side t).1 in let r = h.greatest in (n, refl, omega (arith, ints))
unsigned_is t (negsuc n) s h =
    let r : least_of t ≤ℤ negsuc n = h.least in
    let z = unsigned_least t s in absurd (omega (arith, ints))
