-- The operators on digits, on words.
use Rattle.std.proofs.Common.{◌≡◌, ◌≢◌, ℕ, suc, ◌-◌, ◌*◌, ◌/◌, ◌%◌, ◌<◌, ◌≤◌, ◌^◌, ◌==◌, pos, negsuc, ◌+ℤ◌, ◌≤ℤ◌, Bool, not, ◌&&◌, ◌||◌, sym, ap, ◌∙◌, arith, inl, inr, ◌⊎◌, ⊎_elim, FitsSigned, to_z, bit_and, bit_or, bit_xor}
use Rattle.std.proofs.lemmas.Int.{ints, to_z_pos, to_z-of_z}
use Rattle.std.proofs.lemmas.Bool.{cases_lt}
use Rattle.std.proofs.lemmas.Nat.{and_le_l, or_lt, xor_lt, and_shr, or_shr, xor_shr}
use mir.Syntax.{w128}
use Rattle.mc_value.specs.declared.int_type.IntType.{IntType}
use Rattle.mc_value.specs.declared.int_type.IntType.TheVariants as the
use Rattle.mc_value.specs.Conversions.{promoted, wrapped}
use Rattle.mc_value.specs.Digits.{digit, digitwise, value_of_digits}
use Rattle.mc_value.specs.Arithmetic.{exclusive}
use Rattle.mc_value.proofs.Bits.{and_is, or_is, xor_is, not_is}
use Rattle.mc_value.proofs.Wrapping.{wrapped_own}
use Rattle.interp_words.specs.Words.{number_of, Holds}
use Rattle.interp_words.proofs.Numbers.{with_sign, sign_low, sign_high, number_modulo, wrapped_words}
use Rattle.interp_words.proofs.Fitting.{by_promoted, left_over}

-- ---- the digits of a word are those of its number

fits : (w : ℕ) → w < 18446744073709551616 → FitsSigned w128 (pos w)
fits w h = record { sfits = omega arith }

plain : (w : ℕ) → w < 18446744073709551616 → to_z w128 w ≡ pos w
plain w h = to_z_pos w128 w (omega arith)

pairwise : (f : Bool → Bool → Bool) (t : IntType) (l r : ℕ) → l < 18446744073709551616 → r < 18446744073709551616 → digitwise f t (pos l) (pos r) ≡ digitwise f t (number_of t l) (number_of t r)
pairwise f t l r hl hr =
    ap (λ x. value_of_digits t (λ k. f (x / 2 ^ k % 2 == 1) (digit t (pos r) k))) (sym (number_modulo t t l hl))
    ∙ ap (λ x. value_of_digits t (λ k. f (digit t (number_of t l) k) (x / 2 ^ k % 2 == 1))) (sym (number_modulo t t r hr))

-- a word that holds a value of the type
held : (t : IntType) (w : ℕ) → w < 18446744073709551616 → Holds t w → number_of t w ≡ wrapped t (pos w)
held t w h k = sym (wrapped_own t (number_of t w) k) ∙ wrapped_words t t w h

-- ---- words that hold values of a promoted type

signed_long : (w : ℕ) → w < 18446744073709551616 → (negsuc 9223372036854775807 ≤ℤ with_sign w) × (with_sign w ≤ℤ pos 9223372036854775807)
signed_long w h =
    ⊎_elim
    (λ l. let e = sign_low w l in (omega (arith, ints), omega (arith, ints)))
    (λ l. let e = sign_high w l h in (omega (arith, ints), omega (arith, ints)))
    (cases_lt w 9223372036854775808)

-- the high digits of a word repeat the sign of 32 bits
abbrev Repeats : ℕ → Type 0
Repeats h = (h ≡ 0) ⊎ (h ≡ 8589934591)

repeats : (w : ℕ) → w < 18446744073709551616 → Holds the.Int w → Repeats (w / 2147483648)
repeats w h k =
    ⊎_elim
    (λ l. let e = sign_low w l in let g = k.greatest in inl (omega (arith, ints)))
    (λ l. let e = sign_high w l h in let g = k.least in inr (omega (arith, ints)))
    (cases_lt w 9223372036854775808)

from_repeats : (w : ℕ) → w < 18446744073709551616 → Repeats (w / 2147483648) → Holds the.Int w
from_repeats w h (inl e) =
    let l : w < 2147483648 = omega arith in
    let s = sign_low w (omega arith) in
    record { least = omega (arith, ints); greatest = omega (arith, ints) }
from_repeats w h (inr e) =
    let l : 18446744071562067968 ≤ w = omega arith in
    let s = sign_high w (omega arith) h in
    record { least = omega (arith, ints); greatest = omega (arith, ints) }

-- what holds of the words of a type for an operator that keeps repeated digits and 32 bits
kept : (op : ℕ → ℕ → ℕ) → ((a b : ℕ) → op a b / 2147483648 ≡ op (a / 2147483648) (b / 2147483648)) → ((a b : ℕ) → Repeats a → Repeats b → Repeats (op a b)) → ((a b : ℕ) → a < 4294967296 → b < 4294967296 → op a b < 4294967296) →
    (t : IntType) → promoted t ≡ t → (l r : ℕ) → op l r < 18446744073709551616 → l < 18446744073709551616 → r < 18446744073709551616 → Holds t l → Holds t r → Holds t (op l r)
kept op shr rep low t p l r h hl hr =
    let long = signed_long (op l r) h in
    by_promoted (λ t. Holds t l → Holds t r → Holds t (op l r)) t p
    (λ a b. from_repeats (op l r) h (rw (shr l r) (rep (l / 2147483648) (r / 2147483648) (repeats l hl a) (repeats r hr b))))
    (λ a b. let g = a.greatest in let k = b.greatest in let s = low l r (omega (arith, ints)) (omega (arith, ints)) in record { least = omega (arith, ints); greatest = omega (arith, ints) })
    (λ a b. record { least = long.0; greatest = long.1 })
    (λ a b. record { least = omega (arith, ints); greatest = omega (arith, ints) })
    (λ a b. record { least = long.0; greatest = long.1 })
    (λ a b. record { least = omega (arith, ints); greatest = omega (arith, ints) })

both : (op : ℕ → ℕ → ℕ) (a b x y : ℕ) → a ≡ x → b ≡ y → op a b ≡ op x y
both op a b x y e f = ap (λ z. op z b) e ∙ ap (op x) f

and_repeats : (a b : ℕ) → Repeats a → Repeats b → Repeats (bit_and a b)
and_repeats a b (inl e) (inl f) = inl (both bit_and a b 0 0 e f)
and_repeats a b (inl e) (inr f) = inl (both bit_and a b 0 8589934591 e f)
and_repeats a b (inr e) (inl f) = inl (both bit_and a b 8589934591 0 e f)
and_repeats a b (inr e) (inr f) = inr (both bit_and a b 8589934591 8589934591 e f)

or_repeats : (a b : ℕ) → Repeats a → Repeats b → Repeats (bit_or a b)
or_repeats a b (inl e) (inl f) = inl (both bit_or a b 0 0 e f)
or_repeats a b (inl e) (inr f) = inr (both bit_or a b 0 8589934591 e f)
or_repeats a b (inr e) (inl f) = inr (both bit_or a b 8589934591 0 e f)
or_repeats a b (inr e) (inr f) = inr (both bit_or a b 8589934591 8589934591 e f)

xor_repeats : (a b : ℕ) → Repeats a → Repeats b → Repeats (bit_xor a b)
xor_repeats a b (inl e) (inl f) = inl (both bit_xor a b 0 0 e f)
xor_repeats a b (inl e) (inr f) = inr (both bit_xor a b 0 8589934591 e f)
xor_repeats a b (inr e) (inl f) = inr (both bit_xor a b 8589934591 0 e f)
xor_repeats a b (inr e) (inr f) = inl (both bit_xor a b 8589934591 8589934591 e f)

and_kept : (t : IntType) → promoted t ≡ t → (l r : ℕ) → l < 18446744073709551616 → r < 18446744073709551616 → Holds t l → Holds t r → Holds t (bit_and l r)
and_kept t p l r hl hr = kept bit_and (λ a b. and_shr a b 31) and_repeats (λ a b h k. let e = and_le_l a b in omega arith) t p l r (let e = and_le_l l r in omega arith) hl hr

or_kept : (t : IntType) → promoted t ≡ t → (l r : ℕ) → l < 18446744073709551616 → r < 18446744073709551616 → Holds t l → Holds t r → Holds t (bit_or l r)
or_kept t p l r hl hr = kept bit_or (λ a b. or_shr a b 31) or_repeats (or_lt 32) t p l r (or_lt 64 l r hl hr) hl hr

xor_kept : (t : IntType) → promoted t ≡ t → (l r : ℕ) → l < 18446744073709551616 → r < 18446744073709551616 → Holds t l → Holds t r → Holds t (bit_xor l r)
xor_kept t p l r hl hr = kept bit_xor (λ a b. xor_shr a b 31) xor_repeats (xor_lt 32) t p l r (xor_lt 64 l r hl hr) hl hr

-- ---- the operators

pub and_words : (t : IntType) → promoted t ≡ t → (l r : ℕ) → l < 18446744073709551616 → r < 18446744073709551616 → Holds t l → Holds t r → number_of t (bit_and l r) ≡ digitwise ◌&&◌ t (number_of t l) (number_of t r)
and_words t p l r hl hr a b =
    let h : bit_and l r < 18446744073709551616 = let e = and_le_l l r in omega arith in
    held t (bit_and l r) h (and_kept t p l r hl hr a b)
    ∙ ap (wrapped t) (sym (plain (bit_and l r) h))
    ∙ and_is t (pos l) (pos r) (fits l hl) (fits r hr)
    ∙ pairwise ◌&&◌ t l r hl hr

pub or_words : (t : IntType) → promoted t ≡ t → (l r : ℕ) → l < 18446744073709551616 → r < 18446744073709551616 → Holds t l → Holds t r → number_of t (bit_or l r) ≡ digitwise ◌||◌ t (number_of t l) (number_of t r)
or_words t p l r hl hr a b =
    let h = or_lt 64 l r hl hr in
    held t (bit_or l r) h (or_kept t p l r hl hr a b)
    ∙ ap (wrapped t) (sym (plain (bit_or l r) h))
    ∙ or_is t (pos l) (pos r) (fits l hl) (fits r hr)
    ∙ pairwise ◌||◌ t l r hl hr

pub xor_words : (t : IntType) → promoted t ≡ t → (l r : ℕ) → l < 18446744073709551616 → r < 18446744073709551616 → Holds t l → Holds t r → number_of t (bit_xor l r) ≡ digitwise exclusive t (number_of t l) (number_of t r)
xor_words t p l r hl hr a b =
    let h = xor_lt 64 l r hl hr in
    held t (bit_xor l r) h (xor_kept t p l r hl hr a b)
    ∙ ap (wrapped t) (sym (plain (bit_xor l r) h))
    ∙ xor_is t (pos l) (pos r) (fits l hl) (fits r hr)
    ∙ pairwise exclusive t l r hl hr

-- `!w` is the number -w - 1, and 2 ^ 64 more than it as a word
pub flipped_words : (t : IntType) (w : ℕ) → w < 18446744073709551616 → wrapped t (pos (18446744073709551615 - w)) ≡ value_of_digits t (λ k. not (digit t (number_of t w) k))
flipped_words t w h =
    let n = 18446744073709551615 - w in
    let same : n % 18446744073709551616 ≡ n = omega arith in
    let over : negsuc w +ℤ pos (1 * 18446744073709551616) ≡ pos n = omega (arith, ints) in
    let bits : 340282366920938463463374607431768211455 - w ≡ 340282366920938463463374607431768211456 - suc w = omega arith in
    let wide : to_z w128 (340282366920938463463374607431768211455 - w) ≡ negsuc w = ap (to_z w128) bits ∙ to_z-of_z w128 (negsuc w) (record { sfits = omega arith }) in
    ap (λ x. wrapped t (pos x)) (sym same)
    ∙ left_over t (negsuc w) 1 n over
    ∙ ap (wrapped t) (sym wide)
    ∙ not_is t (pos w) (fits w h)
    ∙ ap (λ x. value_of_digits t (λ k. not (x / 2 ^ k % 2 == 1))) (sym (number_modulo t t w h))

-- ---- no promoted type is `_Bool`

pub not_bool : (t : IntType) → promoted t ≡ t → t ≢ the.Bool
not_bool t p = by_promoted (λ t. t ≢ the.Bool) t p (λ e. cc) (λ e. cc) (λ e. cc) (λ e. cc) (λ e. cc) (λ e. cc)
