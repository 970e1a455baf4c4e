-- Shifts of words.
use Rattle.std.proofs.Common.{◌≡◌, ℕ, ◌+◌, ◌-◌, ◌*◌, ◌/◌, ◌%◌, ◌<◌, ◌≤◌, ◌^◌, pos, negsuc, ◌+ℤ◌, true, false, not, refl, sym, ap, ◌∙◌, arith, ⊎_elim, Ok, Err}
use Rattle.std.proofs.lemmas.Int.{ints}
use Rattle.std.proofs.lemmas.Bool.{cases_lt, cond-true, cond-false, false_from_ne_true}
use Rattle.std.proofs.lemmas.Nat.{pow_pos, div-add-mod', shl_below, mul-le, pow-add}
use Rattle.std.proofs.Math.Nat.{mod-lt, mod-eq_of_lt}
use Rattle.mc_value.specs.declared.int_type.IntType.{IntType}
use Rattle.mc_value.specs.declared.int_type.IntType.TheVariants as the
use Rattle.mc_value.specs.declared.trap.Trap.TheVariants.{Shift}
use Rattle.mc_value.specs.IntTypes.{signed_of, width_of, greatest_of, InRange, in_range}
use Rattle.mc_value.specs.Shifts.{shifted_left}
use Rattle.mc_value.proofs.Bounds.{low_side}
use Rattle.interp_words.specs.Words.{number_of}
use Rattle.interp_words.proofs.Numbers.{sign_low, sign_high, number_signed}
use Rattle.interp_words.proofs.Fitting.{in_range_is, is_in_range}

-- ---- to the left

-- half of the numbers of a signed type lie below 0
top : (t : IntType) → signed_of t ≡ true → greatest_of t +ℤ pos 1 ≡ pos (2 ^ (width_of t - 1))
top the.Char s = refl
top the.SChar s = refl
top the.Short s = refl
top the.Int s = refl
top the.Long s = refl
top the.LLong s = refl
top _ s = cc

half : (t : IntType) → signed_of t ≡ true → 2 ^ (width_of t - 1) ≤ 9223372036854775808
half the.Char s = omega arith
half the.SChar s = omega arith
half the.Short s = omega arith
half the.Int s = omega arith
half the.Long s = omega arith
half the.LLong s = omega arith
half _ s = cc

below_divisor : (l d : ℕ) → 0 < d → l / d ≡ 0 → l < d
below_divisor l d h e = let s = div-add-mod' l d in let m = mod-lt l h in let z : l / d * d ≡ 0 = rw e (omega arith) in omega arith

above_divisor : (l d : ℕ) → 0 < d → (l / d ≡ 0 → ⊥) → d ≤ l
above_divisor l d h ne =
    let one : 1 ≤ l / d = omega arith in
    let s = div-add-mod' l d in
    let le : 1 * d ≤ l / d * d = mul-le 1 d (l / d) d one (omega arith) in
    omega arith

-- a value that keeps its sign as it moves k places to the left
pub left_stays : (t : IntType) (l k : ℕ) → signed_of t ≡ true → k < width_of t → l / 2 ^ (width_of t - 1 - k) ≡ 0 → Ok (number_of t ((l * 2 ^ k) % 18446744073709551616)) ≡ shifted_left t (number_of t l) k
left_stays t l k s h e =
    let j = width_of t - 1 - k in
    let room : j + k ≡ width_of t - 1 = omega arith in
    let small = below_divisor l (2 ^ j) (pow_pos j) e in
    let moved : l * 2 ^ k < 2 ^ (width_of t - 1) = rw room at (shl_below l j k small) in
    let half_of = half t s in
    let top_of = top t s in
    let grows : l * 1 ≤ l * 2 ^ k = let o = pow_pos k in mul-le l 1 l (2 ^ k) (omega arith) (omega arith) in
    let a : number_of t l ≡ pos l = number_signed t l s ∙ sign_low l (omega arith) in
    let whole : (l * 2 ^ k) % 18446744073709551616 ≡ l * 2 ^ k = mod-eq_of_lt (omega arith) in
    let b : number_of t (l * 2 ^ k) ≡ pos (l * 2 ^ k) = number_signed t (l * 2 ^ k) s ∙ sign_low (l * 2 ^ k) (omega arith) in
    let low = (low_side t).1 in
    let within : InRange t (pos (l * 2 ^ k)) = record { least = omega (arith, ints); greatest = omega (arith, ints) } in
    ap (λ x. Ok (number_of t x)) whole
    ∙ ap Ok b
    ∙ sym (ap (λ x. shifted_left t x k) a
    ∙ cond-false (not (signed_of t)) _ _ (ap not s)
    ∙ cond-true (in_range t (pos (l * 2 ^ k))) _ _ (is_in_range t (pos (l * 2 ^ k)) within))

far_low : (t : IntType) (l k : ℕ) → signed_of t ≡ true → 2 ^ (width_of t - 1) ≤ l * 2 ^ k → Err Shift ≡ shifted_left t (pos l) k
far_low t l k s over =
    let top_of = top t s in
    let out : in_range t (pos (l * 2 ^ k)) ≡ false = false_from_ne_true (in_range t (pos (l * 2 ^ k))) (λ e. let g = (in_range_is t (pos (l * 2 ^ k)) e).greatest in omega (arith, ints)) in
    sym (cond-false (not (signed_of t)) _ _ (ap not s) ∙ cond-false (in_range t (pos (l * 2 ^ k))) _ _ out)

far_negative : (t : IntType) (n k : ℕ) → signed_of t ≡ true → Err Shift ≡ shifted_left t (negsuc n) k
far_negative t n k s = sym (cond-false (not (signed_of t)) _ _ (ap not s))

-- a value that is negative or does not
pub left_leaves : (t : IntType) (l k : ℕ) → signed_of t ≡ true → l < 18446744073709551616 → k < width_of t → (l / 2 ^ (width_of t - 1 - k) ≡ 0 → ⊥) → Err Shift ≡ shifted_left t (number_of t l) k
left_leaves t l k s hl h ne =
    let j = width_of t - 1 - k in
    let room : j + k ≡ width_of t - 1 = omega arith in
    let large = above_divisor l (2 ^ j) (pow_pos j) ne in
    let moved : 2 ^ j * 2 ^ k ≤ l * 2 ^ k = mul-le (2 ^ j) (2 ^ k) l (2 ^ k) large (omega arith) in
    let over : 2 ^ (width_of t - 1) ≤ l * 2 ^ k = rw (← room, pow-add 2 j k) moved in
    ⊎_elim
    (λ low. far_low t l k s over ∙ ap (λ x. shifted_left t x k) (sym (number_signed t l s ∙ sign_low l low)))
    (λ high. far_negative t (18446744073709551615 - l) k s ∙ ap (λ x. shifted_left t x k) (sym (number_signed t l s ∙ sign_high l high hl)))
    (cases_lt l 9223372036854775808)
