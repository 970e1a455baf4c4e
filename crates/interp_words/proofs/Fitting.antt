-- Results in a type's range, and what is left of others.
use Rattle.std.proofs.Common.{◌≡◌, ℕ, suc, zero, ◌-◌, ◌*◌, ◌/◌, ◌%◌, ◌<◌, ◌^◌, ℤ, pos, negsuc, ◌+ℤ◌, ◌-ℤ◌, true, false, if◌then◌else◌, sym, ap, ◌∙◌, arith, ⊎_elim, subst, Fits, FitsSigned, to_z, of_z, int_div, int_rem, Result, Ok, Err, IfOk}
use Rattle.std.proofs.lemmas.Int.{ints, to_z-of_z}
use Rattle.std.proofs.lemmas.Bool.{cases_Bool, cond-true, cond-false, cond_both, and_parts, and_from, false_from_ne_true, ne_eqb}
use Rattle.std.proofs.lemmas.Nat.{pow_pos, div-add-mod'}
use Rattle.std.proofs.Math.Facts.{sfits_to_z}
use mir.Syntax.{w64}
use Rattle.mc_value.specs.declared.int_type.IntType.{IntType}
use Rattle.mc_value.specs.declared.int_type.IntType.TheVariants as the
use Rattle.mc_value.specs.declared.trap.Trap.{Trap}
use Rattle.mc_value.specs.declared.trap.Trap.TheVariants.{Overflow, Division}
use Rattle.mc_value.specs.IntTypes.{signed_of, width_of, least_of, greatest_of, InRange, in_range}
use Rattle.mc_value.specs.Conversions.{promoted, wrapped, is_zero}
use Rattle.mc_value.specs.Arithmetic.{divided, fitted, quotient, remainder}
use Rattle.mc_value.proofs.Bounds.{quotient_is, remainder_is, remainder_within}
use Rattle.mc_value.proofs.Wrapping.{le_yes, yes_le, modulo_lifted, wrapped_same}
use Rattle.interp_words.specs.Words.{number_of, result_of, Holds}
use Rattle.interp_words.proofs.Numbers.{with_sign, number_signed, number_unsigned, signed_fits, zero_words, whole}

-- ---- ranges

pub in_range_is : (t : IntType) (v : ℤ) → in_range t v ≡ true → InRange t v
in_range_is t v e =
    let p = and_parts _ _ e in
    record { least = le_yes (least_of t) v p.0; greatest = le_yes v (greatest_of t) p.1 }

pub is_in_range : (t : IntType) (v : ℤ) → InRange t v → in_range t v ≡ true
is_in_range t v h = and_from _ _ (yes_le (least_of t) v h.least) (yes_le v (greatest_of t) h.greatest)

pub too_wide : (t : IntType) (v : ℤ) → signed_of t ≡ true → (FitsSigned w64 v → ⊥) → in_range t v ≡ false
too_wide t v s lacks = false_from_ne_true (in_range t v) (λ e. lacks (signed_fits t v s (in_range_is t v e)))

-- ---- the promoted types

pub by_promoted : (P : IntType → Type 0) (t : IntType) → promoted t ≡ t → P the.Int → P the.UInt → P the.Long → P the.ULong → P the.LLong → P the.ULLong → P t
by_promoted P the.Int p a b c d e f = a
by_promoted P the.UInt p a b c d e f = b
by_promoted P the.Long p a b c d e f = c
by_promoted P the.ULong p a b c d e f = d
by_promoted P the.LLong p a b c d e f = e
by_promoted P the.ULLong p a b c d e f = f
by_promoted P _ p a b c d e f = cc

-- ---- results of a signed type

pub fits_type : (t : IntType) (v : ℤ) → signed_of t ≡ true → in_range t v ≡ true → fitted t v ≡ Ok v
fits_type t v s i = cond-true (signed_of t) _ _ s ∙ cond-true (in_range t v) _ _ i

pub overflows : (t : IntType) (v : ℤ) → signed_of t ≡ true → in_range t v ≡ false → fitted t v ≡ Err Overflow
overflows t v s i = cond-true (signed_of t) _ _ s ∙ cond-false (in_range t v) _ _ i

-- what no signed word can hold
pub none_fits : (t : IntType) (v : ℤ) → signed_of t ≡ true → (FitsSigned w64 v → ⊥) → Err Overflow ≡ fitted t v
none_fits t v s lacks = sym (overflows t v s (too_wide t v s lacks))

-- the word of a signed number
pub word_signed : (t : IntType) (v : ℤ) → signed_of t ≡ true → FitsSigned w64 v → number_of t (of_z w64 v) ≡ v
word_signed t v s f = number_signed t (of_z w64 v) s ∙ to_z-of_z w64 v f

-- ---- results of an unsigned type

-- a number and what is left of it in 64 bits, j times 2 ^ 64 below it or above it
pub left_over : (t : IntType) (v : ℤ) (j n : ℕ) → v +ℤ pos (j * 18446744073709551616) ≡ pos n → wrapped t (pos (n % 18446744073709551616)) ≡ wrapped t v
left_over t v j n e =
    let m = 2 ^ width_of t in
    let k = 2 ^ (64 - width_of t) in
    let w : k * m ≡ 18446744073709551616 = whole t in
    let some = pow_pos (width_of t) in
    let d = div-add-mod' n 18446744073709551616 in
    let q = n / 18446744073709551616 in
    let up : pos (n % 18446744073709551616) +ℤ pos (q * (k * m)) ≡ pos n = rw w (omega (arith, ints)) in
    let over : v +ℤ pos (j * (k * m)) ≡ pos n = rw w e in
    let a : (q * k) * m ≡ q * (k * m) = grind arith in
    let b : (j * k) * m ≡ j * (k * m) = grind arith in
    wrapped_same t (pos (n % 18446744073709551616)) v
    (modulo_lifted (pos (n % 18446744073709551616)) m (q * k) n some (rw a up)
    ∙ sym (modulo_lifted v m (j * k) n some (rw b over)))

-- ---- quotients and remainders

pub divides_not : (t : IntType) (a b x : ℤ) → is_zero b ≡ true → Err Division ≡ divided t a b x
divides_not t a b x z = sym (cond-true (is_zero b) _ _ z)

pub divides_over : (t : IntType) (a b x : ℤ) → is_zero b ≡ false → in_range t (int_div a b) ≡ false → Err Overflow ≡ divided t a b x
divides_over t a b x z i = sym (cond-false (is_zero b) _ _ z ∙ cond-false (in_range t (quotient a b)) _ _ (ap (in_range t) (quotient_is a b) ∙ i))

pub divides : (t : IntType) (a b x : ℤ) → is_zero b ≡ false → in_range t (int_div a b) ≡ true → Ok x ≡ divided t a b x
divides t a b x z i = sym (cond-false (is_zero b) _ _ z ∙ cond-true (in_range t (quotient a b)) _ _ (ap (in_range t) (quotient_is a b) ∙ i))

-- a quotient of signed numbers that is tested as any result is
pub divides_fitted : (t : IntType) (a b : ℤ) → signed_of t ≡ true → is_zero b ≡ false → fitted t (int_div a b) ≡ divided t a b (quotient a b)
divides_fitted t a b s z =
    ⊎_elim
    (λ i. fits_type t (int_div a b) s i ∙ ap Ok (sym (quotient_is a b)) ∙ divides t a b (quotient a b) z i)
    (λ i. overflows t (int_div a b) s i ∙ divides_over t a b (quotient a b) z i)
    (cases_Bool (in_range t (int_div a b)))

-- a division that has a result
pub divided_ok : (t : IntType) (a b x q : ℤ) → Ok q ≡ divided t a b x → (is_zero b ≡ false) × (in_range t (int_div a b) ≡ true)
divided_ok t a b x q e =
    let Says : Result ℤ Trap → Type 0 = λ r. Ok q ≡ r → (is_zero b ≡ false) × (in_range t (int_div a b) ≡ true) in
    cond_both (is_zero b) (Err Division) (if in_range t (quotient a b) then Ok x else Err Overflow) Says
    (λ z f. cc)
    (λ z. cond_both (in_range t (quotient a b)) (Ok x) (Err Overflow) Says (λ i f. (z, sym (ap (in_range t) (quotient_is a b)) ∙ i)) (λ i f. cc))
    e

-- ---- what the code computes on two words

signs_fit : (w : ℕ) → w < 18446744073709551616 → FitsSigned w64 (with_sign w)
signs_fit w h = let f : Fits w64 w = record { fits = omega arith } in sfits_to_z f

nonzero_word : (t : IntType) (w : ℕ) → w < 18446744073709551616 → (w ≡ 0 → ⊥) → is_zero (number_of t w) ≡ false
nonzero_word t w h ne = zero_words t w h ∙ ne_eqb w 0 ne

nonzero_bits : (b : ℤ) → is_zero b ≡ false → FitsSigned w64 b → 0 < of_z w64 b
nonzero_bits (pos zero) z f = cc
nonzero_bits (pos (suc n)) z f = omega arith
nonzero_bits (negsuc n) z f = let g = f.sfits in omega arith

-- x and y are the signed numbers of two words
pub none_less : (t : IntType) (l r : ℕ) (x y : ℤ) → signed_of t ≡ true → x ≡ with_sign l → y ≡ with_sign r → (FitsSigned w64 (x -ℤ y) → ⊥) → Err Overflow ≡ fitted t (number_of t l -ℤ number_of t r)
none_less t l r x y s e f lacks =
    let same : x -ℤ y ≡ number_of t l -ℤ number_of t r = ap (λ z. z -ℤ y) (e ∙ sym (number_signed t l s)) ∙ ap (λ z. number_of t l -ℤ z) (f ∙ sym (number_signed t r s)) in
    none_fits t (number_of t l -ℤ number_of t r) s (λ h. lacks (subst (FitsSigned w64) (sym same) h))

same_quotient : (t : IntType) (l r : ℕ) (x y : ℤ) → signed_of t ≡ true → x ≡ with_sign l → y ≡ with_sign r → int_div x y ≡ int_div (number_of t l) (number_of t r)
same_quotient t l r x y s e f =
    ap (λ z. int_div z y) (e ∙ sym (number_signed t l s)) ∙ ap (λ z. int_div (number_of t l) z) (f ∙ sym (number_signed t r s))

same_remainder : (t : IntType) (l r : ℕ) (x y : ℤ) → signed_of t ≡ true → x ≡ with_sign l → y ≡ with_sign r → int_rem x y ≡ int_rem (number_of t l) (number_of t r)
same_remainder t l r x y s e f =
    ap (λ z. int_rem z y) (e ∙ sym (number_signed t l s)) ∙ ap (λ z. int_rem (number_of t l) z) (f ∙ sym (number_signed t r s))

pub divides_some : (t : IntType) (l r : ℕ) (x y q : ℤ) → signed_of t ≡ true → x ≡ with_sign l → y ≡ with_sign r → r < 18446744073709551616 → (r ≡ 0 → ⊥) → int_div x y ≡ q → fitted t q ≡ divided t (number_of t l) (number_of t r) (quotient (number_of t l) (number_of t r))
divides_some t l r x y q s e f h ne g =
    ap (fitted t) (sym g ∙ same_quotient t l r x y s e f) ∙ divides_fitted t (number_of t l) (number_of t r) s (nonzero_word t r h ne)

pub divides_none : (t : IntType) (l r : ℕ) (x y : ℤ) → signed_of t ≡ true → x ≡ with_sign l → y ≡ with_sign r → r < 18446744073709551616 → (r ≡ 0 → ⊥) → ((0 < of_z w64 y) × FitsSigned w64 (int_div x y) → ⊥) → Err Overflow ≡ divided t (number_of t l) (number_of t r) (quotient (number_of t l) (number_of t r))
divides_none t l r x y s e f h ne lacks =
    let z = nonzero_word t r h ne in
    let some : 0 < of_z w64 y = nonzero_bits y (ap is_zero (f ∙ sym (number_signed t r s)) ∙ z) (subst (FitsSigned w64) (sym f) (signs_fit r h)) in
    divides_over t (number_of t l) (number_of t r) (quotient (number_of t l) (number_of t r)) z
    (too_wide t (int_div (number_of t l) (number_of t r)) s (λ k. lacks (some, subst (FitsSigned w64) (sym (same_quotient t l r x y s e f)) k)))

pub remainder_runs : (t : IntType) (l r : ℕ) (x y : ℤ) → signed_of t ≡ true → x ≡ with_sign l → y ≡ with_sign r → l < 18446744073709551616 → r < 18446744073709551616 → is_zero (number_of t r) ≡ false → in_range t (int_div (number_of t l) (number_of t r)) ≡ true → (0 < of_z w64 y) × FitsSigned w64 (int_div (to_z w64 (of_z w64 x)) (to_z w64 (of_z w64 y)))
remainder_runs t l r x y s e f hl hr z i =
    let fx = subst (FitsSigned w64) (sym e) (signs_fit l hl) in
    let fy = subst (FitsSigned w64) (sym f) (signs_fit r hr) in
    let same = same_quotient t l r (to_z w64 (of_z w64 x)) (to_z w64 (of_z w64 y)) s (to_z-of_z w64 x fx ∙ e) (to_z-of_z w64 y fy ∙ f) in
    let fits = signed_fits t (int_div (number_of t l) (number_of t r)) s (in_range_is t (int_div (number_of t l) (number_of t r)) i) in (
      nonzero_bits y (ap is_zero (f ∙ sym (number_signed t r s)) ∙ z) fy,
      subst (FitsSigned w64) (sym same) fits,
    )

pub remainder_fits : (t : IntType) (l r : ℕ) (x y : ℤ) → signed_of t ≡ true → x ≡ with_sign l → y ≡ with_sign r → Holds t l → FitsSigned w64 (int_rem x y)
remainder_fits t l r x y s e f h =
    subst (FitsSigned w64) (sym (same_remainder t l r x y s e f))
    (signed_fits t (int_rem (number_of t l) (number_of t r)) s (remainder_within t (number_of t l) (number_of t r) h))

pub remainder_word : (t : IntType) (l r : ℕ) (x y : ℤ) (w : ℕ) → signed_of t ≡ true → x ≡ with_sign l → y ≡ with_sign r → Holds t l → is_zero (number_of t r) ≡ false → in_range t (int_div (number_of t l) (number_of t r)) ≡ true → w ≡ of_z w64 (int_rem x y) → Ok (number_of t w) ≡ divided t (number_of t l) (number_of t r) (remainder (number_of t l) (number_of t r))
remainder_word t l r x y w s e f h z i g =
    let a = number_of t l in
    let b = number_of t r in
    ap (λ n. Ok (number_of t n)) g
    ∙ ap Ok (word_signed t (int_rem x y) s (remainder_fits t l r x y s e f h) ∙ same_remainder t l r x y s e f ∙ sym (remainder_is a b))
    ∙ divides t a b (remainder a b) z i

pub remainder_unsigned : (t : IntType) (l r : ℕ) → signed_of t ≡ false → is_zero (number_of t r) ≡ false → in_range t (int_div (number_of t l) (number_of t r)) ≡ true → Ok (number_of t (l % r)) ≡ divided t (number_of t l) (number_of t r) (remainder (number_of t l) (number_of t r))
remainder_unsigned t l r s z i =
    let a = number_of t l in
    let b = number_of t r in
    let same : int_rem a b ≡ pos (l % r) = ap (λ x. int_rem x b) (number_unsigned t l s) ∙ ap (λ y. int_rem (pos l) y) (number_unsigned t r s) in
    ap Ok (number_unsigned t (l % r) s ∙ sym same ∙ sym (remainder_is a b)) ∙ divides t a b (remainder a b) z i

-- ---- words of results

pub within_from : (t : IntType) (r : Result ℕ Trap) (s : Result ℤ Trap) → result_of t r ≡ s → IfOk s (λ v. InRange t v) → IfOk r (λ w. Holds t w)
within_from t (Ok w) s e h = subst (λ x. IfOk x (λ v. InRange t v)) (sym e) h
within_from t (Err x) s e h = tt
