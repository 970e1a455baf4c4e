-- What the operators give: in range, wrapped, rebuilt, rounded.
use Rattle.std.proofs.Common.{arith, ◌≡◌, ℕ, zero, suc, ◌<◌, ◌≤◌, ◌+◌, ◌*◌, ◌/◌, ◌%◌, ◌^◌, ℤ, pos, negsuc, neg_ℤ, ◌+ℤ◌, ◌-ℤ◌, ◌*ℤ◌, ◌≤ℤ◌, ◌<ℤ◌, Bool, true, false, not, ◌&&◌, ◌||◌, int_lt, int_le, if◌then◌else◌, nat_lt, sym, ◌∙◌, ap, subst, refl, inl, inr, ◌⊎◌, nat_abs, unsigned_abs, int_rem, Result, Ok, Err, IfOk}
use Rattle.std.proofs.lemmas.Int.{ints, rem_below}
use Rattle.std.proofs.lemmas.Bool.{cond_both, cond-true, cond-false, lt-ltb, and_parts}
use Rattle.std.proofs.lemmas.Nat.{pow_pos, div-add-mod'}
use Rattle.std.proofs.Math.Nat.{mod-lt, suc-mul}
use Rattle.mc_value.specs.declared.int_type.IntType.{IntType}
use Rattle.mc_value.specs.declared.int_type.IntType.TheVariants as the
use Rattle.mc_value.specs.declared.trap.Trap.{Trap}
use Rattle.mc_value.specs.declared.trap.Trap.TheVariants.{Overflow, Division, Shift}
use Rattle.mc_value.specs.declared.operators.BinOp.{BinOp}
use Rattle.mc_value.specs.declared.operators.BinOp.TheVariants.{Mul, Div, Rem, Add, Sub, Lt, Gt, Le, Ge, Eq, Ne, And, Xor, Or}
use Rattle.mc_value.specs.declared.operators.UnOp.{UnOp}
use Rattle.mc_value.specs.declared.operators.UnOp.TheVariants.{Plus, Minus, Flip, Not}
use Rattle.mc_value.specs.declared.operators.ShiftOp.{ShiftOp}
use Rattle.mc_value.specs.declared.operators.ShiftOp.TheVariants.{Left, Right}
use Rattle.mc_value.specs.IntTypes.{width_of, signed_of, least_of, greatest_of, InRange, in_range}
use Rattle.mc_value.specs.Conversions.{promoted, wrapped, is_zero}
use Rattle.mc_value.specs.Digits.{digit, number_of_digits, value_of_digits}
use Rattle.mc_value.specs.Arithmetic.{are_equal, exclusive, fitted, divided, is_negative, quotient, remainder, truth, binary_of, binary_type, unary_of, unary_type}
use Rattle.mc_value.specs.Shifts.{shifted_left, shifted_right, shifted_by, shift_of}
use Rattle.mc_value.specs.Laws.{Wraps}
use Rattle.mc_value.proofs.Bounds.{remainder_is, remainder_within, right_within}
use Rattle.mc_value.proofs.Wrapping.{le_yes, wrapped_within, wrapped_congruent}

-- ---- results are in range

in_range_is : (t : IntType) (v : ℤ) → in_range t v ≡ true → InRange t v
in_range_is t v e =
    let p = and_parts _ _ e in
    record { least = le_yes (least_of t) v p.0; greatest = le_yes v (greatest_of t) p.1 }

abbrev Within : IntType → Result ℤ Trap → Type 0
Within t r = IfOk r (λ v. InRange t v)

fitted_within : (t : IntType) (v : ℤ) → Within t (fitted t v)
fitted_within t v =
    cond_both (signed_of t) (if in_range t v then Ok v else Err Overflow) (Ok (wrapped t v)) (Within t)
    (λ s. cond_both (in_range t v) (Ok v) (Err Overflow) (Within t) (in_range_is t v) (λ e. tt))
    (λ s. wrapped_within t v)

divided_within : (t : IntType) (a b r : ℤ) → (in_range t (quotient a b) ≡ true → InRange t r) → Within t (divided t a b r)
divided_within t a b r h =
    cond_both (is_zero b) (Err Division) (if in_range t (quotient a b) then Ok r else Err Overflow) (Within t)
    (λ z. tt)
    (λ z. cond_both (in_range t (quotient a b)) (Ok r) (Err Overflow) (Within t) h (λ e. tt))

truth_within : (b : Bool) → InRange the.Int (truth b)
truth_within true = record { least = omega (arith, ints); greatest = omega (arith, ints) }
truth_within false = record { least = omega (arith, ints); greatest = omega (arith, ints) }

value_within : (t : IntType) (d : ℕ → Bool) → InRange t (value_of_digits t d)
value_within t d = wrapped_within t (pos (number_of_digits (width_of t) d))

pub binary_within : (op : BinOp) (t : IntType) (a b : ℤ) → promoted t ≡ t → InRange t a → InRange t b → IfOk (binary_of op t a b) (λ v. InRange (binary_type op t) v)
binary_within Mul t a b p ha hb = fitted_within t (a *ℤ b)
binary_within Div t a b p ha hb = divided_within t a b (quotient a b) (in_range_is t (quotient a b))
binary_within Rem t a b p ha hb = divided_within t a b (remainder a b) (λ e. subst (InRange t) (sym (remainder_is a b)) (remainder_within t a b ha))
binary_within Add t a b p ha hb = fitted_within t (a +ℤ b)
binary_within Sub t a b p ha hb = fitted_within t (a -ℤ b)
binary_within Lt t a b p ha hb = truth_within (int_lt a b)
binary_within Gt t a b p ha hb = truth_within (int_lt b a)
binary_within Le t a b p ha hb = truth_within (int_le a b)
binary_within Ge t a b p ha hb = truth_within (int_le b a)
binary_within Eq t a b p ha hb = truth_within (are_equal a b)
binary_within Ne t a b p ha hb = truth_within (not (are_equal a b))
binary_within And t a b p ha hb = value_within t (λ k. digit t a k && digit t b k)
binary_within Xor t a b p ha hb = value_within t (λ k. exclusive (digit t a k) (digit t b k))
binary_within Or t a b p ha hb = value_within t (λ k. digit t a k || digit t b k)

pub unary_within : (op : UnOp) (t : IntType) (a : ℤ) → promoted t ≡ t → InRange t a → IfOk (unary_of op t a) (λ v. InRange (unary_type op t) v)
unary_within Plus t a p h = h
unary_within Minus t a p h = fitted_within t (neg_ℤ a)
unary_within Flip t a p h = value_within t (λ k. not (digit t a k))
unary_within Not t a p h = truth_within (is_zero a)

shifted_within : (op : ShiftOp) (t : IntType) (a : ℤ) (k : ℕ) → InRange t a → Within t (shifted_by op t a k)
shifted_within Left t a k h =
    let v = a *ℤ pos (2 ^ k) in
    cond_both (not (signed_of t)) (Ok (wrapped t v)) (if not (is_negative a) && in_range t v then Ok v else Err Shift) (Within t)
    (λ s. wrapped_within t v)
    (λ s. cond_both (not (is_negative a) && in_range t v) (Ok v) (Err Shift) (Within t) (λ e. in_range_is t v (and_parts (not (is_negative a)) (in_range t v) e).1) (λ e. tt))
shifted_within Right t a k h = right_within t a k h

pub shift_within : (op : ShiftOp) (t : IntType) (a count : ℤ) → promoted t ≡ t → InRange t a → IfOk (shift_of op t a count) (λ v. InRange t v)
shift_within op t a (pos k) p h = cond_both (nat_lt k (width_of t)) (shifted_by op t a k) (Err Shift) (Within t) (λ e. shifted_within op t a k h) (λ e. tt)
shift_within op t a (negsuc n) p h = tt

-- ---- unsigned results

pub unsigned_wraps : (t : IntType) (a b : ℤ) (k : ℕ) → promoted t ≡ t → signed_of t ≡ false →
    ((r : ℤ) × ((binary_of Mul t a b ≡ Ok r) × Wraps t (a *ℤ b) r))
    × ((r : ℤ) × ((binary_of Add t a b ≡ Ok r) × Wraps t (a +ℤ b) r))
    × ((r : ℤ) × ((binary_of Sub t a b ≡ Ok r) × Wraps t (a -ℤ b) r))
    × ((r : ℤ) × ((unary_of Minus t a ≡ Ok r) × Wraps t (neg_ℤ a) r))
    × (k < width_of t → (r : ℤ) × ((shift_of Left t a (pos k) ≡ Ok r) × Wraps t (a *ℤ pos (2 ^ k)) r))
unsigned_wraps t a b k p s =
    let wraps : (v : ℤ) → Wraps t v (wrapped t v) = λ v. (wrapped_within t v, wrapped_congruent t v) in
    let fits : (v : ℤ) → fitted t v ≡ Ok (wrapped t v) = λ v. cond-false (signed_of t) (if in_range t v then Ok v else Err Overflow) (Ok (wrapped t v)) s in (
      (wrapped t (a *ℤ b), (fits (a *ℤ b), wraps (a *ℤ b))),
      (wrapped t (a +ℤ b), (fits (a +ℤ b), wraps (a +ℤ b))),
      (wrapped t (a -ℤ b), (fits (a -ℤ b), wraps (a -ℤ b))),
      (wrapped t (neg_ℤ a), (fits (neg_ℤ a), wraps (neg_ℤ a))),
      λ h. (
        wrapped t (a *ℤ pos (2 ^ k)),
        (
          cond-true (nat_lt k (width_of t)) (shifted_left t a k) (Err Shift) (lt-ltb k (width_of t) h)
              ∙ cond-true (not (signed_of t)) (Ok (wrapped t (a *ℤ pos (2 ^ k)))) (if not (is_negative a) && in_range t (a *ℤ pos (2 ^ k)) then Ok (a *ℤ pos (2 ^ k)) else Err Shift) (ap not s),
          wraps (a *ℤ pos (2 ^ k)),
        ),
      ),
    )

-- ---- quotients and remainders

divided_ok : (t : IntType) (a b x q : ℤ) → divided t a b x ≡ Ok q → (is_zero b ≡ false) × (x ≡ q)
divided_ok t a b x q =
    let Says : Result ℤ Trap → Type 0 = λ r. r ≡ Ok q → (is_zero b ≡ false) × (x ≡ q) in
    cond_both (is_zero b) (Err Division) (if in_range t (quotient a b) then Ok x else Err Overflow) Says
    (λ z e. cc)
    (λ z. cond_both (in_range t (quotient a b)) (Ok x) (Err Overflow) Says (λ i e. (z, cc)) (λ i e. cc))

some_abs : (b : ℤ) → is_zero b ≡ false → 0 < unsigned_abs b
some_abs (pos zero) e = cc
some_abs (pos (suc n)) e = omega arith
some_abs (negsuc n) e = omega arith

sum_back : (x a : ℤ) → x +ℤ (a -ℤ x) ≡ a
sum_back x a = omega (arith, ints)

neg_sign : (m : ℕ) → (neg_ℤ (pos m) ≡ pos 0) ⊎ (is_negative (neg_ℤ (pos m)) ≡ true)
neg_sign zero = inl refl
neg_sign (suc m) = inr refl

sign_kept : (a b : ℤ) → (int_rem a b ≡ pos 0) ⊎ (is_negative (int_rem a b) ≡ is_negative a)
sign_kept (pos a) (pos b) = inr refl
sign_kept (pos a) (negsuc b) = inr refl
sign_kept (negsuc a) (pos b) = neg_sign (suc a % b)
sign_kept (negsuc a) (negsuc b) = neg_sign (suc a % suc b)

pub rebuilt : (t : IntType) (a b q r : ℤ) → binary_of Div t a b ≡ Ok q → binary_of Rem t a b ≡ Ok r →
    ((q *ℤ b) +ℤ r ≡ a) × (nat_abs r < nat_abs b) × ((r ≡ pos 0) ⊎ (is_negative r ≡ is_negative a))
rebuilt t a b q r eq er =
    let dq = divided_ok t a b (quotient a b) q eq in
    let dr = divided_ok t a b (remainder a b) r er in
    let is : int_rem a b ≡ r = sym (remainder_is a b) ∙ dr.1 in (
      ap (λ z. (z *ℤ b) +ℤ r) (sym dq.1) ∙ ap (λ z. (quotient a b *ℤ b) +ℤ z) (sym dr.1) ∙ sum_back (quotient a b *ℤ b) a,
      subst (λ z. unsigned_abs z < unsigned_abs b) is (rem_below a b (some_abs b dq.0)),
      subst (λ z. (z ≡ pos 0) ⊎ (is_negative z ≡ is_negative a)) is (sign_kept a b),
    )

-- ---- right shifts

neg_times : (q m : ℕ) → neg_ℤ (pos q) *ℤ pos m ≡ neg_ℤ (pos (q * m))
neg_times zero m = let z : 0 * m ≡ 0 = omega arith in ap pos z ∙ ap (λ x. neg_ℤ (pos x)) (sym z)
neg_times (suc q) m = refl

quotient_bounds : (n m : ℕ) → 0 < m → (n / m * m ≤ n) × (n < (n / m + 1) * m)
quotient_bounds n m h =
    let d = div-add-mod' n m in
    let l = mod-lt n h in
    let s : suc (n / m) * m ≡ n / m * m + m = suc-mul (n / m) m in
    let e : n / m + 1 ≡ suc (n / m) = omega arith in
    (omega arith, rw e (omega arith))

pub rounded_down : (a : ℤ) (k : ℕ) → ((shifted_right a k *ℤ pos (2 ^ k)) ≤ℤ a) × (a <ℤ ((shifted_right a k +ℤ pos 1) *ℤ pos (2 ^ k)))
rounded_down (pos n) k =
    let b = quotient_bounds n (2 ^ k) (pow_pos k) in
    (omega (arith, ints, b.0), omega (arith, ints, b.1))
rounded_down (negsuc n) k =
    let m = 2 ^ k in
    let q = n / m in
    let b = quotient_bounds n m (pow_pos k) in
    let e : negsuc q +ℤ pos 1 ≡ neg_ℤ (pos q) = omega (arith, ints) in
    let low : neg_ℤ (pos (suc q * m)) ≤ℤ negsuc n = let s : q + 1 ≡ suc q = omega arith in let c : n < suc q * m = subst (λ x. n < x * m) s b.1 in omega (arith, ints) in
    let high : negsuc n <ℤ neg_ℤ (pos (q * m)) = let c = b.0 in omega (arith, ints) in (
      subst (λ z. z ≤ℤ negsuc n) (sym (neg_times (suc q) m)) low,
      subst (λ z. negsuc n <ℤ z) (sym (ap (λ z. z *ℤ pos m) e ∙ neg_times q m)) high,
    )
