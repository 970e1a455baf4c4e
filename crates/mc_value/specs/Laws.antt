-- What follows from the definitions, in the words of C17.
use Rattle.std.specs.Prelude.{◌≡◌, ◌≢◌, ◌⊎◌, ◌↔◌, ℕ, ◌*◌, ◌^◌, ◌<◌, ℤ, pos, neg_ℤ, ◌+ℤ◌, ◌-ℤ◌, ◌*ℤ◌, ◌≤ℤ◌, ◌<ℤ◌, nat_abs, Bool, false, not, ◌&&◌, ◌||◌, Ok, IfOk}
use Rattle.mc_value.specs.declared.int_type.IntType.{IntType}
use Rattle.mc_value.specs.declared.int_type.IntType.TheVariants as the
use Rattle.mc_value.specs.declared.operators.BinOp.{BinOp}
use Rattle.mc_value.specs.declared.operators.BinOp.TheVariants.{Mul, Div, Rem, Add, Sub, And, Xor, Or}
use Rattle.mc_value.specs.declared.operators.UnOp.{UnOp}
use Rattle.mc_value.specs.declared.operators.UnOp.TheVariants.{Minus, Flip}
use Rattle.mc_value.specs.declared.operators.ShiftOp.{ShiftOp}
use Rattle.mc_value.specs.declared.operators.ShiftOp.TheVariants.{Left}
use Rattle.mc_value.specs.IntTypes.{width_of, signed_of, InRange}
use Rattle.mc_value.specs.Conversions.{promoted, common_of, converted}
use Rattle.mc_value.specs.Digits.{digit}
use Rattle.mc_value.specs.Arithmetic.{is_negative, exclusive, binary_of, binary_type, unary_of, unary_type}
use Rattle.mc_value.specs.Shifts.{shift_of, shifted_right}

-- a and b differ by a multiple of m
abbrev pub Congruent : ℕ → ℤ → ℤ → Type 0
Congruent m a b = (k : ℕ) × ((a +ℤ pos (k * m) ≡ b) ⊎ (b +ℤ pos (k * m) ≡ a))

abbrev pub ConversionKeepsTheRange : Type 0
ConversionKeepsTheRange =
    ((t : IntType) (v : ℤ) → InRange t (converted t v))
    × ((t : IntType) (v : ℤ) → InRange t v → converted t v ≡ v)
    × ((t : IntType) (v : ℤ) → converted t (converted t v) ≡ converted t v)

abbrev pub ConversionIsTheCongruentValue : Type 0
ConversionIsTheCongruentValue =
    (t : IntType) (v r : ℤ) → t ≢ the.Bool →
    (r ≡ converted t v) ↔ (InRange t r × Congruent (2 ^ width_of t) v r)

abbrev pub CommonTypeIsSymmetric : Type 0
CommonTypeIsSymmetric =
    ((a b : IntType) → common_of a b ≡ common_of b a)
    × ((t : IntType) → promoted t ≡ t → common_of t t ≡ t)

-- the result is a value of the type, and differs from v by a multiple of 2 to the type's width
abbrev pub Wraps : IntType → ℤ → ℤ → Type 0
Wraps t v r = InRange t r × Congruent (2 ^ width_of t) v r

abbrev pub UnsignedResultsWrap : Type 0
UnsignedResultsWrap =
    (t : IntType) (a b : ℤ) (k : ℕ) → promoted t ≡ t → signed_of t ≡ false →
    ((r : ℤ) × ((binary_of Mul t a b ≡ Ok r) × Wraps t (a *ℤ b) r))
    × ((r : ℤ) × ((binary_of Add t a b ≡ Ok r) × Wraps t (a +ℤ b) r))
    × ((r : ℤ) × ((binary_of Sub t a b ≡ Ok r) × Wraps t (a -ℤ b) r))
    × ((r : ℤ) × ((unary_of Minus t a ≡ Ok r) × Wraps t (neg_ℤ a) r))
    × (k < width_of t →
    (r : ℤ) × ((shift_of Left t a (pos k) ≡ Ok r) × Wraps t (a *ℤ pos (2 ^ k)) r))

abbrev pub QuotientAndRemainderRebuild : Type 0
QuotientAndRemainderRebuild =
    (t : IntType) (a b q r : ℤ) → binary_of Div t a b ≡ Ok q → binary_of Rem t a b ≡ Ok r →
    ((q *ℤ b) +ℤ r ≡ a) × (nat_abs r < nat_abs b) × ((r ≡ pos 0) ⊎ (is_negative r ≡ is_negative a))

-- digit k of r is f of the digits k of a and b
abbrev pub ActsOnDigits : (Bool → Bool → Bool) → IntType → ℤ → ℤ → ℤ → Type 0
ActsOnDigits f t a b r = (k : ℕ) → k < width_of t → digit t r k ≡ f (digit t a k) (digit t b k)

-- digit k of r is the other one than digit k of a
abbrev pub FlipsDigits : IntType → ℤ → ℤ → Type 0
FlipsDigits t a r = (k : ℕ) → k < width_of t → digit t r k ≡ not (digit t a k)

abbrev pub HaveSameDigits : IntType → ℤ → ℤ → Type 0
HaveSameDigits t a b = (k : ℕ) → k < width_of t → digit t a k ≡ digit t b k

abbrev pub BitOperatorsActOnDigits : Type 0
BitOperatorsActOnDigits =
    ((t : IntType) (a b : ℤ) → IfOk (binary_of And t a b) (λ r. ActsOnDigits ◌&&◌ t a b r))
    × ((t : IntType) (a b : ℤ) → IfOk (binary_of Xor t a b) (λ r. ActsOnDigits exclusive t a b r))
    × ((t : IntType) (a b : ℤ) → IfOk (binary_of Or t a b) (λ r. ActsOnDigits ◌||◌ t a b r))
    × ((t : IntType) (a : ℤ) → IfOk (unary_of Flip t a) (λ r. FlipsDigits t a r))
    × ((t : IntType) (a b : ℤ) → InRange t a → InRange t b → HaveSameDigits t a b → a ≡ b)

-- q * 2 ^ k <= a < (q + 1) * 2 ^ k
abbrev pub RightShiftRoundsDown : Type 0
RightShiftRoundsDown =
    (a : ℤ) (k : ℕ) →
    ((shifted_right a k *ℤ pos (2 ^ k)) ≤ℤ a) × (a <ℤ ((shifted_right a k +ℤ pos 1) *ℤ pos (2 ^ k)))

abbrev pub ResultsAreInRange : Type 0
ResultsAreInRange =
    ((op : BinOp) (t : IntType) (a b : ℤ) → promoted t ≡ t → InRange t a → InRange t b →
    IfOk (binary_of op t a b) (λ v. InRange (binary_type op t) v))
    × ((op : UnOp) (t : IntType) (a : ℤ) → promoted t ≡ t → InRange t a →
    IfOk (unary_of op t a) (λ v. InRange (unary_type op t) v))
    × ((op : ShiftOp) (t : IntType) (a count : ℤ) → promoted t ≡ t → InRange t a →
    IfOk (shift_of op t a count) (λ v. InRange t v))
