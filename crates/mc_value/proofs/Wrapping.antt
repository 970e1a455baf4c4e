-- What is left of a number in a type: in range, congruent, and alone so.
use Rattle.std.proofs.Common.{arith, ⊎_elim, unsigned_abs, ◌<ℤ◌, ◌≡◌, ◌≢◌, ℕ, zero, suc, ◌<◌, ◌≤◌, ◌+◌, ◌-◌, ◌*◌, ◌/◌, ◌%◌, ◌^◌, ℤ, pos, negsuc, ◌+ℤ◌, ◌-ℤ◌, ◌≤ℤ◌, Bool, true, false, if◌then◌else◌, int_le, sym, ◌∙◌, ap, subst, refl, inl, inr, ◌↔◌}
use Rattle.std.proofs.lemmas.Int.{ints, int_rem_euclid_is}
use Rattle.std.proofs.lemmas.Bool.{cases_Bool, cond-true, cond-false}
use Rattle.std.proofs.lemmas.Nat.{pow_pos, div-add-mod'}
use Rattle.std.proofs.Math.Nat.{mod-lt, mod-eq_of_lt, add-mul-mod_self_right, mul-le-mul_left, suc-mul}
use Rattle.mc_value.specs.declared.int_type.IntType.{IntType}
use Rattle.mc_value.specs.declared.int_type.IntType.TheVariants as the
use Rattle.mc_value.specs.IntTypes.{width_of, least_of, greatest_of, InRange}
use Rattle.mc_value.specs.Conversions.{modulo, wrapped, converted, is_zero}
use Rattle.mc_value.specs.Laws.{Congruent}
use Rattle.mc_value.proofs.Bounds.{low_side, high_side}

-- ---- modulo

pub modulo_lt : (v : ℤ) (m : ℕ) → 0 < m → modulo v m < m
modulo_lt (pos n) m h = mod-lt n h
modulo_lt (negsuc n) m h = let l = mod-lt n h in omega arith

-- v plus a multiple of m that is not negative has v's remainder
pub modulo_lifted : (v : ℤ) (m k n : ℕ) → 0 < m → v +ℤ pos (k * m) ≡ pos n → modulo v m ≡ n % m
modulo_lifted (pos a) m k n h e = ap unsigned_abs (int_rem_euclid_is (pos a) (pos m) m k n h refl e)
modulo_lifted (negsuc a) m k n h e = ap unsigned_abs (int_rem_euclid_is (negsuc a) (pos m) m k n h refl e)

lift : (v : ℤ) (m : ℕ) → 0 < m → (k : ℕ) × ((n : ℕ) × (v +ℤ pos (k * m) ≡ pos n))
lift (pos a) m h = (0, (a, omega (arith, ints)))
lift (negsuc a) m h =
    let far : suc a * 1 ≤ suc a * m = mul-le-mul_left (suc a) h in
    (suc a, (suc a * m - suc a, omega (arith, ints)))

pub modulo_moved : (v : ℤ) (m k : ℕ) → 0 < m → modulo (v +ℤ pos (k * m)) m ≡ modulo v m
modulo_moved v m k h =
    let l = lift v m h in
    let e = l.1.1 in
    modulo_lifted (v +ℤ pos (k * m)) m l.0 (l.1.0 + k * m) h (omega (arith, ints)) ∙ add-mul-mod_self_right l.1.0 k m ∙ sym (modulo_lifted v m l.0 l.1.0 h e)

pub modulo_congruent : (v r : ℤ) (m : ℕ) → 0 < m → Congruent m v r → modulo v m ≡ modulo r m
modulo_congruent v r m h (k, inl e) = sym (modulo_moved v m k h) ∙ ap (λ z. modulo z m) e
modulo_congruent v r m h (k, inr e) = ap (λ z. modulo z m) (sym e) ∙ modulo_moved r m k h

pub residue : (v : ℤ) (m : ℕ) → 0 < m → Congruent m v (pos (modulo v m))
residue (pos n) m h = (n / m, inr (let d = div-add-mod' n m in omega (arith, ints)))
residue (negsuc n) m h =
    let d = div-add-mod' n m in
    let l = mod-lt n h in
    let s : suc (n / m) * m ≡ n / m * m + m = suc-mul (n / m) m in
    (suc (n / m), inl (omega (arith, ints)))

congruent_less : (v : ℤ) (r m : ℕ) → Congruent m v (pos r) → Congruent m v (pos r -ℤ pos m)
congruent_less v r m (zero, inl e) = (1, inr (omega (arith, ints)))
congruent_less v r m (suc k, inl e) = (k, inl (let s : suc k * m ≡ k * m + m = suc-mul k m in omega (arith, ints)))
congruent_less v r m (k, inr e) = (suc k, inr (let s : suc k * m ≡ k * m + m = suc-mul k m in omega (arith, ints)))

-- ---- tests

pub le_yes : (a b : ℤ) → int_le a b ≡ true → a ≤ℤ b
le_yes a b e = grind (arith, ints)

pub le_no : (a b : ℤ) → int_le a b ≡ false → b <ℤ a
le_no a b e = grind (arith, ints)

pub yes_le : (a b : ℤ) → a ≤ℤ b → int_le a b ≡ true
yes_le a b h = grind (arith, ints)

pub no_le : (a b : ℤ) → b <ℤ a → int_le a b ≡ false
no_le a b h = grind (arith, ints)

-- ---- the value of a type with a given remainder

abbrev pub placed : IntType → ℕ → ℤ
placed t m = if int_le (pos m) (greatest_of t) then pos m else pos m -ℤ pos (2 ^ width_of t)

-- as many values as remainders
pub span : (t : IntType) → least_of t +ℤ pos (2 ^ width_of t) ≡ greatest_of t +ℤ pos 1
span the.Bool = refl
span the.Char = refl
span the.SChar = refl
span the.UChar = refl
span the.Short = refl
span the.UShort = refl
span the.Int = refl
span the.UInt = refl
span the.Long = refl
span the.ULong = refl
span the.LLong = refl
span the.ULLong = refl

pub placed_within : (t : IntType) (m : ℕ) → m < 2 ^ width_of t → InRange t (placed t m)
placed_within t m h =
    let low = (low_side t).1 in
    let high = (high_side t).0 in
    let all = span t in
    ⊎_elim
    (λ e. let l = le_yes (pos m) (greatest_of t) e in
    subst (InRange t) (sym (cond-true (int_le (pos m) (greatest_of t)) (pos m) (pos m -ℤ pos (2 ^ width_of t)) e)) (record { least = omega (arith, ints); greatest = l }))
    (λ e. let l = le_no (pos m) (greatest_of t) e in
    subst (InRange t) (sym (cond-false (int_le (pos m) (greatest_of t)) (pos m) (pos m -ℤ pos (2 ^ width_of t)) e)) (record { least = omega (arith, ints); greatest = omega (arith, ints) }))
    (cases_Bool (int_le (pos m) (greatest_of t)))

pub wrapped_within : (t : IntType) (v : ℤ) → InRange t (wrapped t v)
wrapped_within t v = placed_within t (modulo v (2 ^ width_of t)) (modulo_lt v (2 ^ width_of t) (pow_pos (width_of t)))

placed_congruent : (t : IntType) (v : ℤ) (m : ℕ) → Congruent (2 ^ width_of t) v (pos m) → Congruent (2 ^ width_of t) v (placed t m)
placed_congruent t v m c =
    ⊎_elim
    (λ e. subst (Congruent (2 ^ width_of t) v) (sym (cond-true (int_le (pos m) (greatest_of t)) (pos m) (pos m -ℤ pos (2 ^ width_of t)) e)) c)
    (λ e. subst (Congruent (2 ^ width_of t) v) (sym (cond-false (int_le (pos m) (greatest_of t)) (pos m) (pos m -ℤ pos (2 ^ width_of t)) e)) (congruent_less v m (2 ^ width_of t) c))
    (cases_Bool (int_le (pos m) (greatest_of t)))

pub wrapped_congruent : (t : IntType) (v : ℤ) → Congruent (2 ^ width_of t) v (wrapped t v)
wrapped_congruent t v = placed_congruent t v (modulo v (2 ^ width_of t)) (residue v (2 ^ width_of t) (pow_pos (width_of t)))

pub wrapped_modulo : (t : IntType) (v : ℤ) → modulo (wrapped t v) (2 ^ width_of t) ≡ modulo v (2 ^ width_of t)
wrapped_modulo t v = sym (modulo_congruent v (wrapped t v) (2 ^ width_of t) (pow_pos (width_of t)) (wrapped_congruent t v))

pub wrapped_own : (t : IntType) (v : ℤ) → InRange t v → wrapped t v ≡ v
wrapped_own t (pos n) h =
    let all = span t in
    let low = (low_side t).1 in
    let high = h.greatest in
    ap (placed t) (mod-eq_of_lt (omega (arith, ints))) ∙ cond-true (int_le (pos n) (greatest_of t)) (pos n) (pos n -ℤ pos (2 ^ width_of t)) (yes_le (pos n) (greatest_of t) h.greatest)
wrapped_own t (negsuc n) h =
    let all = span t in
    let high = (high_side t).0 in
    let low = h.least in
    let m = 2 ^ width_of t in
    let small : suc n < m = omega (arith, ints) in
    let r = m - 1 - n in
    ap (λ x. placed t (m - 1 - x)) (mod-eq_of_lt (omega arith))
    ∙ cond-false (int_le (pos r) (greatest_of t)) (pos r) (pos r -ℤ pos m) (no_le (pos r) (greatest_of t) (omega (arith, ints)))
    ∙ omega (arith, ints)

pub wrapped_same : (t : IntType) (v r : ℤ) → modulo v (2 ^ width_of t) ≡ modulo r (2 ^ width_of t) → wrapped t v ≡ wrapped t r
wrapped_same t v r e = ap (placed t) e

pub wrapped_only : (t : IntType) (v r : ℤ) → InRange t r → Congruent (2 ^ width_of t) v r → r ≡ wrapped t v
wrapped_only t v r h c = sym (wrapped_own t r h) ∙ sym (wrapped_same t v r (modulo_congruent v r (2 ^ width_of t) (pow_pos (width_of t)) c))

-- ---- conversions

pub converted_is : (t : IntType) (v : ℤ) → t ≢ the.Bool → converted t v ≡ wrapped t v
converted_is the.Bool v ne = absurd (ne refl)
converted_is the.Char v ne = refl
converted_is the.SChar v ne = refl
converted_is the.UChar v ne = refl
converted_is the.Short v ne = refl
converted_is the.UShort v ne = refl
converted_is the.Int v ne = refl
converted_is the.UInt v ne = refl
converted_is the.Long v ne = refl
converted_is the.ULong v ne = refl
converted_is the.LLong v ne = refl
converted_is the.ULLong v ne = refl

bool_within : (b : Bool) → InRange the.Bool (if b then pos 0 else pos 1)
bool_within true = record { least = omega (arith, ints); greatest = omega (arith, ints) }
bool_within false = record { least = omega (arith, ints); greatest = omega (arith, ints) }

bool_own : (v : ℤ) → InRange the.Bool v → converted the.Bool v ≡ v
bool_own (pos zero) h = refl
bool_own (pos (suc zero)) h = refl
bool_own (pos (suc (suc n))) h = absurd (let g = h.greatest in omega (arith, ints))
bool_own (negsuc n) h = absurd (let l = h.least in omega (arith, ints))

cases_type : (t : IntType) (P : IntType → Type 0) → P the.Bool → ((t : IntType) → t ≢ the.Bool → P t) → P t
cases_type the.Bool P b other = b
cases_type the.Char P b other = other the.Char (λ e. cc)
cases_type the.SChar P b other = other the.SChar (λ e. cc)
cases_type the.UChar P b other = other the.UChar (λ e. cc)
cases_type the.Short P b other = other the.Short (λ e. cc)
cases_type the.UShort P b other = other the.UShort (λ e. cc)
cases_type the.Int P b other = other the.Int (λ e. cc)
cases_type the.UInt P b other = other the.UInt (λ e. cc)
cases_type the.Long P b other = other the.Long (λ e. cc)
cases_type the.ULong P b other = other the.ULong (λ e. cc)
cases_type the.LLong P b other = other the.LLong (λ e. cc)
cases_type the.ULLong P b other = other the.ULLong (λ e. cc)

pub converted_within : (t : IntType) (v : ℤ) → InRange t (converted t v)
converted_within t v = cases_type t (λ t. InRange t (converted t v)) (bool_within (is_zero v)) (λ t ne. subst (InRange t) (sym (converted_is t v ne)) (wrapped_within t v))

pub converted_own : (t : IntType) (v : ℤ) → InRange t v → converted t v ≡ v
converted_own t v = cases_type t (λ t. InRange t v → converted t v ≡ v) (bool_own v) (λ t ne h. converted_is t v ne ∙ wrapped_own t v h)

pub congruent_value : (t : IntType) (v r : ℤ) → t ≢ the.Bool → (r ≡ converted t v) ↔ (InRange t r × Congruent (2 ^ width_of t) v r)
congruent_value t v r ne = (
  λ e. let f = sym (e ∙ converted_is t v ne) in (subst (InRange t) f (wrapped_within t v), subst (Congruent (2 ^ width_of t) v) f (wrapped_congruent t v)),
  λ h. wrapped_only t v r h.0 h.1 ∙ sym (converted_is t v ne),
)
