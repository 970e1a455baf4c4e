-- `&`, `|` and `^` of numbers that are 0 or 1, in each type.
use Rattle.std.proofs.Common.{◌≡◌, refl, sym, subst, ℤ, pos, inl, inr, Bool, true, false, ◌&&◌, ◌||◌, Some, None, Result, Ok}
use Rattle.mc_value.specs.declared.trap.Trap.{Trap}
use Rattle.mc_value.specs.declared.int_type.IntType.{IntType}
use Rattle.mc_value.specs.declared.int_type.IntType.TheVariants as the
use Rattle.mc_value.specs.declared.operators.BinOp.{BinOp}
use Rattle.mc_value.specs.declared.operators.BinOp.TheVariants as bin
use Rattle.mc_value.specs.Arithmetic.{binary_of, truth}
use Rattle.mc_value.specs.Conversions.{converted}
use Rattle.mc_cond.specs.Vectors.{xor}
use Rattle.mc_typed.specs.declared.operators.Operator.{Operator}
use Rattle.mc_typed.specs.declared.operators.Operator.TheVariants.{Binary, Shift}
use Rattle.mc_typed.specs.Operators.{operated, is_true}
use Rattle.decide_rules.specs.declared.operators.FullOperator.{FullOperator}
use Rattle.decide_rules.specs.declared.operators.FullOperator.TheVariants as full
use Rattle.decide_rules.specs.Nodes.{is_flag, bitwise}
use Rattle.mc_meaning.specs.Decisions.{truth_table}
use Rattle.laws_simulation.specs.Related.{Suits}

by_bit : (P : ℤ → Type 0) → P (pos 0) → P (pos 1) → (v : ℤ) → Suits the.Bool v → P v
by_bit P zero one v (inl e) = subst P (sym e) zero
by_bit P zero one v (inr e) = subst P (sym e) one

by_bits : (P : ℤ → ℤ → Type 0) → P (pos 0) (pos 0) → P (pos 0) (pos 1) → P (pos 1) (pos 0) → P (pos 1) (pos 1) → (x y : ℤ) → Suits the.Bool x → Suits the.Bool y → P x y
by_bits P a b c d x y h k =
    by_bit (λ z. P z y) (by_bit (P (pos 0)) a b y k) (by_bit (P (pos 1)) c d y k) x h

-- ---- which numbers are 0 or 1

pub truth_bit : (b : Bool) → Suits the.Bool (truth b)
truth_bit true = inr refl
truth_bit false = inl refl

-- a number that is what its truth stands for
pub flag_bit : (v : ℤ) → truth (is_true v) ≡ v → Suits the.Bool v
flag_bit v e = subst (Suits the.Bool) e (truth_bit (is_true v))

no_flag : {X : Type 0} → false ≡ true → X
no_flag e = cc

-- what suits _Bool is 0 or 1
pub suited_bit : (a : IntType) (v : ℤ) → is_flag a ≡ true → Suits a v → Suits the.Bool v
suited_bit the.Bool v e h = h
suited_bit the.Char v e h = no_flag e
suited_bit the.SChar v e h = no_flag e
suited_bit the.UChar v e h = no_flag e
suited_bit the.Short v e h = no_flag e
suited_bit the.UShort v e h = no_flag e
suited_bit the.Int v e h = no_flag e
suited_bit the.UInt v e h = no_flag e
suited_bit the.Long v e h = no_flag e
suited_bit the.ULong v e h = no_flag e
suited_bit the.LLong v e h = no_flag e
suited_bit the.ULLong v e h = no_flag e

-- each type has 0 and 1
pub converted_bit : (a : IntType) (v : ℤ) → Suits the.Bool v → Suits the.Bool (converted a v)
converted_bit the.Bool = by_bit (λ v. Suits the.Bool (converted the.Bool v)) (inl refl) (inr refl)
converted_bit the.Char = by_bit (λ v. Suits the.Bool (converted the.Char v)) (inl refl) (inr refl)
converted_bit the.SChar = by_bit (λ v. Suits the.Bool (converted the.SChar v)) (inl refl) (inr refl)
converted_bit the.UChar = by_bit (λ v. Suits the.Bool (converted the.UChar v)) (inl refl) (inr refl)
converted_bit the.Short = by_bit (λ v. Suits the.Bool (converted the.Short v)) (inl refl) (inr refl)
converted_bit the.UShort = by_bit (λ v. Suits the.Bool (converted the.UShort v)) (inl refl) (inr refl)
converted_bit the.Int = by_bit (λ v. Suits the.Bool (converted the.Int v)) (inl refl) (inr refl)
converted_bit the.UInt = by_bit (λ v. Suits the.Bool (converted the.UInt v)) (inl refl) (inr refl)
converted_bit the.Long = by_bit (λ v. Suits the.Bool (converted the.Long v)) (inl refl) (inr refl)
converted_bit the.ULong = by_bit (λ v. Suits the.Bool (converted the.ULong v)) (inl refl) (inr refl)
converted_bit the.LLong = by_bit (λ v. Suits the.Bool (converted the.LLong v)) (inl refl) (inr refl)
converted_bit the.ULLong = by_bit (λ v. Suits the.Bool (converted the.ULLong v)) (inl refl) (inr refl)

-- ---- what the operators give

abbrev HasTable : BinOp → (Bool → Bool → Bool) → IntType → Type 0
HasTable operator table a =
    (x y : ℤ) → Suits the.Bool x → Suits the.Bool y → binary_of operator a x y ≡ Ok (truth (table (is_true x) (is_true y)))

and_is : (a : IntType) → HasTable bin.And ◌&&◌ a
and_is the.Bool = by_bits (λ x y. binary_of bin.And the.Bool x y ≡ Ok (truth (is_true x && is_true y))) refl refl refl refl
and_is the.Char = by_bits (λ x y. binary_of bin.And the.Char x y ≡ Ok (truth (is_true x && is_true y))) refl refl refl refl
and_is the.SChar = by_bits (λ x y. binary_of bin.And the.SChar x y ≡ Ok (truth (is_true x && is_true y))) refl refl refl refl
and_is the.UChar = by_bits (λ x y. binary_of bin.And the.UChar x y ≡ Ok (truth (is_true x && is_true y))) refl refl refl refl
and_is the.Short = by_bits (λ x y. binary_of bin.And the.Short x y ≡ Ok (truth (is_true x && is_true y))) refl refl refl refl
and_is the.UShort = by_bits (λ x y. binary_of bin.And the.UShort x y ≡ Ok (truth (is_true x && is_true y))) refl refl refl refl
and_is the.Int = by_bits (λ x y. binary_of bin.And the.Int x y ≡ Ok (truth (is_true x && is_true y))) refl refl refl refl
and_is the.UInt = by_bits (λ x y. binary_of bin.And the.UInt x y ≡ Ok (truth (is_true x && is_true y))) refl refl refl refl
and_is the.Long = by_bits (λ x y. binary_of bin.And the.Long x y ≡ Ok (truth (is_true x && is_true y))) refl refl refl refl
and_is the.ULong = by_bits (λ x y. binary_of bin.And the.ULong x y ≡ Ok (truth (is_true x && is_true y))) refl refl refl refl
and_is the.LLong = by_bits (λ x y. binary_of bin.And the.LLong x y ≡ Ok (truth (is_true x && is_true y))) refl refl refl refl
and_is the.ULLong = by_bits (λ x y. binary_of bin.And the.ULLong x y ≡ Ok (truth (is_true x && is_true y))) refl refl refl refl

or_is : (a : IntType) → HasTable bin.Or ◌||◌ a
or_is the.Bool = by_bits (λ x y. binary_of bin.Or the.Bool x y ≡ Ok (truth (is_true x || is_true y))) refl refl refl refl
or_is the.Char = by_bits (λ x y. binary_of bin.Or the.Char x y ≡ Ok (truth (is_true x || is_true y))) refl refl refl refl
or_is the.SChar = by_bits (λ x y. binary_of bin.Or the.SChar x y ≡ Ok (truth (is_true x || is_true y))) refl refl refl refl
or_is the.UChar = by_bits (λ x y. binary_of bin.Or the.UChar x y ≡ Ok (truth (is_true x || is_true y))) refl refl refl refl
or_is the.Short = by_bits (λ x y. binary_of bin.Or the.Short x y ≡ Ok (truth (is_true x || is_true y))) refl refl refl refl
or_is the.UShort = by_bits (λ x y. binary_of bin.Or the.UShort x y ≡ Ok (truth (is_true x || is_true y))) refl refl refl refl
or_is the.Int = by_bits (λ x y. binary_of bin.Or the.Int x y ≡ Ok (truth (is_true x || is_true y))) refl refl refl refl
or_is the.UInt = by_bits (λ x y. binary_of bin.Or the.UInt x y ≡ Ok (truth (is_true x || is_true y))) refl refl refl refl
or_is the.Long = by_bits (λ x y. binary_of bin.Or the.Long x y ≡ Ok (truth (is_true x || is_true y))) refl refl refl refl
or_is the.ULong = by_bits (λ x y. binary_of bin.Or the.ULong x y ≡ Ok (truth (is_true x || is_true y))) refl refl refl refl
or_is the.LLong = by_bits (λ x y. binary_of bin.Or the.LLong x y ≡ Ok (truth (is_true x || is_true y))) refl refl refl refl
or_is the.ULLong = by_bits (λ x y. binary_of bin.Or the.ULLong x y ≡ Ok (truth (is_true x || is_true y))) refl refl refl refl

exclusive_is : (a : IntType) → HasTable bin.Xor xor a
exclusive_is the.Bool = by_bits (λ x y. binary_of bin.Xor the.Bool x y ≡ Ok (truth (xor (is_true x) (is_true y)))) refl refl refl refl
exclusive_is the.Char = by_bits (λ x y. binary_of bin.Xor the.Char x y ≡ Ok (truth (xor (is_true x) (is_true y)))) refl refl refl refl
exclusive_is the.SChar = by_bits (λ x y. binary_of bin.Xor the.SChar x y ≡ Ok (truth (xor (is_true x) (is_true y)))) refl refl refl refl
exclusive_is the.UChar = by_bits (λ x y. binary_of bin.Xor the.UChar x y ≡ Ok (truth (xor (is_true x) (is_true y)))) refl refl refl refl
exclusive_is the.Short = by_bits (λ x y. binary_of bin.Xor the.Short x y ≡ Ok (truth (xor (is_true x) (is_true y)))) refl refl refl refl
exclusive_is the.UShort = by_bits (λ x y. binary_of bin.Xor the.UShort x y ≡ Ok (truth (xor (is_true x) (is_true y)))) refl refl refl refl
exclusive_is the.Int = by_bits (λ x y. binary_of bin.Xor the.Int x y ≡ Ok (truth (xor (is_true x) (is_true y)))) refl refl refl refl
exclusive_is the.UInt = by_bits (λ x y. binary_of bin.Xor the.UInt x y ≡ Ok (truth (xor (is_true x) (is_true y)))) refl refl refl refl
exclusive_is the.Long = by_bits (λ x y. binary_of bin.Xor the.Long x y ≡ Ok (truth (xor (is_true x) (is_true y)))) refl refl refl refl
exclusive_is the.ULong = by_bits (λ x y. binary_of bin.Xor the.ULong x y ≡ Ok (truth (xor (is_true x) (is_true y)))) refl refl refl refl
exclusive_is the.LLong = by_bits (λ x y. binary_of bin.Xor the.LLong x y ≡ Ok (truth (xor (is_true x) (is_true y)))) refl refl refl refl
exclusive_is the.ULLong = by_bits (λ x y. binary_of bin.Xor the.ULLong x y ≡ Ok (truth (xor (is_true x) (is_true y)))) refl refl refl refl

no_operator : {X : Type 0} (operator : FullOperator) → None ≡ Some operator → X
no_operator operator e = cc

same_operator : (o operator : FullOperator) → Some o ≡ Some operator → o ≡ operator
same_operator o operator e = cc

named : (o operator : FullOperator) (r : Result ℤ Trap) (p q : Bool) → Some o ≡ Some operator → r ≡ Ok (truth (truth_table o p q)) → r ≡ Ok (truth (truth_table operator p q))
named o operator r p q e h =
    subst (λ (z : FullOperator). r ≡ Ok (truth (truth_table z p q))) (same_operator o operator e) h

-- the number that C's operator gives is the truth of the operator on the operands' truth
pub operated_bits : (operator : Operator) (o : FullOperator) (a : IntType) (x y : ℤ) → bitwise operator ≡ Some o → Suits the.Bool x → Suits the.Bool y → operated operator a x y ≡ Ok (truth (truth_table o (is_true x) (is_true y)))
operated_bits (Binary bin.Mul) o a x y e h k = no_operator o e
operated_bits (Binary bin.Div) o a x y e h k = no_operator o e
operated_bits (Binary bin.Rem) o a x y e h k = no_operator o e
operated_bits (Binary bin.Add) o a x y e h k = no_operator o e
operated_bits (Binary bin.Sub) o a x y e h k = no_operator o e
operated_bits (Binary bin.Lt) o a x y e h k = no_operator o e
operated_bits (Binary bin.Gt) o a x y e h k = no_operator o e
operated_bits (Binary bin.Le) o a x y e h k = no_operator o e
operated_bits (Binary bin.Ge) o a x y e h k = no_operator o e
operated_bits (Binary bin.Eq) o a x y e h k = no_operator o e
operated_bits (Binary bin.Ne) o a x y e h k = no_operator o e
operated_bits (Binary bin.And) o a x y e h k = named full.And o (binary_of bin.And a x y) (is_true x) (is_true y) e (and_is a x y h k)
operated_bits (Binary bin.Or) o a x y e h k = named full.Or o (binary_of bin.Or a x y) (is_true x) (is_true y) e (or_is a x y h k)
operated_bits (Binary bin.Xor) o a x y e h k = named full.Xor o (binary_of bin.Xor a x y) (is_true x) (is_true y) e (exclusive_is a x y h k)
operated_bits (Shift operator) o a x y e h k = no_operator o e
