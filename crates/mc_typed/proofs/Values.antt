-- The values of the constant expressions of a sound program are values of their types.
use Rattle.std.proofs.Common.{◌≡◌, refl, subst, ℤ, pos, Bool, true, false, ◌&&◌, if◌then◌else◌, Option, Some, None, option_map, option_and_then, Result, Ok, Err, IfOk, int_le}
use Rattle.mc_value.specs.declared.int_type.IntType.{IntType}
use Rattle.mc_value.specs.declared.int_type.IntType.TheVariants as the
use Rattle.mc_value.specs.declared.operators.UnOp.{UnOp}
use Rattle.mc_value.specs.declared.operators.UnOp.TheVariants as un
use Rattle.mc_value.specs.declared.trap.Trap.{Trap}
use Rattle.mc_value.specs.IntTypes.{InRange, in_range, least_of, greatest_of}
use Rattle.mc_value.specs.Conversions.{converted, promoted, is_promoted, is_zero}
use Rattle.mc_value.specs.Arithmetic.{binary_of, binary_type, unary_of, unary_type, truth}
use Rattle.mc_value.specs.Shifts.{shift_of}
use Rattle.mc_value.proofs.Results.{binary_within, unary_within, shift_within}
use Rattle.mc_value.proofs.Wrapping.{converted_within, le_yes, yes_le}
use Rattle.mc_typed.specs.declared.operators.Operator.{Operator}
use Rattle.mc_typed.specs.declared.operators.Operator.TheVariants.{Binary, Shift}
use Rattle.mc_typed.specs.Operators.{operated, is_true, goes_on}
use Rattle.mc_typed.specs.Constants.{unless_trap, is_operand, are_operands, unary_value, operated_value, binary_value, truth_value, constant_value}
use Rattle.mc_typed.specs.Tree.{Expression}
use Rattle.mc_typed.specs.Tree as t
use Rattle.mc_typed.specs.Sound.{Scope, type_of, operator_type, IsUnary, HasOperands, IsExpression}
use Rattle.mc_typed.specs.Laws.{ConstantsAreValues}

-- ---- parts of an option

and_then_is : {A B : Type 0} (f : A → Option B) (o : Option A) (b : B) → option_and_then f o ≡ Some b
    → (a : A) × (o ≡ Some a) × (f a ≡ Some b)
and_then_is f None b h = absurd (cc)
and_then_is f (Some a) b h = (a, refl, h)

map_is : {A B : Type 0} (f : A → B) (o : Option A) (b : B) → option_map f o ≡ Some b
    → (a : A) × (o ≡ Some a) × (f a ≡ b)
map_is f None b h = absurd (cc)
map_is f (Some a) b h = let same : f a ≡ b = cc in (a, refl, same)

chosen_is : (b : Bool) (o p : Option ℤ) (v : ℤ) (P : ℤ → Type 0) → (o ≡ Some v → P v)
    → (p ≡ Some v → P v) → (if b then o else p) ≡ Some v → P v
chosen_is true o p v P f g h = f h
chosen_is false o p v P f g h = g h

no_value : (v : ℤ) (P : ℤ → Type 0) → None ≡ Some v → P v
no_value v P h = absurd (cc)

untrapped : (a : IntType) (r : Result ℤ Trap) (v : ℤ) → IfOk r (λ x. InRange a x)
    → unless_trap r ≡ Some v → InRange a v
untrapped a (Ok x) v p h = let same : x ≡ v = cc in subst (λ y. InRange a y) same p
untrapped a (Err trap) v p h = absurd (cc)

-- ---- values in range

both_true : (a b : Bool) → a ≡ true → b ≡ true → a && b ≡ true
both_true true b p q = q
both_true false b p q = absurd (cc)

inside : (a : IntType) (v : ℤ) → InRange a v → in_range a v ≡ true
inside a v h =
    both_true (int_le (least_of a) v) (int_le v (greatest_of a))
    (yes_le (least_of a) v h.least) (yes_le v (greatest_of a) h.greatest)

truth_within : (b : Bool) → InRange the.Int (truth b)
truth_within true = record { least = le_yes (least_of the.Int) (pos 1) refl; greatest = le_yes (pos 1) (greatest_of the.Int) refl }
truth_within false = record { least = le_yes (least_of the.Int) (pos 0) refl; greatest = le_yes (pos 0) (greatest_of the.Int) refl }

stays : (a : IntType) → promoted a ≡ a → is_promoted a ≡ true
stays the.Bool h = absurd (cc)
stays the.Char h = absurd (cc)
stays the.SChar h = absurd (cc)
stays the.UChar h = absurd (cc)
stays the.Short h = absurd (cc)
stays the.UShort h = absurd (cc)
stays the.Int h = refl
stays the.UInt h = refl
stays the.Long h = refl
stays the.ULong h = refl
stays the.LLong h = refl
stays the.ULLong h = refl

operand : (a : IntType) (v : ℤ) → promoted a ≡ a → InRange a v → is_operand a v ≡ true
operand a v p h = both_true (is_promoted a) (in_range a v) (stays a p) (inside a v h)

operands : (operator : Operator) (a l r : IntType) (v x : ℤ) → HasOperands operator a l r
    → InRange l v → InRange r x → are_operands operator a v x ≡ true
operands (Binary operator) a l r v x h p q =
    both_true (is_operand a v) (is_operand a x)
    (operand a v h.0 (subst (λ b. InRange b v) h.1 p)) (operand a x h.0 (subst (λ b. InRange b x) h.2 q))
operands (Shift operator) a l r v x h p q = operand a v h.0 (subst (λ b. InRange b v) h.1 p)

operated_within : (operator : Operator) (a l r : IntType) (v x y : ℤ) → HasOperands operator a l r
    → InRange l v → InRange r x → unless_trap (operated operator a v x) ≡ Some y → InRange (operator_type operator a) y
operated_within (Binary operator) a l r v x y h p q e =
    untrapped (binary_type operator a) (binary_of operator a v x) y
    (binary_within operator a v x h.0 (subst (λ b. InRange b v) h.1 p) (subst (λ b. InRange b x) h.2 q)) e
operated_within (Shift operator) a l r v x y h p q e =
    untrapped a (shift_of operator a v x) y
    (shift_within operator a v x h.0 (subst (λ b. InRange b v) h.1 p)) e

unary_stays : (operator : UnOp) (a : IntType) → IsUnary operator → unary_type operator a ≡ a
unary_stays un.Plus a h = refl
unary_stays un.Minus a h = refl
unary_stays un.Flip a h = refl
unary_stays un.Not a h = absurd h

truths : (o : Option ℤ) (v : ℤ) → truth_value o ≡ Some v → InRange the.Int v
truths o v h =
    let p = map_is (λ w. truth (is_true w)) o v h in
    subst (λ x. InRange the.Int x) p.2 (truth_within (is_true p.0))

first_truth : (b : Bool) (v : ℤ) → Some (truth b) ≡ Some v → InRange the.Int v
first_truth b v h = let same : truth b ≡ v = cc in subst (λ x. InRange the.Int x) same (truth_within b)

-- ---- values of expressions

pub constant_within : (c : Scope) (e : Expression) (v : ℤ) → IsExpression e c
    → constant_value e ≡ Some v → InRange (type_of e) v
constant_within c (t.Constant x a span) v h q =
    let same : x ≡ v = cc in subst (λ y. InRange a y) same h
constant_within c (t.Read place a) v h q = absurd (cc)
constant_within c (t.Unary operator a e span) v h q =
    let p = and_then_is (λ x. if is_operand a x then unless_trap (unary_of operator a x) else None) (constant_value e) v q in
    let below = subst (λ b. InRange b p.0) h.3 (constant_within c e p.0 h.2 p.1) in
    chosen_is (is_operand a p.0) (unless_trap (unary_of operator a p.0)) None v (InRange a)
    (λ k. subst (λ b. InRange b v) (unary_stays operator a h.0)
    (untrapped (unary_type operator a) (unary_of operator a p.0) v (unary_within operator a p.0 h.1 below) k))
    (no_value v (InRange a)) p.2
constant_within c (t.Convert a written e span) v h q =
    let p = map_is (converted a) (constant_value e) v q in
    subst (λ y. InRange a y) p.2 (converted_within a p.0)
constant_within c (t.Not e span) v h q =
    let p = map_is (λ x. truth (is_zero x)) (constant_value e) v q in
    subst (λ y. InRange the.Int y) p.2 (truth_within (is_zero p.0))
constant_within c (t.Binary operator a e f span) v h q =
    let p = and_then_is (λ x. option_and_then (operated_value operator a x) (constant_value f)) (constant_value e) v q in
    let r = and_then_is (operated_value operator a p.0) (constant_value f) v p.2 in
    chosen_is (are_operands operator a p.0 r.0) (unless_trap (operated operator a p.0 r.0)) None v (InRange (operator_type operator a))
    (operated_within operator a (type_of e) (type_of f) p.0 r.0 v h.2 (constant_within c e p.0 h.0 p.1) (constant_within c f r.0 h.1 r.1))
    (no_value v (InRange (operator_type operator a))) r.2
constant_within c (t.Logic operator e f span) v h q =
    let p = and_then_is (λ x. if goes_on operator (is_true x) then truth_value (constant_value f) else Some (truth (is_true x))) (constant_value e) v q in
    chosen_is (goes_on operator (is_true p.0)) (truth_value (constant_value f)) (Some (truth (is_true p.0))) v (InRange the.Int)
    (truths (constant_value f) v) (first_truth (is_true p.0) v) p.2
constant_within c (t.Choice e f g a span) v h q =
    let p = and_then_is (λ x. if is_true x then constant_value f else constant_value g) (constant_value e) v q in
    chosen_is (is_true p.0) (constant_value f) (constant_value g) v (InRange a)
    (λ r. subst (λ b. InRange b v) h.4 (constant_within c f v h.1 r))
    (λ r. subst (λ b. InRange b v) h.5 (constant_within c g v h.2 r)) p.2
constant_within c (t.Call k a) v h q = absurd (cc)
constant_within c (t.Input span) v h q = absurd (cc)

-- ---- each operand of a sound program is one of its operator

chosen : (b : Bool) (o : Option ℤ) → b ≡ true → (if b then o else None) ≡ o
chosen true o h = refl
chosen false o h = absurd (cc)

unary_plain : (operator : UnOp) (a : IntType) (o : Option ℤ) → ((x : ℤ) → o ≡ Some x → is_operand a x ≡ true)
    → unary_value operator a o ≡ option_and_then (λ x. unless_trap (unary_of operator a x)) o
unary_plain operator a None h = refl
unary_plain operator a (Some x) h = chosen (is_operand a x) (unless_trap (unary_of operator a x)) (h x refl)

second_plain : (operator : Operator) (a : IntType) (x : ℤ) (o : Option ℤ) → ((y : ℤ) → o ≡ Some y → are_operands operator a x y ≡ true)
    → option_and_then (operated_value operator a x) o ≡ option_and_then (λ y. unless_trap (operated operator a x y)) o
second_plain operator a x None h = refl
second_plain operator a x (Some y) h = chosen (are_operands operator a x y) (unless_trap (operated operator a x y)) (h y refl)

binary_plain : (operator : Operator) (a : IntType) (o p : Option ℤ) → ((x y : ℤ) → o ≡ Some x → p ≡ Some y → are_operands operator a x y ≡ true)
    → binary_value operator a o p ≡ option_and_then (λ x. option_and_then (λ y. unless_trap (operated operator a x y)) p) o
binary_plain operator a None p h = refl
binary_plain operator a (Some x) p h = second_plain operator a x p (λ y k. h x y refl k)

unary_values : (c : Scope) (operator : UnOp) (a : IntType) (e : Expression) → IsExpression e c → promoted a ≡ a → type_of e ≡ a
    → unary_value operator a (constant_value e) ≡ option_and_then (λ x. unless_trap (unary_of operator a x)) (constant_value e)
unary_values c operator a e h p same =
    unary_plain operator a (constant_value e)
    (λ x k. operand a x p (subst (λ b. InRange b x) same (constant_within c e x h k)))

binary_values : (c : Scope) (operator : Operator) (a : IntType) (e f : Expression) → IsExpression e c → IsExpression f c → HasOperands operator a (type_of e) (type_of f)
    → binary_value operator a (constant_value e) (constant_value f) ≡ option_and_then (λ x. option_and_then (λ y. unless_trap (operated operator a x y)) (constant_value f)) (constant_value e)
binary_values c operator a e f h k are =
    binary_plain operator a (constant_value e) (constant_value f)
    (λ x y p q. operands operator a (type_of e) (type_of f) x y are (constant_within c e x h p) (constant_within c f y k q))

pub constants_are_values : ConstantsAreValues
constants_are_values = record {
  within = constant_within;
  unary = unary_values;
  binary = binary_values;
}
