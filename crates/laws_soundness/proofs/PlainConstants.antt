-- What is built as an integer constant expression is one.
use Rattle.std.proofs.Common.{◌≡◌, ℤ, pos, Bool, true, false, ◌&&◌, if◌then◌else◌, Option, Some, None, option_and_then, refl, sym, ◌∙◌}
use Rattle.mc_span.specs.declared.span.Span.{Span}
use Rattle.mc_tree.specs.declared.expressions.unary_operator.UnaryOperator.{UnaryOperator}
use Rattle.mc_tree.specs.declared.expressions.unary_operator.UnaryOperator.TheVariants as unary
use Rattle.mc_tree.specs.declared.expressions.binary_operator.BinaryOperator.{BinaryOperator}
use Rattle.mc_tree.specs.declared.expressions.binary_operator.BinaryOperator.TheVariants as binary
use Rattle.mc_tree.specs.declared.expressions.assignment_operator.AssignmentOperator.{AssignmentOperator}
use Rattle.mc_tree.specs.declared.expressions.assignment_operator.AssignmentOperator.TheVariants as assign
use Rattle.mc_tree.specs.Tree.{Expression}
use Rattle.mc_tree.specs.Tree as tree
use Rattle.mc_value.specs.declared.int_type.IntType.{IntType}
use Rattle.mc_value.specs.declared.int_type.IntType.TheVariants as the
use Rattle.mc_value.specs.IntTypes.{in_range}
use Rattle.mc_value.specs.Conversions.{promoted}
use Rattle.mc_typed.specs.Sound.{type_of}
use Rattle.mc_typed.specs.Tree as t
use Rattle.types_rules.specs.Types.{Base, Void, Integer, Tagged, CType, same_integer}
use Rattle.types_rules.specs.Scopes.{Meaning, Automatic, Constant, Function, Typedef, Scope, meaning_of}
use Rattle.types_rules.specs.Scopes as scope
use Rattle.types_rules.specs.Values.{Value, Number, Stored, Borrowed, Returned, Done, Assigned, Designator, Found, number_in, number_found, lift2}
use Rattle.types_rules.specs.Constants.{type_of_constant}
use Rattle.types_rules.specs.Expressions.{convert_to, promote, common_type, is_enumerator, value_of_name, literal, is_arithmetic, typed_unary, cast_base, casts_to_integer, may_cast_to_integer, cast_value_to, cast_value, typed_binary, arms_value, conditional_value, assignment_found}
use Rattle.types_rules.specs.Judgement.{judge, judge_type}
use Rattle.laws_soundness.specs.Plain.{IsConstant}
use Rattle.laws_soundness.proofs.Tests.{and_left, and_right, false_true}
use Rattle.laws_soundness.proofs.PlainValues.{WhereSome, map_where, then_where, lift_where}

-- an integer that is constant
abbrev pub IsConstantValue : Value → Type 0
IsConstantValue (Number e) = IsConstant e
IsConstantValue _ = ⊥

convert_constant : (a : IntType) (e : t.Expression) → IsConstant e → IsConstant (convert_to a e)
convert_constant a e h = by_test (same_integer (type_of e) a)
  where
    by_test : (b : Bool) → IsConstant (if b then e else t.Convert a false e (t.span_of e))
    by_test true = h
    by_test false = h

number_constant : (v : Value) → IsConstantValue v → WhereSome IsConstant (number_in v)
number_constant (Number e) h = h
number_constant (Stored place u) h = absurd h
number_constant (Borrowed array u span) h = absurd h
number_constant (Returned c k) h = absurd h
number_constant (Done effect) h = absurd h
number_constant (Assigned effect) h = absurd h
number_constant Designator h = absurd h

pub number_found_constant : (x : Found) → WhereSome IsConstantValue x.value → WhereSome IsConstant (number_found x)
number_found_constant x h = then_where IsConstantValue IsConstant number_in x.value number_constant h

name_constant : (span : Span) (m : Option Meaning) → is_enumerator m ≡ true
    → WhereSome IsConstantValue (option_and_then (value_of_name span) m)
name_constant span None h = tt
name_constant span (Some (Constant None)) h = tt
name_constant span (Some (Constant (Some v))) h = tt
name_constant span (Some (Automatic slot u)) h = false_true h
name_constant span (Some (scope.Stored slot u)) h = false_true h
name_constant span (Some (scope.Borrowed array u)) h = false_true h
name_constant span (Some (Function f b)) h = false_true h
name_constant span (Some (Typedef u)) h = false_true h

literal_constant : (v : ℤ) (a : Option IntType) (span : Span) (s : Scope)
    → WhereSome IsConstantValue (literal v a span s).value
literal_constant v None span s = tt
literal_constant v (Some a) span s = tt

unary_constant : (operator : UnaryOperator) (span : Span) (e : t.Expression) → IsConstant e
    → WhereSome IsConstant (typed_unary operator span e)
unary_constant unary.Plus span e h = convert_constant (promoted (type_of e)) e h
unary_constant unary.Minus span e h = convert_constant (promoted (type_of e)) e h
unary_constant unary.Complement span e h = convert_constant (promoted (type_of e)) e h
unary_constant unary.Not span e h = h
unary_constant unary.Dereference span e h = tt
unary_constant unary.Address span e h = tt

cast_constant_to : (span : Span) (v : Value) (b : Option Base) → casts_to_integer b ≡ true
    → IsConstantValue v → WhereSome IsConstantValue (cast_value_to span v b)
cast_constant_to span v (Some (Integer a)) c h =
    map_where IsConstant IsConstantValue (λ e. Number (t.Convert a true e span)) (number_in v) (λ e p. p)
    (number_constant v h)
cast_constant_to span v (Some Void) c h = false_true c
cast_constant_to span v (Some (Tagged k)) c h = false_true c
cast_constant_to span v None c h = false_true c

cast_constant : (span : Span) (type : Option CType) (v : Option Value) → may_cast_to_integer type ≡ true
    → WhereSome IsConstantValue v → WhereSome IsConstantValue (cast_value span type v)
cast_constant span None v c h = tt
cast_constant span (Some u) v c h =
    then_where IsConstantValue IsConstantValue (λ w. cast_value_to span w (cast_base u u.lengths)) v
    (λ w p. cast_constant_to span w (cast_base u u.lengths) c p) h

both_constant : (e f : t.Expression) → IsConstant e → IsConstant f
    → IsConstant (convert_to (common_type e f) e) × IsConstant (convert_to (common_type e f) f)
both_constant e f h k = (convert_constant (common_type e f) e h, convert_constant (common_type e f) f k)

both_promoted : (e f : t.Expression) → IsConstant e → IsConstant f
    → IsConstant (promote e) × IsConstant (promote f)
both_promoted e f h k =
    (convert_constant (promoted (type_of e)) e h, convert_constant (promoted (type_of f)) f k)

binary_constant : (operator : BinaryOperator) (span : Span) (e f : t.Expression) → IsConstant e
    → IsConstant f → IsConstant (typed_binary operator span e f)
binary_constant binary.Multiply span e f h k = both_constant e f h k
binary_constant binary.Divide span e f h k = both_constant e f h k
binary_constant binary.Remainder span e f h k = both_constant e f h k
binary_constant binary.Add span e f h k = both_constant e f h k
binary_constant binary.Subtract span e f h k = both_constant e f h k
binary_constant binary.ShiftLeft span e f h k = both_promoted e f h k
binary_constant binary.ShiftRight span e f h k = both_promoted e f h k
binary_constant binary.Less span e f h k = both_constant e f h k
binary_constant binary.Greater span e f h k = both_constant e f h k
binary_constant binary.LessOrEqual span e f h k = both_constant e f h k
binary_constant binary.GreaterOrEqual span e f h k = both_constant e f h k
binary_constant binary.Equal span e f h k = both_constant e f h k
binary_constant binary.Unequal span e f h k = both_constant e f h k
binary_constant binary.BitAnd span e f h k = both_constant e f h k
binary_constant binary.BitXor span e f h k = both_constant e f h k
binary_constant binary.BitOr span e f h k = both_constant e f h k
binary_constant binary.And span e f h k = (h, k)
binary_constant binary.Or span e f h k = (h, k)

arms_constant : (span : Span) (e : t.Expression) (v w : Value) → IsConstant e → IsConstantValue v
    → IsConstantValue w → WhereSome IsConstantValue (arms_value span e v w)
arms_constant span e (Number f) (Number g) h p q =
    let both = both_constant f g p q in (h, both.0, both.1)
arms_constant span e (Number f) (Stored place u) h p q = absurd q
arms_constant span e (Number f) (Borrowed array u at) h p q = absurd q
arms_constant span e (Number f) (Returned c k) h p q = absurd q
arms_constant span e (Number f) (Done effect) h p q = absurd q
arms_constant span e (Number f) (Assigned effect) h p q = absurd q
arms_constant span e (Number f) Designator h p q = absurd q
arms_constant span e (Stored place u) w h p q = absurd p
arms_constant span e (Borrowed array u at) w h p q = absurd p
arms_constant span e (Returned c k) w h p q = absurd p
arms_constant span e (Done effect) w h p q = absurd p
arms_constant span e (Assigned effect) w h p q = absurd p
arms_constant span e Designator w h p q = absurd p

conditional_constant : (span : Span) (e : Option t.Expression) (v w : Option Value) → WhereSome IsConstant e
    → WhereSome IsConstantValue v → WhereSome IsConstantValue w
    → WhereSome IsConstantValue (conditional_value span e v w)
conditional_constant span None v w h p q = tt
conditional_constant span (Some e) None w h p q = tt
conditional_constant span (Some e) (Some v) w h p q =
    then_where IsConstantValue IsConstantValue (arms_value span e v) w
    (λ one k. arms_constant span e v one h p k) q

assigned_constant : (operator : AssignmentOperator) (span : Span) (x y : Found)
    → (assignment_found operator span x y).constant ≡ false
assigned_constant assign.Assign span x y = refl
assigned_constant assign.Multiply span x y = refl
assigned_constant assign.Divide span x y = refl
assigned_constant assign.Remainder span x y = refl
assigned_constant assign.Add span x y = refl
assigned_constant assign.Subtract span x y = refl
assigned_constant assign.ShiftLeft span x y = refl
assigned_constant assign.ShiftRight span x y = refl
assigned_constant assign.BitAnd span x y = refl
assigned_constant assign.BitXor span x y = refl
assigned_constant assign.BitOr span x y = refl

-- what is built as a constant is one
pub found_constant : (e : Expression) (s : Scope) → (judge e s).constant ≡ true
    → WhereSome IsConstantValue (judge e s).value
found_constant (tree.Named name) s c = name_constant name.span (meaning_of name s) c
found_constant (tree.Constant v decimal unsigned longs span) s c =
    literal_constant (pos v) (type_of_constant v decimal unsigned longs) span s
found_constant (tree.Character v span) s c =
    literal_constant v (if in_range the.Int v then Some the.Int else None) span s
found_constant (tree.Parenthesized inner span) s c = found_constant inner s c
found_constant (tree.Call name given span) s c = false_true c
found_constant (tree.Index a b span) s c = false_true c
found_constant (tree.Member a name span) s c = false_true c
found_constant (tree.PostfixStep operator a span) s c = false_true c
found_constant (tree.PrefixStep operator a span) s c = false_true c
found_constant (tree.Unary operator a span) s c =
    let x = judge a s in
    map_where IsConstant IsConstantValue Number (option_and_then (typed_unary operator span) (number_found x))
    (λ e p. p)
    (then_where IsConstant IsConstant (typed_unary operator span) (number_found x) (unary_constant operator span)
    (number_found_constant x (found_constant a s (and_right (is_arithmetic operator) x.constant c))))
found_constant (tree.Cast type a span) s c =
    let x = judge_type type s in
    let y = judge a x.scope in
    cast_constant span x.value y.value (and_right y.constant (may_cast_to_integer x.value) c)
    (found_constant a x.scope (and_left y.constant (may_cast_to_integer x.value) c))
found_constant (tree.Binary operator a b span) s c =
    let x = judge a s in
    let y = judge b x.scope in
    map_where IsConstant IsConstantValue Number (lift2 (typed_binary operator span) (number_found x) (number_found y))
    (λ e p. p)
    (lift_where IsConstant IsConstant IsConstant (typed_binary operator span) (number_found x) (number_found y)
    (binary_constant operator span)
    (number_found_constant x (found_constant a s (and_left x.constant y.constant c)))
    (number_found_constant y (found_constant b x.scope (and_right x.constant y.constant c))))
found_constant (tree.Conditional a b d span) s c =
    let x = judge a s in
    let y = judge b x.scope in
    let z = judge d y.scope in
    let both = and_left (x.constant && y.constant) z.constant c in
    conditional_constant span (number_found x) y.value z.value
    (number_found_constant x (found_constant a s (and_left x.constant y.constant both)))
    (found_constant b x.scope (and_right x.constant y.constant both))
    (found_constant d y.scope (and_right (x.constant && y.constant) z.constant c))
found_constant (tree.Assignment operator a b span) s c =
    let x = judge a s in false_true (sym (assigned_constant operator span x (judge b x.scope)) ∙ c)
found_constant (tree.Comma operands span) s c = false_true c
