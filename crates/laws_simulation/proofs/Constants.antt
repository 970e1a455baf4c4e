-- A controlling expression that is always true is never false in a run.
use Rattle.std.proofs.Common.{◌≡◌, ◌∙◌, refl, sym, ap, subst, ℕ, ℤ, Bool, true, false, ◌&&◌, if◌then◌else◌, option_map, Option, Some, None, Result, Ok, Err}
use Rattle.mc_value.specs.declared.trap.Trap.{Trap}
use Rattle.mc_value.specs.Conversions.{converted, is_zero}
use Rattle.mc_value.specs.Arithmetic.{unary_of, truth}
use Rattle.mc_span.specs.declared.span.Span.{Span}
use Rattle.mc_value.specs.declared.int_type.IntType.{IntType}
use Rattle.mc_value.specs.declared.operators.UnOp.{UnOp}
use Rattle.mc_typed.specs.declared.operators.Operator.{Operator}
use Rattle.mc_typed.specs.declared.operators.LogicOperator.{LogicOperator}
use Rattle.mc_typed.specs.Constants.{unless_trap, is_operand, are_operands, unary_value, binary_value, truth_value, logic_value, choice_value, constant_value}
use Rattle.mc_typed.specs.Tree.{Expression}
use Rattle.mc_typed.specs.Tree as t
use Rattle.mc_typed.specs.Sound.{Scope, IsExpression, IsTest}
use Rattle.decide_rules.specs.declared.operators.FullOperator.{FullOperator}
use Rattle.decide_rules.specs.declared.role.Role.{Role}
use Rattle.decide_rules.specs.declared.role.Role.TheVariants.{Controlling, Plain}
use Rattle.decide_rules.specs.Nodes.{bitwise}
use Rattle.decide_rules.specs.Nodes as n
use Rattle.decide_rules.specs.Roots.{is_root, operand_role}
use Rattle.mc_steps.specs.Runs.{Out, Gave, Stopped, gives, after, with_result}
use Rattle.mc_steps.specs.Expressions.{operated, is_true, where_true, goes_on, unary_does, binary_does, logic_does, choice_does, as_does}
use Rattle.mc_steps.specs.Points.{is_constant, is_nonzero, is_always}
use Rattle.mc_meaning.specs.Stores.{Store}
use Rattle.mc_steps.specs.Events.{Event}
use Rattle.mc_meaning.specs.Within.{Does, Within}
use Rattle.mc_meaning.specs.Positions.{past, into}
use Rattle.mc_meaning.specs.Decisions.{Judged, value, as_condition, negated, holds, first_alone, both, in_full, full_does, tells, where_root, decides, condition}
use Rattle.mc_meaning.specs.Expressions.{evaluate}
use Rattle.mc_meaning.specs.Statements.{loop_test}
use Rattle.mc_meaning.proofs.Runs.{IsGiven, Gives, given_then}
use Rattle.laws_simulation.proofs.Bits.{operated_bits}
use Rattle.laws_simulation.proofs.Follow.{HasBit}
use Rattle.laws_simulation.proofs.Operands.{full_parts, given_where, constant_bit}

no_root : {X : Type 0} → false ≡ true → X
no_root e = cc

pub both_left : (a b : Bool) → a && b ≡ true → a ≡ true
both_left true b h = refl
both_left false b h = h

pub both_right : (a b : Bool) → a && b ≡ true → b ≡ true
both_right true b h = h
both_right false b h = no_root h

-- where the expression has a value, it is this one
abbrev Is : Option ℤ → ℤ → Type 0
Is o x = (v : ℤ) → o ≡ Some v → x ≡ v

abbrev IsNumber : Expression → ℤ → Type 0
IsNumber e x = Is (constant_value e) x

abbrev Judges : Expression → Judged → Type 0
Judges e j = IsNumber e j.value

root_gives : (P : Judged → Type 0) (root : Bool) (d : ℕ) (e : Does Judged) → Gives P e → Gives P (where_root root d e)
root_gives P true d e g s = given_then P P (e s) (tells d) (g s) (λ j s p. p)
root_gives P false d e g s = g s

condition_gives : (P : ℤ → Type 0) (role : Role) (e : Expression) (w : Within) (ops : Within → Does ℤ) → Gives P (ops (into role e w)) → Gives (λ j. P j.value) (condition role e w ops)
condition_gives P role e w ops g =
    root_gives (λ j. P j.value) (is_root role (n.expression e)) w.decisions (as_does as_condition (ops (into role e w)))
    (λ s. given_then P (λ j. P j.value) (ops (into role e w) s) (λ x s. gives (as_condition x) s) (g s) (λ x s p. p))

value_gives : (P : ℤ → Type 0) (f : Does Judged) → Gives (λ j. P j.value) f → Gives P (value f)
value_gives P f g s = given_then (λ j. P j.value) P (f s) (λ j s. gives j.value s) (g s) (λ j s p. p)

-- a result that is there
result_gives : (P : ℤ → Type 0) (r : Result ℤ Trap) → ((y : ℤ) → r ≡ Ok y → P y) → Gives {M = Store} {E = Event} P (with_result r gives)
result_gives P (Err t) h s = tt
result_gives P (Ok y) h s = h y refl

where_gives : (P : ℤ → Type 0) (b : Bool) (f g : Does ℤ) → (b ≡ true → Gives P f) → (b ≡ false → Gives P g) → Gives P (where_true b f g)
where_gives P true f g h k s = h refl s
where_gives P false f g h k s = k refl s

-- ---- from the values of operands to that of an expression

some_same : (x y : ℤ) → Some x ≡ Some y → x ≡ y
some_same x y h = cc

no_value : {X : Type 0} (v : ℤ) → None ≡ Some v → X
no_value v h = absurd (cc)

taken : (b : Bool) (o p : Option ℤ) (v : ℤ) → b ≡ true → (if b then o else p) ≡ Some v → o ≡ Some v
taken true o p v e h = h
taken false o p v e h = no_root e

left_out : (b : Bool) (o p : Option ℤ) (v : ℤ) → b ≡ false → (if b then o else p) ≡ Some v → p ≡ Some v
left_out true o p v e h = no_root (sym e)
left_out false o p v e h = h

result_is : (b : Bool) (r : Result ℤ Trap) (y v : ℤ) → r ≡ Ok y → (if b then unless_trap r else None) ≡ Some v → y ≡ v
result_is true r y v e h = some_same y v (sym (ap unless_trap e) ∙ h)
result_is false r y v e h = no_value v h

mapped_is : (f : ℤ → ℤ) (o : Option ℤ) (x : ℤ) → Is o x → Is (option_map f o) (f x)
mapped_is f None x p v h = no_value v h
mapped_is f (Some u) x p v h = ap f (p u refl) ∙ some_same (f u) v h

unary_is : (operator : UnOp) (a : IntType) (o : Option ℤ) (x y : ℤ) → Is o x → unary_of operator a x ≡ Ok y → Is (unary_value operator a o) y
unary_is operator a None x y p r v h = no_value v h
unary_is operator a (Some u) x y p r v h =
    result_is (is_operand a u) (unary_of operator a u) y v (subst (λ (z : ℤ). unary_of operator a z ≡ Ok y) (p u refl) r) h

binary_is : (operator : Operator) (a : IntType) (o q : Option ℤ) (x y z : ℤ) → Is o x → Is q y → operated operator a x y ≡ Ok z → Is (binary_value operator a o q) z
binary_is operator a None q x y z p k r v h = no_value v h
binary_is operator a (Some u) None x y z p k r v h = no_value v h
binary_is operator a (Some u) (Some w) x y z p k r v h =
    result_is (are_operands operator a u w) (operated operator a u w) z v
    (subst (λ (i : ℤ). operated operator a i w ≡ Ok z) (p u refl) (subst (λ (i : ℤ). operated operator a x i ≡ Ok z) (k w refl) r)) h

second_is : (operator : LogicOperator) (o q : Option ℤ) (x y : ℤ) → Is o x → goes_on operator (is_true x) ≡ true → Is q y → Is (logic_value operator o q) (truth (is_true y))
second_is operator None q x y p b k v h = no_value v h
second_is operator (Some u) q x y p b k v h =
    mapped_is (λ (i : ℤ). truth (is_true i)) q y k v
    (taken (goes_on operator (is_true u)) (truth_value q) (Some (truth (is_true u))) v (subst (λ (i : ℤ). goes_on operator (is_true i) ≡ true) (p u refl) b) h)

first_is : (operator : LogicOperator) (o q : Option ℤ) (x : ℤ) → Is o x → goes_on operator (is_true x) ≡ false → Is (logic_value operator o q) (truth (is_true x))
first_is operator None q x p b v h = no_value v h
first_is operator (Some u) q x p b v h =
    ap (λ (i : ℤ). truth (is_true i)) (p u refl)
    ∙ some_same (truth (is_true u)) v
    (left_out (goes_on operator (is_true u)) (truth_value q) (Some (truth (is_true u))) v (subst (λ (i : ℤ). goes_on operator (is_true i) ≡ false) (p u refl) b) h)

chosen_is : (o q r : Option ℤ) (x z : ℤ) → Is o x → is_true x ≡ true → Is q z → Is (choice_value o q r) z
chosen_is None q r x z p b k v h = no_value v h
chosen_is (Some u) q r x z p b k v h = k v (taken (is_true u) q r v (subst (λ (i : ℤ). is_true i ≡ true) (p u refl) b) h)

other_is : (o q r : Option ℤ) (x z : ℤ) → Is o x → is_true x ≡ false → Is r z → Is (choice_value o q r) z
other_is None q r x z p b k v h = no_value v h
other_is (Some u) q r x z p b k v h = k v (left_out (is_true u) q r v (subst (λ (i : ℤ). is_true i ≡ false) (p u refl) b) h)

nonzero_is : (o : Option ℤ) (x : ℤ) → Is o x → is_nonzero o ≡ true → is_true x ≡ true
nonzero_is None x p h = no_root h
nonzero_is (Some u) x p h = subst (λ (i : ℤ). is_true i ≡ true) (sym (p u refl)) h

second_gives : (operator : LogicOperator) (e f : Expression) (span : Span) (j : Judged) (h : Does Judged) (b : Bool) → goes_on operator (is_true j.value) ≡ b → Judges e j → Gives (Judges f) h → Gives (Judges (t.Logic operator e f span)) (where_true b (λ s. after (h s) (λ k s. gives (both j k) s)) (gives (first_alone f j)))
second_gives operator e f span j h true is p g s =
    given_then (Judges f) (Judges (t.Logic operator e f span)) (h s) (λ k s. gives (both j k) s) (g s)
    (λ k s q. second_is operator (constant_value e) (constant_value f) j.value k.value p is q)
second_gives operator e f span j h false is p g s = first_is operator (constant_value e) (constant_value f) j.value p is

-- ---- an operator that evaluates both of its operands

and_given : {A : Type 0} (P Q : A → Type 0) (o : Out Store A) → IsGiven P o → IsGiven Q o → IsGiven (λ x. P x × Q x) o
and_given P Q (Gave x s) h k = (h, k)
and_given P Q (Stopped e s) h k = tt

full_is : (operator : Operator) (o : FullOperator) (a : IntType) (e f : Expression) (span : Span) (d h : Does Judged) → bitwise operator ≡ Some o → Gives (Judges e) d → Gives (Judges f) h → Gives HasBit d → Gives HasBit h → Gives (Judges (t.Binary operator a e f span)) (full_does o d h)
full_is operator o a e f span d h is p q b c s =
    let whole : Expression = t.Binary operator a e f span in
    given_then (λ j. Judges e j × HasBit j) (Judges whole) (d s) (λ j s. as_does (in_full o j) h s) (and_given (Judges e) HasBit (d s).out (p s) (b s)) (λ j s x.
    given_then (λ k. Judges f k × HasBit k) (Judges whole) (h s) (λ k s. gives (in_full o j k) s) (and_given (Judges f) HasBit (h s).out (q s) (c s)) (λ k s y.
    binary_is operator a (constant_value e) (constant_value f) j.value k.value (in_full o j k).value x.0 y.0 (operated_bits operator o a j.value k.value is x.1 y.1)))

other_is_number : (operator : Operator) (a : IntType) (e f : Expression) (span : Span) (g h : Does ℤ) → Gives (IsNumber e) g → Gives (IsNumber f) h → Gives (IsNumber (t.Binary operator a e f span)) (binary_does operator a g h)
other_is_number operator a e f span g h p q s =
    let whole : Expression = t.Binary operator a e f span in
    given_then (IsNumber e) (IsNumber whole) (g s) (λ x s. after (h s) (λ y s. with_result (operated operator a x y) gives s)) (p s) (λ x s i.
    given_then (IsNumber f) (IsNumber whole) (h s) (λ y s. with_result (operated operator a x y) gives s) (q s) (λ y s o.
    result_gives (IsNumber whole) (operated operator a x y) (λ z r. binary_is operator a (constant_value e) (constant_value f) x y z i o r) s))

-- ---- all

pub number_is : (e : Expression) (c : Scope) (role : Role) (w : Within) → IsExpression e c → is_constant e ≡ true → Gives (Judges e) (evaluate e role w)
number_is (t.Constant v a span) c role w i k = condition_gives (IsNumber (t.Constant v a span)) role (t.Constant v a span) w (λ w. gives v) (λ s u h. some_same v u h)
number_is (t.Read place a) c role w i k = no_root k
number_is (t.Unary operator a e span) c role w i k =
    let u : Within = into role (t.Unary operator a e span) w in
    condition_gives (IsNumber (t.Unary operator a e span)) role (t.Unary operator a e span) w (λ w. unary_does operator a (value (evaluate e Plain w)))
    (λ s. given_then (IsNumber e) (IsNumber (t.Unary operator a e span)) (value (evaluate e Plain u) s) (λ x s. with_result (unary_of operator a x) gives s) (value_gives (IsNumber e) (evaluate e Plain u) (number_is e c Plain u i.2 k) s)
    (λ x s p. result_gives (IsNumber (t.Unary operator a e span)) (unary_of operator a x) (λ y r. unary_is operator a (constant_value e) x y p r) s))
number_is (t.Convert a written e span) c role w i k =
    let u : Within = into role (t.Convert a written e span) w in
    condition_gives (IsNumber (t.Convert a written e span)) role (t.Convert a written e span) w (λ w. as_does (converted a) (value (evaluate e Plain w)))
    (λ s. given_then (IsNumber e) (IsNumber (t.Convert a written e span)) (value (evaluate e Plain u) s) (λ x s. gives (converted a x) s) (value_gives (IsNumber e) (evaluate e Plain u) (number_is e c Plain u i k) s)
    (λ x s p. mapped_is (converted a) (constant_value e) x p))
number_is (t.Not e span) c role w i k =
    let r : Role = operand_role role (n.expression (t.Not e span)) in
    let u : Within = into role (t.Not e span) w in
    root_gives (Judges (t.Not e span)) (is_root role (n.expression (t.Not e span))) w.decisions (as_does negated (evaluate e r u))
    (λ s. given_then (Judges e) (Judges (t.Not e span)) (evaluate e r u s) (λ j s. gives (negated j) s) (number_is e c r u i k s)
    (λ j s p. mapped_is (λ (x : ℤ). truth (is_zero x)) (constant_value e) j.value p))
number_is (t.Binary operator a e f span) c role w i k =
    let x : Expression = t.Binary operator a e f span in
    let ke : is_constant e ≡ true = both_left (is_constant e) (is_constant f) k in
    let kf : is_constant f ≡ true = both_right (is_constant e) (is_constant f) k in
    let r : Role = operand_role role (n.expression x) in
    let u : Within = into role x w in
    let q : Within = past Plain (n.expression e) u in
    let l : Within = past r (n.expression e) u in
    given_where (Judges x) (n.full_operator operator e f)
    (λ o. decides role x w (λ r w. full_does o (evaluate e r w) (evaluate f r (past r (n.expression e) w))))
    (condition role x w (λ w. binary_does operator a (value (evaluate e Plain w)) (value (evaluate f Plain (past Plain (n.expression e) w)))))
    (λ o same.
    let parts = full_parts operator e f o same in
    root_gives (Judges x) (is_root role (n.expression x)) w.decisions (full_does o (evaluate e r u) (evaluate f r l))
    (full_is operator o a e f span (evaluate e r u) (evaluate f r l) parts.2 (number_is e c r u i.0 ke) (number_is f c r l i.1 kf) (constant_bit e c r u i.0 ke parts.0) (constant_bit f c r l i.1 kf parts.1)))
    (λ none. condition_gives (IsNumber x) role x w (λ w. binary_does operator a (value (evaluate e Plain w)) (value (evaluate f Plain (past Plain (n.expression e) w))))
    (other_is_number operator a e f span (value (evaluate e Plain u)) (value (evaluate f Plain q))
    (value_gives (IsNumber e) (evaluate e Plain u) (number_is e c Plain u i.0 ke)) (value_gives (IsNumber f) (evaluate f Plain q) (number_is f c Plain q i.1 kf))))
number_is (t.Logic operator e f span) c role w i k =
    let r : Role = operand_role role (n.expression (t.Logic operator e f span)) in
    let u : Within = into role (t.Logic operator e f span) w in
    let q : Within = past r (n.expression e) u in
    root_gives (Judges (t.Logic operator e f span)) (is_root role (n.expression (t.Logic operator e f span))) w.decisions (logic_does operator holds (first_alone f) both (evaluate e r u) (evaluate f r q))
    (λ s. given_then (Judges e) (Judges (t.Logic operator e f span)) (evaluate e r u s) (λ j s. where_true (goes_on operator (holds j)) (λ s. after (evaluate f r q s) (λ k s. gives (both j k) s)) (gives (first_alone f j)) s) (number_is e c r u i.0 (both_left (is_constant e) (is_constant f) k) s)
    (λ j s p. second_gives operator e f span j (evaluate f r q) (goes_on operator (holds j)) refl p (number_is f c r q i.1 (both_right (is_constant e) (is_constant f) k)) s))
number_is (t.Choice e f g a span) c role w i k =
    let u : Within = into role (t.Choice e f g a span) w in
    let q : Within = past Controlling (n.expression e) u in
    let y : Within = past Plain (n.expression f) q in
    let kf : is_constant e && is_constant f ≡ true = both_left (is_constant e && is_constant f) (is_constant g) k in
    condition_gives (IsNumber (t.Choice e f g a span)) role (t.Choice e f g a span) w
    (λ w. choice_does (value (evaluate e Controlling w)) (value (evaluate f Plain (past Controlling (n.expression e) w))) (value (evaluate g Plain (past Plain (n.expression f) (past Controlling (n.expression e) w)))))
    (λ s. given_then (IsNumber e) (IsNumber (t.Choice e f g a span)) (value (evaluate e Controlling u) s) (λ x s. where_true (is_true x) (value (evaluate f Plain q)) (value (evaluate g Plain y)) s) (value_gives (IsNumber e) (evaluate e Controlling u) (number_is e c Controlling u i.0 (both_left (is_constant e) (is_constant f) kf)) s)
    (λ x s p. where_gives (IsNumber (t.Choice e f g a span)) (is_true x) (value (evaluate f Plain q)) (value (evaluate g Plain y))
    (λ b s. any_value (IsNumber f) (value (evaluate f Plain q) s).out (value_gives (IsNumber f) (evaluate f Plain q) (number_is f c Plain q i.1 (both_right (is_constant e) (is_constant f) kf)) s)
    (λ z o. chosen_is (constant_value e) (constant_value f) (constant_value g) x z p b o))
    (λ b s. any_value (IsNumber g) (value (evaluate g Plain y) s).out (value_gives (IsNumber g) (evaluate g Plain y) (number_is g c Plain y i.2 (both_right (is_constant e && is_constant f) (is_constant g) k)) s)
    (λ z o. other_is (constant_value e) (constant_value f) (constant_value g) x z p b o)) s))
  where
    any_value : (P : ℤ → Type 0) {Q : ℤ → Type 0} (o : Out Store ℤ) → IsGiven P o → ((z : ℤ) → P z → Q z) → IsGiven Q o
    any_value P (Gave z s) h k = k z h
    any_value P (Stopped e s) h k = tt
number_is (t.Call called a) c role w i k = no_root k
number_is (t.Input span) c role w i k = no_root k

-- ---- the test of a loop

pub always_true : (test : Option Expression) (c : Scope) (w : Within) → IsTest test c → is_always test ≡ true → Gives (λ b. b ≡ true) (loop_test test w)
always_true None c w i k s = refl
always_true (Some e) c w i k s =
    given_then (IsNumber e) (λ b. b ≡ true) (value (evaluate e Controlling w) s) (λ x s. gives (is_true x) s) (value_gives (IsNumber e) (evaluate e Controlling w) (number_is e c Controlling w i (both_left (is_constant e) (is_nonzero (constant_value e)) k)) s)
    (λ x s p. nonzero_is (constant_value e) x p (both_right (is_constant e) (is_nonzero (constant_value e)) k))
