-- What the operands of full operators give: 0 or 1.
use Rattle.std.proofs.Common.{◌≡◌, refl, sym, ap, ℤ, Bool, true, false, ◌&&◌, ◌||◌, if◌then◌else◌, Option, Some, None}
use Rattle.mc_value.specs.declared.int_type.IntType.{IntType}
use Rattle.mc_value.specs.declared.int_type.IntType.TheVariants as the
use Rattle.mc_value.specs.declared.operators.BinOp.{BinOp}
use Rattle.mc_value.specs.declared.operators.BinOp.TheVariants as bin
use Rattle.mc_value.specs.Arithmetic.{truth, binary_of}
use Rattle.mc_value.specs.Conversions.{is_zero, converted}
use Rattle.mc_span.specs.declared.span.Span.{Span}
use Rattle.mc_typed.specs.declared.operators.Operator.{Operator}
use Rattle.mc_typed.specs.declared.operators.Operator.TheVariants.{Binary, Shift}
use Rattle.mc_typed.specs.declared.operators.LogicOperator.{LogicOperator}
use Rattle.mc_typed.specs.Tree.{Expression}
use Rattle.mc_typed.specs.Tree as t
use Rattle.mc_typed.specs.Sound.{Scope, IsExpression}
use Rattle.decide_rules.specs.declared.operators.FullOperator.{FullOperator}
use Rattle.decide_rules.specs.declared.role.Role.{Role}
use Rattle.decide_rules.specs.declared.role.Role.TheVariants.{Plain}
use Rattle.decide_rules.specs.Nodes.{is_comparison, is_bitwise, bitwise}
use Rattle.decide_rules.specs.Nodes as n
use Rattle.decide_rules.specs.Roots.{is_root, operand_role}
use Rattle.mc_steps.specs.Runs.{State, Out, Gave, Stopped, gives, after, with_result}
use Rattle.mc_steps.specs.Events.{Event}
use Rattle.mc_steps.specs.Expressions.{operated, where_true, goes_on, binary_does, logic_does, as_does}
use Rattle.mc_steps.specs.Points.{is_constant}
use Rattle.mc_meaning.specs.Stores.{Store}
use Rattle.mc_meaning.specs.Within.{Does, Within}
use Rattle.mc_meaning.specs.Positions.{past, into}
use Rattle.mc_meaning.specs.Decisions.{Judged, value, negated, holds, first_alone, both, truth_table, in_full, full_does, where_full, decides, condition}
use Rattle.mc_meaning.specs.Expressions.{evaluate}
use Rattle.mc_meaning.proofs.Runs.{IsGiven, Gives, given_then}
use Rattle.laws_simulation.specs.Related.{Suits}
use Rattle.laws_simulation.proofs.Values.{ranged_suits, promoted_suits, all_given, root_given, condition_given, value_given, converted_given}
use Rattle.laws_simulation.proofs.Bits.{truth_bit, flag_bit, suited_bit, converted_bit}
use Rattle.laws_simulation.proofs.Follow.{HasBit}
use Rattle.laws_simulation.proofs.Decisions.{IsBit, truth_true, no_root, any_given}

-- ---- the operands of a full operator

no_operator : {X : Type 0} (o : FullOperator) → None ≡ Some o → X
no_operator o e = cc

pub full_parts : (operator : Operator) (e f : Expression) (o : FullOperator) → n.full_operator operator e f ≡ Some o → (n.is_operand e ≡ true) × (n.is_operand f ≡ true) × (bitwise operator ≡ Some o)
full_parts operator e f o h = go (n.is_operand e) (n.is_operand f) refl refl h
  where
    go : (a b : Bool) → n.is_operand e ≡ a → n.is_operand f ≡ b → (if a && b then bitwise operator else None) ≡ Some o → (n.is_operand e ≡ true) × (n.is_operand f ≡ true) × (bitwise operator ≡ Some o)
    go true true p q h = (p, q, h)
    go true false p q h = no_operator o h
    go false b p q h = no_operator o h

-- a Boolean operand with `&`, `|` or `^` on top that is no full operator compares
compares_where : (compares both : Bool) (o : Option FullOperator) → (if both then o else None) ≡ None → (compares || ((elim o as (λ _. Bool) [ Some _ ↦ true | None ↦ false ]) && both)) ≡ true → compares ≡ true
compares_where true both o e h = refl
compares_where false true None e h = h
compares_where false true (Some o) e h = no_operator o (sym e)
compares_where false false None e h = h
compares_where false false (Some o) e h = h

-- ---- comparisons give 0 or 1

bit_truth : (b : Bool) → IsBit (truth b)
bit_truth b = ap truth (truth_true b)

compared : (operator : BinOp) (a : IntType) (x y : ℤ) → is_comparison (Binary operator) ≡ true → Gives {M = Store} {E = Event} IsBit (with_result (binary_of operator a x y) gives)
compared bin.Mul a x y e s = no_root e
compared bin.Div a x y e s = no_root e
compared bin.Rem a x y e s = no_root e
compared bin.Add a x y e s = no_root e
compared bin.Sub a x y e s = no_root e
compared bin.Lt a x y e s = bit_truth _
compared bin.Gt a x y e s = bit_truth _
compared bin.Le a x y e s = bit_truth _
compared bin.Ge a x y e s = bit_truth _
compared bin.Eq a x y e s = bit_truth _
compared bin.Ne a x y e s = bit_truth _
compared bin.And a x y e s = no_root e
compared bin.Xor a x y e s = no_root e
compared bin.Or a x y e s = no_root e

compared_by : (operator : Operator) (a : IntType) (x y : ℤ) → is_comparison operator ≡ true → Gives {M = Store} {E = Event} IsBit (with_result (operated operator a x y) gives)
compared_by (Binary operator) a x y e = compared operator a x y e
compared_by (Shift operator) a x y e = no_root e

any_number : {A : Type 0} (e : Does A) → Gives (λ v. Unit {0}) e
any_number e s = any_given (e s).out

pub comparison_gives : (operator : Operator) (a : IntType) (e g : Does ℤ) → is_comparison operator ≡ true → Gives IsBit (binary_does operator a e g)
comparison_gives operator a e g is s =
    given_then (λ v. Unit {0}) IsBit (e s) (λ x s. after (g s) (λ y s. with_result (operated operator a x y) gives s)) (any_number e s) (λ x s u.
    given_then (λ v. Unit {0}) IsBit (g s) (λ y s. with_result (operated operator a x y) gives s) (any_number g s) (λ y s u. compared_by operator a x y is s))

-- ---- what expressions give

given_as : {A : Type 0} (P Q : A → Type 0) (o : Out Store A) → ((a : A) → P a → Q a) → IsGiven P o → IsGiven Q o
given_as P Q (Gave a s) k h = k a h
given_as P Q (Stopped e s) k h = tt

pub given_where : (Q : Judged → Type 0) (which : Option FullOperator) (full : FullOperator → Does Judged) (other : Does Judged) → ((o : FullOperator) → which ≡ Some o → Gives Q (full o)) → (which ≡ None → Gives Q other) → Gives Q (where_full which full other)
given_where Q (Some o) full other h k = h o refl
given_where Q None full other h k = k refl

not_bit : (f : Does Judged) → Gives HasBit (as_does negated f)
not_bit f s =
    given_then (λ j. Unit {0}) HasBit (f s) (λ j s. gives (negated j) s) (any_given (f s).out) (λ j s u. truth_bit (is_zero j.value))

second_bit : (b : Bool) (e : Expression) (j : Judged) (h : Does Judged) → Gives HasBit (where_true b (λ s. after (h s) (λ k s. gives (both j k) s)) (gives (first_alone e j)))
second_bit true e j h s =
    given_then (λ k. Unit {0}) HasBit (h s) (λ k s. gives (both j k) s) (any_given (h s).out) (λ k s u. truth_bit (holds k))
second_bit false e j h s = truth_bit (holds j)

logic_bit : (operator : LogicOperator) (e : Expression) (f h : Does Judged) → Gives HasBit (logic_does operator holds (first_alone e) both f h)
logic_bit operator e f h s =
    given_then (λ j. Unit {0}) HasBit (f s) (λ j s. where_true (goes_on operator (holds j)) (λ s. after (h s) (λ k s. gives (both j k) s)) (gives (first_alone e j)) s) (any_given (f s).out)
    (λ j s u. second_bit (goes_on operator (holds j)) e j h s)

full_bit : (o : FullOperator) (f h : Does Judged) → Gives HasBit (full_does o f h)
full_bit o f h s =
    given_then (λ j. Unit {0}) HasBit (f s) (λ j s. as_does (in_full o j) h s) (any_given (f s).out) (λ j s u.
    given_then (λ k. Unit {0}) HasBit (h s) (λ k s. gives (in_full o j k) s) (any_given (h s).out) (λ k s u. truth_bit (truth_table o (holds j) (holds k))))

-- what suits _Bool
pub flag_given : (a : IntType) (e : Expression) (role : Role) (w : Within) (s : State Store) → n.is_flag a ≡ true → IsGiven (λ j. Suits a j.value) (evaluate e role w s).out → IsGiven HasBit (evaluate e role w s).out
flag_given a e role w s flag h =
    given_as (λ j. Suits a j.value) HasBit (evaluate e role w s).out (λ j k. suited_bit a j.value flag k) h

-- an implied conversion of what is 0 or 1
pub convert_given : (a : IntType) (written : Bool) (e : Expression) (span : Span) (role : Role) (w : Within) (s : State Store) → IsGiven HasBit (evaluate e Plain (into role (t.Convert a written e span) w) s).out → IsGiven HasBit (evaluate (t.Convert a written e span) role w s).out
convert_given a written e span role w s h =
    let u : Within = into role (t.Convert a written e span) w in
    condition_given (Suits the.Bool) role (t.Convert a written e span) w (λ w. as_does (converted a) (value (evaluate e Plain w))) s
    (given_then (Suits the.Bool) (Suits the.Bool) (value (evaluate e Plain u) s) (λ v s. gives (converted a v) s) (value_given (Suits the.Bool) (evaluate e Plain u) s h) (λ v s k. converted_bit a v k))

pub not_given : (e : Expression) (span : Span) (role : Role) (w : Within) → Gives HasBit (evaluate (t.Not e span) role w)
not_given e span role w s =
    let a = n.expression (t.Not e span) in
    let f : Does Judged = evaluate e (operand_role role a) (into role (t.Not e span) w) in
    root_given HasBit (is_root role a) w.decisions (as_does negated f) s (not_bit f s)

pub logic_given : (operator : LogicOperator) (e f : Expression) (span : Span) (role : Role) (w : Within) → Gives HasBit (evaluate (t.Logic operator e f span) role w)
logic_given operator e f span role w s =
    let a = n.expression (t.Logic operator e f span) in
    let r : Role = operand_role role a in
    let u : Within = into role (t.Logic operator e f span) w in
    let d : Does Judged = evaluate e r u in
    let g : Does Judged = evaluate f r (past r (n.expression e) u) in
    root_given HasBit (is_root role a) w.decisions (logic_does operator holds (first_alone f) both d g) s (logic_bit operator f d g s)

pub binary_given : (operator : Operator) (a : IntType) (e f : Expression) (span : Span) (role : Role) (w : Within) → n.is_operand (t.Binary operator a e f span) ≡ true → Gives HasBit (evaluate (t.Binary operator a e f span) role w)
binary_given operator a e f span role w is s =
    let x : Expression = t.Binary operator a e f span in
    let r : Role = operand_role role (n.expression x) in
    let u : Within = into role x w in
    let q : Within = past r (n.expression e) u in
    given_where HasBit (n.full_operator operator e f)
    (λ o. decides role x w (λ r w. full_does o (evaluate e r w) (evaluate f r (past r (n.expression e) w))))
    (condition role x w (λ w. binary_does operator a (value (evaluate e Plain w)) (value (evaluate f Plain (past Plain (n.expression e) w)))))
    (λ o same s. root_given HasBit (is_root role (n.expression x)) w.decisions (full_does o (evaluate e r u) (evaluate f r q)) s (full_bit o (evaluate e r u) (evaluate f r q) s))
    (λ none s. condition_given (Suits the.Bool) role x w (λ w. binary_does operator a (value (evaluate e Plain w)) (value (evaluate f Plain (past Plain (n.expression e) w)))) s
    (compared_given none s))
    s
  where
    compared_given : n.full_operator operator e f ≡ None → (s : State Store) → IsGiven (Suits the.Bool) (binary_does operator a (value (evaluate e Plain (into role (t.Binary operator a e f span) w))) (value (evaluate f Plain (past Plain (n.expression e) (into role (t.Binary operator a e f span) w)))) s).out
    compared_given none s =
        let u : Within = into role (t.Binary operator a e f span) w in
        let g : Does ℤ = value (evaluate e Plain u) in
        let h : Does ℤ = value (evaluate f Plain (past Plain (n.expression e) u)) in
        given_as IsBit (Suits the.Bool) (binary_does operator a g h s).out (λ v k. flag_bit v k)
        (comparison_gives operator a g h (compares_where (is_comparison operator) (n.is_operand e && n.is_operand f) (bitwise operator) none is) s)

-- a conversion gives what suits its type
pub written_given : (a : IntType) (written : Bool) (e : Expression) (span : Span) (role : Role) (w : Within) (s : State Store) → IsGiven (λ j. Suits a j.value) (evaluate (t.Convert a written e span) role w s).out
written_given a written e span role w s =
    condition_given (Suits a) role (t.Convert a written e span) w (λ w. as_does (converted a) (value (evaluate e Plain w))) s
    (converted_given a (value (evaluate e Plain (into role (t.Convert a written e span) w))) s)

-- ---- constant operands

pub constant_bit : (e : Expression) (c : Scope) (role : Role) (w : Within) → IsExpression e c → is_constant e ≡ true → n.is_operand e ≡ true → Gives HasBit (evaluate e role w)
constant_bit (t.Constant v a span) c role w k con is s =
    flag_given a (t.Constant v a span) role w s is (condition_given (Suits a) role (t.Constant v a span) w (λ w. gives v) s (ranged_suits a v k))
constant_bit (t.Read place a) c role w k con is s = no_root con
constant_bit (t.Unary operator a e span) c role w k con is s =
    flag_given a (t.Unary operator a e span) role w s is (all_given (λ j. Suits a j.value) (evaluate (t.Unary operator a e span) role w s).out (λ j. promoted_suits a j.value k.1))
constant_bit (t.Convert a true e span) c role w k con is s =
    flag_given a (t.Convert a true e span) role w s is (written_given a true e span role w s)
constant_bit (t.Convert a false e span) c role w k con is s =
    convert_given a false e span role w s (constant_bit e c Plain (into role (t.Convert a false e span) w) k con is s)
constant_bit (t.Not e span) c role w k con is s = not_given e span role w s
constant_bit (t.Binary operator a e f span) c role w k con is s = binary_given operator a e f span role w is s
constant_bit (t.Logic operator e f span) c role w k con is s = logic_given operator e f span role w s
constant_bit (t.Choice e f g a span) c role w k con is s =
    flag_given a (t.Choice e f g a span) role w s is (all_given (λ j. Suits a j.value) (evaluate (t.Choice e f g a span) role w s).out (λ j. promoted_suits a j.value k.3))
constant_bit (t.Call i a) c role w k con is s = no_root con
constant_bit (t.Input span) c role w k con is s = no_root con
