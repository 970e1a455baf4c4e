-- In a constant there is no decision.
use Rattle.std.proofs.Common.{◌≡◌, refl, Bool, true, false, not, ◌&&◌, Option, Some, None, arith}
use Rattle.mc_span.specs.declared.span.Span.{Span}
use Rattle.mc_typed.specs.declared.operators.Operator.{Operator}
use Rattle.mc_typed.specs.Tree as t
use Rattle.decide_rules.specs.declared.operators.FullOperator.{FullOperator}
use Rattle.decide_rules.specs.declared.role.Role.{Role}
use Rattle.decide_rules.specs.declared.role.Role.TheVariants.{Controlling, Plain}
use Rattle.decide_rules.specs.Nodes.{Node, Constant, Not, Logic, Expression, Whole, Parts, no_parts, part, controlling, full_operator}
use Rattle.decide_rules.specs.Nodes as n
use Rattle.decide_rules.specs.Roots.{is_constant, are_constant, is_candidate, operand_role}
use Rattle.decide_rules.specs.Counts.{one_where, roots, roots_in}
use Rattle.laws_soundness.specs.Plain.{IsConstant}

and_true : (a b : Bool) → a ≡ true → b ≡ true → a && b ≡ true
and_true true b h k = k
and_true false b h k = h

and_left : (a b : Bool) → a && b ≡ true → a ≡ true
and_left true b h = refl
and_left false b h = h

and_right : (a b : Bool) → a && b ≡ true → b ≡ true
and_right true b h = h
and_right false b h = absurd_of h
  where
    absurd_of : {A : Type 0} → false ≡ true → A
    absurd_of e = cc

no_own : (c k : Bool) → k ≡ true → one_where (c && not k) ≡ 0
no_own true true h = refl
no_own false true h = refl
no_own c false h = cc

-- ---- nodes

mutual
  no_roots : (role : Role) (a : Node) → is_constant a ≡ true → roots role a ≡ 0
  no_roots role (Constant span) h = no_own (is_candidate role (Constant span)) true refl
  no_roots role (Not a span) h =
      let own = no_own (is_candidate role (Not a span)) (is_constant a) h in
      let inside = no_roots (operand_role role (Not a span)) a h in
      omega (arith, own, inside)
  no_roots role (Logic operator a b span) h =
      let own = no_own (is_candidate role (Logic operator a b span)) (is_constant a && is_constant b) h in
      let left = no_roots (operand_role role (Logic operator a b span)) a (and_left (is_constant a) (is_constant b) h) in
      let right = no_roots (operand_role role (Logic operator a b span)) b (and_right (is_constant a) (is_constant b) h) in
      omega (arith, own, left, right)
  no_roots role (Expression (n.Operator compares) ps span) h =
      let own = no_own (is_candidate role (Expression (n.Operator compares) ps span)) (are_constant ps) h in
      let inside = no_roots_in ps h in
      omega (arith, own, inside)
  no_roots role (Expression n.Other ps span) h = cc
  no_roots role (Whole ps) h = cc

  no_roots_in : (ps : Parts) → are_constant ps ≡ true → roots_in ps ≡ 0
  no_roots_in no_parts h = refl
  no_roots_in (part a ps) h =
      let one = no_roots Plain a (and_left (is_constant a) (are_constant ps) h) in
      let rest = no_roots_in ps (and_right (is_constant a) (are_constant ps) h) in
      omega (arith, one, rest)
  no_roots_in (controlling a ps) h =
      let one = no_roots Controlling a (and_left (is_constant a) (are_constant ps) h) in
      let rest = no_roots_in ps (and_right (is_constant a) (are_constant ps) h) in
      omega (arith, one, rest)

-- ---- expressions

both_constant : (which : Option FullOperator) (operator : Operator) (a b : Node) (span : Span) → is_constant a ≡ true → is_constant b ≡ true → is_constant (n.evaluates_both which operator a b span) ≡ true
both_constant None operator a b span h k =
    and_true (is_constant a) (is_constant b && true) h (and_true (is_constant b) true k refl)
both_constant (Some full) operator a b span h k = and_true (is_constant a) (is_constant b) h k

constant_node : (e : t.Expression) → IsConstant e → is_constant (n.expression e) ≡ true
constant_node (t.Constant v a span) h = refl
constant_node (t.Read place a) h = absurd h
constant_node (t.Unary operator a e span) h = and_true (is_constant (n.expression e)) true (constant_node e h) refl
constant_node (t.Convert a written e span) h = and_true (is_constant (n.expression e)) true (constant_node e h) refl
constant_node (t.Not e span) h = constant_node e h
constant_node (t.Binary operator a e f span) h =
    both_constant (full_operator operator e f) operator (n.expression e) (n.expression f) span (constant_node e h.0) (constant_node f h.1)
constant_node (t.Logic operator e f span) h =
    and_true (is_constant (n.expression e)) (is_constant (n.expression f)) (constant_node e h.0) (constant_node f h.1)
constant_node (t.Choice e f g a span) h =
    and_true (is_constant (n.expression e)) (is_constant (n.expression f) && (is_constant (n.expression g) && true)) (constant_node e h.0)
    (and_true (is_constant (n.expression f)) (is_constant (n.expression g) && true) (constant_node f h.1)
    (and_true (is_constant (n.expression g)) true (constant_node g h.2) refl))
constant_node (t.Call k a) h = absurd h
constant_node (t.Input span) h = absurd h

pub no_decision : (e : t.Expression) → IsConstant e → roots Plain (n.expression e) ≡ 0
no_decision e h = no_roots Plain (n.expression e) (constant_node e h)
