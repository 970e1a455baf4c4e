-- The probes of a root, and of an expression that is none.
use Rattle.std.proofs.Common.{◌≡◌, ◌∙◌, refl, sym, ap, ℕ, ◌+◌, ◌<◌, ◌^◌, Bool, true, false, ◌||◌, if◌then◌else◌, Option, Some, None, arith}
use Rattle.mc_span.specs.declared.span.Span.{Span}
use Rattle.mc_typed.specs.declared.operators.Operator.{Operator}
use Rattle.mc_typed.specs.declared.probes.Probe.TheVariants as probe
use Rattle.mc_typed.specs.Tree as t
use Rattle.decide_rules.specs.declared.operators.FullOperator.{FullOperator}
use Rattle.decide_rules.specs.declared.role.Role.{Role}
use Rattle.decide_rules.specs.declared.role.Role.TheVariants.{Controlling, Inner, Plain}
use Rattle.decide_rules.specs.Nodes.{Node, Constant, Not, Logic, Expression, Whole}
use Rattle.decide_rules.specs.Nodes as n
use Rattle.decide_rules.specs.Roots.{is_root, is_inner}
use Rattle.decide_rules.specs.Conditions.{width}
use Rattle.decide_rules.specs.Counts.{one_where, roots, roots_in}
use Rattle.mc_probe.specs.Maps.{Map}
use Rattle.mc_probe.specs.Table.{Stand, Loose, InTree, base_of, mapped, round_condition, wrap, put, put_place, put_call, beside, role_of, under, plain_roots, test_roots}
use Rattle.mc_probe.specs.Tree as p
use Rattle.mc_instrument.specs.steps.Inside.{inside, root, inner_roots}

-- ---- how many decisions

zero : (a : ℕ) → 0 + a ≡ a
zero a = omega arith

pub root_roots : (role : Role) (a : Node) → is_root role a ≡ true → roots role a ≡ 1 + roots Inner a
root_roots role (Constant span) h = ap one_where h
root_roots role (Not a span) h =
    ap (λ (b : Bool). one_where b + roots (if b || is_inner role then Inner else Plain) a) h
    ∙ ap (λ (k : ℕ). 1 + k) (sym (zero (roots Inner a)))
root_roots role (Logic operator a b span) h =
    ap (λ (c : Bool). one_where c + roots (if c || is_inner role then Inner else Plain) a + roots (if c || is_inner role then Inner else Plain) b) h
    ∙ omega arith
root_roots role (Expression top ps span) h =
    ap (λ (b : Bool). one_where b + roots_in ps) h ∙ ap (λ (k : ℕ). 1 + k) (sym (zero (roots_in ps)))
root_roots role (Whole ps) h =
    ap (λ (b : Bool). one_where b + roots_in ps) h ∙ ap (λ (k : ℕ). 1 + k) (sym (zero (roots_in ps)))

pub inside_roots : (role : Role) (a : Node) → is_inner role ≡ false → is_root role a ≡ false → roots role a ≡ inner_roots a
inside_roots role (Constant span) k h = ap one_where h
inside_roots role (Not a span) k h =
    ap (λ (b : Bool). one_where b + roots (if b || is_inner role then Inner else Plain) a) h
    ∙ (ap (λ (b : Bool). 0 + roots (if b then Inner else Plain) a) k ∙ zero (roots Plain a))
inside_roots role (Logic operator a b span) k h =
    ap (λ (c : Bool). one_where c + roots (if c || is_inner role then Inner else Plain) a + roots (if c || is_inner role then Inner else Plain) b) h
    ∙ (ap (λ (c : Bool). 0 + roots (if c then Inner else Plain) a + roots (if c then Inner else Plain) b) k ∙ ap (λ (i : ℕ). i + roots Plain b) (zero (roots Plain a)))
inside_roots role (Expression top ps span) k h =
    ap (λ (b : Bool). one_where b + roots_in ps) h ∙ zero (roots_in ps)
inside_roots role (Whole ps) k h =
    ap (λ (b : Bool). one_where b + roots_in ps) h ∙ zero (roots_in ps)

-- both operands of an operator have their roots inside it, whether it is a full operator or none
pub both_roots : (full : Option FullOperator) (operator : Operator) (a b : Node) (span : Span) → inner_roots (n.evaluates_both full operator a b span) ≡ roots Plain a + roots Plain b
both_roots (Some f) operator a b span = refl
both_roots None operator a b span = omega arith

-- ---- which probes

-- the operands of an operator that is no root stand loose, whether it is a full operator or none
stay_loose : (full : Option FullOperator) → under full (Loose Plain) ≡ Loose Plain
stay_loose (Some operator) = refl
stay_loose None = refl

module _ (m : Map) (first : ℕ) (role : Role) (d : ℕ) where
  -- what stands round a node, where it is a root, and where it is none
  abbrev either : Node → (Stand → ℕ → p.Expression) → Bool → p.Expression
  either a ins b =
      if b
      then p.Probe (probe.Decision d (base_of (mapped m first d))) (round_condition m first d 0 a (ins (if b then InTree d 0 else Loose Plain) (d + one_where b)))
      else ins (if b then InTree d 0 else Loose Plain) (d + one_where b)

  round_root : (a : Node) (ins : Stand → ℕ → p.Expression) → is_root role a ≡ true → wrap m first (Loose role) d a ins ≡ p.Probe (probe.Decision d (base_of (mapped m first d))) (wrap m first (InTree d 0) (d + 1) a ins)
  round_root a ins h = ap (either a ins) h

  round_inside : (a : Node) (ins : Stand → ℕ → p.Expression) → is_root role a ≡ false → wrap m first (Loose role) d a ins ≡ ins (Loose Plain) d
  round_inside a ins h =
      let same : d + 0 ≡ d = omega arith in ap (either a ins) h ∙ ap (ins (Loose Plain)) same

  pub root_put : (e : t.Expression) → is_root role (n.expression e) ≡ true → put m first (Loose role) d e ≡ root m first d e
  root_put (t.Constant v a span) h =
      round_root (n.expression (t.Constant v a span))
      (λ o k. p.Constant v a span) h
  root_put (t.Read place a) h =
      round_root (n.expression (t.Read place a))
      (λ o k. p.Read (put_place m first k place) a) h
  root_put (t.Unary operator a e span) h =
      round_root (n.expression (t.Unary operator a e span))
      (λ o k. p.Unary operator a (put m first (Loose Plain) k e) span) h
  root_put (t.Convert a written e span) h =
      round_root (n.expression (t.Convert a written e span))
      (λ o k. p.Convert a written (put m first (Loose Plain) k e) span) h
  root_put (t.Not e span) h =
      round_root (n.expression (t.Not e span))
      (λ o k. p.Not (put m first o k e) span) h
  root_put (t.Binary operator a e f span) h =
      let full : Option FullOperator = n.full_operator operator e f in
      round_root (n.expression (t.Binary operator a e f span))
      (λ o k. p.Binary operator a (put m first (under full o) k e) (put m first (beside (under full o) (width (n.expression e))) (k + roots (role_of (under full o)) (n.expression e)) f) span) h
  root_put (t.Logic operator e f span) h =
      round_root (n.expression (t.Logic operator e f span))
      (λ o k. p.Logic operator (put m first o k e) (put m first (beside o (width (n.expression e))) (k + roots (role_of o) (n.expression e)) f) span) h
  root_put (t.Choice e f g a span) h =
      round_root (n.expression (t.Choice e f g a span))
      (λ o k. p.Choice (put m first (Loose Controlling) k e) (put m first (Loose Plain) (k + test_roots m first e) f) (put m first (Loose Plain) (k + test_roots m first e + plain_roots m first f) g) a span) h
  root_put (t.Call c a) h =
      round_root (n.expression (t.Call c a))
      (λ o k. p.Call (put_call m first k c) a) h
  root_put (t.Input span) h =
      round_root (n.expression (t.Input span))
      (λ o k. p.Input span) h

  pub inside_put : (e : t.Expression) → is_root role (n.expression e) ≡ false → put m first (Loose role) d e ≡ inside m first d e
  inside_put (t.Constant v a span) h =
      round_inside (n.expression (t.Constant v a span))
      (λ o k. p.Constant v a span) h
  inside_put (t.Read place a) h =
      round_inside (n.expression (t.Read place a))
      (λ o k. p.Read (put_place m first k place) a) h
  inside_put (t.Unary operator a e span) h =
      round_inside (n.expression (t.Unary operator a e span))
      (λ o k. p.Unary operator a (put m first (Loose Plain) k e) span) h
  inside_put (t.Convert a written e span) h =
      round_inside (n.expression (t.Convert a written e span))
      (λ o k. p.Convert a written (put m first (Loose Plain) k e) span) h
  inside_put (t.Not e span) h =
      round_inside (n.expression (t.Not e span))
      (λ o k. p.Not (put m first o k e) span) h
  inside_put (t.Binary operator a e f span) h =
      let full : Option FullOperator = n.full_operator operator e f in
      let both : Stand → p.Expression = λ o. p.Binary operator a (put m first o d e) (put m first (beside o (width (n.expression e))) (d + roots (role_of o) (n.expression e)) f) span in
      round_inside (n.expression (t.Binary operator a e f span))
      (λ o k. p.Binary operator a (put m first (under full o) k e) (put m first (beside (under full o) (width (n.expression e))) (k + roots (role_of (under full o)) (n.expression e)) f) span) h
      ∙ ap both (stay_loose full)
  inside_put (t.Logic operator e f span) h =
      round_inside (n.expression (t.Logic operator e f span))
      (λ o k. p.Logic operator (put m first o k e) (put m first (beside o (width (n.expression e))) (k + roots (role_of o) (n.expression e)) f) span) h
  inside_put (t.Choice e f g a span) h =
      round_inside (n.expression (t.Choice e f g a span))
      (λ o k. p.Choice (put m first (Loose Controlling) k e) (put m first (Loose Plain) (k + test_roots m first e) f) (put m first (Loose Plain) (k + test_roots m first e + plain_roots m first f) g) a span) h
  inside_put (t.Call c a) h =
      round_inside (n.expression (t.Call c a))
      (λ o k. p.Call (put_call m first k c) a) h
  inside_put (t.Input span) h =
      round_inside (n.expression (t.Input span))
      (λ o k. p.Input span) h

-- ---- as the code tells them

pub root_copied : (m : Map) (first : ℕ) (role : Role) (d : ℕ) (e : t.Expression) (x : p.Expression) (b : Bool) → b ≡ is_root role (n.expression e) → b ≡ true → x ≡ root m first d e → x ≡ put m first (Loose role) d e
root_copied m first role d e x b is holds h = h ∙ sym (root_put m first role d e (sym is ∙ holds))

pub inside_copied : (m : Map) (first : ℕ) (role : Role) (d : ℕ) (e : t.Expression) (x : p.Expression) (b : Bool) → b ≡ is_root role (n.expression e) → b ≡ false → x ≡ inside m first d e → x ≡ put m first (Loose role) d e
inside_copied m first role d e x b is fails h = h ∙ sym (inside_put m first role d e (sym is ∙ fails))

pub root_counted : (role : Role) (d f : ℕ) (a : Node) (b : Bool) → b ≡ is_root role a → b ≡ true → f ≡ d + 1 + roots Inner a → f ≡ d + roots role a
root_counted role d f a b is holds h =
    let more = root_roots role a (sym is ∙ holds) in omega (arith, h, more)

pub root_fits : (role : Role) (d : ℕ) (a : Node) (b : Bool) → b ≡ is_root role a → b ≡ true → d + roots role a < 2 ^ 32 → d + 1 + roots Inner a < 2 ^ 32
root_fits role d a b is holds h =
    let more = root_roots role a (sym is ∙ holds) in omega (arith, h, more)

pub inside_fits : (role : Role) (d : ℕ) (a : Node) (b : Bool) → is_inner role ≡ false → b ≡ is_root role a → b ≡ false → d + roots role a < 2 ^ 32 → d + inner_roots a < 2 ^ 32
inside_fits role d a b plain is fails h =
    let more = inside_roots role a plain (sym is ∙ fails) in omega (arith, h, more)

pub inside_counted : (role : Role) (d f : ℕ) (a : Node) (b : Bool) → is_inner role ≡ false → b ≡ is_root role a → b ≡ false → f ≡ d + inner_roots a → f ≡ d + roots role a
inside_counted role d f a b plain is fails h =
    let more = inside_roots role a plain (sym is ∙ fails) in omega (arith, h, more)
