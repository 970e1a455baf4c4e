-- What is listed are roots.
use Rattle.std.proofs.Common.{◌≡◌, ◌∙◌, refl, sym, ap, ℕ, suc, ◌+◌, Bool, true, false, IsTrue, List, [], ◌++◌, map, All, Some, arith, add-zero}
use Rattle.std.proofs.lemmas.List.Elements.{All-nil, All-cons, All-append, All-map, All-weaker}
use Rattle.decide_rules.specs.declared.role.Role.{Role}
use Rattle.decide_rules.specs.declared.role.Role.TheVariants.{Controlling, Inner, Plain}
use Rattle.decide_rules.specs.Nodes.{Node, Constant, Not, Logic, Expression, Whole, Parts, no_parts, part, controlling}
use Rattle.decide_rules.specs.Roots.{Standing, standing, Found, is_constant, is_candidate, is_boolean, is_root, operand_role, part_at, step, IsAt}
use Rattle.decide_rules.proofs.Listed.{under, itself, own, unless, whole, in_node, in_parts}

-- a root, from what stands somewhere
abbrev pub IsRootFrom : Standing → Found → Type 0
IsRootFrom s f = (role : Role) × IsAt s f.place (standing role f.node) × IsTrue (is_root role f.node)

-- the operands of an operator that is no constant belong to a decision's tree
pub operands_are_inner : (role : Role) (a : Node) → is_boolean a ≡ true → is_constant a ≡ false → operand_role role a ≡ Inner
operands_are_inner Controlling a b e = rw e refl
operands_are_inner Inner a b e = refl
operands_are_inner Plain a b e = rw (b, e) refl

-- the part with the number i
deeper : (s u : Standing) (i : ℕ) (f : Found) → step s.role s.node i ≡ Some u → IsRootFrom u f → IsRootFrom s (under i f)
deeper s u i f e (role, at, root) = (role, (u, e, at), root)

pub all_under : (s u : Standing) (i : ℕ) (fs : List Found) → step s.role s.node i ≡ Some u → All (IsRootFrom u) fs → All (IsRootFrom s) (map (under i) fs)
all_under s u i fs e all =
    All-map (IsRootFrom s) (under i) fs
    (All-weaker (IsRootFrom u) (λ f. IsRootFrom s (under i f)) (λ f h. deeper s u i f e h) fs all)

own_only : (role : Role) (a : Node) (candidate : Bool) → is_candidate role a ≡ candidate → is_constant a ≡ false → All (IsRootFrom (standing role a)) (own candidate a)
own_only role a true c e =
    All-cons (IsRootFrom (standing role a)) (itself a) [] (role, refl, rw (c, e) refl) (All-nil _)
own_only role a false c e = All-nil _

unless_only : (role : Role) (a : Node) (constant : Bool) → is_constant a ≡ constant → (is_constant a ≡ false → All (IsRootFrom (standing role a)) (in_node a)) → All (IsRootFrom (standing role a)) (unless constant (own (is_candidate role a) a ++ in_node a))
unless_only role a true e h = All-nil _
unless_only role a false e h =
    All-append (IsRootFrom (standing role a)) (own (is_candidate role a) a) (in_node a)
    (own_only role a (is_candidate role a) refl e) (h e)

pub whole_only : (role : Role) (a : Node) → (is_constant a ≡ false → All (IsRootFrom (standing role a)) (in_node a)) → All (IsRootFrom (standing role a)) (whole role a (in_node a))
whole_only role a h = unless_only role a (is_constant a) refl h

pub from_zero : (j : ℕ) → 0 + j ≡ j
from_zero j = omega arith

pub further : (i j : ℕ) → suc i + j ≡ i + suc j
further i j = omega arith

mutual
  pub node_only : (a : Node) (role : Role) → is_constant a ≡ false → All (IsRootFrom (standing role a)) (in_node a)
  node_only (Constant span) role e = All-nil _
  node_only (Not a span) role e =
      all_under (standing role (Not a span)) (standing Inner a) 0 (whole Inner a (in_node a))
      (ap (λ (r : Role). Some (standing r a)) (operands_are_inner role (Not a span) refl e))
      (whole_only Inner a (λ h. node_only a Inner h))
  node_only (Logic operator a b span) role e =
      let inner : operand_role role (Logic operator a b span) ≡ Inner = operands_are_inner role (Logic operator a b span) refl e in
      All-append (IsRootFrom (standing role (Logic operator a b span)))
      (map (under 0) (whole Inner a (in_node a))) (map (under 1) (whole Inner b (in_node b)))
      (all_under (standing role (Logic operator a b span)) (standing Inner a) 0 (whole Inner a (in_node a))
      (ap (λ (r : Role). Some (standing r a)) inner) (whole_only Inner a (λ h. node_only a Inner h)))
      (all_under (standing role (Logic operator a b span)) (standing Inner b) 1 (whole Inner b (in_node b))
      (ap (λ (r : Role). Some (standing r b)) inner) (whole_only Inner b (λ h. node_only b Inner h)))
  node_only (Expression top ps span) role e =
      parts_only ps (standing role (Expression top ps span)) 0 (λ j. ap (part_at ps) (from_zero j))
  node_only (Whole ps) role e =
      parts_only ps (standing role (Whole ps)) 0 (λ j. ap (part_at ps) (from_zero j))

  pub parts_only : (ps : Parts) (s : Standing) (i : ℕ) → ((j : ℕ) → step s.role s.node (i + j) ≡ part_at ps j) → All (IsRootFrom s) (in_parts i ps)
  parts_only no_parts s i h = All-nil _
  parts_only (part a ps) s i h =
      All-append (IsRootFrom s) (map (under i) (whole Plain a (in_node a))) (in_parts (suc i) ps)
      (all_under s (standing Plain a) i (whole Plain a (in_node a))
      (ap (step s.role s.node) (sym (add-zero i)) ∙ h 0) (whole_only Plain a (λ e. node_only a Plain e)))
      (parts_only ps s (suc i) (λ j. ap (step s.role s.node) (further i j) ∙ h (suc j)))
  parts_only (controlling a ps) s i h =
      All-append (IsRootFrom s) (map (under i) (whole Controlling a (in_node a))) (in_parts (suc i) ps)
      (all_under s (standing Controlling a) i (whole Controlling a (in_node a))
      (ap (step s.role s.node) (sym (add-zero i)) ∙ h 0) (whole_only Controlling a (λ e. node_only a Controlling e)))
      (parts_only ps s (suc i) (λ j. ap (step s.role s.node) (further i j) ∙ h (suc j)))
