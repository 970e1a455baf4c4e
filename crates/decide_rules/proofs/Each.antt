-- Each root is listed.
use Rattle.std.proofs.Common.{◌≡◌, ◌∙◌, refl, sym, ap, subst, ℕ, zero, suc, ◌+◌, Bool, true, false, not, ◌&&◌, IsTrue, List, [], ◌∷◌, ◌++◌, map, Contains, Some, arith, add-zero}
use Rattle.std.proofs.lemmas.List.{length-map, get_or-map}
use Rattle.std.proofs.lemmas.List.Elements.{Contains-append_left, Contains-append_right}
use Rattle.decide_rules.specs.declared.role.Role.{Role}
use Rattle.decide_rules.specs.declared.role.Role.TheVariants.{Controlling, Inner, Plain}
use Rattle.decide_rules.specs.Nodes.{Node, Constant, Not, Logic, Expression, Whole, Parts, no_parts, part, controlling}
use Rattle.decide_rules.specs.Nodes as n
use Rattle.decide_rules.specs.Roots.{Place, Standing, standing, Found, is_constant, are_constant, is_candidate, is_root, operand_role, part_at, step, IsAt}
use Rattle.decide_rules.proofs.Listed.{under, itself, own, unless, whole, in_node, in_parts}
use Rattle.decide_rules.proofs.Only.{operands_are_inner, from_zero, further}

and_left : (a b : Bool) → (a && b) ≡ true → a ≡ true
and_left true b h = refl
and_left false b h = h

and_right : (a b : Bool) → (a && b) ≡ true → b ≡ true
and_right true b h = h
and_right false b h = absurd (cc)

-- ---- a constant has constant parts, and no root

constant_part : (ps : Parts) (i : ℕ) (u : Standing) → are_constant ps ≡ true → part_at ps i ≡ Some u → is_constant u.node ≡ true
constant_part no_parts i u c e = absurd (cc)
constant_part (part a ps) zero u c e =
    let h : standing Plain a ≡ u = cc in
    sym (ap (λ (v : Standing). is_constant v.node) h) ∙ and_left (is_constant a) (are_constant ps) c
constant_part (part a ps) (suc i) u c e = constant_part ps i u (and_right (is_constant a) (are_constant ps) c) e
constant_part (controlling a ps) zero u c e =
    let h : standing Controlling a ≡ u = cc in
    sym (ap (λ (v : Standing). is_constant v.node) h) ∙ and_left (is_constant a) (are_constant ps) c
constant_part (controlling a ps) (suc i) u c e = constant_part ps i u (and_right (is_constant a) (are_constant ps) c) e

at_first : (role : Role) (a : Node) (u : Standing) → Some (standing role a) ≡ Some u → is_constant a ≡ true → is_constant u.node ≡ true
at_first role a u e c =
    let h : standing role a ≡ u = cc in sym (ap (λ (v : Standing). is_constant v.node) h) ∙ c

constant_step : (role : Role) (a : Node) (i : ℕ) (u : Standing) → is_constant a ≡ true → step role a i ≡ Some u → is_constant u.node ≡ true
constant_step role (Constant span) i u c e = absurd (cc)
constant_step role (Not a span) zero u c e = at_first (operand_role role (Not a span)) a u e c
constant_step role (Not a span) (suc i) u c e = absurd (cc)
constant_step role (Logic operator a b span) zero u c e =
    at_first (operand_role role (Logic operator a b span)) a u e (and_left (is_constant a) (is_constant b) c)
constant_step role (Logic operator a b span) (suc zero) u c e =
    at_first (operand_role role (Logic operator a b span)) b u e (and_right (is_constant a) (is_constant b) c)
constant_step role (Logic operator a b span) (suc (suc i)) u c e = absurd (cc)
constant_step role (Expression (n.Operator compares) ps span) i u c e = constant_part ps i u c e
constant_step role (Expression n.Other ps span) i u c e = absurd (cc)
constant_step role (Whole ps) i u c e = absurd (cc)

constant_at : (p : Place) (s u : Standing) → is_constant s.node ≡ true → IsAt s p u → is_constant u.node ≡ true
constant_at [] s u c h = sym (ap (λ (v : Standing). is_constant v.node) h) ∙ c
constant_at (i ∷ p) s u c (v, e, h) = constant_at p v u (constant_step s.role s.node i v c e) h

-- ---- a root in a part is listed in the whole

contains_under : (i : ℕ) (fs : List Found) (f : Found) → Contains fs f → Contains (map (under i) fs) (under i f)
contains_under i fs f (k, lt, e) =
    (k, omega (arith, length-map fs (under i)), get_or-map (under i) fs k f (under i f) lt ∙ ap (under i) e)

-- what is listed of a part
abbrev pub listed : Standing → List Found
listed u = whole u.role u.node (in_node u.node)

moved : (i : ℕ) (u v : Standing) (f : Found) → u ≡ v → Contains (listed v) f → Contains (map (under i) (listed u)) (under i f)
moved i u v f e h =
    contains_under i (listed u) f (subst (λ (w : Standing). Contains (listed w) f) (sym e) h)

in_parts_each : (ps : Parts) (i j : ℕ) (v : Standing) (f : Found) → part_at ps j ≡ Some v → Contains (listed v) f → Contains (in_parts i ps) (under (i + j) f)
in_parts_each no_parts i j v f e h = absurd (cc)
in_parts_each (part a ps) i zero v f e h =
    let same : standing Plain a ≡ v = cc in
    rw add-zero (Contains-append_left (map (under i) (whole Plain a (in_node a))) (in_parts (suc i) ps) (under i f)
    (moved i (standing Plain a) v f same h))
in_parts_each (part a ps) i (suc j) v f e h =
    rw (← further i j) (Contains-append_right (map (under i) (whole Plain a (in_node a))) (in_parts (suc i) ps) (under (suc i + j) f)
    (in_parts_each ps (suc i) j v f e h))
in_parts_each (controlling a ps) i zero v f e h =
    let same : standing Controlling a ≡ v = cc in
    rw add-zero (Contains-append_left (map (under i) (whole Controlling a (in_node a))) (in_parts (suc i) ps) (under i f)
    (moved i (standing Controlling a) v f same h))
in_parts_each (controlling a ps) i (suc j) v f e h =
    rw (← further i j) (Contains-append_right (map (under i) (whole Controlling a (in_node a))) (in_parts (suc i) ps) (under (suc i + j) f)
    (in_parts_each ps (suc i) j v f e h))

inner_step : (role : Role) (a whole_node : Node) (u : Standing) → operand_role role whole_node ≡ Inner → Some (standing (operand_role role whole_node) a) ≡ Some u → standing Inner a ≡ u
inner_step role a w u e h =
    let same : standing (operand_role role w) a ≡ u = cc in
    ap (λ (r : Role). standing r a) (sym e) ∙ same

in_node_each : (role : Role) (a : Node) (i : ℕ) (v : Standing) (f : Found) → is_constant a ≡ false → step role a i ≡ Some v → Contains (listed v) f → Contains (in_node a) (under i f)
in_node_each role (Constant span) i v f c e h = absurd (cc)
in_node_each role (Not a span) zero v f c e h =
    moved 0 (standing Inner a) v f (inner_step role a (Not a span) v (operands_are_inner role (Not a span) refl c) e) h
in_node_each role (Not a span) (suc i) v f c e h = absurd (cc)
in_node_each role (Logic operator a b span) zero v f c e h =
    Contains-append_left (map (under 0) (whole Inner a (in_node a))) (map (under 1) (whole Inner b (in_node b))) (under 0 f)
    (moved 0 (standing Inner a) v f (inner_step role a (Logic operator a b span) v (operands_are_inner role (Logic operator a b span) refl c) e) h)
in_node_each role (Logic operator a b span) (suc zero) v f c e h =
    Contains-append_right (map (under 0) (whole Inner a (in_node a))) (map (under 1) (whole Inner b (in_node b))) (under 1 f)
    (moved 1 (standing Inner b) v f (inner_step role b (Logic operator a b span) v (operands_are_inner role (Logic operator a b span) refl c) e) h)
in_node_each role (Logic operator a b span) (suc (suc i)) v f c e h = absurd (cc)
in_node_each role (Expression top ps span) i v f c e h =
    subst (λ (k : ℕ). Contains (in_parts 0 ps) (under k f)) (from_zero i) (in_parts_each ps 0 i v f e h)
in_node_each role (Whole ps) i v f c e h =
    subst (λ (k : ℕ). Contains (in_parts 0 ps) (under k f)) (from_zero i) (in_parts_each ps 0 i v f e h)

-- ---- each root is listed

first_of : (a : Node) (candidate constant : Bool) (rest : List Found) → (candidate && not constant) ≡ true → Contains (unless constant (own candidate a ++ rest)) (itself a)
first_of a true false rest h = (0, omega arith, refl)
first_of a false constant rest h = absurd (cc)
first_of a true true rest h = absurd (cc)

below_of : (a : Node) (candidate constant : Bool) (rest : List Found) (f : Found) → constant ≡ false → Contains rest f → Contains (unless constant (own candidate a ++ rest)) f
below_of a candidate true rest f e h = absurd (cc)
below_of a candidate false rest f e h = Contains-append_right (own candidate a) rest f h

no_root : (candidate constant : Bool) → constant ≡ true → (candidate && not constant) ≡ true → true ≡ false
no_root candidate false e h = sym e
no_root true true e h = sym h
no_root false true e h = sym h

pub not_constant : (p : Place) (s u : Standing) (constant : Bool) → is_constant s.node ≡ constant → IsAt s p u → IsTrue (is_root u.role u.node) → constant ≡ false
not_constant p s u false c at root = refl
not_constant p s u true c at root =
    let always : is_constant u.node ≡ true = constant_at p s u c at in
    no_root (is_candidate u.role u.node) (is_constant u.node) always root

pub each : (p : Place) (s u : Standing) → IsAt s p u → IsTrue (is_root u.role u.node) → Contains (listed s) (record { place = p; node = u.node })
each [] s u at root =
    let here = first_of s.node (is_candidate s.role s.node) (is_constant s.node) (in_node s.node)
    (subst (λ (w : Standing). IsTrue (is_root w.role w.node)) (sym at) root) in
    subst (λ (w : Standing). Contains (listed s) (itself w.node)) at here
each (i ∷ p) s u (v, e, at) root =
    let varies : is_constant s.node ≡ false = not_constant (i ∷ p) s u (is_constant s.node) refl (v, e, at) root in
    below_of s.node (is_candidate s.role s.node) (is_constant s.node) (in_node s.node) (record { place = i ∷ p; node = u.node }) varies
    (in_node_each s.role s.node i v (record { place = p; node = u.node }) varies e (each p v u at root))
