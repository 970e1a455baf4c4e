-- The trees in a program are those of its decisions.
use Rattle.std.proofs.Common.{◌≡◌, ◌∙◌, refl, sym, ap, ℕ, suc, ◌+◌, Bool, true, false, not, ◌&&◌, List, [], ◌∷◌, ◌++◌, map}
use Rattle.std.proofs.lemmas.List.{map-append}
use Rattle.mc_cond.specs.Tree.{Tree}
use Rattle.mc_typed.specs.Tree.{Function}
use Rattle.decide_rules.specs.declared.role.Role.{Role}
use Rattle.decide_rules.specs.declared.role.Role.TheVariants.{Controlling, Inner, Plain}
use Rattle.decide_rules.specs.Nodes.{Node, Constant, Not, Logic, Expression, Whole, Parts, no_parts, part, controlling, function, functions, statements}
use Rattle.decide_rules.specs.Nodes as n
use Rattle.decide_rules.specs.Roots.{Found, is_constant, are_constant, is_candidate, operand_role}
use Rattle.decide_rules.specs.Conditions.{tree_from}
use Rattle.decide_rules.specs.steps.Walk.{inside, decision, decided}
use Rattle.decide_rules.proofs.Listed.{under, unless, whole, in_node, in_parts}
use Rattle.decide_rules.proofs.Listed as l
use Rattle.decide_rules.proofs.Walked.{nodes_of, nodes_under, walks_parts}
use Rattle.decide_rules.proofs.Only.{operands_are_inner}
use Rattle.mc_meaning.proofs.Numbered.{own, trees, trees_in}

-- ---- in a constant there is none

and_left : (a b : Bool) → a && b ≡ true → a ≡ true
and_left true b h = refl
and_left false b h = h

and_right : (a b : Bool) → a && b ≡ true → b ≡ true
and_right true b h = h
and_right false b h = absurd_of h
  where
    absurd_of : {A : Type 0} → false ≡ true → A
    absurd_of e = cc

none_own : (c k : Bool) (a : Node) → k ≡ true → own (c && not k) a ≡ []
none_own true true a h = refl
none_own false true a h = refl
none_own c false a h = cc

nothing : (xs ys : List Tree) → xs ≡ [] → ys ≡ [] → xs ++ ys ≡ []
nothing xs ys p q = ap (λ (zs : List Tree). zs ++ ys) p ∙ q

mutual
  none : (role : Role) (a : Node) → is_constant a ≡ true → trees role a ≡ []
  none role (Constant span) h = none_own (is_candidate role (Constant span)) true (Constant span) refl
  none role (Not a span) h =
      nothing _ _ (none_own (is_candidate role (Not a span)) (is_constant a) (Not a span) h) (none _ a h)
  none role (Logic operator a b span) h =
      nothing _ _ (none_own (is_candidate role (Logic operator a b span)) (is_constant a && is_constant b) (Logic operator a b span) h)
      (nothing _ _ (none _ a (and_left (is_constant a) (is_constant b) h)) (none _ b (and_right (is_constant a) (is_constant b) h)))
  none role (Expression (n.Operator compares) ps span) h =
      nothing _ _ (none_own (is_candidate role (Expression (n.Operator compares) ps span)) (are_constant ps) (Expression (n.Operator compares) ps span) h) (none_in ps h)
  none role (Expression n.Other ps span) h = cc
  none role (Whole ps) h = cc

  none_in : (ps : Parts) → are_constant ps ≡ true → trees_in ps ≡ []
  none_in no_parts h = refl
  none_in (part a ps) h =
      nothing _ _ (none Plain a (and_left (is_constant a) (are_constant ps) h)) (none_in ps (and_right (is_constant a) (are_constant ps) h))
  none_in (controlling a ps) h =
      nothing _ _ (none Controlling a (and_left (is_constant a) (are_constant ps) h)) (none_in ps (and_right (is_constant a) (are_constant ps) h))

-- ---- elsewhere the lists are the same

abbrev of : List Found → List Tree
of fs = map (tree_from 0) (nodes_of fs)

of_append : (fs gs : List Found) → of (fs ++ gs) ≡ of fs ++ of gs
of_append fs gs =
    ap (map (tree_from 0)) (map-append (λ (f : Found). f.node) fs gs) ∙ map-append (tree_from 0) (nodes_of fs) (nodes_of gs)

of_under : (i : ℕ) (fs : List Found) → of (map (under i) fs) ≡ of fs
of_under i fs = ap (map (tree_from 0)) (nodes_under i fs)

own_some : (c : Bool) (a : Node) → of (l.own c a) ≡ own (c && not false) a
own_some true a = refl
own_some false a = refl

-- where what is inside is the rest
whole_is : (role : Role) (a : Node) (rest : List Tree) (k : Bool) → is_constant a ≡ k → trees role a ≡ own (is_candidate role a && not (is_constant a)) a ++ rest → (is_constant a ≡ false → of (in_node a) ≡ rest) → of (unless k (l.own (is_candidate role a) a ++ in_node a)) ≡ trees role a
whole_is role a rest true e t h = sym (none role a e)
whole_is role a rest false e t h =
    of_append (l.own (is_candidate role a) a) (in_node a)
    ∙ (ap (λ (xs : List Tree). xs ++ of (in_node a)) (own_some (is_candidate role a) a)
    ∙ (ap (λ (k : Bool). own (is_candidate role a && not k) a ++ of (in_node a)) (sym e)
    ∙ (ap (λ (xs : List Tree). own (is_candidate role a && not (is_constant a)) a ++ xs) (h e) ∙ sym t)))

inner : (role : Role) (a : Node) → role ≡ Inner → trees Inner a ≡ trees role a
inner role a e = ap (λ (r : Role). trees r a) (sym e)

mutual
  linked : (role : Role) (a : Node) → of (whole role a (in_node a)) ≡ trees role a
  linked role (Constant span) = sym (none role (Constant span) refl)
  linked role (Not a span) =
      whole_is role (Not a span) _ (is_constant a) refl refl
      (λ e. of_under 0 (whole Inner a (in_node a)) ∙ (linked Inner a ∙ inner _ a (operands_are_inner role (Not a span) refl e)))
  linked role (Logic operator a b span) =
      whole_is role (Logic operator a b span) _ (is_constant a && is_constant b) refl refl
      (λ e. of_append (map (under 0) (whole Inner a (in_node a))) (map (under 1) (whole Inner b (in_node b)))
      ∙ (ap (λ (xs : List Tree). xs ++ of (map (under 1) (whole Inner b (in_node b))))
      (of_under 0 (whole Inner a (in_node a)) ∙ (linked Inner a ∙ inner _ a (operands_are_inner role (Logic operator a b span) refl e)))
      ∙ ap (λ (xs : List Tree). trees (operand_role role (Logic operator a b span)) a ++ xs)
      (of_under 1 (whole Inner b (in_node b)) ∙ (linked Inner b ∙ inner _ b (operands_are_inner role (Logic operator a b span) refl e)))))
  linked role (Expression (n.Operator compares) ps span) =
      whole_is role (Expression (n.Operator compares) ps span) (trees_in ps) (are_constant ps) refl refl (λ e. linked_in 0 ps)
  linked role (Expression n.Other ps span) =
      whole_is role (Expression n.Other ps span) (trees_in ps) false refl refl (λ e. linked_in 0 ps)
  linked role (Whole ps) = whole_is role (Whole ps) (trees_in ps) false refl refl (λ e. linked_in 0 ps)

  linked_in : (i : ℕ) (ps : Parts) → of (in_parts i ps) ≡ trees_in ps
  linked_in i no_parts = refl
  linked_in i (part a ps) =
      of_append (map (under i) (whole Plain a (in_node a))) (in_parts (suc i) ps)
      ∙ (ap (λ (xs : List Tree). xs ++ of (in_parts (suc i) ps)) (of_under i (whole Plain a (in_node a)) ∙ linked Plain a)
      ∙ ap (λ (xs : List Tree). trees Plain a ++ xs) (linked_in (suc i) ps))
  linked_in i (controlling a ps) =
      of_append (map (under i) (whole Controlling a (in_node a))) (in_parts (suc i) ps)
      ∙ (ap (λ (xs : List Tree). xs ++ of (in_parts (suc i) ps)) (of_under i (whole Controlling a (in_node a)) ∙ linked Controlling a)
      ∙ ap (λ (xs : List Tree). trees Controlling a ++ xs) (linked_in (suc i) ps))

-- ---- the decisions of functions

of_function : (k : ℕ) (xs : List Node) → map (λ d. d.tree) (map (decision k) xs) ≡ map (tree_from 0) xs
of_function k [] = refl
of_function k (x ∷ xs) = ap (λ (ts : List Tree). tree_from 0 x ∷ ts) (of_function k xs)

pub decided_trees : (k : ℕ) (fs : List Function) → map (λ d. d.tree) (decided k fs) ≡ trees_in (functions fs)
decided_trees k [] = refl
decided_trees k (f ∷ fs) =
    map-append (λ d. d.tree) (map (decision k) (inside (function f) [])) (decided (k + 1) fs)
    ∙ (ap (λ (xs : List Tree). xs ++ map (λ d. d.tree) (decided (k + 1) fs))
    (of_function k (inside (function f) []) ∙ (ap (map (tree_from 0)) (walks_parts 0 (statements f.body) []) ∙ linked_in 0 (statements f.body)))
    ∙ ap (λ (xs : List Tree). trees Plain (function f) ++ xs) (decided_trees (k + 1) fs))
