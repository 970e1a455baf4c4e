-- The trees of the decisions in a node, in their order.
use Rattle.std.proofs.Common.{◌≡◌, ◌∙◌, refl, subst, ℕ, ◌+◌, Bool, true, false, List, [], ◌∷◌, ◌++◌, length, Some, arith, length-append}
use Rattle.std.specs.Prelude.{slice_get}
use Rattle.mc_cond.specs.Tree.{Tree}
use Rattle.decide_rules.specs.declared.role.Role.{Role}
use Rattle.decide_rules.specs.declared.role.Role.TheVariants.{Controlling, Plain}
use Rattle.decide_rules.specs.Nodes.{Node, Constant, Not, Logic, Expression, Whole, Parts, no_parts, part, controlling}
use Rattle.decide_rules.specs.Roots.{is_root, operand_role}
use Rattle.decide_rules.specs.Conditions.{tree_from}
use Rattle.decide_rules.specs.Counts.{one_where, roots, roots_in}

abbrev pub own : Bool → Node → List Tree
own true a = tree_from 0 a ∷ []
own false a = []

abbrev mutual
  pub trees : Role → Node → List Tree
  trees role (Constant span) = own (is_root role (Constant span)) (Constant span)
  trees role (Not a span) =
      own (is_root role (Not a span)) (Not a span) ++ trees (operand_role role (Not a span)) a
  trees role (Logic operator a b span) =
      own (is_root role (Logic operator a b span)) (Logic operator a b span)
      ++ (trees (operand_role role (Logic operator a b span)) a
      ++ trees (operand_role role (Logic operator a b span)) b)
  trees role (Expression top ps span) =
      own (is_root role (Expression top ps span)) (Expression top ps span) ++ trees_in ps
  trees role (Whole ps) = own (is_root role (Whole ps)) (Whole ps) ++ trees_in ps

  pub trees_in : Parts → List Tree
  trees_in no_parts = []
  trees_in (part a ps) = trees Plain a ++ trees_in ps
  trees_in (controlling a ps) = trees Controlling a ++ trees_in ps

pub own_length : (b : Bool) (a : Node) → length (own b a) ≡ one_where b
own_length true a = refl
own_length false a = refl

mutual
  pub trees_length : (role : Role) (a : Node) → length (trees role a) ≡ roots role a
  trees_length role (Constant span) = own_length (is_root role (Constant span)) (Constant span)
  trees_length role (Not a span) =
      let one = own_length (is_root role (Not a span)) (Not a span) in
      let rest = trees_length (operand_role role (Not a span)) a in
      length-append (own (is_root role (Not a span)) (Not a span)) (trees (operand_role role (Not a span)) a) ∙ omega (arith, one, rest)
  trees_length role (Logic operator a b span) =
      let r : Role = operand_role role (Logic operator a b span) in
      let one = own_length (is_root role (Logic operator a b span)) (Logic operator a b span) in
      let left = trees_length r a in
      let right = trees_length r b in
      let both = length-append (trees r a) (trees r b) in
      length-append (own (is_root role (Logic operator a b span)) (Logic operator a b span)) (trees r a ++ trees r b) ∙ omega (arith, one, left, right, both)
  trees_length role (Expression top ps span) =
      let one = own_length (is_root role (Expression top ps span)) (Expression top ps span) in
      let rest = trees_in_length ps in
      length-append (own (is_root role (Expression top ps span)) (Expression top ps span)) (trees_in ps) ∙ omega (arith, one, rest)
  trees_length role (Whole ps) =
      let one = own_length (is_root role (Whole ps)) (Whole ps) in
      let rest = trees_in_length ps in
      length-append (own (is_root role (Whole ps)) (Whole ps)) (trees_in ps) ∙ omega (arith, one, rest)

  trees_in_length : (ps : Parts) → length (trees_in ps) ≡ roots_in ps
  trees_in_length no_parts = refl
  trees_in_length (part a ps) =
      let one = trees_length Plain a in let rest = trees_in_length ps in
      length-append (trees Plain a) (trees_in ps) ∙ omega (arith, one, rest)
  trees_in_length (controlling a ps) =
      let one = trees_length Controlling a in let rest = trees_in_length ps in
      length-append (trees Controlling a) (trees_in ps) ∙ omega (arith, one, rest)

-- ---- a part of a list

-- the list xs stands in the list all from place k on
abbrev pub StandsAt : List Tree → ℕ → List Tree → Type 0
StandsAt all k [] = Unit {0}
StandsAt all k (x ∷ xs) = (slice_get all k ≡ Some x) × StandsAt all (k + 1) xs

pub stands_left : (all : List Tree) (k : ℕ) (xs ys : List Tree) → StandsAt all k (xs ++ ys) → StandsAt all k xs
stands_left all k [] ys h = tt
stands_left all k (x ∷ xs) ys (one, h) = (one, stands_left all (k + 1) xs ys h)

pub stands_right : (all : List Tree) (k : ℕ) (xs ys : List Tree) → StandsAt all k (xs ++ ys) → StandsAt all (k + length xs) ys
stands_right all k [] ys h = subst (λ (m : ℕ). StandsAt all m ys) (omega arith) h
stands_right all k (x ∷ xs) ys (one, h) =
    subst (λ (m : ℕ). StandsAt all m ys) (omega arith) (stands_right all (k + 1) xs ys h)
