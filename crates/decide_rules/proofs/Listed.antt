-- The roots inside a node, with their places.
use Rattle.std.proofs.Common.{ℕ, suc, Bool, true, false, List, [], ◌∷◌, ◌++◌, map}
use Rattle.decide_rules.specs.declared.role.Role.{Role}
use Rattle.decide_rules.specs.declared.role.Role.TheVariants.{Controlling, Inner, Plain}
use Rattle.decide_rules.specs.Nodes.{Node, Constant, Not, Logic, Expression, Whole, Parts, no_parts, part, controlling}
use Rattle.decide_rules.specs.Roots.{Found, is_constant, is_candidate}

abbrev pub under : ℕ → Found → Found
under i f = record { place = i ∷ f.place; node = f.node }

abbrev pub itself : Node → Found
itself a = record { place = []; node = a }

abbrev pub own : Bool → Node → List Found
own true a = itself a ∷ []
own false a = []

abbrev pub unless : Bool → List Found → List Found
unless true fs = []
unless false fs = fs

-- what is found in a node, from what is found inside it
abbrev pub whole : Role → Node → List Found → List Found
whole role a rest = unless (is_constant a) (own (is_candidate role a) a ++ rest)

abbrev mutual
  pub in_node : Node → List Found
  in_node (Constant span) = []
  in_node (Not a span) = map (under 0) (whole Inner a (in_node a))
  in_node (Logic operator a b span) =
      map (under 0) (whole Inner a (in_node a)) ++ map (under 1) (whole Inner b (in_node b))
  in_node (Expression top ps span) = in_parts 0 ps
  in_node (Whole ps) = in_parts 0 ps

  -- of parts that are numbered from i on
  pub in_parts : ℕ → Parts → List Found
  in_parts i no_parts = []
  in_parts i (part a ps) = map (under i) (whole Plain a (in_node a)) ++ in_parts (suc i) ps
  in_parts i (controlling a ps) = map (under i) (whole Controlling a (in_node a)) ++ in_parts (suc i) ps
