-- The walk collects the nodes of what is listed.
use Rattle.std.proofs.Common.{◌≡◌, ◌∙◌, refl, sym, ap, ℕ, suc, Bool, true, false, List, [], ◌∷◌, ◌++◌, map, append_assoc}
use Rattle.std.proofs.lemmas.List.{append-nil, map-append}
use Rattle.decide_rules.specs.declared.role.Role.{Role}
use Rattle.decide_rules.specs.declared.role.Role.TheVariants.{Controlling, Inner, Plain}
use Rattle.decide_rules.specs.Nodes.{Node, Constant, Not, Logic, Expression, Whole, Parts, no_parts, part, controlling}
use Rattle.decide_rules.specs.Roots.{Found, is_constant, is_candidate}
use Rattle.decide_rules.specs.steps.Walk.{pushed, kept, inside, inside_parts, visited}
use Rattle.decide_rules.proofs.Listed.{under, own, unless, whole, in_node, in_parts}

abbrev pub nodes_of : List Found → List Node
nodes_of = map (λ f. f.node)

pub nodes_under : (i : ℕ) (fs : List Found) → nodes_of (map (under i) fs) ≡ nodes_of fs
nodes_under i [] = refl
nodes_under i (f ∷ fs) = ap (λ (gs : List Node). f.node ∷ gs) (nodes_under i fs)

settled : (constant candidate : Bool) (a : Node) (found : List Node) (rest : List Found) → ((xs : List Node) → inside a xs ≡ xs ++ nodes_of rest) → kept constant found (inside a (pushed candidate a found)) ≡ found ++ nodes_of (unless constant (own candidate a ++ rest))
settled true candidate a found rest h = sym (append-nil found)
settled false true a found rest h = h (found ++ a ∷ []) ∙ append_assoc found (a ∷ []) (nodes_of rest)
settled false false a found rest h = h found

one : (i : ℕ) (role : Role) (a : Node) (found : List Node) → ((xs : List Node) → inside a xs ≡ xs ++ nodes_of (in_node a)) → visited role a found ≡ found ++ nodes_of (map (under i) (whole role a (in_node a)))
one i role a found h =
    settled (is_constant a) (is_candidate role a) a found (in_node a) h
    ∙ ap (λ (gs : List Node). found ++ gs) (sym (nodes_under i (whole role a (in_node a))))

-- a part, and then what follows
joins : (F : List Node → List Node) (found : List Node) (first : List Node) (xs ys : List Found) → first ≡ found ++ nodes_of xs → F (found ++ nodes_of xs) ≡ (found ++ nodes_of xs) ++ nodes_of ys → F first ≡ found ++ nodes_of (xs ++ ys)
joins F found first xs ys e h =
    ap F e ∙ (h ∙ (append_assoc found (nodes_of xs) (nodes_of ys)
    ∙ ap (λ (gs : List Node). found ++ gs) (sym (map-append (λ (f : Found). f.node) xs ys))))

mutual
  pub walks : (a : Node) (found : List Node) → inside a found ≡ found ++ nodes_of (in_node a)
  walks (Constant span) found = sym (append-nil found)
  walks (Not a span) found = one 0 Inner a found (λ xs. walks a xs)
  walks (Logic operator a b span) found =
      joins (visited Inner b) found (visited Inner a found) (map (under 0) (whole Inner a (in_node a)))
      (map (under 1) (whole Inner b (in_node b))) (one 0 Inner a found (λ xs. walks a xs))
      (one 1 Inner b (found ++ nodes_of (map (under 0) (whole Inner a (in_node a)))) (λ xs. walks b xs))
  walks (Expression top ps span) found = walks_parts 0 ps found
  walks (Whole ps) found = walks_parts 0 ps found

  pub walks_parts : (i : ℕ) (ps : Parts) (found : List Node) → inside_parts ps found ≡ found ++ nodes_of (in_parts i ps)
  walks_parts i no_parts found = sym (append-nil found)
  walks_parts i (part a ps) found =
      joins (inside_parts ps) found (visited Plain a found) (map (under i) (whole Plain a (in_node a)))
      (in_parts (suc i) ps) (one i Plain a found (λ xs. walks a xs)) (walks_parts (suc i) ps _)
  walks_parts i (controlling a ps) found =
      joins (inside_parts ps) found (visited Controlling a found) (map (under i) (whole Controlling a (in_node a)))
      (in_parts (suc i) ps) (one i Controlling a found (λ xs. walks a xs)) (walks_parts (suc i) ps _)
