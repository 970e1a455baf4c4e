-- The decisions that are made of a program are its decisions.
use Rattle.std.proofs.Common.{◌≡◌, refl, sym, subst, ℕ, suc, ◌+◌, List, [], ◌∷◌, ◌++◌, map, All, Contains, add-one, inl, inr}
use Rattle.std.proofs.lemmas.List.Elements.{All-nil, All-head, All-tail}
use Rattle.decide_rules.specs.declared.fault.DecideFault.{DecideFault}
use Rattle.decide_rules.specs.declared.fault.DecideFault.TheVariants.{TooManyConditions, OutOfMemory}
use Rattle.decide_rules.specs.Seen.{IsFault}
use Rattle.mc_typed.specs.Tree as t
use Rattle.decide_rules.specs.declared.role.Role.TheVariants.{Plain}
use Rattle.decide_rules.specs.Nodes.{Node, program, function, functions, statements}
use Rattle.decide_rules.specs.Roots.{standing, Found, IsRoot}
use Rattle.decide_rules.specs.Decisions.{Decision, Tells, AreTold, AreDecisions, IsSmall, IsFirstLarge}
use Rattle.decide_rules.specs.steps.Walk.{inside, decision, decided, IsLargeAmong}
use Rattle.decide_rules.proofs.Listed.{under, in_node, in_parts}
use Rattle.decide_rules.proofs.Walked.{nodes_of, walks_parts}
use Rattle.decide_rules.proofs.Only.{node_only}
use Rattle.decide_rules.proofs.Each.{each}
use Rattle.decide_rules.proofs.Ordered.{ascending}
use Rattle.decide_rules.proofs.Trees.{length_spans, condition_stands}

told : (k : ℕ) (f : Found) → Tells (under k f) (decision k f.node)
told k f = record {
  root = refl;
  function = refl;
  tree = refl;
  count = length_spans f.node;
  conditions = λ j p x h. condition_stands f.node j p x h;
}

all_told : (k : ℕ) (fs : List Found) → AreTold (map (under k) fs) (map (decision k) (nodes_of fs))
all_told k [] = tt
all_told k (f ∷ fs) = (told k f, all_told k fs)

told_append : (fs gs : List Found) (ds es : List Decision) → AreTold fs ds → AreTold gs es → AreTold (fs ++ gs) (ds ++ es)
told_append [] gs [] es a b = b
told_append [] gs (d ∷ ds) es a b = absurd a
told_append (f ∷ fs) gs [] es a b = absurd a
told_append (f ∷ fs) gs (d ∷ ds) es (one, a) b = (one, told_append fs gs ds es a b)

functions_told : (k : ℕ) (fs : List t.Function) → AreTold (in_parts k (functions fs)) (decided k fs)
functions_told k [] = tt
functions_told k (f ∷ fs) =
    told_append (map (under k) (in_node (function f))) (in_parts (suc k) (functions fs))
    (map (decision k) (inside (function f) [])) (decided (k + 1) fs)
    (subst (λ (ns : List Node). AreTold (map (under k) (in_node (function f))) (map (decision k) ns))
    (sym (walks_parts 0 (statements f.body) [])) (all_told k (in_node (function f))))
    (subst (λ (j : ℕ). AreTold (in_parts (suc k) (functions fs)) (decided j fs)) (sym (add-one k)) (functions_told (suc k) fs))

every : (fs : List t.Function) (f : Found) → IsRoot fs f → Contains (in_node (program fs)) f
every fs f (role, at, root) = each f.place (standing Plain (program fs)) (standing role f.node) at root

pub are_decisions : (fs : List t.Function) → AreDecisions fs (decided 0 fs)
are_decisions fs = record {
  roots = in_node (program fs);
  only = node_only (program fs) Plain refl;
  each = λ f h. every fs f h;
  in_order = ascending (program fs);
  told = functions_told 0 fs;
}

-- ---- the first that is not small

pub first_later : (ds es rest : List Decision) (at count : ℕ) → All IsSmall ds → IsFirstLarge es at count → IsFirstLarge (ds ++ (es ++ rest)) at count
first_later [] [] rest at count all h = absurd h
first_later [] (e ∷ es) rest at count all (inl large) = inl large
first_later [] (e ∷ es) rest at count all (inr (small, h)) = inr (small, first_later [] es rest at count (All-nil IsSmall) h)
first_later (d ∷ ds) es rest at count all h =
    inr (All-head IsSmall d ds all, first_later ds es rest at count (All-tail IsSmall d ds all) h)

pub fault_of_all : (fs : List t.Function) (fault : DecideFault) → IsLargeAmong (decided 0 fs) fault → IsFault fs fault
fault_of_all fs (TooManyConditions at count) h = (decided 0 fs, are_decisions fs, h)
fault_of_all fs OutOfMemory h = tt

first_more : (xs ys : List Decision) (at count : ℕ) → IsFirstLarge xs at count → IsFirstLarge (xs ++ ys) at count
first_more [] ys at count h = absurd h
first_more (d ∷ ds) ys at count (inl large) = inl large
first_more (d ∷ ds) ys at count (inr (small, h)) = inr (small, first_more ds ys at count h)

pub large_more : (xs ys all : List Decision) (fault : DecideFault) → IsLargeAmong xs fault → xs ++ ys ≡ all → IsLargeAmong all fault
large_more xs ys all (TooManyConditions at count) h e =
    subst (λ (zs : List Decision). IsFirstLarge zs at count) e (first_more xs ys at count h)
large_more xs ys all OutOfMemory h e = tt

-- ---- what tells all

pub told_as : (fs : List t.Function) (ds : List Decision) → ds ≡ decided 0 fs → AreDecisions fs ds
told_as fs ds e = subst (λ (es : List Decision). AreDecisions fs es) (sym e) (are_decisions fs)
