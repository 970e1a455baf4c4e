-- The changes of a program's mutants are those of its decisions, in their order.
use Rattle.std.proofs.Common.{◌≡◌, ◌∙◌, refl, sym, ap, ℕ, suc, Bool, true, false, List, [], ◌∷◌, ◌++◌, map}
use Rattle.mc_span.specs.declared.span.Span.{Span}
use Rattle.mc_typed.specs.Tree.{Program}
use Rattle.decide_rules.specs.declared.role.Role.{Role}
use Rattle.decide_rules.specs.declared.role.Role.TheVariants.{Controlling, Inner, Plain}
use Rattle.decide_rules.specs.Nodes as n
use Rattle.decide_rules.specs.Roots.{Found, is_constant, is_candidate, is_root}
use Rattle.decide_rules.specs.Decisions.{Decision, AreDecisions}
use Rattle.decide_rules.proofs.Listed.{under, whole, in_node, in_parts}
use Rattle.mc_mutate.specs.declared.changes.Change.{Change}
use Rattle.mc_mutate.specs.declared.changes.MutantKind.TheVariants.{Exchanged}
use Rattle.mc_mutate.specs.declared.search.sought.Sought.{Sought}
use Rattle.mc_mutate.specs.declared.search.sought.Sought.TheVariants as sought
use Rattle.mc_mutate.specs.Changes.{Mutant}
use Rattle.mc_mutate.specs.Mutants.{mutants}
use Rattle.mc_mutate.specs.Told.{node_changes, of_one, condition_changes, root_changes, all_changes}
use Rattle.mc_mutate.specs.steps.Search.{pass, passed, past, in_nodes, in_condition, in_conditions, in_decision, inside, inside_parts, searched}
use Rattle.mc_mutate.proofs.Past.{stays, passes}
use Rattle.mc_mutate.proofs.Listed.{mutants_found}
use Rattle.mc_mutate.proofs.Small.{own_still, constant_still, never_in, yes_in, is_one, is_none}
use Rattle.decide_rules.proofs.Once.{same_roots}

-- a search that passes these changes
abbrev along : List Change → Sought → Sought
along [] s = s
along (c ∷ cs) s = along cs (pass c s)

along_append : (cs ds : List Change) (s : Sought) → along ds (along cs s) ≡ along (cs ++ ds) s
along_append [] ds s = refl
along_append (c ∷ cs) ds s = along_append cs ds (pass c s)

along_stays : (cs : List Change) (c : Change) → along cs (sought.Found c) ≡ sought.Found c
along_stays [] c = refl
along_stays (d ∷ cs) c = along_stays cs c

then_along : (f : Sought → Sought) (cs ds : List Change) (s t : Sought) → t ≡ along cs s → ((u : Sought) → f u ≡ along ds u) → f t ≡ along (cs ++ ds) s
then_along f cs ds s t e h = h t ∙ (ap (along ds) e ∙ along_append cs ds s)

-- ---- one decision

nodes_along : (a : n.Node) (s : Sought) → in_nodes a s ≡ along (node_changes a) s
nodes_along (n.Constant span) s = refl
nodes_along (n.Not a span) s = nodes_along a s
nodes_along (n.Logic operator a b span) s =
    then_along (in_nodes b) (node_changes a) (node_changes b) (passed Exchanged span s) (in_nodes a (passed Exchanged span s))
    (nodes_along a (passed Exchanged span s)) (nodes_along b)
nodes_along (n.Expression top ps span) s = refl
nodes_along (n.Whole ps) s = refl

one_along : (compares : Bool) (span : Span) (s : Sought) → in_condition compares span s ≡ along (of_one compares span) s
one_along true span s = refl
one_along false span s = refl

conditions_along : (a : n.Node) (s : Sought) → in_conditions a s ≡ along (condition_changes a) s
conditions_along (n.Constant span) s = refl
conditions_along (n.Not a span) s = conditions_along a s
conditions_along (n.Logic operator a b span) s =
    then_along (in_conditions b) (condition_changes a) (condition_changes b) s (in_conditions a s)
    (conditions_along a s) (conditions_along b)
conditions_along (n.Expression (n.Operator compares) ps span) s = one_along compares span s
conditions_along (n.Expression n.Other ps span) s = refl
conditions_along (n.Whole ps) s = refl

decision_along : (a : n.Node) (s : Sought) → in_decision a s ≡ along (root_changes a) s
decision_along a s =
    then_along (in_conditions a) (node_changes a) (condition_changes a) s (in_nodes a s) (nodes_along a s) (conditions_along a)

-- ---- the decisions in a node

all_under : (i : ℕ) (fs : List Found) → all_changes (map (under i) fs) ≡ all_changes fs
all_under i [] = refl
all_under i (f ∷ fs) = ap (λ (cs : List Change). root_changes f.node ++ cs) (all_under i fs)

regroup : (xs ys zs : List Change) → (xs ++ ys) ++ zs ≡ xs ++ (ys ++ zs)
regroup [] ys zs = refl
regroup (x ∷ xs) ys zs = ap (λ (cs : List Change). x ∷ cs) (regroup xs ys zs)

all_append : (fs gs : List Found) → all_changes (fs ++ gs) ≡ all_changes fs ++ all_changes gs
all_append [] gs = refl
all_append (f ∷ fs) gs =
    ap (λ (cs : List Change). root_changes f.node ++ cs) (all_append fs gs)
    ∙ sym (regroup (root_changes f.node) (all_changes fs) (all_changes gs))

none_whole : (role : Role) (a : n.Node) (fs : List Found) → is_constant a ≡ true → all_changes (whole role a fs) ≡ []
none_whole role a fs e = rw e refl

one_whole : (role : Role) (a : n.Node) (fs : List Found) → is_constant a ≡ false → is_candidate role a ≡ true → all_changes (whole role a fs) ≡ root_changes a ++ all_changes fs
one_whole role a fs e h = rw (e, h) refl

same_whole : (role : Role) (a : n.Node) (fs : List Found) → is_constant a ≡ false → is_candidate role a ≡ false → all_changes (whole role a fs) ≡ all_changes fs
same_whole role a fs e h = rw (e, h) refl

part_along : (role : Role) (a : n.Node) (s : Sought) (constant candidate : Bool) → is_constant a ≡ constant → is_candidate role a ≡ candidate → ((u : Sought) → inside a u ≡ along (all_changes (in_node a)) u) → searched role a s ≡ along (all_changes (whole role a (in_node a))) s
part_along role a s true candidate e h k =
    (ap (inside a) (own_still role a s e) ∙ constant_still a s e)
    ∙ sym (ap (λ (cs : List Change). along cs s) (none_whole role a (in_node a) e))
part_along role a s false true e h k =
    ap (inside a) (yes_in (is_root role a) (in_decision a s) s (is_one role a e h))
    ∙ (then_along (inside a) (root_changes a) (all_changes (in_node a)) s (in_decision a s) (decision_along a s) k
    ∙ sym (ap (λ (cs : List Change). along cs s) (one_whole role a (in_node a) e h)))
part_along role a s false false e h k =
    ap (inside a) (never_in (is_root role a) (in_decision a s) s (is_none role a h))
    ∙ (k s ∙ sym (ap (λ (cs : List Change). along cs s) (same_whole role a (in_node a) e h)))

part_is : (role : Role) (a : n.Node) (i : ℕ) (s : Sought) → ((u : Sought) → inside a u ≡ along (all_changes (in_node a)) u) → searched role a s ≡ along (all_changes (map (under i) (whole role a (in_node a)))) s
part_is role a i s k =
    part_along role a s (is_constant a) (is_candidate role a) refl refl k
    ∙ sym (ap (λ (cs : List Change). along cs s) (all_under i (whole role a (in_node a))))

more_is : (f : Sought → Sought) (xs ys : List Found) (s t : Sought) → t ≡ along (all_changes xs) s → ((u : Sought) → f u ≡ along (all_changes ys) u) → f t ≡ along (all_changes (xs ++ ys)) s
more_is f xs ys s t e h =
    then_along f (all_changes xs) (all_changes ys) s t e h
    ∙ sym (ap (λ (cs : List Change). along cs s) (all_append xs ys))

mutual
  inside_is : (a : n.Node) (s : Sought) → inside a s ≡ along (all_changes (in_node a)) s
  inside_is (n.Constant span) s = refl
  inside_is (n.Not a span) s = part_is Inner a 0 s (inside_is a)
  inside_is (n.Logic operator a b span) s =
      more_is (searched Inner b) (map (under 0) (whole Inner a (in_node a))) (map (under 1) (whole Inner b (in_node b))) s (searched Inner a s)
      (part_is Inner a 0 s (inside_is a)) (λ u. part_is Inner b 1 u (inside_is b))
  inside_is (n.Expression top ps span) s = parts_are 0 ps s
  inside_is (n.Whole ps) s = parts_are 0 ps s

  parts_are : (i : ℕ) (ps : n.Parts) (s : Sought) → inside_parts ps s ≡ along (all_changes (in_parts i ps)) s
  parts_are i n.no_parts s = refl
  parts_are i (n.part a ps) s =
      more_is (inside_parts ps) (map (under i) (whole Plain a (in_node a))) (in_parts (suc i) ps) s (searched Plain a s)
      (part_is Plain a i s (inside_is a)) (parts_are (suc i) ps)
  parts_are i (n.controlling a ps) s =
      more_is (inside_parts ps) (map (under i) (whole Controlling a (in_node a))) (in_parts (suc i) ps) s (searched Controlling a s)
      (part_is Controlling a i s (inside_is a)) (parts_are (suc i) ps)

-- ---- a search tells what the changes are

later : {X : Type 0} (m : Mutant X) (ms : List (Mutant X)) (c : Change) (cs : List Change) → ((s : Sought) → past (m ∷ ms) s ≡ along (c ∷ cs) s) → (s : Sought) → past ms s ≡ along cs s
later m ms c cs h (sought.Found d) = stays ms d ∙ sym (along_stays cs d)
later m ms c cs h (sought.Left k) =
    sym (ap (past ms) (passes m.change k)) ∙ (h (sought.Left (suc k)) ∙ ap (along cs) (passes c k))

same_changes : {X : Type 0} (ms : List (Mutant X)) (cs : List Change) → ((s : Sought) → past ms s ≡ along cs s) → map (λ m. m.change) ms ≡ cs
same_changes [] [] h = refl
same_changes [] (c ∷ cs) h =
    let none : sought.Left 0 ≡ sought.Found c = h (sought.Left 0) ∙ along_stays cs c in cc
same_changes (m ∷ ms) [] h =
    let none : sought.Found m.change ≡ sought.Left 0 = sym (stays ms m.change) ∙ h (sought.Left 0) in cc
same_changes (m ∷ ms) (c ∷ cs) h =
    let found : sought.Found m.change ≡ sought.Found c = sym (stays ms m.change) ∙ (h (sought.Left 0) ∙ along_stays cs c) in
    let first : m.change ≡ c = cc in
    let rest : map (λ m. m.change) ms ≡ cs = same_changes ms cs (later m ms c cs h) in
    cc

pub changes_of_roots : (p : Program) (ds : List Decision) (h : AreDecisions p.functions ds) → map (λ m. m.change) (mutants p) ≡ all_changes h.roots
changes_of_roots p ds h =
    same_changes (mutants p) (all_changes (in_node (n.program p.functions)))
    (λ s. mutants_found p s ∙ inside_is (n.program p.functions) s)
    ∙ ap all_changes (same_roots p.functions ds h)
