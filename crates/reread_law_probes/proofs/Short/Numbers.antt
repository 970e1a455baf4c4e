-- The bases and increments of the decisions of a map, and how many there are.
use Rattle.std.proofs.Common.{◌≡◌, ◌∙◌, sym, ap, ℕ, zero, suc, ◌+◌, ◌≤◌, List, [], ◌∷◌, ◌++◌, map, length, slice_get, unwrap_or, arith}
use Rattle.std.proofs.lemmas.List.{length-map}
use Rattle.mc_cond.specs.Tree.{Tree, Leaf, Not, And, Or, FullAnd, FullOr, FullXor}
use Rattle.mc_paths.specs.Paths.{count_of, false_edges, increments, room}
use Rattle.mc_paths.specs.steps.Bounds.{AddAtMost}
use Rattle.mc_paths.proofs.Increments.{edges_most}
use Rattle.std.specs.Prelude.{max}
use Rattle.mc_typed.specs.Tree.{Function, Program}
use Rattle.decide_rules.specs.declared.role.Role.TheVariants.{Plain}
use Rattle.decide_rules.specs.Decisions.{AreDecisions}
use Rattle.decide_rules.specs.Nodes.{functions, program}
use Rattle.decide_rules.specs.Counts.{roots_in}
use Rattle.decide_rules.specs.steps.Walk.{decided}
use Rattle.decide_rules.proofs.Once.{one_list}
use Rattle.decide_rules.proofs.Told.{are_decisions}
use Rattle.mc_meaning.proofs.Numbered.{trees_length}
use Rattle.mc_meaning.proofs.Decided.{decided_trees}
use Rattle.mc_probe.specs.Maps.{Mapped, AreBased, ArePlaced}
use Rattle.mc_probe.specs.Table.{base_of, increment_of}

-- ---- bases

pub few_decisions : (ds : List Mapped) (from to : ℕ) → AreBased ds from to → from + length ds ≤ to
few_decisions [] from to e = omega (arith, e)
few_decisions (d ∷ ds) from to h =
    let more = few_decisions ds (from + count_of d.decision.tree) to h.1 in
    omega (arith, more)

pub base_most : (ds : List Mapped) (from to i : ℕ) → AreBased ds from to → base_of (slice_get ds i) ≤ to
base_most [] from to i h = omega arith
base_most (d ∷ ds) from to zero h =
    let more = few_decisions ds (from + count_of d.decision.tree) to h.1 in
    let here = h.0 in
    omega (arith, more, here)
base_most (d ∷ ds) from to (suc i) h = base_most ds (from + count_of d.decision.tree) to i h.1

-- ---- increments

abbrev AllMost : ℕ → List ℕ → Type 0
AllMost limit [] = Unit {0}
AllMost limit (x ∷ xs) = (x ≤ limit) × AllMost limit xs

all_append : (limit : ℕ) (xs ys : List ℕ) → AllMost limit xs → AllMost limit ys → AllMost limit (xs ++ ys)
all_append limit [] ys h k = k
all_append limit (x ∷ xs) ys h k = (h.0, all_append limit xs ys h.1 k)

all_at : (limit : ℕ) (xs : List ℕ) (c : ℕ) → AllMost limit xs → unwrap_or (slice_get xs c) 0 ≤ limit
all_at limit [] c h = omega arith
all_at limit (x ∷ xs) zero h = h.0
all_at limit (x ∷ xs) (suc c) h = all_at limit xs c h.1

edges_all : (t : Tree) (x y limit : ℕ) → AddAtMost limit t x y → AllMost limit (false_edges t x y)
edges_all (Leaf k) x y limit h = (h, tt)
edges_all (Not a) x y limit h = edges_all a y x limit h
edges_all (And a b) x y limit h =
    all_append limit (false_edges a (room b x y) y) (false_edges b x y) (edges_all a (room b x y) y limit h.1) (edges_all b x y limit h.0)
edges_all (Or a b) x y limit h =
    all_append limit (false_edges a x (room b x y)) (false_edges b x y) (edges_all a x (room b x y) limit h.1) (edges_all b x y limit h.0)
edges_all (FullAnd a b) x y limit h =
    let r : ℕ = room b (max x y) y in
    all_append limit (false_edges a r r) (false_edges b (max x y) y) (edges_all a r r limit h.1) (edges_all b (max x y) y limit h.0)
edges_all (FullOr a b) x y limit h =
    let r : ℕ = room b x (max x y) in
    all_append limit (false_edges a r r) (false_edges b x (max x y)) (edges_all a r r limit h.1) (edges_all b x (max x y) limit h.0)
edges_all (FullXor a b) x y limit h =
    let r : ℕ = room b (max x y) (max x y) in
    all_append limit (false_edges a r r) (false_edges b (max x y) (max x y)) (edges_all a r r limit h.1) (edges_all b (max x y) (max x y) limit h.0)

pub increment_most : (ds : List Mapped) (from to i c : ℕ) → AreBased ds from to → ArePlaced ds → increment_of (slice_get ds i) c ≤ to
increment_most [] from to i c h k = omega arith
increment_most (d ∷ ds) from to zero c h k =
    let more = few_decisions ds (from + count_of d.decision.tree) to h.1 in
    let most = all_at (count_of d.decision.tree) (increments d.decision.tree) c
    (edges_all d.decision.tree 1 1 (count_of d.decision.tree) (edges_most d.decision.tree (count_of d.decision.tree) k.0.numbered.in_order (omega arith))) in
    omega (arith, more, most)
increment_most (d ∷ ds) from to (suc i) c h k = increment_most ds (from + count_of d.decision.tree) to i c h.1 k.1

-- ---- how many decisions there are

pub decisions_are : (p : Program) (ds : List Mapped) → AreDecisions p.functions (map (λ d. d.decision) ds) → length ds ≡ roots_in (functions p.functions)
decisions_are p ds h =
    let fs : List Function = p.functions in
    sym (length-map ds (λ d. d.decision))
    ∙ (ap length (one_list fs (map (λ d. d.decision) ds) (decided 0 fs) h (are_decisions fs))
    ∙ (sym (length-map (decided 0 fs) (λ d. d.tree))
    ∙ (ap length (decided_trees 0 fs) ∙ (trees_length Plain (program fs) ∙ none (roots_in (functions fs))))))
  where
    none : (n : ℕ) → 0 + n ≡ n
    none n = omega arith
