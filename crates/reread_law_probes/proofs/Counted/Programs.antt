-- The bits of an instrumented program are counted by its map.
use Rattle.std.proofs.Common.{◌≡◌, ◌∙◌, refl, sym, ap, subst, ℕ, zero, suc, ◌+◌, ◌<◌, ◌≤◌, List, [], ◌∷◌, map, length, slice_get, arith}
use Rattle.std.proofs.lemmas.List.{length-map}
use Rattle.mc_cond.specs.Tree.{Tree}
use Rattle.mc_paths.specs.Paths.{count_of}
use Rattle.mc_typed.specs.Tree.{Function, Program}
use Rattle.decide_rules.specs.declared.role.Role.TheVariants.{Plain}
use Rattle.decide_rules.specs.Decisions.{AreDecisions}
use Rattle.decide_rules.specs.Nodes.{functions}
use Rattle.decide_rules.specs.Nodes as n
use Rattle.decide_rules.specs.Counts.{roots_in}
use Rattle.decide_rules.specs.steps.Walk.{decided}
use Rattle.decide_rules.proofs.Once.{one_list}
use Rattle.decide_rules.proofs.Told.{are_decisions}
use Rattle.mc_meaning.proofs.Numbered.{trees_in, trees_length, StandsAt}
use Rattle.mc_meaning.proofs.Decided.{decided_trees}
use Rattle.mc_steps.specs.Points.{no_points, ◌⊕◌}
use Rattle.mc_probe.specs.Maps.{Map, Mapped, AreBased, IsMapOf, first_exit, first_statement, first_label, first_path}
use Rattle.mc_probe.specs.Table.{instrumented}
use Rattle.mc_probe.proofs.Counted.{events_listed}
use Rattle.laws_soundness.specs.Plain.{IsPlainProgram}
use Rattle.reread_law_probes.specs.put.Ends.{EndsBelow}
use Rattle.reread_law_probes.specs.counted.Laws.{InstrumentedProgramsAreCounted}
use Rattle.reread_law_probes.proofs.Counted.Ranges.{Same, end_of_mapped}
use Rattle.reread_law_probes.proofs.Counted.Functions.{all_of, place, functions_same}

-- ---- the decisions of a map

based_most : (ds : List Mapped) (from to : ℕ) → AreBased ds from to → from ≤ to
based_most [] from to e = omega (arith, e)
based_most (d ∷ ds) from to h =
    let more = based_most ds (from + count_of d.decision.tree) to h.1 in
    omega (arith, more)

end_most : (ds : List Mapped) (from to i : ℕ) → AreBased ds from to → end_of_mapped (slice_get ds i) ≤ to
end_most [] from to i h = omega arith
end_most (d ∷ ds) from to zero h =
    let more = based_most ds (from + count_of d.decision.tree) to h.1 in
    let here = h.0 in
    omega (arith, more, here)
end_most (d ∷ ds) from to (suc i) h = end_most ds (from + count_of d.decision.tree) to i h.1

-- what is above the bits of each is above all bits
end_least : (ds : List Mapped) (from to limit : ℕ) → AreBased ds from to → from ≤ limit → ((i : ℕ) → i < length ds → end_of_mapped (slice_get ds i) ≤ limit) → to ≤ limit
end_least [] from to limit e le each = omega (arith, e, le)
end_least (d ∷ ds) from to limit h le each =
    let here = h.0 in
    let first : d.base + count_of d.decision.tree ≤ limit = each 0 (omega arith) in
    end_least ds (from + count_of d.decision.tree) to limit h.1 (omega (arith, here, first)) (λ i lt. each (suc i) (omega (arith, lt)))

up_to : (start limit k : ℕ) → ((i : ℕ) → start ≤ i → i < start + k → i < limit) → start ≤ limit → start + k ≤ limit
up_to start limit zero each le = omega (arith, le)
up_to start limit (suc k) each le =
    let last = each (start + k) (omega arith) (omega arith) in
    omega (arith, last)

-- ---- they are those of the program

fused : (ds : List Mapped) → map (λ d. d.decision.tree) ds ≡ map (λ d. d.tree) (map (λ d. d.decision) ds)
fused [] = refl
fused (d ∷ ds) = ap (λ (ts : List Tree). d.decision.tree ∷ ts) (fused ds)

trees_are : (fs : List Function) (ds : List Mapped) → AreDecisions fs (map (λ d. d.decision) ds) → map (λ d. d.decision.tree) ds ≡ trees_in (functions fs)
trees_are fs ds h =
    fused ds
    ∙ (ap (map (λ d. d.tree)) (one_list fs (map (λ d. d.decision) ds) (decided 0 fs) h (are_decisions fs)) ∙ decided_trees 0 fs)

later : (x : Tree) (all : List Tree) (k : ℕ) (ys : List Tree) → StandsAt all k ys → StandsAt (x ∷ all) (suc k) ys
later x all k [] h = tt
later x all k (y ∷ ys) h =
    let next : suc (k + 1) ≡ suc k + 1 = omega arith in
    (h.0, subst (λ (i : ℕ). StandsAt (x ∷ all) i ys) next (later x all (k + 1) ys h.1))

stands_itself : (xs : List Tree) → StandsAt xs 0 xs
stands_itself [] = tt
stands_itself (x ∷ xs) =
    let next : suc 0 ≡ 0 + 1 = omega arith in
    (refl, subst (λ (i : ℕ). StandsAt (x ∷ xs) i xs) next (later x xs 0 xs (stands_itself xs)))

-- ---- what a map lists

record IsListed (m : Map) (fs : List Function) : Type 0 where
  entries : length m.entries ≡ length fs
  exits : length m.exits ≡ (all_of fs).exits
  statements : length m.statements ≡ (all_of fs).statements
  labels : length m.labels ≡ (all_of fs).labels
  decisions : length m.decisions ≡ roots_in (functions fs)
  stands : StandsAt (map (λ d. d.decision.tree) m.decisions) 0 (trees_in (functions fs))

is_listed : (p : Program) (m : Map) → IsMapOf p m → IsListed m p.functions
is_listed p m h =
    let fs : List Function = p.functions in
    let listed = events_listed p in
    let same = trees_are fs m.decisions h.decisions in
    let long = trees_length Plain (n.program fs) in
    let many : length m.decisions ≡ length (trees_in (functions fs)) = sym (length-map m.decisions (λ d. d.decision.tree)) ∙ ap length same in
    record {
      entries = ap length h.entries ∙ length-map fs (λ f. f.name_span);
      exits = ap length h.exits ∙ listed.exits;
      statements = ap length h.statements ∙ listed.statements;
      labels = ap length h.labels ∙ listed.labels;
      decisions = omega (arith, many, long);
      stands = subst (λ (ts : List Tree). StandsAt ts 0 (trees_in (functions fs))) (sym same) (stands_itself (trees_in (functions fs)));
    }

-- ---- programs

module _ (p : Program) (m : Map) (plain : IsPlainProgram p) (h : IsMapOf p m) where
  same : (limit : ℕ) → Same m limit (EndsBelow limit (instrumented m p)) (place m limit 0 0 no_points) (place m limit (0 + length p.functions) (0 + roots_in (functions p.functions)) (no_points ⊕ all_of p.functions))
  same limit = functions_same m limit 0 0 no_points p.functions plain (is_listed p m h).stands

  ends : EndsBelow m.bits (instrumented m p)
  ends =
      let l = is_listed p m h in
      let a = l.entries in
      let x = l.exits in
      let s = l.statements in
      let b = l.labels in
      let all = based_most m.decisions (first_path m) m.bits h.kept.based in
      (same m.bits).to (record {
        entries = λ i low high. omega (arith, high, a, all);
        decisions = λ i low high. end_most m.decisions (first_path m) m.bits i h.kept.based;
        statements = λ i low high. omega (arith, high, s, all);
        exits = λ i low high. omega (arith, high, x, all);
        labels = λ i low high. omega (arith, high, b, all);
      })

  least : (limit : ℕ) → EndsBelow limit (instrumented m p) → m.bits ≤ limit
  least limit k =
      let l = is_listed p m h in
      let a = l.entries in
      let x = l.exits in
      let s = l.statements in
      let b = l.labels in
      let d = l.decisions in
      let below = (same limit).from k in
      let to_exits = up_to 0 limit (length m.entries) (λ i low high. below.entries i low (omega (arith, high, a))) (omega arith) in
      let to_statements = up_to (first_exit m) limit (length m.exits) (λ i low high. below.exits i (omega (arith, low)) (omega (arith, high, x))) (omega (arith, to_exits)) in
      let to_labels = up_to (first_statement m) limit (length m.statements) (λ i low high. below.statements i (omega (arith, low)) (omega (arith, high, s))) (omega (arith, to_statements)) in
      let to_paths = up_to (first_label m) limit (length m.labels) (λ i low high. below.labels i (omega (arith, low)) (omega (arith, high, b))) (omega (arith, to_labels)) in
      end_least m.decisions (first_path m) m.bits limit h.kept.based (omega (arith, to_paths))
      (λ i lt. below.decisions i (omega arith) (omega (arith, lt, d)))

pub are_counted : InstrumentedProgramsAreCounted
are_counted p m plain h = record { ends = ends p m plain h; least = least p m plain h }
