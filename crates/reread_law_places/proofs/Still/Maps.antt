-- A program at other places has a map with the same numbers.
use Rattle.std.proofs.Common.{◌≡◌, ◌≤◌, ℕ, zero, suc, ◌+◌, Bool, true, false, List, [], ◌∷◌, ◌++◌, length, map, flat_map, slice_get, Option, Some, None, unwrap_or, refl, sym, subst, ap, ap₂, ◌∙◌}
use Rattle.std.proofs.lemmas.List.{length-map}
use Rattle.mc_span.specs.declared.span.Span.{Span}
use Rattle.mc_cond.specs.Tree.{Tree, size, IsNumbered}
use Rattle.mc_paths.specs.Paths.{count_of, increments}
use Rattle.mc_typed.specs.Tree as t
use Rattle.decide_rules.specs.Nodes.{Node}
use Rattle.decide_rules.specs.Nodes as n
use Rattle.decide_rules.specs.Conditions.{tree_from}
use Rattle.decide_rules.specs.Decisions.{Decision, AreDecisions}
use Rattle.decide_rules.specs.steps.Walk.{inside, spans, decision, decided}
use Rattle.decide_rules.proofs.Once.{one_list}
use Rattle.decide_rules.proofs.Told.{are_decisions, told_as}
use Rattle.decide_rules.proofs.Trees.{size_of_tree, length_spans}
use Rattle.mc_steps.specs.Points.{Points, no_points, ◌⊕◌, points_of_function}
use Rattle.mc_probe.specs.Maps.{Mapped, Map, AreBased, IsPlaced, ArePlaced, IsMap, IsMapOf, first_path, first_label, first_statement, first_exit}
use Rattle.mc_probe.specs.Obligations.{exits, counted_spans_all, labels_all, entry_spans, exit_spans, statement_spans, label_spans}
use Rattle.mc_probe.specs.Table.{mapped, base_of, increment_of, instrumented, decisions_in, put_functions}
use Rattle.mc_probe.specs.Tree as p
use Rattle.reread_law_texts.specs.alike.Moves.{Move, moved_span}
use Rattle.reread_law_places.specs.natural.Moved.{moved_function, moved_functions, moved_program}
use Rattle.reread_law_places.specs.natural.Settled.{settled}
use Rattle.reread_law_places.specs.still.Laws.{IsMoved, DecisionsStay, ProbesStay}
use Rattle.reread_law_places.specs.still.Unplaced.{unplaced}
use Rattle.reread_law_places.proofs.Still.Nodes.{moved_node, tree_same, inside_moved, function_node}
use Rattle.reread_law_places.proofs.Still.Points.{entries_all_moved, exits_all_moved, statements_all_moved, labels_all_moved}
use Rattle.reread_law_places.proofs.Still.Put.{still, SameNumbers, functions_kept}
use Rattle.reread_law_places.proofs.Still.Placeless.{functions_still}

-- ---- trees of decisions

abbrev trees : List Decision → List Tree
trees ds = map (λ d. d.tree) ds

trees_of : (k : ℕ) (found : List Node) → trees (map (decision k) (map (moved_node still) found)) ≡ trees (map (decision k) found)
trees_of k [] = refl
trees_of k (a ∷ found) = ap₂ (λ x y. x ∷ y) (tree_same still 0 a) (trees_of k found)

trees_joined : (ds es : List Decision) → trees (ds ++ es) ≡ trees ds ++ trees es
trees_joined [] es = refl
trees_joined (d ∷ ds) es = ap (λ l. d.tree ∷ l) (trees_joined ds es)

decided_still : (k : ℕ) (fs : List t.Function) → trees (decided k (moved_functions still fs)) ≡ trees (decided k fs)
decided_still k [] = refl
decided_still k (f ∷ fs) =
    trees_joined (map (decision k) (inside (n.function (moved_function still f)) [])) (decided (k + 1) (moved_functions still fs))
    ∙ ap₂ (λ x y. x ++ y)
    (ap (λ a. trees (map (decision k) (inside a []))) (function_node still f)
    ∙ ap (λ xs. trees (map (decision k) xs)) (inside_moved still (n.function f) [])
    ∙ trees_of k (inside (n.function f) []))
    (decided_still (k + 1) fs)
    ∙ sym (trees_joined (map (decision k) (inside (n.function f) [])) (decided (k + 1) fs))

trees_stay : (fs gs : List t.Function) → moved_functions still gs ≡ moved_functions still fs → trees (decided 0 gs) ≡ trees (decided 0 fs)
trees_stay fs gs e = sym (decided_still 0 gs) ∙ ap (λ hs. trees (decided 0 hs)) e ∙ decided_still 0 fs

pub decisions_stay : DecisionsStay
decisions_stay p q ds (m, e) h = (
  decided 0 q.functions,
  are_decisions q.functions,
  trees_stay p.functions q.functions (functions_still m p q e)
      ∙ ap trees (one_list p.functions (decided 0 p.functions) ds (are_decisions p.functions) h),
)

-- ---- the decisions of the one map in the place of those of the other

-- the decision of the one, at the bit of the other
abbrev rebased : List Mapped → List Decision → List Mapped
rebased [] ds = []
rebased (x ∷ xs) [] = []
rebased (x ∷ xs) (d ∷ ds) = record { decision = d; base = x.base } ∷ rebased xs ds

abbrev Same : List Mapped → List Decision → Type 0
Same [] [] = Unit {0}
Same [] (d ∷ ds) = ⊥
Same (x ∷ xs) [] = ⊥
Same (x ∷ xs) (d ∷ ds) = (d.tree ≡ x.decision.tree) × Same xs ds

abbrev first_of : Tree → List Tree → Tree
first_of a [] = a
first_of a (b ∷ bs) = b

abbrev rest_of : List Tree → List Tree
rest_of [] = []
rest_of (b ∷ bs) = bs

abbrev Empty : List Tree → Type 0
Empty [] = Unit {0}
Empty (b ∷ bs) = ⊥

abbrev decisions_of : List Mapped → List Decision
decisions_of xs = map (λ (x : Mapped). x.decision) xs

same_trees : (xs : List Mapped) (ds : List Decision) → trees ds ≡ trees (decisions_of xs) → Same xs ds
same_trees [] [] e = tt
same_trees [] (d ∷ ds) e = subst Empty (sym e) tt
same_trees (x ∷ xs) [] e = subst Empty e tt
same_trees (x ∷ xs) (d ∷ ds) e = (ap (first_of d.tree) e, same_trees xs ds (ap rest_of e))

rebased_decisions : (xs : List Mapped) (ds : List Decision) → Same xs ds → decisions_of (rebased xs ds) ≡ ds
rebased_decisions [] [] s = refl
rebased_decisions [] (d ∷ ds) s = absurd s
rebased_decisions (x ∷ xs) [] s = absurd s
rebased_decisions (x ∷ xs) (d ∷ ds) s = ap (λ l. d ∷ l) (rebased_decisions xs ds s.1)

rebased_based : (xs : List Mapped) (ds : List Decision) (from to : ℕ) → Same xs ds → AreBased xs from to → AreBased (rebased xs ds) from to
rebased_based [] [] from to s h = h
rebased_based [] (d ∷ ds) from to s h = absurd s
rebased_based (x ∷ xs) [] from to s h = absurd s
rebased_based (x ∷ xs) (d ∷ ds) from to s h = (
  h.0,
  subst (λ (a : Tree). AreBased (rebased xs ds) (from + count_of a) to) (sym s.0)
      (rebased_based xs ds (from + count_of x.decision.tree) to s.1 h.1),
)

-- each decision has as many places as conditions
abbrev Sized : List Decision → Type 0
Sized [] = Unit {0}
Sized (d ∷ ds) = (length d.conditions ≡ size d.tree) × Sized ds

sized_joined : (ds es : List Decision) → Sized ds → Sized es → Sized (ds ++ es)
sized_joined [] es h k = k
sized_joined (d ∷ ds) es h k = (h.0, sized_joined ds es h.1 k)

sized_found : (k : ℕ) (found : List Node) → Sized (map (decision k) found)
sized_found k [] = tt
sized_found k (a ∷ found) = (length_spans a ∙ sym (size_of_tree 0 a), sized_found k found)

sized_decided : (k : ℕ) (fs : List t.Function) → Sized (decided k fs)
sized_decided k [] = tt
sized_decided k (f ∷ fs) =
    sized_joined (map (decision k) (inside (n.function f) [])) (decided (k + 1) fs)
    (sized_found k (inside (n.function f) [])) (sized_decided (k + 1) fs)

rebased_placed : (xs : List Mapped) (ds : List Decision) → Same xs ds → Sized ds → ArePlaced xs → ArePlaced (rebased xs ds)
rebased_placed [] [] s z h = h
rebased_placed [] (d ∷ ds) s z h = absurd s
rebased_placed (x ∷ xs) [] s z h = absurd s
rebased_placed (x ∷ xs) (d ∷ ds) s z h =
    (record { numbered = subst IsNumbered (sym s.0) h.0.numbered; places = z.0 }, rebased_placed xs ds s.1 z.1 h.1)

rebased_base : (xs : List Mapped) (ds : List Decision) (k : ℕ) → Same xs ds →
    base_of (slice_get (rebased xs ds) k) ≡ base_of (slice_get xs k)
rebased_base [] [] k s = refl
rebased_base [] (d ∷ ds) k s = absurd s
rebased_base (x ∷ xs) [] k s = absurd s
rebased_base (x ∷ xs) (d ∷ ds) zero s = refl
rebased_base (x ∷ xs) (d ∷ ds) (suc k) s = rebased_base xs ds k s.1

rebased_increment : (xs : List Mapped) (ds : List Decision) (k c : ℕ) → Same xs ds →
    increment_of (slice_get (rebased xs ds) k) c ≡ increment_of (slice_get xs k) c
rebased_increment [] [] k c s = refl
rebased_increment [] (d ∷ ds) k c s = absurd s
rebased_increment (x ∷ xs) [] k c s = absurd s
rebased_increment (x ∷ xs) (d ∷ ds) zero c s = ap (λ (a : Tree). unwrap_or (slice_get (increments a) c) 0) s.0
rebased_increment (x ∷ xs) (d ∷ ds) (suc k) c s = rebased_increment xs ds k c s.1

-- ---- as many places

same_length : (places : List t.Function → List Span) →
    ((hs : List t.Function) → places (moved_functions still hs) ≡ map (moved_span still) (places hs)) →
    (fs gs : List t.Function) → moved_functions still gs ≡ moved_functions still fs →
    length (places gs) ≡ length (places fs)
same_length places moves fs gs e =
    sym (length-map (places gs) (moved_span still))
    ∙ ap length (sym (moves gs) ∙ ap places e ∙ moves fs)
    ∙ length-map (places fs) (moved_span still)

-- ---- the map

module _ (p q : t.Program) (m : Map) (e : moved_functions still q.functions ≡ moved_functions still p.functions) (h : IsMapOf p m) where
  abbrev found : List Decision
  found = decided 0 q.functions

  matches : Same m.decisions found
  matches = same_trees m.decisions found
      (trees_stay p.functions q.functions e
      ∙ ap trees (one_list p.functions (decided 0 p.functions) (decisions_of m.decisions) (are_decisions p.functions) h.decisions))

  abbrev pub there : Map
  there = record {
    entries = entry_spans q;
    exits = exit_spans q;
    statements = statement_spans q;
    labels = label_spans q;
    decisions = rebased m.decisions found;
    bits = m.bits;
  }

  entries_same : length (entry_spans q) ≡ length m.entries
  entries_same =
      same_length (λ fs. map (λ (f : t.Function). f.name_span) fs) (entries_all_moved still) p.functions q.functions e
      ∙ ap length (sym h.entries)

  exits_same : length (exit_spans q) ≡ length m.exits
  exits_same =
      same_length (λ fs. flat_map exits fs) (exits_all_moved still) p.functions q.functions e ∙ ap length (sym h.exits)

  statements_same : length (statement_spans q) ≡ length m.statements
  statements_same =
      same_length (λ fs. flat_map (λ (f : t.Function). counted_spans_all f.body) fs) (statements_all_moved still) p.functions q.functions e
      ∙ ap length (sym h.statements)

  labels_same : length (label_spans q) ≡ length m.labels
  labels_same =
      same_length (λ fs. flat_map (λ (f : t.Function). labels_all f.body) fs) (labels_all_moved still) p.functions q.functions e
      ∙ ap length (sym h.labels)

  first_statement_same : first_statement there ≡ first_statement m
  first_statement_same = ap₂ (λ x y. x + y) entries_same exits_same

  first_label_same : first_label there ≡ first_label m
  first_label_same = ap₂ (λ x y. x + y) first_statement_same statements_same

  first_path_same : first_path there ≡ first_path m
  first_path_same = ap₂ (λ x y. x + y) first_label_same labels_same

  pub is_map : IsMapOf q there
  is_map = record {
    kept = record {
      placed = rebased_placed m.decisions found matches (sized_decided 0 q.functions) h.kept.placed;
      based = subst (λ (k : ℕ). AreBased (rebased m.decisions found) k m.bits) (sym first_path_same)
          (rebased_based m.decisions found (first_path m) m.bits matches h.kept.based);
      few = h.kept.few;
    };
    entries = refl;
    exits = refl;
    statements = refl;
    labels = refl;
    decisions = told_as q.functions (decisions_of (rebased m.decisions found)) (rebased_decisions m.decisions found matches);
  }

  pub numbers : SameNumbers m there
  numbers = record {
    exits = entries_same;
    statements = first_statement_same;
    labels = first_label_same;
    bases = λ k. rebased_base m.decisions found k matches;
    increments = λ k c. rebased_increment m.decisions found k c matches;
  }

own : (m : Map) → SameNumbers m m
own m = record { exits = refl; statements = refl; labels = refl; bases = λ k. refl; increments = λ k c. refl }

pub probes_stay : ProbesStay
probes_stay p q m (mv, e) h =
    let s : moved_functions still q.functions ≡ moved_functions still p.functions = functions_still mv p q e in
    let w : Map = there p q m s h in (
      w,
      is_map p q m s h,
      refl,
      (λ i. record {
        program = record {
          functions = (functions_kept w w (own w) 0 0 no_points q.functions
              ∙ ap (put_functions w 0 0 no_points) s
              ∙ sym (functions_kept m w (numbers p q m s h) 0 0 no_points p.functions)) i;
          statics = ap (λ (x : t.Program). x.statics) e i;
          structures = ap (λ (x : t.Program). x.structures) e i;
        };
        bits = m.bits;
      }),
    )
