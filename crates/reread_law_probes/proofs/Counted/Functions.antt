-- The bits of the functions of an instrumented program.
use Rattle.std.proofs.Common.{◌≡◌, refl, subst, ℕ, ◌+◌, Bool, true, false, if◌then◌else◌, List, [], ◌∷◌, map, length, Some, None, arith}
use Rattle.mc_typed.specs.Tree as t
use Rattle.mc_cond.specs.Tree.{Tree}
use Rattle.decide_rules.specs.declared.role.Role.TheVariants.{Plain}
use Rattle.decide_rules.specs.Nodes as n
use Rattle.decide_rules.specs.Counts.{roots_in}
use Rattle.mc_meaning.proofs.Numbered.{trees, trees_in, trees_length, StandsAt, stands_left, stands_right}
use Rattle.mc_steps.specs.Points.{Points, ◌⊕◌, where_completes, points_of_all, points_of_function, points_before, all_complete}
use Rattle.mc_probe.specs.Maps.{Map, exit_bit, statement_bit, label_bit}
use Rattle.mc_probe.specs.Table.{At, decisions_in, put_function, put_functions}
use Rattle.laws_soundness.specs.Plain.{ArePlainStatements, ArePlainFunctions}
use Rattle.reread_law_probes.specs.put.Ends.{EndBit, EndFunction, EndFunctions}
use Rattle.reread_law_probes.proofs.Counted.Ranges.{Pos, Same, none, same_as, join, ends_at, three}
use Rattle.reread_law_probes.proofs.Counted.Ranges as ranges
use Rattle.reread_law_probes.proofs.Counted.Statements.{spot, after, statements_same}

-- the points of functions
abbrev pub all_of : List t.Function → Points
all_of fs = points_before fs (length fs)

no_statements : (b : Bool) → (where_completes b).statements ≡ 0
no_statements true = refl
no_statements false = refl

no_labels : (b : Bool) → (where_completes b).labels ≡ 0
no_labels true = refl
no_labels false = refl

module _ (m : Map) (limit : ℕ) where
  -- the counters where so many functions, decisions and points are past
  abbrev pub place : ℕ → ℕ → Points → Pos
  place number first q = record {
    entry = number;
    decision = first;
    statement = statement_bit m q.statements;
    exit = exit_bit m q.exits;
    label = label_bit m q.labels;
  }

  where_exit : (b : Bool) (p : Pos) (k : ℕ) → k ≡ p.exit → Same m limit (EndBit limit (if b then Some k else None)) p (record p { exit = p.exit + (where_completes b).exits })
  where_exit true p k e =
      same_as m limit p (record p { exit = p.exit + 1 }) (λ h. omega (arith, h, e)) (λ h. omega (arith, h, e)) (ranges.exit_bit m limit p)
  where_exit false p k e =
      ends_at m limit p p _ (record { entry = refl; decision = refl; statement = refl; exit = omega arith; label = refl }) (none m limit p)

  function_same : (number first : ℕ) (q : Points) (f : t.Function) → ArePlainStatements f.body → StandsAt (map (λ d. d.decision.tree) m.decisions) first (trees Plain (n.function f)) → Same m limit (EndFunction limit (put_function m number first q f)) (place number first q) (place (number + 1) (first + decisions_in f) (q ⊕ points_of_function f))
  function_same number first q f k h =
      let b : Bool = all_complete f.body in
      let p : Pos = place number first q in
      let at : At m first = record {
        exit = exit_bit m q.exits;
        statement = statement_bit m q.statements;
        label = label_bit m q.labels;
        decision = 0;
        switch = decisions_in f;
      } in
      let y : Pos = spot m first limit (number + 1) at in
      let z : Pos = spot m first limit (number + 1) (after m first limit (number + 1) f.body at) in
      let w : Pos = record z { exit = z.exit + (where_completes b).exits } in
      let s = no_statements b in
      let l = no_labels b in
      let start : first ≡ first + 0 = omega arith in
      let body : StandsAt (map (λ d. d.decision.tree) m.decisions) (first + 0) (trees_in (n.statements f.body)) = subst (λ (i : ℕ). StandsAt (map (λ d. d.decision.tree) m.decisions) i (trees_in (n.statements f.body))) start h in
      ends_at m limit p w (place (number + 1) (first + decisions_in f) (q ⊕ points_of_function f)) (record { entry = refl; decision = omega arith; statement = omega (arith, s); exit = omega arith; label = omega (arith, l) })
      (three m limit p w
      (join m limit p y w
      (ends_at m limit p (record p { entry = p.entry + 1 }) y (record { entry = refl; decision = omega arith; statement = refl; exit = refl; label = refl }) (ranges.entry_bit m limit p))
      (join m limit y z w
      (statements_same m first limit (number + 1) 0 at f.body k body)
      (where_exit b z (exit_bit m (q.exits + (points_of_all f.body).exits)) (omega arith)))))

  pub functions_same : (number first : ℕ) (q : Points) (fs : List t.Function) → ArePlainFunctions fs → StandsAt (map (λ d. d.decision.tree) m.decisions) first (trees_in (n.functions fs)) → Same m limit (EndFunctions limit (put_functions m number first q fs)) (place number first q) (place (number + length fs) (first + roots_in (n.functions fs)) (q ⊕ all_of fs))
  functions_same number first q [] k h =
      ends_at m limit (place number first q) (place number first q) _ (record { entry = omega arith; decision = omega arith; statement = omega arith; exit = omega arith; label = omega arith }) (none m limit (place number first q))
  functions_same number first q (f ∷ fs) k h =
      let all : List Tree = map (λ d. d.decision.tree) m.decisions in
      let a : Pos = place number first q in
      let b : Pos = place (number + 1) (first + decisions_in f) (q ⊕ points_of_function f) in
      let c : Pos = place (number + 1 + length fs) (first + decisions_in f + roots_in (n.functions fs)) ((q ⊕ points_of_function f) ⊕ all_of fs) in
      let long = trees_length Plain (n.function f) in
      let same : first + length (trees Plain (n.function f)) ≡ first + decisions_in f = omega (arith, long) in
      let rest : StandsAt all (first + decisions_in f) (trees_in (n.functions fs)) = subst (λ (i : ℕ). StandsAt all i (trees_in (n.functions fs))) same (stands_right all first (trees Plain (n.function f)) (trees_in (n.functions fs)) h) in
      ends_at m limit a c (place (number + length (f ∷ fs)) (first + roots_in (n.functions (f ∷ fs))) (q ⊕ all_of (f ∷ fs))) (record { entry = omega arith; decision = omega arith; statement = omega arith; exit = omega arith; label = omega arith })
      (join m limit a b c
      (function_same number first q f k.0 (stands_left all first (trees Plain (n.function f)) (trees_in (n.functions fs)) h))
      (functions_same (number + 1) (first + decisions_in f) (q ⊕ points_of_function f) fs k.1 rest))
