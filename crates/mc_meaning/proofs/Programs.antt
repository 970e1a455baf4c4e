-- What the run of a test evaluates are the program's decisions.
use Rattle.std.proofs.Common.{◌≡◌, refl, sym, subst, ℕ, zero, suc, ◌+◌, ℤ, List, [], ◌∷◌, map, Option, Some, None, All, arith}
use Rattle.std.specs.Prelude.{slice_get}
use Rattle.std.proofs.lemmas.List.Elements.{All-nil, All-cons}
use Rattle.mc_value.specs.declared.trap.Trap.{Trap}
use Rattle.mc_value.specs.declared.trap.Trap.TheVariants.{NoReturn}
use Rattle.mc_cond.specs.Tree.{Tree}
use Rattle.mc_cond.specs.Vectors.{IsVector}
use Rattle.mc_typed.specs.declared.plans.Ending.TheVariants.{Levels}
use Rattle.mc_typed.specs.Tree.{ResultType, NoResult, NumberResult, StructureResult, Function, Program}
use Rattle.mc_typed.specs.Sound.{result_at}
use Rattle.mc_typed.specs.Plans.{Call}
use Rattle.decide_rules.specs.declared.role.Role.TheVariants.{Plain}
use Rattle.decide_rules.specs.Nodes.{function, functions}
use Rattle.decide_rules.specs.Decisions.{Decision}
use Rattle.decide_rules.specs.steps.Walk.{decided}
use Rattle.decide_rules.proofs.Once.{one_list}
use Rattle.decide_rules.proofs.Told.{are_decisions}
use Rattle.mc_steps.specs.Runs.{State, Out, Gave, Stopped, stops, lists, with_some}
use Rattle.mc_steps.specs.Statements.{Given, Running}
use Rattle.mc_steps.specs.Calls.{Passed, PassedNumber, lent_of, number_given, leaves, body_does}
use Rattle.mc_steps.specs.Tests.{TestRun, where_returned, calls_do, value_given}
use Rattle.mc_steps.specs.Points.{points_before}
use Rattle.mc_meaning.specs.Stores.{Path, Store, on_places}
use Rattle.mc_steps.specs.Events.{Event, Entered, Exited, Started, Chosen, Evaluated}
use Rattle.decide_rules.specs.Counts.{roots, roots_before}
use Rattle.mc_meaning.specs.Within.{Does, Within}
use Rattle.mc_meaning.specs.Statements.{run_from}
use Rattle.mc_meaning.specs.Positions.{points_at_end}
use Rattle.mc_meaning.specs.Calls.{Open, with_one, enter, call_in}
use Rattle.mc_meaning.specs.Tests.{none_open, call_made, first_state, plain_run}
use Rattle.mc_meaning.specs.Laws.{IsOfDecision, EvaluationsAreOfDecisions}
use Rattle.mc_meaning.proofs.Numbered.{trees, trees_in, StandsAt, stands_left}
use Rattle.mc_meaning.proofs.Decided.{decided_trees}
use Rattle.mc_meaning.proofs.Evaluations.{IsFine, Fine, CallsAreFine, past_node}
use Rattle.mc_meaning.proofs.Statements.{run_from_is_fine}
use Rattle.mc_meaning.proofs.Listed as l

-- ---- where the trees of a function stand

later : (x : Tree) (xs : List Tree) (k : ℕ) (ys : List Tree) → StandsAt xs k ys → StandsAt (x ∷ xs) (suc k) ys
later x xs k [] h = tt
later x xs k (y ∷ ys) (one, h) =
    (one, subst (λ (m : ℕ). StandsAt (x ∷ xs) m ys) (omega arith) (later x xs (k + 1) ys h))

whole_list : (xs : List Tree) → StandsAt xs 0 xs
whole_list [] = tt
whole_list (x ∷ xs) = (refl, later x xs 0 xs (whole_list xs))

same : {A : Type 0} (x y : A) → Some x ≡ Some y → x ≡ y
same x y e = cc

abbrev nothing : {A : Type 0} → Option A
nothing = None

none_there : {A B : Type 0} (x : A) → nothing ≡ Some x → B
none_there x e = cc

at_function : (all : List Tree) (k : ℕ) (fs : List Function) (f : ℕ) (g : Function) → slice_get fs f ≡ Some g → StandsAt all k (trees_in (functions fs)) → StandsAt all (k + roots_before fs f) (trees Plain (function g))
at_function all k [] f g e h = none_there g e
at_function all k (x ∷ fs) zero g e h =
    subst (λ (m : ℕ). StandsAt all m (trees Plain (function g))) (omega arith)
    (subst (λ (y : Function). StandsAt all k (trees Plain (function y))) (same x g e)
    (stands_left all k (trees Plain (function x)) (trees_in (functions fs)) h))
at_function all k (x ∷ fs) (suc f) g e h =
    subst (λ (m : ℕ). StandsAt all m (trees Plain (function g))) (omega arith)
    (at_function all (k + roots Plain (function x)) fs f g e (past_node all k Plain (function x) (trees_in (functions fs)) h))

-- ---- calls

module _ (p : Program) where
  abbrev there : List Tree
  there = trees_in (functions p.functions)

  found : (t : Trap) (o : Option Function) (next : Function → Does (Given Path)) → ((g : Function) → o ≡ Some g → Fine there (next g)) → Fine there (with_some t o next)
  found t None next k s = tt
  found t (Some g) next k s = k g refl s

  function_is_at : (f : ℕ) (g : Function) → slice_get p.functions f ≡ Some g → StandsAt there (roots_before p.functions f) (trees Plain (function g))
  function_is_at f g e =
      subst (λ (m : ℕ). StandsAt there m (trees Plain (function g))) (omega arith)
      (at_function there 0 p.functions f g e (whole_list there))

  abbrev opened : ℕ → Open → ℕ → List (Passed Path) → Function → Within
  opened depth around f passed g = record {
    activation = (with_one g around).count;
    arrays = lent_of passed;
    call = λ f into passed s. call_in p depth (with_one g around) f into passed s;
    points = points_before p.functions f;
    decisions = roots_before p.functions f;
  }

  abbrev closed : ℕ → Function → Does (Unit {0})
  closed f g = lists (Exited (points_at_end g (points_before p.functions f)).exits ∷ [])

  body_is_fine : (depth : ℕ) (around : Open) (f : ℕ) (into : Option Path) (passed : List (Passed Path)) (g : Function) → slice_get p.functions f ≡ Some g → CallsAreFine there (opened depth around f passed g) → Fine there (body_does (enter (with_one g around).count g passed) (lists (Entered f ∷ [])) (run_from g.body Running (opened depth around f passed g)) (closed f g) (leaves on_places into (λ m. m)))
  body_is_fine depth around f into passed g e c =
      l.body_keeps (IsFine there) (enter (with_one g around).count g passed) (lists (Entered f ∷ []))
      (run_from g.body Running (opened depth around f passed g)) (closed f g) (leaves on_places into (λ m. m))
      (λ s. (tt, tt)) (run_from_is_fine there g.body Running (opened depth around f passed g) c (function_is_at f g e)) (λ s. (tt, tt))
      (l.leaves_keeps (IsFine there) on_places into (λ m. m))

  call_in_is_fine : (depth : ℕ) (around : Open) (f : ℕ) (into : Option Path) (passed : List (Passed Path)) → Fine there (call_in p depth around f into passed)
  call_in_is_fine zero around f into passed =
      let stop : Does (Given Path) = stops Levels in l.spends_keeps (IsFine there) stop (λ s. tt)
  call_in_is_fine (suc depth) around f into passed =
      found NoReturn (slice_get p.functions f) _ (λ g e.
      l.call_keeps (IsFine there) (with_one g around).levels (with_one g around).cells
      (body_does (enter (with_one g around).count g passed) (lists (Entered f ∷ [])) (run_from g.body Running (opened depth around f passed g)) (closed f g) (leaves on_places into (λ m. m)))
      (body_is_fine depth around f into passed g e (λ f into passed. call_in_is_fine depth (with_one g around) f into passed)))

  -- ---- tests

  value_is_given : (r : ResultType) (v : Given Path) → Fine there (value_given r v)
  value_is_given NoResult v s = tt
  value_is_given (NumberResult a) v s = l.after_keeps (IsFine there) (number_given v s) _ (l.number_given_keeps (IsFine there) v s) (λ x s. tt)
  value_is_given (StructureResult u) v s = l.after_keeps (IsFine there) (number_given v s) _ (l.number_given_keeps (IsFine there) v s) (λ x s. tt)

  call_made_is_fine : (c : Call) → Fine there (call_made p c)
  call_made_is_fine c s =
      l.after_keeps (IsFine there) (call_in p 512 (none_open p) c.function None (map PassedNumber c.arguments) s)
      (value_given (result_at (slice_get p.functions c.function)))
      (call_in_is_fine 512 (none_open p) c.function None (map PassedNumber c.arguments) s)
      (value_is_given (result_at (slice_get p.functions c.function)))

  returned_is_fine : (o : Out Store (Option ℤ)) (events : List Event) (next : State Store → TestRun Store Event) → l.Each (IsFine there) events → ((s : State Store) → l.Each (IsFine there) (next s).events) → l.Each (IsFine there) (where_returned o events next).events
  returned_is_fine (Gave v s) events next k j = l.each_append (IsFine there) events (next s).events k (j s)
  returned_is_fine (Stopped e s) events next k j = k

  calls_are_fine : (cs : List Call) (s : State Store) → l.Each (IsFine there) (calls_do (map (λ c. call_made p c) cs) s).events
  calls_are_fine [] s = tt
  calls_are_fine (c ∷ cs) s =
      returned_is_fine (call_made p c s).out (call_made p c s).events (λ s. calls_do (map (λ c. call_made p c) cs) s)
      (call_made_is_fine c s) (calls_are_fine cs)

-- ---- decisions

tree_at : (ds : List Decision) (k : ℕ) (x : Tree) → slice_get (map (λ d. d.tree) ds) k ≡ Some x → (d : Decision) × (slice_get ds k ≡ Some d) × (d.tree ≡ x)
tree_at [] k x e = none_there x e
tree_at (d ∷ ds) zero x e = (d, refl, same d.tree x e)
tree_at (d ∷ ds) (suc k) x e = tree_at ds k x e

one_of : (ds : List Decision) (e : Event) → IsFine (map (λ d. d.tree) ds) e → IsOfDecision ds e
one_of ds (Evaluated k v) (x, at, vector) =
    let found = tree_at ds k x at in
    (found.0, found.1, subst (λ (t : Tree). IsVector t v) (sym found.2) vector)
one_of ds (Entered f) h = tt
one_of ds (Exited f) h = tt
one_of ds (Started f) h = tt
one_of ds (Chosen f) h = tt

all_of : (ds : List Decision) (es : List Event) → l.Each (IsFine (map (λ d. d.tree) ds)) es → All (IsOfDecision ds) es
all_of ds [] h = All-nil _
all_of ds (e ∷ es) (one, h) = All-cons (IsOfDecision ds) e es (one_of ds e one) (all_of ds es h)

pub evaluations_are_of_decisions : EvaluationsAreOfDecisions
evaluations_are_of_decisions p plan ds a =
    subst (λ (xs : List Decision). All (IsOfDecision xs) (plain_run p plan).events)
    (one_list p.functions (decided 0 p.functions) ds (are_decisions p.functions) a)
    (all_of (decided 0 p.functions) (plain_run p plan).events
    (subst (λ (ts : List Tree). l.Each (IsFine ts) (plain_run p plan).events) (sym (decided_trees 0 p.functions))
    (calls_are_fine p plan.calls (first_state p plan))))
