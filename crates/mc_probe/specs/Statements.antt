-- What effects, initializers and statements do (C17 6.7.9, 6.8).
use Rattle.std.specs.Prelude.{ℕ, ◌+◌, pos, Bool, true, List, [], ◌∷◌, map, Option, Some, None}
use Rattle.mc_typed.specs.Sound.{labels_of}
use Rattle.mc_steps.specs.Runs.{gives, ◌>>=◌, changes}
use Rattle.mc_steps.specs.Expressions.{is_true, assign_does, update_does, copy_does, choice_does, as_does, drop_does, both_do, output_does, where_true}
use Rattle.mc_steps.specs.Statements.{Given, Completed, Left, Seek, Running, counted_does, effect_does, loop_does, do_does, label_does, item_runs, switch_does}
use Rattle.mc_steps.specs.Statements as give
use Rattle.mc_steps.specs.Calls.{unset_does, store_does, store_structure_does}
use Rattle.mc_steps.specs.Points.{initializes}
use Rattle.mc_probe.specs.Tree.{Expression, StructureValue, Effect, Initializer, Initializers, Declarator, ForStart, ReturnValue, Statement, Statements}
use Rattle.mc_probe.specs.Tree as probed
use Rattle.mc_probe.specs.Erase.{erase_statements, erase_declarator}
use Rattle.mc_probe.specs.Flat.{Does, Runs, Activation, flat, hits_some}
use Rattle.mc_probe.specs.Probes.{mark_does}
use Rattle.mc_probe.specs.Expressions.{evaluate_place, evaluate, evaluate_structure, evaluate_call}

module _ (w : Activation) where
  -- ---- effects (C17 6.8.3)

  -- The value of a call that is whole is not used.
  abbrev pub perform : Effect → Does (Unit {0})
  perform (probed.Assign target a e span) s = assign_does flat (evaluate_place w target)
      (evaluate w e) s
  perform (probed.Update target a operator common e span) s =
      update_does flat a operator common (evaluate_place w target) (evaluate w e) s
  perform (probed.Copy target value n span) s =
      copy_does flat n (evaluate_place w target) (evaluate_structure w value) s
  perform (probed.NumberEffect (probed.Call k a) true) s = drop_does (evaluate_call w k) s
  perform (probed.NumberEffect e whole) s = drop_does (evaluate w e) s
  perform (probed.StructureEffect (probed.Returned k) true) s = drop_does (evaluate_call w k) s
  perform (probed.StructureEffect value whole) s = drop_does (evaluate_structure w value) s
  perform (probed.CallEffect k) s = drop_does (evaluate_call w k) s
  perform (probed.Output e span) s = output_does (evaluate w e) s
  perform (probed.ChoiceEffect e a b span) s = choice_does (evaluate w e) (perform a)
      (perform b) s
  perform (probed.Discard a span) s = perform a s

  abbrev pub perform_all : List Effect → Does (Unit {0})
  perform_all [] s = gives tt s
  perform_all (a ∷ rest) s = both_do (perform a) (perform_all rest) s

  -- ---- initializers (C17 6.7.9)

  -- how many cells it sets
  abbrev pub width : Initializer → ℕ
  width (probed.NumberInitializer e) = 1
  width (probed.StructureInitializer value n) = n
  width (probed.ListInitializer items n) = n
  width (probed.ZeroInitializer e n) = n

  abbrev mutual
    pub initialize : Initializer → ℕ → Does (Unit {0})
    initialize (probed.NumberInitializer e) at s = store_does flat at (evaluate w e) s
    initialize (probed.StructureInitializer value n) at s =
        store_structure_does flat at n (evaluate_structure w value) s
    initialize (probed.ListInitializer items n) at s = initialize_from items at 0 0 n s
    -- the list `{0}`
    initialize (probed.ZeroInitializer e n) at s = changes (flat.put at n (Some (pos 0))) s

    -- from item i on, which begins after `offset` of n cells; where the list ends they become 0
    -- (C17 6.7.9p21)
    pub initialize_from : Initializers → ℕ → ℕ → ℕ → ℕ → Does (Unit {0})
    initialize_from probed.no_initializers at i offset n s =
        changes (flat.zero_rest at i offset n) s
    initialize_from (probed.initializers x rest) at i offset n s =
        both_do (initialize x (at + offset))
        (initialize_from rest at (i + 1) (offset + width x) n) s

  abbrev pub initialize_where : Option Initializer → ℕ → Does (Unit {0})
  initialize_where None at s = gives tt s
  initialize_where (Some x) at s = initialize x at s

  abbrev pub declare : List Declarator → Does (Unit {0})
  declare [] s = gives tt s
  declare (d ∷ rest) s =
      both_do (unset_does flat (w.base + d.slot.start) d.cells)
      (both_do (initialize_where d.value (w.base + d.slot.start)) (declare rest)) s

  -- ---- statements (C17 6.8)

  -- the bit of a counted statement is hit after its unit of fuel
  abbrev pub counts : Option ℕ → Runs → Runs
  counts bit act s = counted_does (hits_some w bit) act s

  abbrev pub start_loop : ForStart → Does (Unit {0})
  start_loop (probed.StartEffects effects) s = perform_all effects s
  start_loop (probed.StartDeclaration declarators) s = declare declarators s

  -- a controlling expression that is absent counts as true (C17 6.8.5.3p2)
  abbrev pub loop_test : Option Expression → Does Bool
  loop_test None s = gives true s
  loop_test (Some e) s = as_does is_true (evaluate w e) s

  abbrev pub returned : ReturnValue → Does (Given ℕ)
  returned probed.ReturnNothing s = gives give.Nothing s
  returned (probed.ReturnNumber e) s = as_does give.Number (evaluate w e) s
  returned (probed.ReturnStructure value n) s =
      as_does (λ at. give.Structure at n) (evaluate_structure w value) s

  -- the bit of an exit is hit after the value of its `return`
  abbrev pub exit_does : Option ℕ → Does (Given ℕ) → Runs
  exit_does bit value = do
    v ← value
    _ ← hits_some w bit
    gives (Left v)

  abbrev mutual
    pub run : Statement → Runs
    run (probed.Compound items span) s = run_from items Running s
    run (probed.Label v span mark) s = gives Completed s
    run (probed.Declaration declarators span bit) s =
        where_true (initializes (map erase_declarator declarators))
        (counts bit (effect_does (declare declarators)))
        (effect_does (declare declarators)) s
    run (probed.Null span bit) s = counts bit (gives Completed) s
    run (probed.EffectStatement effect span bit) s =
        counts bit (effect_does (perform effect)) s
    run (probed.If e u keyword span bit) s =
        counts bit (choice_does (evaluate w e) (run u) (gives Completed)) s
    run (probed.IfElse e u v keyword span bit) s =
        counts bit (choice_does (evaluate w e) (run u) (run v)) s
    run (probed.Switch e items keyword span bit absent) s =
        counts bit (switch_does (evaluate w e) (labels_of (erase_statements items))
        (run_from items) (mark_does w absent)) s
    run (probed.For start test step u keyword span bit) s =
        counts bit (start_loop start >>= λ _.
        loop_does (loop_test test) (run u) (perform_all step)) s
    run (probed.DoWhile u e keyword span bit) s =
        counts bit (do_does (run u) (as_does is_true (evaluate w e))) s
    run (probed.Break span bit) s = counts bit (gives give.Broke) s
    run (probed.Continue span bit) s = counts bit (gives give.Continued) s
    run (probed.Return value span bit exit) s = counts bit
        (exit_does exit (returned value)) s

    -- the items of a body, of which those before a label that is sought are passed over
    pub run_from : Statements → Seek → Runs
    run_from probed.no_statements seek s = gives Completed s
    run_from (probed.statements (probed.Label v span mark) rest) seek s =
        label_does (mark_does w mark) v seek (run_from rest) s
    run_from (probed.statements u rest) seek s =
        item_runs (run u) seek (run_from rest) s
