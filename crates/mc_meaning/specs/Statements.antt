-- What effects, initializers and statements do (C17 6.7.9, 6.8).
use Rattle.std.specs.Prelude.{ℕ, suc, pos, Bool, true, false, List, [], ◌∷◌, Option, Some, None}
use Rattle.mc_typed.specs.Tree.{Expression, Effect, Initializer, Initializers, Declarator, ForStart, ReturnValue, Statement, Statements}
use Rattle.mc_typed.specs.Tree as typed
use Rattle.mc_typed.specs.Sound.{labels_of}
use Rattle.decide_rules.specs.declared.role.Role.TheVariants.{Controlling, Plain}
use Rattle.decide_rules.specs.Nodes as nodes
use Rattle.mc_steps.specs.Runs.{gives, lists, ◌>>=◌, changes}
use Rattle.mc_steps.specs.Events.{Exited, Started}
use Rattle.mc_steps.specs.Expressions.{is_true, assign_does, update_does, copy_does, choice_does, as_does, drop_does, both_do, output_does}
use Rattle.mc_steps.specs.Statements.{Given, Nothing, Number, Structure, Flow, Completed, Broke, Continued, Left, Seek, Running, counted_does, effect_does, loop_does, do_does, label_does, item_runs, switch_does}
use Rattle.mc_steps.specs.Calls.{unset_does, store_does, store_structure_does}
use Rattle.mc_steps.specs.Points.{initializes}
use Rattle.mc_meaning.specs.Stores.{Path, on_places}
use Rattle.mc_meaning.specs.Within.{Does, Within, local}
use Rattle.mc_meaning.specs.Positions.{past, past_statement, into_statement, in_switch, past_start, past_test, past_step}
use Rattle.mc_meaning.specs.Decisions.{value, choose}
use Rattle.mc_meaning.specs.Expressions.{evaluate_place, evaluate, evaluate_structure, evaluate_call}

-- ---- effects (C17 6.5.16, 6.8.3)

-- The value of a call that is the whole of a statement or of a clause of `for` is not used.
abbrev pub effect : Effect → Within → Does (Unit {0})
effect (typed.Assign place a e span) w =
    assign_does on_places (evaluate_place place w)
    (value (evaluate e Plain (past Plain (nodes.place place) w)))
effect (typed.Update place a operator common e span) w =
    update_does on_places a operator common (evaluate_place place w)
    (value (evaluate e Plain (past Plain (nodes.place place) w)))
effect (typed.Copy place structure k span) w =
    copy_does on_places k (evaluate_place place w)
    (evaluate_structure structure (past Plain (nodes.place place) w))
effect (typed.NumberEffect (typed.Call k a) true) w = drop_does (evaluate_call k w)
effect (typed.NumberEffect e whole) w = drop_does (evaluate e Plain w)
effect (typed.StructureEffect (typed.Returned k) true) w = drop_does (evaluate_call k w)
effect (typed.StructureEffect structure whole) w = drop_does (evaluate_structure structure w)
effect (typed.CallEffect k) w = drop_does (evaluate_call k w)
effect (typed.Output e span) w = output_does (value (evaluate e Plain w))
effect (typed.ChoiceEffect e a b span) w =
    choice_does (value (evaluate e Controlling w))
    (effect a (past Controlling (nodes.expression e) w))
    (effect b (past Plain (nodes.effect a) (past Controlling (nodes.expression e) w)))
effect (typed.Discard a span) w = effect a w

abbrev pub effects : List Effect → Within → Does (Unit {0})
effects [] w = gives tt
effects (a ∷ rest) w = both_do (effect a w) (effects rest (past Plain (nodes.effect a) w))

-- ---- initializers (C17 6.7.9)

-- An item of a list is stored when it is evaluated, in the order of the text, which C17 6.7.9p23
-- leaves open.
abbrev mutual
  pub initialize : Initializer → Path → Within → Does (Unit {0})
  initialize (typed.NumberInitializer e) p w = store_does on_places p
      (value (evaluate e Plain w))
  initialize (typed.StructureInitializer structure k) p w =
      store_structure_does on_places p k (evaluate_structure structure w)
  initialize (typed.ListInitializer items k) p w = initialize_from items p 0 w
  -- the list `{0}`
  initialize (typed.ZeroInitializer e k) p w = changes (on_places.put p k (Some (pos 0)))

  -- the parts of an object, from part i on; where its list ends they become 0 (C17 6.7.9p21)
  pub initialize_from : Initializers → Path → ℕ → Within → Does (Unit {0})
  initialize_from typed.no_initializers p i w = changes (on_places.zero_rest p i 0 0)
  initialize_from (typed.initializers item rest) p i w =
      both_do (initialize item (on_places.part i 0 p) w)
      (initialize_from rest p (suc i) (past Plain (nodes.initializer item) w))

abbrev pub initialize_where : Option Initializer → Path → Within → Does (Unit {0})
initialize_where None p w = gives tt
initialize_where (Some i) p w = initialize i p w

abbrev pub declare : List Declarator → Within → Does (Unit {0})
declare [] w = gives tt
declare (d ∷ rest) w =
    both_do (unset_does on_places (local w d.slot) d.cells)
    (both_do (initialize_where d.value (local w d.slot) w)
    (declare rest (past Plain (nodes.initial d.value) w)))

-- ---- statements (C17 6.8)

-- a unit, the event, and then the statement
abbrev pub counted : Within → (Within → Does (Flow Path)) → Does (Flow Path)
counted w act = counted_does (lists (Started w.points.statements ∷ [])) (act (into_statement w))

abbrev pub where_initializes : Bool → Within → (Within → Does (Flow Path)) → Does (Flow Path)
where_initializes true w act = counted w act
where_initializes false w act = act w

abbrev pub start : ForStart → Within → Does (Unit {0})
start (typed.StartEffects clauses) w = effects clauses w
start (typed.StartDeclaration declarators) w = declare declarators w

-- a controlling expression that is absent counts as true (C17 6.8.5.3p2)
abbrev pub loop_test : Option Expression → Within → Does Bool
loop_test None w = gives true
loop_test (Some e) w = as_does is_true (value (evaluate e Controlling w))

abbrev pub returned : ReturnValue → Within → Does (Given Path)
returned typed.ReturnNothing w = gives Nothing
returned (typed.ReturnNumber e) w = as_does Number (value (evaluate e Plain w))
returned (typed.ReturnStructure structure k) w =
    as_does (λ p. Structure p k) (evaluate_structure structure w)

-- A `return` is an exit when its value is there.
abbrev pub leave : ReturnValue → Within → Does (Flow Path)
leave r w = do
  v ← returned r w
  _ ← lists (Exited w.points.exits ∷ [])
  gives (Left v)

abbrev mutual
  pub run : Statement → Within → Does (Flow Path)
  run (typed.Compound items span) w = run_from items Running w
  run (typed.Label v span) w = gives Completed
  run (typed.Declaration declarators span) w =
      where_initializes (initializes declarators) w (λ w. effect_does (declare declarators w))
  run (typed.Null span) w = counted w (λ w. gives Completed)
  run (typed.EffectStatement whole span) w = counted w (λ w. effect_does (effect whole w))
  run (typed.If e a keyword span) w =
      counted w (λ w. choice_does (value (evaluate e Controlling w))
      (run a (past Controlling (nodes.expression e) w)) (gives Completed))
  run (typed.IfElse e a b keyword span) w =
      counted w (λ w. choice_does (value (evaluate e Controlling w))
      (run a (past Controlling (nodes.expression e) w))
      (run b (past_statement a (past Controlling (nodes.expression e) w))))
  run (typed.Switch e items keyword span) w =
      counted w (λ w. switch_does (value (evaluate e Plain w)) (labels_of items)
      (λ seek. run_from items seek (in_switch items (past Plain (nodes.expression e) w)))
      (choose w.points.labels))
  run (typed.For first test step a keyword span) w =
      counted w (λ w. start first w >>= (λ _. loop_does (loop_test test (past_start first w))
      (run a (past_step step (past_test test (past_start first w))))
      (effects step (past_test test (past_start first w)))))
  run (typed.DoWhile a e keyword span) w =
      counted w (λ w. do_does (run a w)
      (as_does is_true (value (evaluate e Controlling (past_statement a w)))))
  run (typed.Break span) w = counted w (λ w. gives Broke)
  run (typed.Continue span) w = counted w (λ w. gives Continued)
  run (typed.Return r span) w = counted w (leave r)

  -- the items of a body, which run or are passed over up to a label
  pub run_from : Statements → Seek → Within → Does (Flow Path)
  run_from typed.no_statements seek w = gives Completed
  run_from (typed.statements (typed.Label v span) rest) seek w =
      label_does (choose w.points.labels) v seek
      (λ seek. run_from rest seek (past_statement (typed.Label v span) w))
  run_from (typed.statements item rest) seek w =
      item_runs (run item w) seek (λ seek. run_from rest seek (past_statement item w))
