-- What statements evaluate are the program's decisions.
use Rattle.std.proofs.Common.{ℕ, suc, Bool, true, false, List, [], ◌∷◌, ◌++◌, Option, Some, None}
use Rattle.mc_cond.specs.Tree.{Tree}
use Rattle.mc_typed.specs.Tree.{Expression, Effect, Initializer, Initializers, Declarator, ForStart, ReturnValue, Statement, Statements}
use Rattle.mc_typed.specs.Tree as t
use Rattle.mc_typed.specs.Sound.{labels_of}
use Rattle.decide_rules.specs.declared.role.Role.{Role}
use Rattle.decide_rules.specs.declared.role.Role.TheVariants.{Controlling, Plain}
use Rattle.decide_rules.specs.Nodes.{Node}
use Rattle.decide_rules.specs.Nodes as n
use Rattle.mc_steps.specs.Runs.{gives, lists, after}
use Rattle.mc_steps.specs.Statements.{Number, Structure, Flow, Completed, Broke, Continued, Left, Seek, Running, effect_does, switch_does, do_does, loop_does}
use Rattle.mc_steps.specs.Expressions.{both_do, as_does, choice_does, is_true}
use Rattle.mc_steps.specs.Calls.{unset_does}
use Rattle.mc_steps.specs.Points.{initializes}
use Rattle.mc_meaning.specs.Stores.{Path, on_places}
use Rattle.mc_steps.specs.Events.{Exited, Started}
use Rattle.mc_meaning.specs.Within.{Does, Within, local}
use Rattle.mc_meaning.specs.Positions.{past, past_statement, into_statement, past_start, past_test, past_step, in_switch}
use Rattle.mc_meaning.specs.Decisions.{value, choose}
use Rattle.mc_meaning.specs.Expressions.{evaluate_place, evaluate, evaluate_structure, evaluate_call}
use Rattle.mc_meaning.specs.Statements.{effect, effects, initialize, initialize_from, initialize_where, declare, counted, where_initializes, start, loop_test, returned, leave, run, run_from}
use Rattle.mc_meaning.proofs.Numbered.{trees, trees_in, StandsAt, stands_left}
use Rattle.mc_meaning.proofs.Evaluations.{IsFine, Fine, CallsAreFine, past_node, value_only, place_is_fine, value_is_fine, structure_is_fine, call_is_fine}
use Rattle.mc_meaning.proofs.Listed as l

module _ (all : List Tree) where
  first : (k : ℕ) (role : Role) (a : Node) (rest : List Tree) → StandsAt all k (trees role a ++ rest) → StandsAt all k (trees role a)
  first k role a rest h = stands_left all k (trees role a) rest h

  number : (e : Expression) (role : Role) (w : Within) → CallsAreFine all w → StandsAt all w.decisions (trees role (n.expression e)) → Fine all (value (evaluate e role w))
  number e role w c h = value_only all (evaluate e role w) (value_is_fine all e role w c h)

  -- ---- effects

  effect_is_fine : (x : Effect) (w : Within) → CallsAreFine all w → StandsAt all w.decisions (trees Plain (n.effect x)) → Fine all (effect x w)
  effect_is_fine (t.Assign place a e span) w c h =
      let v : Within = past Plain (n.place place) w in
      let rest : List Tree = trees Plain (n.expression e) ++ [] in
      l.assign_keeps (IsFine all) on_places (evaluate_place place w) (value (evaluate e Plain v))
      (place_is_fine all place w c (first w.decisions Plain (n.place place) rest h))
      (number e Plain v c (first v.decisions Plain (n.expression e) [] (past_node all w.decisions Plain (n.place place) rest h)))
  effect_is_fine (t.Update place a operator common e span) w c h =
      let v : Within = past Plain (n.place place) w in
      let rest : List Tree = trees Plain (n.expression e) ++ [] in
      l.update_keeps (IsFine all) on_places a operator common (evaluate_place place w) (value (evaluate e Plain v))
      (place_is_fine all place w c (first w.decisions Plain (n.place place) rest h))
      (number e Plain v c (first v.decisions Plain (n.expression e) [] (past_node all w.decisions Plain (n.place place) rest h)))
  effect_is_fine (t.Copy place structure k span) w c h =
      let v : Within = past Plain (n.place place) w in
      let rest : List Tree = trees Plain (n.structure structure) ++ [] in
      l.copy_keeps (IsFine all) on_places k (evaluate_place place w) (evaluate_structure structure v)
      (place_is_fine all place w c (first w.decisions Plain (n.place place) rest h))
      (structure_is_fine all structure v c (first v.decisions Plain (n.structure structure) [] (past_node all w.decisions Plain (n.place place) rest h)))
  effect_is_fine (t.NumberEffect (t.Call k a) true) w c h =
      l.drop_keeps (IsFine all) (evaluate_call k w) (call_is_fine all k w c h)
  effect_is_fine (t.NumberEffect e whole) w c h =
      l.drop_keeps (IsFine all) (evaluate e Plain w) (value_is_fine all e Plain w c h)
  effect_is_fine (t.StructureEffect (t.Returned k) true) w c h =
      l.drop_keeps (IsFine all) (evaluate_call k w) (call_is_fine all k w c h)
  effect_is_fine (t.StructureEffect structure whole) w c h =
      l.drop_keeps (IsFine all) (evaluate_structure structure w) (structure_is_fine all structure w c h)
  effect_is_fine (t.CallEffect k) w c h =
      l.drop_keeps (IsFine all) (evaluate_call k w) (call_is_fine all k w c h)
  effect_is_fine (t.Output e span) w c h =
      l.output_keeps (IsFine all) (value (evaluate e Plain w)) (number e Plain w c (first w.decisions Plain (n.expression e) [] h))
  effect_is_fine (t.ChoiceEffect e a b span) w c h =
      let v : Within = past Controlling (n.expression e) w in
      let u : Within = past Plain (n.effect a) v in
      let last : List Tree = trees Plain (n.effect b) ++ [] in
      let rest : List Tree = trees Plain (n.effect a) ++ last in
      let later = past_node all w.decisions Controlling (n.expression e) rest h in
      l.choice_keeps (IsFine all) (value (evaluate e Controlling w)) (effect a v) (effect b u)
      (number e Controlling w c (first w.decisions Controlling (n.expression e) rest h))
      (effect_is_fine a v c (first v.decisions Plain (n.effect a) last later))
      (effect_is_fine b u c (first u.decisions Plain (n.effect b) [] (past_node all v.decisions Plain (n.effect a) last later)))
  effect_is_fine (t.Discard a span) w c h = effect_is_fine a w c (first w.decisions Plain (n.effect a) [] h)

  effects_are_fine : (xs : List Effect) (w : Within) → CallsAreFine all w → StandsAt all w.decisions (trees_in (n.effects xs)) → Fine all (effects xs w)
  effects_are_fine [] w c h = λ s. tt
  effects_are_fine (a ∷ rest) w c h =
      let v : Within = past Plain (n.effect a) w in
      l.both_keep (IsFine all) (effect a w) (effects rest v)
      (effect_is_fine a w c (first w.decisions Plain (n.effect a) (trees_in (n.effects rest)) h))
      (effects_are_fine rest v c (past_node all w.decisions Plain (n.effect a) (trees_in (n.effects rest)) h))

  -- ---- initializers

  mutual
    initialize_is_fine : (i : Initializer) (p : Path) (w : Within) → CallsAreFine all w → StandsAt all w.decisions (trees Plain (n.initializer i)) → Fine all (initialize i p w)
    initialize_is_fine (t.NumberInitializer e) p w c h =
        l.store_keeps (IsFine all) on_places p (value (evaluate e Plain w)) (number e Plain w c h)
    initialize_is_fine (t.StructureInitializer structure k) p w c h =
        l.store_structure_keeps (IsFine all) on_places p k (evaluate_structure structure w) (structure_is_fine all structure w c h)
    initialize_is_fine (t.ListInitializer items k) p w c h = λ s. items_are_fine items p 0 w c h s
    initialize_is_fine (t.ZeroInitializer e k) p w c h = λ s. tt

    items_are_fine : (items : Initializers) (p : Path) (i : ℕ) (w : Within) → CallsAreFine all w → StandsAt all w.decisions (trees_in (n.initializers items)) → Fine all (initialize_from items p i w)
    items_are_fine t.no_initializers p i w c h = λ s. tt
    items_are_fine (t.initializers item rest) p i w c h =
        let v : Within = past Plain (n.initializer item) w in
        l.both_keep (IsFine all) (initialize item (on_places.part i 0 p) w)
        (initialize_from rest p (suc i) v)
        (initialize_is_fine item (on_places.part i 0 p) w c (first w.decisions Plain (n.initializer item) (trees_in (n.initializers rest)) h))
        (items_are_fine rest p (suc i) v c (past_node all w.decisions Plain (n.initializer item) (trees_in (n.initializers rest)) h))

  initial_is_fine : (o : Option Initializer) (p : Path) (w : Within) → CallsAreFine all w → StandsAt all w.decisions (trees Plain (n.initial o)) → Fine all (initialize_where o p w)
  initial_is_fine None p w c h = λ s. tt
  initial_is_fine (Some i) p w c h = initialize_is_fine i p w c h

  declare_is_fine : (ds : List Declarator) (w : Within) → CallsAreFine all w → StandsAt all w.decisions (trees_in (n.declarators ds)) → Fine all (declare ds w)
  declare_is_fine [] w c h = λ s. tt
  declare_is_fine (d ∷ rest) w c h =
      let v : Within = past Plain (n.initial d.value) w in
      let unset : Does (Unit {0}) = unset_does on_places (local w d.slot) d.cells in
      let initial : Does (Unit {0}) = initialize_where d.value (local w d.slot) w in
      l.both_keep (IsFine all) unset (both_do initial (declare rest v)) (λ s. tt)
      (l.both_keep (IsFine all) initial (declare rest v)
      (initial_is_fine d.value (local w d.slot) w c (first w.decisions Plain (n.initial d.value) (trees_in (n.declarators rest)) h))
      (declare_is_fine rest v c (past_node all w.decisions Plain (n.initial d.value) (trees_in (n.declarators rest)) h)))

  -- ---- statements

  counted_is_fine : (w : Within) (act : Within → Does (Flow Path)) → Fine all (act (into_statement w)) → Fine all (counted w act)
  counted_is_fine w act k =
      l.counted_keeps (IsFine all) (lists (Started w.points.statements ∷ [])) (act (into_statement w)) (λ s. (tt, tt)) k

  initializes_is_fine : (b : Bool) (w : Within) (act : Within → Does (Flow Path)) → Fine all (act (into_statement w)) → Fine all (act w) → Fine all (where_initializes b w act)
  initializes_is_fine true w act k j = counted_is_fine w act k
  initializes_is_fine false w act k j = j

  choose_is_fine : (label : ℕ) (b : Bool) → Fine all (choose label b)
  choose_is_fine label true = λ s. (tt, tt)
  choose_is_fine label false = λ s. tt

  start_is_fine : (x : ForStart) (w : Within) → CallsAreFine all w → StandsAt all w.decisions (trees Plain (n.start x)) → Fine all (start x w)
  start_is_fine (t.StartEffects clauses) w c h = effects_are_fine clauses w c h
  start_is_fine (t.StartDeclaration declarators) w c h = declare_is_fine declarators w c h

  test_is_fine : (o : Option Expression) (w : Within) → CallsAreFine all w → StandsAt all w.decisions (trees Plain (n.optional_test o)) → Fine all (loop_test o w)
  test_is_fine None w c h = λ s. tt
  test_is_fine (Some e) w c h =
      l.as_keeps (IsFine all) is_true (value (evaluate e Controlling w)) (number e Controlling w c (first w.decisions Controlling (n.expression e) [] h))

  returned_is_fine : (r : ReturnValue) (w : Within) → CallsAreFine all w → StandsAt all w.decisions (trees Plain (n.return_value r)) → Fine all (returned r w)
  returned_is_fine t.ReturnNothing w c h = λ s. tt
  returned_is_fine (t.ReturnNumber e) w c h = λ s.
      l.after_keeps (IsFine all) (value (evaluate e Plain w) s) (λ v s. gives (Number v) s) (number e Plain w c h s) (λ v s. tt)
  returned_is_fine (t.ReturnStructure structure k) w c h = λ s.
      l.after_keeps (IsFine all) (evaluate_structure structure w s) (λ p s. gives (Structure p k) s) (structure_is_fine all structure w c h s) (λ v s. tt)

  leave_is_fine : (r : ReturnValue) (w : Within) → CallsAreFine all w → StandsAt all w.decisions (trees Plain (n.return_value r)) → Fine all (leave r w)
  leave_is_fine r w c h s =
      l.after_keeps (IsFine all) (returned r w s)
      (λ v s. after (lists (Exited w.points.exits ∷ []) s) (λ u s. gives (Left v) s)) (returned_is_fine r w c h s) (λ v s. (tt, tt))

  mutual
    run_is_fine : (x : Statement) (w : Within) → CallsAreFine all w → StandsAt all w.decisions (trees Plain (n.statement x)) → Fine all (run x w)
    run_is_fine (t.Compound items span) w c h = λ s. run_from_is_fine items Running w c h s
    run_is_fine (t.Label v span) w c h = λ s. tt
    run_is_fine (t.Declaration declarators span) w c h =
        initializes_is_fine (initializes declarators) w (λ w. effect_does (declare declarators w))
        (l.effect_keeps (IsFine all) Path (declare declarators (into_statement w)) (declare_is_fine declarators (into_statement w) c h))
        (l.effect_keeps (IsFine all) Path (declare declarators w) (declare_is_fine declarators w c h))
    run_is_fine (t.Null span) w c h = counted_is_fine w (λ w. gives Completed) (λ s. tt)
    run_is_fine (t.EffectStatement whole span) w c h =
        counted_is_fine w (λ w. effect_does (effect whole w))
        (l.effect_keeps (IsFine all) Path (effect whole (into_statement w))
        (effect_is_fine whole (into_statement w) c (first w.decisions Plain (n.effect whole) [] h)))
    run_is_fine (t.If e a keyword span) w c h =
        let x : Within = into_statement w in
        let v : Within = past Controlling (n.expression e) x in
        let rest : List Tree = trees Plain (n.statement a) ++ [] in
        counted_is_fine w
        (λ w. choice_does (value (evaluate e Controlling w)) (run a (past Controlling (n.expression e) w)) (gives Completed))
        (l.choice_keeps (IsFine all) (value (evaluate e Controlling x)) (run a v) (gives Completed)
        (number e Controlling x c (first w.decisions Controlling (n.expression e) rest h))
        (run_is_fine a v c (first v.decisions Plain (n.statement a) [] (past_node all w.decisions Controlling (n.expression e) rest h)))
        (λ s. tt))
    run_is_fine (t.IfElse e a b keyword span) w c h =
        let x : Within = into_statement w in
        let v : Within = past Controlling (n.expression e) x in
        let u : Within = past_statement a v in
        let last : List Tree = trees Plain (n.statement b) ++ [] in
        let rest : List Tree = trees Plain (n.statement a) ++ last in
        let later = past_node all w.decisions Controlling (n.expression e) rest h in
        counted_is_fine w
        (λ w. choice_does (value (evaluate e Controlling w)) (run a (past Controlling (n.expression e) w)) (run b (past_statement a (past Controlling (n.expression e) w))))
        (l.choice_keeps (IsFine all) (value (evaluate e Controlling x)) (run a v) (run b u)
        (number e Controlling x c (first w.decisions Controlling (n.expression e) rest h))
        (run_is_fine a v c (first v.decisions Plain (n.statement a) last later))
        (run_is_fine b u c (first u.decisions Plain (n.statement b) [] (past_node all v.decisions Plain (n.statement a) last later))))
    run_is_fine (t.Switch e items keyword span) w c h =
        let x : Within = into_statement w in
        let v : Within = in_switch items (past Plain (n.expression e) x) in
        let rest : List Tree = trees_in (n.statements items) ++ [] in
        let later = past_node all w.decisions Plain (n.expression e) rest h in
        counted_is_fine w
        (λ w. switch_does (value (evaluate e Plain w)) (labels_of items) (λ seek. run_from items seek (in_switch items (past Plain (n.expression e) w))) (choose w.points.labels))
        (l.switch_keeps (IsFine all) (value (evaluate e Plain x)) (labels_of items) (λ seek. run_from items seek v) (choose x.points.labels)
        (number e Plain x c (first w.decisions Plain (n.expression e) rest h))
        (λ seek. run_from_is_fine items seek v c (stands_left all v.decisions (trees_in (n.statements items)) [] later))
        (choose_is_fine x.points.labels))
    run_is_fine (t.For begin test step a keyword span) w c h =
        let x : Within = into_statement w in
        let v : Within = past_start begin x in
        let u : Within = past_test test v in
        let y : Within = past_step step u in
        let last : List Tree = trees Plain (n.statement a) ++ [] in
        let middle : List Tree = trees_in (n.effects step) ++ last in
        let rest : List Tree = trees Plain (n.optional_test test) ++ middle in
        let after_start = past_node all w.decisions Plain (n.start begin) rest h in
        let after_test = past_node all v.decisions Plain (n.optional_test test) middle after_start in
        let after_step = past_node all u.decisions Plain (n.Whole (n.effects step)) last after_test in
        counted_is_fine w
        (λ w s. after (start begin w s) (λ nothing. loop_does (loop_test test (past_start begin w)) (run a (past_step step (past_test test (past_start begin w)))) (effects step (past_test test (past_start begin w)))))
        (λ s. l.after_keeps (IsFine all) (start begin x s) (λ nothing. loop_does (loop_test test v) (run a y) (effects step u))
        (start_is_fine begin x c (first w.decisions Plain (n.start begin) rest h) s)
        (λ nothing. l.loop_keeps (IsFine all) (loop_test test v) (run a y) (effects step u)
        (test_is_fine test v c (first v.decisions Plain (n.optional_test test) middle after_start))
        (run_is_fine a y c (first y.decisions Plain (n.statement a) [] after_step))
        (effects_are_fine step u c (stands_left all u.decisions (trees_in (n.effects step)) last after_test))))
    run_is_fine (t.DoWhile a e keyword span) w c h =
        let x : Within = into_statement w in
        let v : Within = past_statement a x in
        let rest : List Tree = trees Controlling (n.expression e) ++ [] in
        counted_is_fine w
        (λ w. do_does (run a w) (as_does is_true (value (evaluate e Controlling (past_statement a w)))))
        (l.do_keeps (IsFine all) (run a x) (as_does is_true (value (evaluate e Controlling v)))
        (run_is_fine a x c (first w.decisions Plain (n.statement a) rest h))
        (l.as_keeps (IsFine all) is_true (value (evaluate e Controlling v))
        (number e Controlling v c (first v.decisions Controlling (n.expression e) [] (past_node all w.decisions Plain (n.statement a) rest h)))))
    run_is_fine (t.Break span) w c h = counted_is_fine w (λ w. gives Broke) (λ s. tt)
    run_is_fine (t.Continue span) w c h = counted_is_fine w (λ w. gives Continued) (λ s. tt)
    run_is_fine (t.Return r span) w c h =
        counted_is_fine w (leave r) (leave_is_fine r (into_statement w) c (first w.decisions Plain (n.return_value r) [] h))

    pub run_from_is_fine : (items : Statements) (seek : Seek) (w : Within) → CallsAreFine all w → StandsAt all w.decisions (trees_in (n.statements items)) → Fine all (run_from items seek w)
    run_from_is_fine t.no_statements seek w c h = λ s. tt
    run_from_is_fine (t.statements (t.Label v span) rest) seek w c h =
        l.label_keeps (IsFine all) (choose w.points.labels) v seek (λ seek. run_from rest seek (past_statement (t.Label v span) w))
        (choose_is_fine w.points.labels)
        (λ seek. run_from_is_fine rest seek (past_statement (t.Label v span) w) c
        (past_node all w.decisions Plain (n.statement (t.Label v span)) (trees_in (n.statements rest)) h))
    run_from_is_fine (t.statements item rest) seek w c h =
        l.item_runs_keeps (IsFine all) (run item w) seek (λ seek. run_from rest seek (past_statement item w))
        (run_is_fine item w c (first w.decisions Plain (n.statement item) (trees_in (n.statements rest)) h))
        (λ seek. run_from_is_fine rest seek (past_statement item w) c
        (past_node all w.decisions Plain (n.statement item) (trees_in (n.statements rest)) h))
