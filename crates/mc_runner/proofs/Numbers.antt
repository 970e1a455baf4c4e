-- What expressions, effects and initializers list is listed by the calls in them, but for
-- evaluations.
use Rattle.std.proofs.Common.{ℕ, suc, ℤ, Bool, true, false, List, [], ◌∷◌, Option, Some, None}
use Rattle.std.specs.Prelude.{slice_get}
use Rattle.mc_cond.specs.Vectors.{Evaluation}
use Rattle.mc_typed.specs.Tree.{Place, Expression, StructureValue, FunctionCall, Argument, Arguments, Effect, Initializer, Initializers, Declarator, ForStart, ReturnValue}
use Rattle.mc_typed.specs.Tree as t
use Rattle.decide_rules.specs.declared.operators.FullOperator.{FullOperator}
use Rattle.decide_rules.specs.declared.operators.Junction.TheVariants.{Short}
use Rattle.decide_rules.specs.declared.role.Role.{Role}
use Rattle.decide_rules.specs.declared.role.Role.TheVariants.{Controlling, Plain}
use Rattle.decide_rules.specs.Nodes as n
use Rattle.decide_rules.specs.Roots.{is_root, operand_role}
use Rattle.mc_steps.specs.Events.{Event, Evaluated}
use Rattle.mc_steps.specs.Runs.{State, gives, after}
use Rattle.mc_steps.specs.Statements.{Number, Structure}
use Rattle.mc_steps.specs.Expressions.{is_true, unary_does, binary_does, logic_does, choice_does, as_does, input_does, read_does, both_do}
use Rattle.mc_steps.specs.Calls.{Passed, PassedNumber, PassedArray, number_given, structure_given, unset_does}
use Rattle.mc_meaning.specs.Stores.{Path, Store, on_places}
use Rattle.mc_meaning.specs.Within.{Does, Within, local, target}
use Rattle.mc_meaning.specs.Positions.{past, into}
use Rattle.mc_meaning.specs.Decisions.{Judged, value, as_condition, negated, holds, first_alone, both, in_full, full_does, where_full, tells, vector_of, where_root}
use Rattle.mc_meaning.specs.Expressions.{evaluate_place, evaluate, evaluate_structure, evaluate_call, evaluate_argument, evaluate_arguments}
use Rattle.mc_meaning.specs.Statements.{effect, effects, initialize, initialize_from, initialize_where, declare, start, loop_test, returned}
use Rattle.mc_meaning.proofs.Listed as l
use Rattle.mc_value.specs.Conversions.{converted}

module _ (P : Event → Type 0) (evaluated : (d : ℕ) (v : Evaluation) → P (Evaluated d v)) where
  abbrev pub Keeps : {A : Type 0} → Does A → Type 0
  Keeps act = (s : State Store) → l.Each P (act s).events

  abbrev pub CallsKeep : Within → Type 0
  CallsKeep w = (f : ℕ) (into : Option Path) (passed : List (Passed Path)) → Keeps (w.call f into passed)

  -- ---- roots

  root_in : (b : Bool) (d : ℕ) (e : Does Judged) → Keeps e → Keeps (where_root b d e)
  root_in true d e k s = l.after_keeps P (e s) (tells d) (k s) (λ j s. (evaluated d (vector_of j), tt))
  root_in false d e k s = k s

  condition_in : (b : Bool) (d : ℕ) (e : Does ℤ) → Keeps e → Keeps (where_root b d (as_does as_condition e))
  condition_in b d e k = root_in b d (as_does as_condition e) (l.as_keeps P as_condition e k)

  full_in : (o : FullOperator) (e f : Does Judged) → Keeps e → Keeps f → Keeps (full_does o e f)
  full_in o e f k m s = l.after_keeps P (e s) _ (k s) (λ j s. l.as_keeps P (in_full o j) f m s)

  -- an operator that evaluates both operands is a full one, or one condition
  both_in : (which : Option FullOperator) (b : Bool) (d : ℕ) (act : FullOperator → Does Judged) (other : Does ℤ) → ((o : FullOperator) → Keeps (act o)) → Keeps other → Keeps (where_full which (λ o. where_root b d (act o)) (where_root b d (as_does as_condition other)))
  both_in (Some o) b d act other k m = root_in b d (act o) (k o)
  both_in None b d act other k m = condition_in b d other m

  only : (e : Does Judged) → Keeps e → Keeps (value e)
  only e k = l.as_keeps P (λ j. j.value) e k

  -- ---- expressions

  mutual
    pub place_in : (p : Place) (w : Within) → CallsKeep w → Keeps (evaluate_place p w)
    place_in (t.Local slot span) w c = λ s. tt
    place_in (t.Static slot span) w c = λ s. tt
    place_in (t.Parameter array stride index span) w c =
        l.lent_item_keeps P on_places (slice_get w.arrays array) stride (value (evaluate index Plain w)) (only (evaluate index Plain w) (value_in index Plain w c))
    place_in (t.Item array k stride index span) w c =
        let v : Within = past Plain (n.place array) w in
        l.item_keeps P on_places k stride (evaluate_place array w) (value (evaluate index Plain v)) (place_in array w c) (only (evaluate index Plain v) (value_in index Plain v c))
    place_in (t.Member structure i offset span) w c =
        l.as_keeps P (on_places.part i offset) (evaluate_place structure w) (place_in structure w c)

    pub value_in : (e : Expression) (role : Role) (w : Within) → CallsKeep w → Keeps (evaluate e role w)
    value_in (t.Constant v a span) role w c =
        condition_in (is_root role (n.Constant span)) w.decisions (gives v) (λ s. tt)
    value_in (t.Read place a) role w c =
        let v : Within = into role (t.Read place a) w in
        condition_in (is_root role (n.expression (t.Read place a))) w.decisions (read_does on_places (evaluate_place place v))
        (l.read_keeps P on_places (evaluate_place place v) (place_in place v c))
    value_in (t.Unary operator a e span) role w c =
        let v : Within = into role (t.Unary operator a e span) w in
        condition_in (is_root role (n.expression (t.Unary operator a e span))) w.decisions (unary_does operator a (value (evaluate e Plain v)))
        (l.unary_keeps P operator a (value (evaluate e Plain v)) (only (evaluate e Plain v) (value_in e Plain v c)))
    value_in (t.Convert a written e span) role w c =
        let v : Within = into role (t.Convert a written e span) w in
        condition_in (is_root role (n.expression (t.Convert a written e span))) w.decisions (as_does (converted a) (value (evaluate e Plain v)))
        (l.as_keeps P (converted a) (value (evaluate e Plain v)) (only (evaluate e Plain v) (value_in e Plain v c)))
    value_in (t.Not e span) role w c =
        let a : n.Node = n.Not (n.expression e) span in
        let r : Role = operand_role role a in
        let v : Within = into role (t.Not e span) w in
        root_in (is_root role a) w.decisions (as_does negated (evaluate e r v)) (l.as_keeps P negated (evaluate e r v) (value_in e r v c))
    value_in (t.Binary operator a e f span) role w c =
        let x : n.Node = n.expression (t.Binary operator a e f span) in
        let r : Role = operand_role role x in
        let v : Within = into role (t.Binary operator a e f span) w in
        let u : Within = past Plain (n.expression e) v in
        let y : Within = past r (n.expression e) v in
        both_in (n.full_operator operator e f) (is_root role x) w.decisions
        (λ o. full_does o (evaluate e r v) (evaluate f r y))
        (binary_does operator a (value (evaluate e Plain v)) (value (evaluate f Plain u)))
        (λ o. full_in o (evaluate e r v) (evaluate f r y) (value_in e r v c) (value_in f r y c))
        (l.binary_keeps P operator a (value (evaluate e Plain v)) (value (evaluate f Plain u)) (only (evaluate e Plain v) (value_in e Plain v c)) (only (evaluate f Plain u) (value_in f Plain u c)))
    value_in (t.Logic operator e f span) role w c =
        let a : n.Node = n.Logic (Short operator) (n.expression e) (n.expression f) span in
        let r : Role = operand_role role a in
        let v : Within = into role (t.Logic operator e f span) w in
        let u : Within = past r (n.expression e) v in
        root_in (is_root role a) w.decisions (logic_does operator holds (first_alone f) both (evaluate e r v) (evaluate f r u))
        (l.logic_keeps P operator holds (first_alone f) both (evaluate e r v) (evaluate f r u) (value_in e r v c) (value_in f r u c))
    value_in (t.Choice e f g a span) role w c =
        let v : Within = into role (t.Choice e f g a span) w in
        let u : Within = past Controlling (n.expression e) v in
        let x : Within = past Plain (n.expression f) u in
        condition_in (is_root role (n.expression (t.Choice e f g a span))) w.decisions
        (choice_does (value (evaluate e Controlling v)) (value (evaluate f Plain u)) (value (evaluate g Plain x)))
        (l.choice_keeps P (value (evaluate e Controlling v)) (value (evaluate f Plain u)) (value (evaluate g Plain x))
        (only (evaluate e Controlling v) (value_in e Controlling v c)) (only (evaluate f Plain u) (value_in f Plain u c)) (only (evaluate g Plain x) (value_in g Plain x c)))
    value_in (t.Call k a) role w c =
        let v : Within = into role (t.Call k a) w in
        condition_in (is_root role (n.expression (t.Call k a))) w.decisions (λ s. after (evaluate_call k v s) number_given)
        (λ s. l.after_keeps P (evaluate_call k v s) number_given (call_in k v c s) (l.number_given_keeps P))
    value_in (t.Input span) role w c =
        condition_in (is_root role (n.expression (t.Input span))) w.decisions input_does (l.input_keeps P)

    pub structure_in : (x : StructureValue) (w : Within) → CallsKeep w → Keeps (evaluate_structure x w)
    structure_in (t.Stored place) w c = λ s. place_in place w c s
    structure_in (t.Returned k) w c = λ s. l.after_keeps P (evaluate_call k w s) structure_given (call_in k w c s) (l.structure_given_keeps P)

    pub call_in : (k : FunctionCall) (w : Within) → CallsKeep w → Keeps (evaluate_call k w)
    call_in (t.call f given result span) w c = λ s. l.after_keeps P (evaluate_arguments given w s) _ (arguments_in given w c s) (λ passed s. c f _ passed s)

    argument_in : (x : Argument) (w : Within) → CallsKeep w → Keeps (evaluate_argument x w)
    argument_in (t.NumberArgument e) w c = l.as_keeps P PassedNumber (value (evaluate e Plain w)) (only (evaluate e Plain w) (value_in e Plain w c))
    argument_in (t.StructureArgument structure copy) w c =
        l.structure_argument_keeps P on_places (target w copy) (evaluate_structure structure w) (structure_in structure w c)
    argument_in (t.ArrayArgument place k) w c = l.as_keeps P (λ (p : Path). PassedArray (record { place = p; length = k })) (evaluate_place place w) (place_in place w c)
    argument_in (t.AgainArgument array span) w c = l.again_argument_keeps P (slice_get w.arrays array)

    arguments_in : (xs : Arguments) (w : Within) → CallsKeep w → Keeps (evaluate_arguments xs w)
    arguments_in t.no_arguments w c = λ s. tt
    arguments_in (t.arguments a rest) w c =
        let v : Within = past Plain (n.argument a) w in
        l.arguments_keep P (evaluate_argument a w) (evaluate_arguments rest v) (argument_in a w c) (arguments_in rest v c)

  pub number_in : (e : Expression) (role : Role) (w : Within) → CallsKeep w → Keeps (value (evaluate e role w))
  number_in e role w c = only (evaluate e role w) (value_in e role w c)

  -- ---- effects

  pub effect_in : (x : Effect) (w : Within) → CallsKeep w → Keeps (effect x w)
  effect_in (t.Assign place a e span) w c =
      let v : Within = past Plain (n.place place) w in
      l.assign_keeps P on_places (evaluate_place place w) (value (evaluate e Plain v)) (place_in place w c) (number_in e Plain v c)
  effect_in (t.Update place a operator common e span) w c =
      let v : Within = past Plain (n.place place) w in
      l.update_keeps P on_places a operator common (evaluate_place place w) (value (evaluate e Plain v)) (place_in place w c) (number_in e Plain v c)
  effect_in (t.Copy place structure k span) w c =
      let v : Within = past Plain (n.place place) w in
      l.copy_keeps P on_places k (evaluate_place place w) (evaluate_structure structure v) (place_in place w c) (structure_in structure v c)
  effect_in (t.NumberEffect (t.Call k a) true) w c = l.drop_keeps P (evaluate_call k w) (call_in k w c)
  effect_in (t.NumberEffect e whole) w c = l.drop_keeps P (evaluate e Plain w) (value_in e Plain w c)
  effect_in (t.StructureEffect (t.Returned k) true) w c = l.drop_keeps P (evaluate_call k w) (call_in k w c)
  effect_in (t.StructureEffect structure whole) w c = l.drop_keeps P (evaluate_structure structure w) (structure_in structure w c)
  effect_in (t.CallEffect k) w c = l.drop_keeps P (evaluate_call k w) (call_in k w c)
  effect_in (t.Output e span) w c = l.output_keeps P (value (evaluate e Plain w)) (number_in e Plain w c)
  effect_in (t.ChoiceEffect e a b span) w c =
      let v : Within = past Controlling (n.expression e) w in
      let u : Within = past Plain (n.effect a) v in
      l.choice_keeps P (value (evaluate e Controlling w)) (effect a v) (effect b u) (number_in e Controlling w c) (effect_in a v c) (effect_in b u c)
  effect_in (t.Discard a span) w c = effect_in a w c

  pub effects_in : (xs : List Effect) (w : Within) → CallsKeep w → Keeps (effects xs w)
  effects_in [] w c = λ s. tt
  effects_in (a ∷ rest) w c =
      let v : Within = past Plain (n.effect a) w in
      l.both_keep P (effect a w) (effects rest v) (effect_in a w c) (effects_in rest v c)

  -- ---- initializers

  mutual
    initialize_in : (i : Initializer) (p : Path) (w : Within) → CallsKeep w → Keeps (initialize i p w)
    initialize_in (t.NumberInitializer e) p w c = l.store_keeps P on_places p (value (evaluate e Plain w)) (number_in e Plain w c)
    initialize_in (t.StructureInitializer structure k) p w c = l.store_structure_keeps P on_places p k (evaluate_structure structure w) (structure_in structure w c)
    initialize_in (t.ListInitializer items k) p w c = λ s. items_in items p 0 w c s
    initialize_in (t.ZeroInitializer e k) p w c = λ s. tt

    items_in : (items : Initializers) (p : Path) (i : ℕ) (w : Within) → CallsKeep w → Keeps (initialize_from items p i w)
    items_in t.no_initializers p i w c = λ s. tt
    items_in (t.initializers item rest) p i w c =
        let v : Within = past Plain (n.initializer item) w in
        l.both_keep P (initialize item (on_places.part i 0 p) w) (initialize_from rest p (suc i) v)
        (initialize_in item (on_places.part i 0 p) w c) (items_in rest p (suc i) v c)

  initial_in : (o : Option Initializer) (p : Path) (w : Within) → CallsKeep w → Keeps (initialize_where o p w)
  initial_in None p w c = λ s. tt
  initial_in (Some i) p w c = initialize_in i p w c

  pub declare_in : (ds : List Declarator) (w : Within) → CallsKeep w → Keeps (declare ds w)
  declare_in [] w c = λ s. tt
  declare_in (d ∷ rest) w c =
      let v : Within = past Plain (n.initial d.value) w in
      let unset : Does (Unit {0}) = unset_does on_places (local w d.slot) d.cells in
      let initial : Does (Unit {0}) = initialize_where d.value (local w d.slot) w in
      l.both_keep P unset (both_do initial (declare rest v)) (λ s. tt)
      (l.both_keep P initial (declare rest v) (initial_in d.value (local w d.slot) w c) (declare_in rest v c))

  -- ---- parts of statements

  pub start_in : (x : ForStart) (w : Within) → CallsKeep w → Keeps (start x w)
  start_in (t.StartEffects clauses) w c = effects_in clauses w c
  start_in (t.StartDeclaration declarators) w c = declare_in declarators w c

  pub test_in : (o : Option Expression) (w : Within) → CallsKeep w → Keeps (loop_test o w)
  test_in None w c = λ s. tt
  test_in (Some e) w c = l.as_keeps P is_true (value (evaluate e Controlling w)) (number_in e Controlling w c)

  pub returned_in : (r : ReturnValue) (w : Within) → CallsKeep w → Keeps (returned r w)
  returned_in t.ReturnNothing w c = λ s. tt
  returned_in (t.ReturnNumber e) w c = λ s.
      l.after_keeps P (value (evaluate e Plain w) s) (λ v s. gives (Number v) s) (number_in e Plain w c s) (λ v s. tt)
  returned_in (t.ReturnStructure structure k) w c = λ s.
      l.after_keeps P (evaluate_structure structure w s) (λ p s. gives (Structure p k) s) (structure_in structure w c s) (λ v s. tt)
