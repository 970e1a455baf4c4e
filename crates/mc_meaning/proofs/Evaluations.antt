-- What a run evaluates are the program's decisions.
use Rattle.std.proofs.Common.{◌≡◌, refl, subst, ℕ, ◌+◌, ℤ, Bool, true, false, List, [], ◌∷◌, ◌++◌, Option, Some, None}
use Rattle.std.specs.Prelude.{slice_get}
use Rattle.mc_cond.specs.Tree.{Tree, Leaf}
use Rattle.mc_cond.specs.Vectors.{IsVector}
use Rattle.mc_span.specs.declared.span.Span.{Span}
use Rattle.mc_typed.specs.declared.operators.Operator.{Operator}
use Rattle.mc_typed.specs.Tree.{Place, Expression, StructureValue, FunctionCall, Argument, Arguments, Effect, Initializer, Initializers, Declarator, ForStart, ReturnValue, Statement, Statements, Function, Program}
use Rattle.mc_typed.specs.Tree as t
use Rattle.decide_rules.specs.declared.operators.FullOperator.{FullOperator}
use Rattle.decide_rules.specs.declared.operators.Junction.TheVariants.{Short, Full}
use Rattle.decide_rules.specs.declared.role.Role.{Role}
use Rattle.decide_rules.specs.declared.role.Role.TheVariants.{Controlling, Plain}
use Rattle.decide_rules.specs.Nodes.{Node, Parts}
use Rattle.decide_rules.specs.Nodes as n
use Rattle.decide_rules.specs.Roots.{is_root, operand_role}
use Rattle.decide_rules.specs.Conditions.{tree_from}
use Rattle.mc_steps.specs.Runs.{State, Out, Gave, Stopped, gives, after, go_on}
use Rattle.mc_steps.specs.Expressions.{unary_does, binary_does, logic_does, choice_does, as_does, input_does, read_does}
use Rattle.mc_steps.specs.Calls.{Passed, PassedNumber, PassedArray, number_given, structure_given}
use Rattle.mc_meaning.specs.Stores.{Path, Store, on_places}
use Rattle.mc_steps.specs.Events.{Event, Entered, Exited, Started, Chosen, Evaluated}
use Rattle.decide_rules.specs.Counts.{one_where, roots}
use Rattle.mc_meaning.specs.Within.{Does, Within, target}
use Rattle.mc_meaning.specs.Positions.{past, into}
use Rattle.mc_meaning.specs.Decisions.{Judged, value, as_condition, negated, holds, first_alone, both, in_full, full_does, where_full, tells, where_root, condition}
use Rattle.mc_meaning.specs.Expressions.{evaluate_place, evaluate, evaluate_structure, evaluate_call, evaluate_argument, evaluate_arguments}
use Rattle.mc_meaning.proofs.Runs.{IsGiven, Gives}
use Rattle.mc_meaning.proofs.Vectors.{IsOf, condition_is, not_gives, logic_gives, full_gives, value_is}
use Rattle.mc_meaning.proofs.Numbered.{own, trees, trees_in, trees_length, own_length, StandsAt, stands_left, stands_right}
use Rattle.mc_meaning.proofs.Listed as l
use Rattle.mc_value.specs.Conversions.{converted}

-- ---- events

-- `all` has the trees of the program's decisions
module _ (all : List Tree) where
  abbrev pub IsFine : Event → Type 0
  IsFine (Evaluated d v) = (x : Tree) × (slice_get all d ≡ Some x) × IsVector x v
  IsFine (Entered f) = Unit {0}
  IsFine (Exited x) = Unit {0}
  IsFine (Started x) = Unit {0}
  IsFine (Chosen x) = Unit {0}

  abbrev pub Fine : {A : Type 0} → Does A → Type 0
  Fine act = (s : State Store) → l.Each IsFine (act s).events

  abbrev pub CallsAreFine : Within → Type 0
  CallsAreFine w = (f : ℕ) (into : Option Path) (passed : List (Passed Path)) → Fine (w.call f into passed)

  -- ---- where trees stand

  past_own : (k : ℕ) (b : Bool) (a : Node) (rest : List Tree) → StandsAt all k (own b a ++ rest) → StandsAt all (k + one_where b) rest
  past_own k b a rest h =
      subst (λ (m : ℕ). StandsAt all (k + m) rest) (own_length b a) (stands_right all k (own b a) rest h)

  pub past_node : (k : ℕ) (role : Role) (a : Node) (rest : List Tree) → StandsAt all k (trees role a ++ rest) → StandsAt all (k + roots role a) rest
  past_node k role a rest h =
      subst (λ (m : ℕ). StandsAt all (k + m) rest) (trees_length role a) (stands_right all k (trees role a) rest h)

  -- ---- a root

  told : (a : Node) (d : ℕ) (o : Out Store Judged) → StandsAt all d (tree_from 0 a ∷ []) → IsGiven (IsOf a) o → l.Each IsFine (go_on o (tells d)).events
  told a d (Gave j s) h g = ((tree_from 0 a, h.0, g 0), tt)
  told a d (Stopped e s) h g = tt

  root_is_fine : (b : Bool) (a : Node) (d : ℕ) (e : Does Judged) → StandsAt all d (own b a) → Gives (IsOf a) e → Fine e → Fine (where_root b d e)
  root_is_fine true a d e h g k s =
      l.each_append IsFine (e s).events (go_on (e s).out (tells d)).events (k s) (told a d (e s).out h (g s))
  root_is_fine false a d e h g k s = k s

  -- an expression that is one condition, with what stands in it
  condition_is_fine : (role : Role) (e : Expression) (w : Within) (operands : Within → Does ℤ) (rest : List Tree) → ((first : ℕ) → tree_from first (n.expression e) ≡ Leaf first) → StandsAt all w.decisions (own (is_root role (n.expression e)) (n.expression e) ++ rest) → (StandsAt all (into role e w).decisions rest → Fine (operands (into role e w))) → Fine (condition role e w operands)
  condition_is_fine role e w operands rest is h k =
      root_is_fine (is_root role (n.expression e)) (n.expression e) w.decisions (as_does as_condition (operands (into role e w)))
      (stands_left all w.decisions (own (is_root role (n.expression e)) (n.expression e)) rest h)
      (condition_is (n.expression e) is (operands (into role e w)))
      (l.as_keeps IsFine as_condition (operands (into role e w)) (k (past_own w.decisions (is_root role (n.expression e)) (n.expression e) rest h)))

  full_is_fine : (operator : FullOperator) (e f : Does Judged) → Fine e → Fine f → Fine (full_does operator e f)
  full_is_fine operator e f k m s =
      l.after_keeps IsFine (e s) _ (k s) (λ j s. l.as_keeps IsFine (in_full operator j) f m s)

  -- an operator that evaluates both operands is a full one, or one condition
  module _ (role : Role) (operator : Operator) (a b : Node) (span : Span) (d : ℕ) where
    abbrev both_node : Option FullOperator → Node
    both_node which = n.evaluates_both which operator a b span

    abbrev both_root : Option FullOperator → Bool
    both_root which = is_root role (both_node which)

    abbrev both_role : Option FullOperator → Role
    both_role which = operand_role role (both_node which)

    both_are_fine : (which : Option FullOperator) (act : FullOperator → Does Judged) (other : Does ℤ) → StandsAt all d (trees role (both_node which)) → ((o : FullOperator) → Gives (IsOf (n.Logic (Full o) a b span)) (act o)) → ((o : FullOperator) → StandsAt all (d + one_where (both_root which)) (trees (both_role which) a ++ trees (both_role which) b) → Fine (act o)) → (StandsAt all (d + one_where (both_root which)) (trees Plain a ++ (trees Plain b ++ [])) → Fine other) → Fine (where_full which (λ o. where_root (both_root which) d (act o)) (where_root (both_root which) d (as_does as_condition other)))
    both_are_fine (Some o) act other h g k m =
        let x : Node = both_node (Some o) in
        let r : Role = both_role (Some o) in
        let rest : List Tree = trees r a ++ trees r b in
        root_is_fine (is_root role x) x d (act o) (stands_left all d (own (is_root role x) x) rest h) (g o)
        (k o (past_own d (is_root role x) x rest h))
    both_are_fine None act other h g k m =
        let x : Node = both_node None in
        let rest : List Tree = trees Plain a ++ (trees Plain b ++ []) in
        root_is_fine (is_root role x) x d (as_does as_condition other) (stands_left all d (own (is_root role x) x) rest h)
        (condition_is x (λ first. refl) other)
        (l.as_keeps IsFine as_condition other (m (past_own d (is_root role x) x rest h)))

  pub value_only : (e : Does Judged) → Fine e → Fine (value e)
  value_only e k = l.as_keeps IsFine (λ j. j.value) e k

  -- ---- expressions

  mutual
    pub place_is_fine : (p : Place) (w : Within) → CallsAreFine w → StandsAt all w.decisions (trees Plain (n.place p)) → Fine (evaluate_place p w)
    place_is_fine (t.Local slot span) w c h = λ s. tt
    place_is_fine (t.Static slot span) w c h = λ s. tt
    place_is_fine (t.Parameter array stride index span) w c h =
        l.lent_item_keeps IsFine on_places (slice_get w.arrays array) stride (value (evaluate index Plain w))
        (value_only (evaluate index Plain w) (value_is_fine index Plain w c (stands_left all w.decisions (trees Plain (n.expression index)) [] h)))
    place_is_fine (t.Item array k stride index span) w c h =
        let v : Within = past Plain (n.place array) w in
        let rest : List Tree = trees Plain (n.expression index) ++ [] in
        l.item_keeps IsFine on_places k stride (evaluate_place array w) (value (evaluate index Plain v))
        (place_is_fine array w c (stands_left all w.decisions (trees Plain (n.place array)) rest h))
        (value_only (evaluate index Plain v) (value_is_fine index Plain v c
        (stands_left all v.decisions (trees Plain (n.expression index)) [] (past_node w.decisions Plain (n.place array) rest h))))
    place_is_fine (t.Member structure i offset span) w c h =
        l.as_keeps IsFine (on_places.part i offset) (evaluate_place structure w)
        (place_is_fine structure w c (stands_left all w.decisions (trees Plain (n.place structure)) [] h))

    pub value_is_fine : (e : Expression) (role : Role) (w : Within) → CallsAreFine w → StandsAt all w.decisions (trees role (n.expression e)) → Fine (evaluate e role w)
    value_is_fine (t.Constant v a span) role w c h =
        root_is_fine (is_root role (n.Constant span)) (n.Constant span) w.decisions (as_does as_condition (gives v)) h
        (condition_is (n.Constant span) (λ first. refl) (gives v)) (λ s. tt)
    value_is_fine (t.Read place a) role w c h =
        condition_is_fine role (t.Read place a) w (λ w. read_does on_places (evaluate_place place w)) (trees Plain (n.place place) ++ []) (λ first. refl) h
        (λ h. l.read_keeps IsFine on_places (evaluate_place place (into role (t.Read place a) w))
        (place_is_fine place (into role (t.Read place a) w) c (stands_left all _ (trees Plain (n.place place)) [] h)))
    value_is_fine (t.Unary operator a e span) role w c h =
        let v : Within = into role (t.Unary operator a e span) w in
        condition_is_fine role (t.Unary operator a e span) w (λ w. unary_does operator a (value (evaluate e Plain w))) (trees Plain (n.expression e) ++ []) (λ first. refl) h
        (λ h. l.unary_keeps IsFine operator a (value (evaluate e Plain v)) (value_only (evaluate e Plain v)
        (value_is_fine e Plain v c (stands_left all v.decisions (trees Plain (n.expression e)) [] h))))
    value_is_fine (t.Convert a written e span) role w c h =
        let v : Within = into role (t.Convert a written e span) w in
        condition_is_fine role (t.Convert a written e span) w (λ w. as_does (converted a) (value (evaluate e Plain w))) (trees Plain (n.expression e) ++ []) (λ first. refl) h
        (λ h. l.as_keeps IsFine (converted a) (value (evaluate e Plain v)) (value_only (evaluate e Plain v)
        (value_is_fine e Plain v c (stands_left all v.decisions (trees Plain (n.expression e)) [] h))))
    value_is_fine (t.Not e span) role w c h =
        let a : Node = n.Not (n.expression e) span in
        let r : Role = operand_role role a in
        let v : Within = into role (t.Not e span) w in
        root_is_fine (is_root role a) a w.decisions (as_does negated (evaluate e r v))
        (stands_left all w.decisions (own (is_root role a) a) (trees r (n.expression e)) h)
        (not_gives (n.expression e) span (evaluate e r v) (value_is e r v))
        (l.as_keeps IsFine negated (evaluate e r v)
        (value_is_fine e r v c (past_own w.decisions (is_root role a) a (trees r (n.expression e)) h)))
    value_is_fine (t.Binary operator a e f span) role w c h =
        let x : Node = n.expression (t.Binary operator a e f span) in
        let r : Role = operand_role role x in
        let v : Within = into role (t.Binary operator a e f span) w in
        let u : Within = past Plain (n.expression e) v in
        let z : Within = past r (n.expression e) v in
        let rest : List Tree = trees Plain (n.expression f) ++ [] in
        both_are_fine role operator (n.expression e) (n.expression f) span w.decisions (n.full_operator operator e f)
        (λ o. full_does o (evaluate e r v) (evaluate f r z))
        (binary_does operator a (value (evaluate e Plain v)) (value (evaluate f Plain u)))
        h
        (λ o. full_gives o (n.expression e) (n.expression f) span (evaluate e r v) (evaluate f r z) (value_is e r v) (value_is f r z))
        (λ o h. full_is_fine o (evaluate e r v) (evaluate f r z)
        (value_is_fine e r v c (stands_left all v.decisions (trees r (n.expression e)) (trees r (n.expression f)) h))
        (value_is_fine f r z c (past_node v.decisions r (n.expression e) (trees r (n.expression f)) h)))
        (λ h. l.binary_keeps IsFine operator a (value (evaluate e Plain v)) (value (evaluate f Plain u))
        (value_only (evaluate e Plain v) (value_is_fine e Plain v c (stands_left all v.decisions (trees Plain (n.expression e)) rest h)))
        (value_only (evaluate f Plain u) (value_is_fine f Plain u c
        (stands_left all u.decisions (trees Plain (n.expression f)) [] (past_node v.decisions Plain (n.expression e) rest h)))))
    value_is_fine (t.Logic operator e f span) role w c h =
        let a : Node = n.Logic (Short operator) (n.expression e) (n.expression f) span in
        let r : Role = operand_role role a in
        let v : Within = into role (t.Logic operator e f span) w in
        let u : Within = past r (n.expression e) v in
        let inner = past_own w.decisions (is_root role a) a (trees r (n.expression e) ++ trees r (n.expression f)) h in
        root_is_fine (is_root role a) a w.decisions (logic_does operator holds (first_alone f) both (evaluate e r v) (evaluate f r u))
        (stands_left all w.decisions (own (is_root role a) a) (trees r (n.expression e) ++ trees r (n.expression f)) h)
        (logic_gives operator e f span (evaluate e r v) (evaluate f r u) (value_is e r v) (value_is f r u))
        (l.logic_keeps IsFine operator holds (first_alone f) both (evaluate e r v) (evaluate f r u)
        (value_is_fine e r v c (stands_left all v.decisions (trees r (n.expression e)) (trees r (n.expression f)) inner))
        (value_is_fine f r u c (past_node v.decisions r (n.expression e) (trees r (n.expression f)) inner)))
    value_is_fine (t.Choice e f g a span) role w c h =
        let v : Within = into role (t.Choice e f g a span) w in
        let u : Within = past Controlling (n.expression e) v in
        let x : Within = past Plain (n.expression f) u in
        let last : List Tree = trees Plain (n.expression g) ++ [] in
        let rest : List Tree = trees Plain (n.expression f) ++ last in
        condition_is_fine role (t.Choice e f g a span) w
        (λ w. choice_does (value (evaluate e Controlling w)) (value (evaluate f Plain (past Controlling (n.expression e) w)))
        (value (evaluate g Plain (past Plain (n.expression f) (past Controlling (n.expression e) w)))))
        (trees Controlling (n.expression e) ++ rest) (λ first. refl) h
        (λ h. l.choice_keeps IsFine (value (evaluate e Controlling v)) (value (evaluate f Plain u)) (value (evaluate g Plain x))
        (value_only (evaluate e Controlling v) (value_is_fine e Controlling v c (stands_left all v.decisions (trees Controlling (n.expression e)) rest h)))
        (value_only (evaluate f Plain u) (value_is_fine f Plain u c
        (stands_left all u.decisions (trees Plain (n.expression f)) last (past_node v.decisions Controlling (n.expression e) rest h))))
        (value_only (evaluate g Plain x) (value_is_fine g Plain x c
        (stands_left all x.decisions (trees Plain (n.expression g)) []
        (past_node u.decisions Plain (n.expression f) last (past_node v.decisions Controlling (n.expression e) rest h))))))
    value_is_fine (t.Call k a) role w c h =
        let v : Within = into role (t.Call k a) w in
        condition_is_fine role (t.Call k a) w (λ w s. after (evaluate_call k w s) number_given) (trees_in (n.call_parts k)) (λ first. refl) h
        (λ h s. l.after_keeps IsFine (evaluate_call k v s) number_given (call_is_fine k v c h s) (l.number_given_keeps IsFine))
    value_is_fine (t.Input span) role w c h =
        condition_is_fine role (t.Input span) w (λ w. input_does) [] (λ first. refl) h (λ h. l.input_keeps IsFine)

    pub structure_is_fine : (x : StructureValue) (w : Within) → CallsAreFine w → StandsAt all w.decisions (trees Plain (n.structure x)) → Fine (evaluate_structure x w)
    structure_is_fine (t.Stored place) w c h = λ s. place_is_fine place w c h s
    structure_is_fine (t.Returned k) w c h = λ s.
        l.after_keeps IsFine (evaluate_call k w s) structure_given (call_is_fine k w c h s) (l.structure_given_keeps IsFine)

    pub call_is_fine : (k : FunctionCall) (w : Within) → CallsAreFine w → StandsAt all w.decisions (trees_in (n.call_parts k)) → Fine (evaluate_call k w)
    call_is_fine (t.call f given result span) w c h = λ s.
        l.after_keeps IsFine (evaluate_arguments given w s) _ (arguments_are_fine given w c h s) (λ passed s. c f _ passed s)

    argument_is_fine : (x : Argument) (w : Within) → CallsAreFine w → StandsAt all w.decisions (trees Plain (n.argument x)) → Fine (evaluate_argument x w)
    argument_is_fine (t.NumberArgument e) w c h =
        l.as_keeps IsFine PassedNumber (value (evaluate e Plain w)) (value_only (evaluate e Plain w) (value_is_fine e Plain w c h))
    argument_is_fine (t.StructureArgument structure copy) w c h =
        l.structure_argument_keeps IsFine on_places (target w copy) (evaluate_structure structure w) (structure_is_fine structure w c h)
    argument_is_fine (t.ArrayArgument place k) w c h =
        l.as_keeps IsFine (λ (p : Path). PassedArray (record { place = p; length = k })) (evaluate_place place w) (place_is_fine place w c h)
    argument_is_fine (t.AgainArgument array span) w c h =
        l.again_argument_keeps IsFine (slice_get w.arrays array)

    arguments_are_fine : (xs : Arguments) (w : Within) → CallsAreFine w → StandsAt all w.decisions (trees_in (n.arguments xs)) → Fine (evaluate_arguments xs w)
    arguments_are_fine t.no_arguments w c h = λ s. tt
    arguments_are_fine (t.arguments a rest) w c h =
        let v : Within = past Plain (n.argument a) w in
        l.arguments_keep IsFine (evaluate_argument a w) (evaluate_arguments rest v)
        (argument_is_fine a w c (stands_left all w.decisions (trees Plain (n.argument a)) (trees_in (n.arguments rest)) h))
        (arguments_are_fine rest v c (past_node w.decisions Plain (n.argument a) (trees_in (n.arguments rest)) h))
