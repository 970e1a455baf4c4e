-- What expressions do (C17 6.5).
use Rattle.std.specs.Prelude.{List, [], slice_get, option_map}
use Rattle.mc_value.specs.Conversions.{converted}
use Rattle.mc_typed.specs.Tree.{Place, Expression, StructureValue, FunctionCall, Argument, Arguments}
use Rattle.mc_typed.specs.Tree as typed
use Rattle.decide_rules.specs.declared.role.Role.{Role}
use Rattle.decide_rules.specs.declared.role.Role.TheVariants.{Controlling, Plain}
use Rattle.decide_rules.specs.Nodes as nodes
use Rattle.mc_steps.specs.Runs.{gives, ◌>>=◌}
use Rattle.mc_steps.specs.Expressions.{item_does, lent_item_does, read_does, unary_does, binary_does, logic_does, choice_does, as_does, input_does}
use Rattle.mc_steps.specs.Statements.{Given}
use Rattle.mc_steps.specs.Calls.{Passed, PassedNumber, PassedArray, structure_argument_does, again_argument_does, arguments_do, number_given, structure_given}
use Rattle.mc_meaning.specs.Stores.{Path, on_places}
use Rattle.mc_meaning.specs.Within.{Does, Within, local, static, target}
use Rattle.mc_meaning.specs.Positions.{past}
use Rattle.mc_meaning.specs.Decisions.{Judged, value, negated, holds, first_alone, both, full_does, where_full, decides, condition}

abbrev mutual
  pub evaluate_place : Place → Within → Does Path
  evaluate_place (typed.Local slot span) w = gives (local w slot)
  evaluate_place (typed.Static slot span) w = gives (static slot)
  evaluate_place (typed.Parameter array stride index span) w =
      lent_item_does on_places (slice_get w.arrays array) stride (value (evaluate index Plain w))
  evaluate_place (typed.Item array k stride index span) w =
      item_does on_places k stride (evaluate_place array w)
      (value (evaluate index Plain (past Plain (nodes.place array) w)))
  evaluate_place (typed.Member structure i offset span) w =
      as_does (on_places.part i offset) (evaluate_place structure w)

  pub evaluate : Expression → Role → Within → Does Judged
  evaluate (typed.Constant v a span) role w = condition role (typed.Constant v a span) w
      (λ w. gives v)
  evaluate (typed.Read place a) role w =
      condition role (typed.Read place a) w (λ w. read_does on_places (evaluate_place place w))
  evaluate (typed.Unary operator a e span) role w =
      condition role (typed.Unary operator a e span) w
      (λ w. unary_does operator a (value (evaluate e Plain w)))
  -- C17 6.3.1
  evaluate (typed.Convert a written e span) role w =
      condition role (typed.Convert a written e span) w
      (λ w. as_does (converted a) (value (evaluate e Plain w)))
  evaluate (typed.Not e span) role w =
      decides role (typed.Not e span) w (λ r w. as_does negated (evaluate e r w))
  evaluate (typed.Binary operator a e f span) role w =
      where_full (nodes.full_operator operator e f)
      (λ full. decides role (typed.Binary operator a e f span) w
      (λ r w. full_does full (evaluate e r w) (evaluate f r (past r (nodes.expression e) w))))
      (condition role (typed.Binary operator a e f span) w
      (λ w. binary_does operator a (value (evaluate e Plain w))
      (value (evaluate f Plain (past Plain (nodes.expression e) w)))))
  evaluate (typed.Logic operator e f span) role w =
      decides role (typed.Logic operator e f span) w
      (λ r w. logic_does operator holds (first_alone f) both (evaluate e r w)
      (evaluate f r (past r (nodes.expression e) w)))
  evaluate (typed.Choice e f g a span) role w =
      condition role (typed.Choice e f g a span) w
      (λ w. choice_does (value (evaluate e Controlling w))
      (value (evaluate f Plain (past Controlling (nodes.expression e) w)))
      (value (evaluate g Plain (past Plain (nodes.expression f)
      (past Controlling (nodes.expression e) w)))))
  evaluate (typed.Call k a) role w =
      condition role (typed.Call k a) w (λ w. evaluate_call k w >>= number_given)
  evaluate (typed.Input span) role w = condition role (typed.Input span) w (λ w. input_does)

  -- a structure, by the place where it stands
  pub evaluate_structure : StructureValue → Within → Does Path
  evaluate_structure (typed.Stored place) w = evaluate_place place w
  evaluate_structure (typed.Returned k) w = evaluate_call k w >>= structure_given

  -- The arguments are evaluated before anything else of the call.
  pub evaluate_call : FunctionCall → Within → Does (Given Path)
  evaluate_call (typed.call f given result span) w = do
    passed ← evaluate_arguments given w
    w.call f (option_map (local w) result) passed

  pub evaluate_argument : Argument → Within → Does (Passed Path)
  evaluate_argument (typed.NumberArgument e) w = as_does PassedNumber (value (evaluate e Plain w))
  evaluate_argument (typed.StructureArgument structure copy) w =
      structure_argument_does on_places (target w copy) (evaluate_structure structure w)
  evaluate_argument (typed.ArrayArgument place k) w =
      as_does (λ p. PassedArray (record { place = p; length = k })) (evaluate_place place w)
  evaluate_argument (typed.AgainArgument array span) w = again_argument_does
      (slice_get w.arrays array)

  pub evaluate_arguments : Arguments → Within → Does (List (Passed Path))
  evaluate_arguments typed.no_arguments w = gives []
  evaluate_arguments (typed.arguments a rest) w =
      arguments_do (evaluate_argument a w)
      (evaluate_arguments rest (past Plain (nodes.argument a) w))
