-- What expressions do (C17 6.5).
use Rattle.std.specs.Prelude.{ℕ, ◌+◌, ℤ, List, [], slice_get, unwrap_or, option_map}
use Rattle.mc_value.specs.Conversions.{converted, is_zero}
use Rattle.mc_value.specs.Arithmetic.{truth}
use Rattle.mc_typed.specs.declared.expressions.Slot.{Slot}
use Rattle.mc_typed.specs.Sound.{cells_at}
use Rattle.mc_steps.specs.Runs.{gives, ◌>>=◌}
use Rattle.mc_steps.specs.Expressions.{is_true, item_does, lent_item_does, read_does, unary_does, binary_does, logic_does, choice_does, as_does, input_does}
use Rattle.mc_steps.specs.Statements.{Given}
use Rattle.mc_steps.specs.Calls.{Passed, PassedNumber, PassedArray, Target, structure_argument_does, again_argument_does, arguments_do, number_given, structure_given}
use Rattle.mc_probe.specs.Tree.{Place, Expression, StructureValue, FunctionCall, Argument, Arguments}
use Rattle.mc_probe.specs.Tree as probed
use Rattle.mc_probe.specs.Flat.{Does, Activation, flat}
use Rattle.mc_probe.specs.Probes.{probe_does}

module _ (w : Activation) where
  abbrev pub target : Slot → Target ℕ
  target slot =
      record { place = w.base + slot.start; cells = unwrap_or (cells_at w.objects slot.object) 0 }

  abbrev mutual
    pub evaluate_place : Place → Does ℕ
    evaluate_place (probed.Local slot span) s = gives (w.base + slot.start) s
    evaluate_place (probed.Static slot span) s = gives slot.start s
    evaluate_place (probed.Parameter array stride index span) s =
        lent_item_does flat (slice_get w.arrays array) stride (evaluate index) s
    evaluate_place (probed.Item array n stride index span) s =
        item_does flat n stride (evaluate_place array) (evaluate index) s
    evaluate_place (probed.Member structure i offset span) s =
        as_does (flat.part i offset) (evaluate_place structure) s

    pub evaluate : Expression → Does ℤ
    evaluate (probed.Constant v a span) s = gives v s
    evaluate (probed.Read place a) s = read_does flat (evaluate_place place) s
    evaluate (probed.Unary operator a e span) s = unary_does operator a (evaluate e) s
    -- C17 6.3.1
    evaluate (probed.Convert a written e span) s = as_does (converted a) (evaluate e) s
    evaluate (probed.Not e span) s = as_does (λ x. truth (is_zero x)) (evaluate e) s
    evaluate (probed.Binary operator a e f span) s = binary_does operator a (evaluate e)
        (evaluate f) s
    evaluate (probed.Logic operator e f span) s =
        logic_does operator is_true (λ x. truth (is_true x)) (λ x y. truth (is_true y))
        (evaluate e) (evaluate f) s
    evaluate (probed.Choice e f g a span) s = choice_does (evaluate e) (evaluate f) (evaluate g) s
    evaluate (probed.Call k a) s = (evaluate_call k >>= number_given) s
    evaluate (probed.Input span) s = input_does s
    evaluate (probed.Probe q e) s = probe_does w q (evaluate e) s

    pub evaluate_structure : StructureValue → Does ℕ
    evaluate_structure (probed.Stored place) s = evaluate_place place s
    evaluate_structure (probed.Returned k) s = (evaluate_call k >>= structure_given) s

    pub evaluate_call : FunctionCall → Does (Given ℕ)
    evaluate_call (probed.call f given result span) = do
      passed ← evaluate_arguments given
      w.call f (option_map (λ slot. w.base + slot.start) result) passed

    pub evaluate_argument : Argument → Does (Passed ℕ)
    evaluate_argument (probed.NumberArgument e) s = as_does PassedNumber (evaluate e) s
    evaluate_argument (probed.StructureArgument value copy) s =
        structure_argument_does flat (target copy) (evaluate_structure value) s
    evaluate_argument (probed.ArrayArgument place n) s =
        as_does (λ p. PassedArray (record { place = p; length = n })) (evaluate_place place) s
    evaluate_argument (probed.AgainArgument array span) s = again_argument_does
        (slice_get w.arrays array) s

    pub evaluate_arguments : Arguments → Does (List (Passed ℕ))
    evaluate_arguments probed.no_arguments s = gives [] s
    evaluate_arguments (probed.arguments a rest) s =
        arguments_do (evaluate_argument a) (evaluate_arguments rest) s
