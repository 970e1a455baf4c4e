use Rattle.std.proofs.Common.{◌≡◌, ◌∙◌, ◌==◌, ℤ, List, [], ◌∷◌, length, map, refl, sym, ap, arith}
use Rattle.std.proofs.lemmas.Bool.Decides.{nat_tests}
use Rattle.std.proofs.lemmas.List.{nil_from_length}
use Rattle.mc_typed.specs.declared.functions.ParameterType.{ParameterType}
use Rattle.mc_typed.specs.Views.{parameter_of}
use Rattle.plan_fields.specs.Calls.{are_values, integer_types}
use Rattle.plan_fields.proofs.calls.are_values.Goals as goal

none_left : (vs : List ℤ) → are_values vs [] ≡ (length vs == 0)
none_left [] = refl
none_left (v ∷ vs) = grind (arith, nat_tests)

pub returns : goal.returns
returns c =
    let none = nil_from_length c.loop-left.left.now (omega arith) in
    c.is_empty.ensures ∙ sym (none_left c.loop-left.values.now) ∙ ap (λ (ps : List ParameterType). are_values c.loop-left.values.now (integer_types (map parameter_of ps))) (sym none) ∙ c.loop-left.invariant
