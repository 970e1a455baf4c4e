use Rattle.std.proofs.Common.{◌∙◌, ap}
use Rattle.std.proofs.lemmas.Result.{IfOk-weaker}
use Rattle.mc_tree.specs.declared.expressions.assignment_operator.AssignmentOperator.{AssignmentOperator}
use Rattle.types_rules.specs.Values as v
use Rattle.types_rules.specs.Expressions as e
use Rattle.types_scopes.specs.Found.{found_of}
use Rattle.types_scopes.specs.steps.Squeezed.{squeezed}
use Rattle.types_expressions.proofs.Steps.{one_found}
use Rattle.types_expressions.proofs.update.step.Goals as goal

pub returns : goal.returns
returns c =
    IfOk-weaker c.made.result _ _ (λ r is s.
    is s
    ∙ ap (λ (o : AssignmentOperator). squeezed (e.update_found o c.args.span (found_of c.args.operand s) (found_of c.one.result s))) c.step_operator.ensures
    ∙ ap (λ (y : v.Found). squeezed (e.update_found (e.step_operator c.args.operator) c.args.span (found_of c.args.operand s) y))
    (one_found c.one.result c.args.at s c.one.ensures.fault c.one.ensures.value c.one.ensures.place c.one.ensures.constant))
    c.made.ensures
