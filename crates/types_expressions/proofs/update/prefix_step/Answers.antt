use Rattle.std.proofs.Common.{◌∙◌, ap}
use Rattle.std.proofs.lemmas.Result.{IfOk-weaker}
use Rattle.mc_span.specs.declared.span.Span.{Span}
use Rattle.types_rules.specs.Expressions as e
use Rattle.types_scopes.specs.Found.{found_of}
use Rattle.types_scopes.specs.steps.Squeezed.{squeezed}
use Rattle.types_expressions.proofs.update.prefix_step.Goals as goal

pub returns : goal.returns
returns c =
    IfOk-weaker c.step.result _ _ (λ r is s.
    is s ∙ ap (λ (at : Span). squeezed (e.step_found c.args.operator at c.args.span (found_of c.args.operand s))) c.operator_before.ensures)
    c.step.ensures
