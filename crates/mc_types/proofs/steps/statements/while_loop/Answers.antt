use Rattle.mc_typed.specs.Views as typed
use Rattle.types_scopes.specs.Found.{found_of, judged_of}
use Rattle.types_scopes.specs.Statements.{effects_of, statements_of, test_of}
use Rattle.mc_types.proofs.Exits.{at_ok, found_with}
use Rattle.mc_types.proofs.StatementArms.{in_while}
use Rattle.mc_types.proofs.steps.statements.while_loop.Goals as goal

pub returns-in-Ok : goal.returns-in-Ok
returns-in-Ok c =
    λ a e one p q u h k.
    found_with c.loop_statement.result (λ z v. judged_of statements_of z v) u _ _ c.loop_statement.ensures
    (in_while a e one c.args.span p u (found_of c.args.test q) (judged_of typed.start_of c.no_start-start.result u) (judged_of test_of c.loop_test-test.result q) (judged_of effects_of c.no_clauses-step.result u) (judged_of statements_of c.in-Ok.body u) h (c.no_start-start.ensures u) (c.loop_test-test.ensures q) (c.no_clauses-step.ensures u) (at_ok c.args.body c.in-Ok.body _ c.in-Ok.is k))
