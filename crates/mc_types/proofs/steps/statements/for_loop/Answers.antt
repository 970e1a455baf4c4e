use Rattle.std.proofs.Common.{◌∙◌, ap}
use Rattle.mc_typed.specs.Views as typed
use Rattle.types_rules.specs.Scopes.{block}
use Rattle.types_scopes.specs.Blocks.{Around, left_by}
use Rattle.types_scopes.specs.Views.{scope_of}
use Rattle.types_scopes.specs.Found.{judged_of}
use Rattle.types_scopes.specs.Statements.{effects_of, statements_of, test_of}
use Rattle.mc_types.specs.Headings.{after_start, after_test}
use Rattle.mc_types.proofs.Exits.{at_ok, found_with}
use Rattle.mc_types.proofs.StatementArms.{in_for}
use Rattle.mc_types.proofs.steps.statements.for_loop.Goals as goal

pub returns-in-Ok : goal.returns-in-Ok
returns-in-Ok c =
    λ a start test step one p q h k l.
    let s = scope_of c.args.scope.now in
    let u = scope_of c.leave.new.self in
    let parts = c.args.heading.parts in
    found_with c.loop_statement.result (λ z v. judged_of statements_of z v) u _ _ c.loop_statement.ensures
    (in_for a start test step one c.args.span p u (judged_of typed.start_of parts.start (after_start start (block p))) (judged_of test_of parts.test (after_test c.args.span.start start test (block p))) (judged_of effects_of parts.step q) (judged_of statements_of c.in-Ok.body s) k.begun k.tested k.stepped (at_ok c.args.body c.in-Ok.body _ c.in-Ok.is l) (c.leave.ensures ∙ ap (λ (b : Around). left_by b s) h))
