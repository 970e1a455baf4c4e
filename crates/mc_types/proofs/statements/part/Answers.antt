use Rattle.std.proofs.Common.{◌∙◌, map, ap}
use Rattle.mc_tree.specs.Views.{expression_of, expressions_from}
use Rattle.mc_typed.specs.Tree.{Effect}
use Rattle.types_rules.specs.Values.{Judged}
use Rattle.types_rules.specs.Bodies as b
use Rattle.types_scopes.specs.Views.{scope_of}
use Rattle.types_scopes.specs.Found.{judged_of}
use Rattle.types_scopes.specs.Statements.{effects_of}
use Rattle.types_scopes.specs.steps.Squeezed.{squeezed_part}
use Rattle.mc_types.proofs.Exits.{found_as, found_with}
use Rattle.mc_types.proofs.StatementArms.{part_of_operands, part_of_other}
use Rattle.mc_types.proofs.statements.part.Goals as goal

pub returns-in-Some : goal.returns-in-Some
returns-in-Some c =
    let s = scope_of c.args.scope.now in
    found_as c.clauses.result (λ z. judged_of effects_of z (scope_of c.clauses.new.scope)) _ _ c.clauses.ensures
    (ap squeezed_part (part_of_operands (expression_of c.args.tree.now) (expressions_from (map expression_of c.in-Some.all.now)) s c.in-Some.ensures))

pub returns-in-Ok : goal.returns-in-Ok
returns-in-Ok c =
    let s = scope_of c.args.scope.now in
    let u = scope_of c.effect.new.scope in
    found_with c.clause.result (λ z v. judged_of effects_of z v) u _ _ c.clause.ensures
    (ap (λ (x : Judged Effect). b.listed x) c.in-Ok.ensures
    ∙ ap squeezed_part (part_of_other (expression_of c.args.tree.now) s c.in-None.ensures))
