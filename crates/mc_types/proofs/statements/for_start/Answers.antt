use Rattle.std.proofs.Common.{◌∙◌}
use Rattle.mc_tree.specs.Units.{declaration_of, option_of}
use Rattle.types_scopes.specs.Views.{scope_of}
use Rattle.types_scopes.specs.Found.{judged_of}
use Rattle.types_scopes.specs.Statements.{declarators_of, effects_of}
use Rattle.mc_types.proofs.StatementArms.{in_declaration_start, in_effects_start}
use Rattle.mc_types.proofs.statements.for_start.Goals as goal

pub returns-in-Ok : goal.returns-in-Ok
returns-in-Ok c =
    let w = c.in-Local in
    let u = scope_of c.declaration.new.scope in
    rw w.is
    (c.declaration_start.ensures u ∙ in_declaration_start (declaration_of w.local) (scope_of c.args.scope.now) (judged_of declarators_of c.in-Ok.found u) c.in-Ok.ensures)

pub returns-in-Ok-optional_part : goal.returns-in-Ok-optional_part
returns-in-Ok-optional_part c =
    let w = c.in-Expression in
    let u = scope_of c.optional_part.new.scope in
    rw w.is
    (c.effects_start.ensures u ∙ in_effects_start (option_of w.value) (scope_of c.args.scope.now) (judged_of effects_of c.in-Ok-optional_part.found u) c.in-Ok-optional_part.ensures)
