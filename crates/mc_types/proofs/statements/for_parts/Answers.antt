use Rattle.mc_tree.specs.Units.{option_of, start_of}
use Rattle.types_scopes.specs.Views.{scope_of}
use Rattle.mc_types.proofs.Headings.{parts_found}
use Rattle.mc_types.proofs.statements.for_parts.Goals as goal

pub returns : goal.returns
returns c =
    let s = scope_of c.args.scope.now in
    let p = scope_of c.for_start.new.scope in
    let q = scope_of c.optional_test.new.scope in
    let u = scope_of c.optional_part.new.scope in
    parts_found c.args.at (start_of c.args.start.now) (option_of c.args.test.now) (option_of c.args.step.now) _ s p q u c.in_ok-start.ensures c.in_ok-test.ensures c.in_ok-step.ensures
