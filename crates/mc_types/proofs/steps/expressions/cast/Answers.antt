use Rattle.mc_tree.specs.Views.{expression_of}
use Rattle.types_scopes.specs.Types.{type_of}
use Rattle.types_scopes.specs.Found.{found_of, judged_of}
use Rattle.mc_types.proofs.Exits.{at_ok, found_with}
use Rattle.mc_types.proofs.Arms.{in_cast}
use Rattle.mc_types.proofs.steps.expressions.cast.Goals as goal

pub returns-in-Ok : goal.returns-in-Ok
returns-in-Ok c =
    λ all stars at p q u h k.
    found_with c.cast.result found_of u _ _ c.cast.ensures
    (in_cast c.args.span all stars at (expression_of c.args.operand.now) p (judged_of type_of c.args.of q) (found_of c.in-Ok.found u) h (at_ok c.args.found c.in-Ok.found _ c.in-Ok.is k))
