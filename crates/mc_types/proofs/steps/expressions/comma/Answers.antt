use Rattle.std.proofs.Common.{◌∙◌}
use Rattle.types_scopes.specs.Given.{arguments_of, given_of}
use Rattle.mc_types.proofs.Exits.{at_ok}
use Rattle.mc_types.proofs.Arms.{in_comma}
use Rattle.mc_types.proofs.steps.expressions.comma.Goals as goal

pub returns-in-Ok : goal.returns-in-Ok
returns-in-Ok c =
    λ all p u k.
    c.comma.ensures u ∙ in_comma c.args.span all p (given_of arguments_of c.in-Ok.given u) (at_ok c.args.given c.in-Ok.given _ c.in-Ok.is k)
