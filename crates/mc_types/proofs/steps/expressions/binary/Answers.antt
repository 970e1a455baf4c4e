use Rattle.types_scopes.specs.Found.{found_of}
use Rattle.mc_types.proofs.Exits.{at_ok, found_with}
use Rattle.mc_types.proofs.Arms.{in_binary}
use Rattle.mc_types.proofs.steps.expressions.binary.Goals as goal

pub returns-in-Ok : goal.returns-in-Ok
returns-in-Ok c =
    λ a b p q u h k.
    found_with c.binary.result found_of u _ _ c.binary.ensures
    (in_binary c.args.operator c.args.span a b p (found_of c.args.first q) (found_of c.in-Ok.second u) h (at_ok c.args.second c.in-Ok.second _ c.in-Ok.is k))
