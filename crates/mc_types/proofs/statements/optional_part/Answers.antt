use Rattle.types_scopes.specs.Views.{scope_of}
use Rattle.mc_types.proofs.statements.optional_part.Goals as goal

pub returns-in-None : goal.returns-in-None
returns-in-None c = rw c.in-None.is (c.no_clauses.ensures (scope_of c.args.scope.now))
