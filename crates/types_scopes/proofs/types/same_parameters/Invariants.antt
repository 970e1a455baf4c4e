use Rattle.std.proofs.Common.{◌≡◌, map, drop}
use Rattle.types_rules.specs.Types as t
use Rattle.types_scopes.specs.Types.{kind_of}
use Rattle.types_scopes.proofs.types.same_parameters.Given as goal

abbrev pub invariant-loop-kind : goal.invariant-loop-kind
invariant-loop-kind l = t.same_parameters (map kind_of (drop l.kind-index l.a)) (map kind_of l.left) ≡ t.same_parameters (map kind_of l.a) (map kind_of l.b)
