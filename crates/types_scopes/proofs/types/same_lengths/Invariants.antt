use Rattle.std.proofs.Common.{◌≡◌, drop}
use Rattle.types_rules.specs.Types as t
use Rattle.types_scopes.proofs.types.same_lengths.Given as goal

abbrev pub invariant-loop-length : goal.invariant-loop-length
invariant-loop-length l = t.same_lengths (drop l.length-index l.a) l.left ≡ t.same_lengths l.a l.b
