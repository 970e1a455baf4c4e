use Rattle.std.proofs.Common.{◌≡◌, drop}
use Rattle.types_rules.specs.Limits.{is_long}
use Rattle.types_scopes.proofs.types.CType.is_long.Given as goal

abbrev pub invariant-loop-length : goal.invariant-loop-length
invariant-loop-length l = is_long (drop l.length-index l.self.lengths.items) ≡ is_long l.self.lengths.items
