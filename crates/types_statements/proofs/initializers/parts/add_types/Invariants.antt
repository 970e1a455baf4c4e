use Rattle.std.proofs.Common.{◌≡◌, map, take}
use Rattle.types_scopes.specs.Listed.{listed_of}
use Rattle.types_statements.specs.Initializers.{optional_type}
use Rattle.types_statements.proofs.initializers.parts.add_types.Given as goal

abbrev pub invariant-loop-place : goal.invariant-loop-place
invariant-loop-place l =
    map optional_type l.types.items ≡ take l.place (map (λ m. m.member_type) (map listed_of l.members))
