use Rattle.std.proofs.Common.{◌≡◌, map, take}
use Rattle.mc_typed.specs.Layout.{object_type_of}
use Rattle.types_scopes.specs.Listed.{listed_of}
use Rattle.types_scopes.proofs.members.Members.add_parts.Given as goal

abbrev pub invariant-loop-place : goal.invariant-loop-place
invariant-loop-place l = map object_type_of l.parts.items ≡ map (λ m. m.layout) (map listed_of (take l.place l.self))
