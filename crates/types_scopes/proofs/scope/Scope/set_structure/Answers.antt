use Rattle.std.proofs.Common.{refl}
use Rattle.std.proofs.lemmas.List.{map-set}
use Rattle.types_scopes.specs.Views.{structure_of}
use Rattle.types_scopes.proofs.scope.Scope.set_structure.Goals as goal

pub returns : goal.returns
returns c = rw (map-set structure_of c.args.self.now.structures.items c.args.number c.args.structure) refl
