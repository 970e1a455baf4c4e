use Rattle.std.proofs.Common.{◌≡◌, ◌++◌, map, length, drop}
use Rattle.mc_typed.specs.Layout.{object_type_of}
use Rattle.types_rules.specs.Types.{structures_from}
use Rattle.types_scopes.specs.Views.{structure_of}
use Rattle.types_scopes.proofs.layouts.add_types.Given as goal

abbrev pub invariant-loop-structure : goal.invariant-loop-structure
invariant-loop-structure l = record {
  count : length l.types.items ≡ l.structure-index;
  types : map object_type_of l.types.items ++ structures_from l.structure-index (map structure_of (drop l.structure-index l.structures))
      ≡ structures_from 0 (map structure_of l.structures);
}
