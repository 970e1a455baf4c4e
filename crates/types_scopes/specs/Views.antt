-- What the scope of the program stands for.
use Rattle.std.specs.Prelude.{List, map, Option, Some, None, option_map}
use Rattle.mc_typed.specs.Views.{object_of, static_of}
use Rattle.types_rules.specs.Types as types
use Rattle.types_rules.specs.Scopes as scopes
use Rattle.name_table.specs.Tables.{Named}
use Rattle.types_scopes.specs.Types.{type_of, signature_of}
use Rattle.types_scopes.specs.Listed.{listed_of}
use Rattle.types_scopes.specs.declared.meanings.Meaning.{Meaning}
use Rattle.types_scopes.specs.declared.meanings.Meaning.TheVariants as meaning
use Rattle.types_scopes.specs.declared.meanings.TagMeaning.{TagMeaning}
use Rattle.types_scopes.specs.declared.meanings.TagMeaning.TheVariants as tag
use Rattle.types_scopes.specs.declared.member.Member.{Member}
use Rattle.types_scopes.specs.declared.members.Structure.{Structure}
use Rattle.types_scopes.specs.declared.members.Structure.TheVariants as structure
use Rattle.types_scopes.specs.declared.scope.Scope.{Scope}

abbrev pub meaning_of : Meaning → scopes.Meaning
meaning_of (meaning.Automatic slot of) = scopes.Automatic slot (option_map type_of of)
meaning_of (meaning.Static slot of) = scopes.Stored slot (option_map type_of of)
meaning_of (meaning.Borrowed array element) = scopes.Borrowed array (type_of element)
meaning_of (meaning.Constant value) = scopes.Constant value
meaning_of (meaning.Function signature has_body) =
    scopes.Function (option_map (λ f. signature_of f.value) signature) has_body
meaning_of (meaning.Typedef of) = scopes.Typedef (option_map type_of of)

abbrev pub tag_of : TagMeaning → scopes.TagMeaning
tag_of (tag.Structure k) = scopes.StructureTag k
tag_of tag.Enumeration = scopes.EnumerationTag

abbrev pub structure_of : Structure → types.Structure
structure_of (structure.Incomplete begun) = types.Incomplete begun
structure_of (structure.Complete c) = types.Complete (map listed_of c)
structure_of structure.Faulty = types.Faulty

-- the members of a complete structure
abbrev pub complete_in : Structure → Option (List (Named Member))
complete_in (structure.Complete c) = Some c
complete_in _ = None

abbrev pub entry_of : Named Meaning → scopes.Entry
entry_of e = record { name = e.name; meaning = meaning_of e.meaning }

abbrev pub tag_entry_of : Named TagMeaning → scopes.Tag
tag_entry_of e = record { name = e.name; meaning = tag_of e.meaning }

abbrev pub scope_of : Scope → scopes.Scope
scope_of c = record {
  names = map entry_of c.names;
  tags = map tag_entry_of c.tags;
  names_from = c.names_from;
  tags_from = c.tags_from;
  is_file = c.is_file;
  structures = map structure_of c.structures.items;
  statics = map static_of c.statics.items;
  static_cells = c.static_cells;
  bodies = c.bodies;
  objects = map object_of c.objects.items;
  frame = c.frame;
  arrays = c.arrays;
  labels = c.labels;
}
