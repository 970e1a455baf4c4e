-- Types of objects.
use Rattle.std.specs.Prelude.{ℕ, ◌*◌, sum}
use Rattle.mc_value.specs.declared.object_type.ObjType.{ObjType}
use Rattle.mc_value.specs.declared.object_type.ObjType.TheOpen.{ObjType-F}
use Rattle.mc_value.specs.declared.object_type.ObjType.TheFolds.{fold-ObjType}

-- how many scalars an object has at most
abbrev pub most_cells : ℕ
most_cells = 65536

-- the scalars of an object, from those of its parts
abbrev pub cells_of_parts : ObjType-F ℕ → ℕ
cells_of_parts (ObjType-F.Int t) = 1
cells_of_parts (ObjType-F.Array element length) = length * element.value
cells_of_parts (ObjType-F.Struct number members) = sum members.value.items

-- of how many scalars an object of the type consists: an array of its elements', a structure of its
-- members' (C17 6.2.5p20)
abbrev pub cells_of : ObjType → ℕ
cells_of = fold-ObjType ℕ cells_of_parts
