-- Names in scope, and what has been declared so far (C17 6.2.1 to 6.2.4).
use Rattle.std.specs.Prelude.{ℕ, ◌+◌, ◌-◌, ℤ, Bool, true, false, ◌||◌, if◌then◌else◌, List, [], ◌∷◌, ◌++◌, length, take, drop, slice_set, bytes_eq, codes, Option, Some, None}
use Rattle.mc_tree.specs.Tree.{Name}
use Rattle.mc_limits.specs.Limits.{most_frame_cells, most_static_cells}
use Rattle.mc_value.specs.declared.int_type.IntType.{IntType}
use Rattle.mc_typed.specs.declared.expressions.Slot.{Slot}
use Rattle.mc_typed.specs.Layout.{ObjectType, cells}
use Rattle.mc_typed.specs.Tree.{Object, StaticObject}
use Rattle.types_rules.specs.Profile.{counted, most_numbered, start_at, sum_of}
use Rattle.types_rules.specs.Types.{CType, Structure, Signature}

-- ---- what names mean

-- An ordinary identifier (C17 6.2.3p1). A type that could not be made out is absent.
pub data Meaning : Type 0 where
  -- an object with automatic, and with static storage duration (C17 6.2.4)
  Automatic : Slot → Option CType → Meaning
  Stored : Slot → Option CType → Meaning
  -- an array parameter: the number of the array that it names, and the type of the elements
  Borrowed : ℕ → CType → Meaning
  -- an enumeration constant
  Constant : Option ℤ → Meaning
  -- a function, and whether its body has been seen
  Function : Option Signature → Bool → Meaning
  Typedef : Option CType → Meaning

pub record Entry : Type 0 where
  pub name : List ℕ
  pub meaning : Meaning

-- a tag of a structure type with its number, or of an enumeration (C17 6.7.2.3)
pub data TagMeaning : Type 0 where
  StructureTag : ℕ → TagMeaning
  EnumerationTag : TagMeaning

pub record Tag : Type 0 where
  pub name : List ℕ
  pub meaning : TagMeaning

-- the labels of a `switch` so far: the promoted type of its controlling expression, their values,
-- and whether `default` is among them
pub record Labels : Type 0 where
  pub value_type : Option IntType
  pub values : List ℤ
  pub has_default : Bool

-- ---- a scope

-- What a node can name, and what is declared so far. Of names the innermost stand last.
pub record Scope : Type 0 where
  pub names : List Entry
  pub tags : List Tag
  -- where those of the innermost block begin
  pub names_from : ℕ
  pub tags_from : ℕ
  -- whether it is file scope
  pub is_file : Bool
  -- the structure types, by their numbers
  pub structures : List Structure
  -- the objects with static storage duration and their cells, but for those with a fault
  pub statics : List StaticObject
  pub static_cells : ℕ
  -- the names of the functions of the unit that have a body, in the order of their definitions
  pub bodies : List (List ℕ)
  -- the objects of the function, the cells of its frame, and the number of its array parameters
  pub objects : List Object
  pub frame : ℕ
  pub arrays : ℕ
  -- directly in the body of a `switch`, its labels
  pub labels : Option Labels

abbrev pub file_scope : List (List ℕ) → Scope
file_scope bodies = record {
  names = [];
  tags = [];
  names_from = 0;
  tags_from = 0;
  is_file = true;
  structures = [];
  statics = [];
  static_cells = 0;
  bodies = bodies;
  objects = [];
  frame = 0;
  arrays = 0;
  labels = None;
}

-- ---- look-up (C17 6.2.1p4)

abbrev pub later_or : {A : Type 0} → Option A → Option A → Option A
later_or None other = other
later_or (Some a) other = Some a

-- the last entry of a name, which is the innermost
abbrev pub named : List ℕ → List Entry → Option Meaning
named name [] = None
named name (e ∷ es) =
    later_or (named name es) (if bytes_eq e.name name then Some e.meaning else None)

abbrev pub tagged : List ℕ → List Tag → Option TagMeaning
tagged name [] = None
tagged name (e ∷ es) =
    later_or (tagged name es) (if bytes_eq e.name name then Some e.meaning else None)

abbrev pub meaning_of : Name → Scope → Option Meaning
meaning_of name s = named name.text s.names

abbrev pub tag_of : Name → Scope → Option TagMeaning
tag_of name s = tagged name.text s.tags

-- what the innermost block declares itself
abbrev pub meaning_here : Name → Scope → Option Meaning
meaning_here name s = named name.text (drop s.names_from s.names)

abbrev pub tag_here : Name → Scope → Option TagMeaning
tag_here name s = tagged name.text (drop s.tags_from s.tags)

-- at which place of a list a name stands first, counted from k
abbrev pub place_from : ℕ → List ℕ → List (List ℕ) → Option ℕ
place_from k name [] = None
place_from k name (other ∷ rest) =
    if bytes_eq other name then Some k else place_from (k + 1) name rest

-- the number of the function with this name, where it has a body
abbrev pub function_number : Name → Scope → Option ℕ
function_number name s = place_from 0 name.text s.bodies

-- ---- the two external functions

abbrev pub is_input : Name → Bool
is_input name = bytes_eq name.text (codes "mcdc_in")

abbrev pub is_output : Name → Bool
is_output name = bytes_eq name.text (codes "mcdc_out")

abbrev pub is_external : Name → Bool
is_external name = is_input name || is_output name

-- ---- declaring

abbrev pub with_name : Name → Meaning → Scope → Scope
with_name name meaning s =
    record s { names = s.names ++ (record { name = name.text; meaning = meaning } ∷ []) }

abbrev pub with_tag : Name → TagMeaning → Scope → Scope
with_tag name meaning s =
    record s { tags = s.tags ++ (record { name = name.text; meaning = meaning } ∷ []) }

-- one more structure type, whose number is that of the types before it
abbrev pub with_structure : Structure → Scope → Scope
with_structure structure s = record s { structures = s.structures ++ (structure ∷ []) }

abbrev pub with_structure_at : ℕ → Structure → Scope → Scope
with_structure_at k structure s = record s { structures = slice_set s.structures k structure }

-- where the next object of the function, and the next one with static storage duration, stands
abbrev pub next_slot : Scope → Slot
next_slot s = record {
  object = start_at most_numbered (length s.objects);
  start = start_at most_frame_cells s.frame;
}

abbrev pub next_static : Scope → Slot
next_static s = record {
  object = start_at most_numbered (length s.statics);
  start = start_at most_static_cells s.static_cells;
}

abbrev pub with_object : ObjectType → Scope → Scope
with_object u s = record s {
  objects = s.objects ++ (record {
    object_type = u;
    cells = counted (cells u);
    start = start_at most_frame_cells s.frame;
  } ∷ []);
  frame = sum_of s.frame (counted (cells u));
}

abbrev pub with_counted : Option ObjectType → Scope → Scope
with_counted None s = s
with_counted (Some u) s = with_object u s

abbrev pub cells_counted : Option ObjectType → ℕ
cells_counted None = 0
cells_counted (Some u) = counted (cells u)

-- so many cells of the frame count no more
abbrev pub uncounted : ℕ → Scope → Scope
uncounted n s = record s { frame = s.frame - n }

-- with the objects of the function that another scope has, and no others
abbrev pub with_objects_of : Scope → Scope → Scope
with_objects_of before s = record s { objects = before.objects; frame = before.frame }

abbrev pub with_static : ObjectType → List ℤ → Scope → Scope
with_static u initial s = record s {
  statics = s.statics ++ (record {
    object = record {
      object_type = u;
      cells = counted (cells u);
      start = start_at most_static_cells s.static_cells;
    };
    initial = initial;
  } ∷ []);
  static_cells = sum_of s.static_cells (counted (cells u));
}

abbrev pub with_array : Scope → Scope
with_array s = record s { arrays = start_at most_numbered (s.arrays + 1) }

-- ---- blocks

-- a new block, which may be the body of a `switch` with the labels so far
abbrev pub entered : Option Labels → Scope → Scope
entered labels s = record s {
  names_from = length s.names;
  tags_from = length s.tags;
  is_file = false;
  labels = labels;
}

abbrev pub block : Scope → Scope
block s = entered None s

-- the end of a block: the names before it, and all objects
abbrev pub left : Scope → Scope → Scope
left outer inner = record inner {
  names = take (length outer.names) inner.names;
  tags = take (length outer.tags) inner.tags;
  names_from = outer.names_from;
  tags_from = outer.tags_from;
  is_file = outer.is_file;
  labels = outer.labels;
}

-- the parameters of a function, whose objects begin a frame
abbrev pub prototype : Scope → Scope
prototype s = record (block s) { objects = []; frame = 0; arrays = 0 }

-- The outermost block of a body has the names of the parameters (C17 6.2.1p4). The function's own
-- name stands before them, at file scope: `outer` is that scope without it, `file` with it.
abbrev pub body_scope : Scope → Scope → Scope → Scope
body_scope outer file inner = record inner {
  names = file.names ++ drop (length outer.names) inner.names;
  names_from = length file.names;
}

-- the end of a function
abbrev pub left_function : Scope → Scope → Scope
left_function file inner = record (left file inner) { objects = []; frame = 0; arrays = 0 }
