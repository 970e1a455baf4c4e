-- Parameter lists, and the outermost block of a body.
use Rattle.std.specs.Prelude.{ℕ, ◌+◌, List, ◌∷◌, ◌++◌, map, length, take, drop}
use Rattle.mc_tree.specs.Tree.{Name}
use Rattle.mc_typed.specs.Tree.{Object}
use Rattle.mc_typed.specs.Views.{object_of}
use Rattle.types_rules.specs.Scopes.{Meaning, Scope}
use Rattle.types_scopes.specs.declared.prototypes.Objects.{Objects}
use Rattle.types_scopes.specs.declared.prototypes.Prototype.{Prototype}
use Rattle.types_scopes.specs.Blocks.{Around, around, around_of, left_by}

-- ---- objects of a function

-- how many there are, and the cells of the frame
pub record Counted : Type 0 where
  pub objects : ℕ
  pub frame : ℕ

abbrev pub counted : Scope → Counted
counted s = record { objects = length s.objects; frame = s.frame }

abbrev pub counted_of : Objects → Counted
counted_of o = record { objects = o.count; frame = o.frame }

-- the first so many, and no others
abbrev pub cut_to : Counted → Scope → Scope
cut_to a s = record s { objects = take a.objects s.objects; frame = a.frame }

-- ---- parameters of a declarator that is no definition's

-- what is kept of the scope around them
pub record AroundPrototype : Type 0 where
  pub block : Around
  pub structures : ℕ
  pub objects : List Object
  pub frame : ℕ
  pub arrays : ℕ

abbrev pub around_prototype : Scope → AroundPrototype
around_prototype s = record {
  block = around s;
  structures = length s.structures;
  objects = s.objects;
  frame = s.frame;
  arrays = s.arrays;
}

abbrev pub prototype_of : Prototype → AroundPrototype
prototype_of p = record {
  block = around_of p.block;
  structures = p.structures;
  objects = map object_of p.objects.items;
  frame = p.frame;
  arrays = p.arrays;
}

-- after them: what they declare is gone, and the objects are those from before
abbrev pub prototype_left_by : AroundPrototype → Scope → Scope
prototype_left_by a inner = record (left_by a.block inner) {
  structures = take a.structures inner.structures;
  objects = a.objects;
  frame = a.frame;
  arrays = a.arrays;
}

-- ---- the outermost block of a body

-- The function's name stands before those of the parameters, at file scope.
abbrev pub body_in : ℕ → Name → Meaning → Scope → Scope
body_in n name meaning s = record s {
  names = take n s.names
      ++ (record { name = name.text; meaning = meaning } ∷ drop n s.names);
  names_from = n + 1;
}

-- what is kept around the body: one name more
abbrev pub with_one_name : Around → Around
with_one_name a = record a { names = a.names + 1 }
