-- The end of a block, from what was kept at its beginning.
use Rattle.std.specs.Prelude.{◌≡◌, ℕ, Bool, [], length, take, Option}
use Rattle.types_rules.specs.Scopes.{Labels, Scope, left, left_function}
use Rattle.types_scopes.specs.declared.blocks.Block.{Block}

-- what is kept of the scope around a block
pub record Around : Type 0 where
  pub names : ℕ
  pub tags : ℕ
  pub names_from : ℕ
  pub tags_from : ℕ
  pub is_file : Bool
  pub labels : Option Labels

abbrev pub around : Scope → Around
around s = record {
  names = length s.names;
  tags = length s.tags;
  names_from = s.names_from;
  tags_from = s.tags_from;
  is_file = s.is_file;
  labels = s.labels;
}

abbrev pub around_of : Block → Around
around_of b = record {
  names = b.names;
  tags = b.tags;
  names_from = b.names_from;
  tags_from = b.tags_from;
  is_file = b.is_file;
  labels = b.labels;
}

abbrev pub left_by : Around → Scope → Scope
left_by a inner = record inner {
  names = take a.names inner.names;
  tags = take a.tags inner.tags;
  names_from = a.names_from;
  tags_from = a.tags_from;
  is_file = a.is_file;
  labels = a.labels;
}

abbrev pub function_left_by : Around → Scope → Scope
function_left_by a inner = record (left_by a inner) { objects = []; frame = 0; arrays = 0 }

-- These are the ends that the rules give.
abbrev pub LeavesAsDefined : Type 0
LeavesAsDefined = (outer inner : Scope) → left_by (around outer) inner ≡ left outer inner

abbrev pub EndsFunctionsAsDefined : Type 0
EndsFunctionsAsDefined =
    (file inner : Scope) → function_left_by (around file) inner ≡ left_function file inner
