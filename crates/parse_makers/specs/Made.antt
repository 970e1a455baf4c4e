-- Nodes that were made on the heap.
use Rattle.std.specs.Prelude.{◌≡◌, Result, Ok, Err, Box}
use Rattle.std.specs.declared.alloc.Global.{Global}
use Rattle.mc_tree.specs.Tree as source_tree
use Rattle.mc_tree.specs.declared.statements.statement.Statement.{Statement}
use Rattle.mc_tree.specs.Units.{statement_of}
use Rattle.parse_cursor.specs.declared.fault.Fault.{Fault}
use Rattle.parse_cursor.specs.Cursors.{NotMade}

-- a statement on the heap
abbrev pub body_of : Box Statement Global → source_tree.Statement
body_of s = statement_of s.value

-- a statement that was made on the heap: nothing else can go wrong than memory
abbrev pub IsMade : source_tree.Statement → Result (Box Statement Global) Fault → Type 0
IsMade tree (Ok s) = body_of s ≡ tree
IsMade tree (Err fault) = NotMade fault
