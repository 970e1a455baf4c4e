-- What values on the heap stand for.
use Rattle.std.specs.Prelude.{Box}
use Rattle.std.specs.declared.alloc.Global.{Global}
use Rattle.mc_tree.specs.Tree as tree
use Rattle.mc_tree.specs.declared.statements.statement.Statement.{Statement}
use Rattle.mc_tree.specs.declared.statements.for_start.ForStart.{ForStart}
use Rattle.mc_tree.specs.Units.{start_of, statement_of}

-- a statement on the heap
abbrev pub body_of : Box Statement Global → tree.Statement
body_of one = statement_of one.value

-- the first part of a `for` on the heap
abbrev pub heap_start_of : Box ForStart Global → tree.ForStart
heap_start_of start = start_of start.value
