-- Values that were made on the heap.
use Rattle.std.specs.Prelude.{◌≡◌, Result, Ok, Err, Box}
use Rattle.std.specs.declared.alloc.Global.{Global}
use Rattle.parse_cursor.specs.declared.fault.Fault.{Fault}
use Rattle.parse_cursor.specs.Cursors.{NotMade}

-- a value that was made on the heap
abbrev pub IsOnHeap : {X : Type 0} → X → Result (Box X Global) Fault → Type 0
IsOnHeap x (Ok one) = one.value ≡ x
IsOnHeap x (Err fault) = NotMade fault
