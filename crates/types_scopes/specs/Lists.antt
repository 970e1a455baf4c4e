-- Lists of the program, whatever is in them.
use Rattle.std.specs.Prelude.{List, Vec}
use Rattle.std.specs.declared.alloc.Global.{Global}

abbrev pub items_in : {A : Type 0} → Vec A Global → List A
items_in v = v.items
