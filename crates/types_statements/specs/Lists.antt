-- Lists of the program, whatever is in them.
use Rattle.std.specs.Prelude.{List, [], ◌∷◌, Option, Some, None, Box}
use Rattle.std.specs.declared.alloc.Global.{Global}
use Rattle.mc_typed.specs.declared.statements.Statement.{Statement}
use Rattle.mc_typed.specs.Views.{statement_of}
use Rattle.mc_typed.specs.Tree as typed

-- the element of a list of one
abbrev pub only_of : {A : Type 0} → List A → Option A
only_of [] = None
only_of (a ∷ []) = Some a
only_of (a ∷ b ∷ all) = None

-- the statement in a box
abbrev pub boxed_of : Box Statement Global → typed.Statement
boxed_of b = statement_of b.value
