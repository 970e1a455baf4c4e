-- What the reading of a whole text returns.
use Rattle.std.specs.Prelude.{◌≡◌, ◌≤◌, ℕ, List, Option, Some, None, Result, Ok, Err, Vec}
use Rattle.std.specs.declared.alloc.Global.{Global}
use Rattle.mc_tree.specs.Tree as tree
use Rattle.mc_tree.specs.Units.{items_of}
use Rattle.mc_tree.specs.declared.units.item.Item.{Item}
use Rattle.mc_grammar.specs.Words.{Lexeme}
use Rattle.mc_parse.specs.declared.fault.ParseFault.{ParseFault}
use Rattle.mc_parse.specs.declared.fault.ParseFault.TheVariants.{Syntax, OutOfMemory}

-- what was read, whatever is left
abbrev pub tree_in : Option (List tree.Item × List Lexeme) → Option (List tree.Item)
tree_in None = None
tree_in (Some read) = Some read.0

abbrev pub RefusesWhole : Option (List tree.Item) → ℕ → ParseFault → Type 0
RefusesWhole read count (Syntax at) = (read ≡ None) × (at ≤ count)
RefusesWhole read count OutOfMemory = Unit {0}

abbrev pub GivesWhole : Option (List tree.Item) → ℕ → Result (Vec Item Global) ParseFault → Type 0
GivesWhole read count (Ok all) = read ≡ Some (items_of all.items)
GivesWhole read count (Err fault) = RefusesWhole read count fault
