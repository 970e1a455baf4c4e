-- The rows of a program do not depend on blanks and comments: at other places of its tokens it has
-- its rows, at those places.
use Rattle.std.specs.Prelude.{◌≡◌, List, Some}
use Rattle.mc_lex.specs.Tokens.{Tok}
use Rattle.mc_tree.specs.Tree.{Item}
use Rattle.mc_typed.specs.Tree.{Program}
use Rattle.types_rules.specs.Typing.{typing_of}
use Rattle.mc_probe.specs.Maps.{Map, IsMapOf}
use Rattle.mc_probe.specs.Table.{instrumented}
use Rattle.reread_law_texts.specs.alike.Moves.{Move, AllFit}
use Rattle.reread_law_texts.specs.alike.Trees.{moved_unit}
use Rattle.reread_law_places.specs.still.Unplaced.{unplaced}
use Rattle.reread_law_printed.specs.parts.Stands.{AreAmong}
use Rattle.reread_law_printed.specs.parts.Moved.{AreMoved}

-- Where the functions of a program stand among the tokens of its text, the program of the moved
-- unit has a map with as many bits. With that map its tree with probes is the same, places left
-- out, and its functions and their rows are moved.
abbrev pub RowsAreMoved : Type 0
RowsAreMoved =
    (move : Move) (tokens : List Tok) (unit : List Item) (p q : Program) (m : Map)
    → AllFit move tokens → AreAmong (instrumented m p).program.functions tokens
    → typing_of unit ≡ Some p → typing_of (moved_unit move unit) ≡ Some q → IsMapOf p m
    → (n : Map) × IsMapOf q n × (n.bits ≡ m.bits)
    × (unplaced (instrumented n q) ≡ unplaced (instrumented m p))
    × AreMoved move (instrumented m p).program.functions (instrumented n q).program.functions
