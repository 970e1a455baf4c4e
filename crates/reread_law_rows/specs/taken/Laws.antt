-- The probes of an instrumented text are found at what the table puts them at.
use Rattle.std.specs.Prelude.{◌≡◌, List, Some}
use Rattle.mc_lex.specs.declared.token.Dialect.{Dialect}
use Rattle.mc_lex.specs.Tokens.{Tok}
use Rattle.mc_tree.specs.Tree.{Item}
use Rattle.mc_grammar.specs.Items.{IsTree}
use Rattle.reread_law_texts.specs.alike.Moves.{FollowFrom}
use Rattle.mc_typed.specs.Tree.{Program}
use Rattle.types_rules.specs.Typing.{typing_of}
use Rattle.reread_pieces.specs.declared.placed.Placed.{Placed}
use Rattle.reread_probes.specs.declared.probe.Probe.{Probe}
use Rattle.reread_probes.specs.Walks.{start, answer}
use Rattle.reread_probes.specs.Statements.{walk_items}
use Rattle.reread_law_texts.specs.weave.Trees.{bracketed_unit}
use Rattle.mc_probe.specs.Maps.{Map}
use Rattle.mc_probe.specs.Table.{instrumented}
use Rattle.reread_law_rows.specs.inserted.Rows.{Row, rows_of}
use Rattle.reread_law_rows.specs.inserted.Signs.{brackets_of}
use Rattle.reread_law_rows.specs.inserted.Seats.{probe_rows, AreThere, ArePlaced}
use Rattle.reread_law_texts.specs.apart.Places.{spans_in_unit}
use Rattle.reread_law_texts.specs.apart.Distinct.{IsDistinct}
use Rattle.reread_law_texts.specs.apart.Enclosed.{EnclosesInUnit}
use Rattle.reread_law_rows.specs.taken.Locals.{local_starts_in_unit}

-- the walk over the tree with the brackets of these rows places them all
abbrev pub AreTaken : List Item → List Row → List Probe → Type 0
AreTaken unit rows probes =
    (placed : List Placed)
    × (answer (walk_items (bracketed_unit (brackets_of rows) unit) (start probes)) ≡ Some placed)
    × ArePlaced rows placed

-- Where no two expressions of a unit stand at one place, no two declarations in its blocks start at
-- one byte, and each bracket of it starts before what it encloses: the probes that stand where the
-- rows of its program do are all placed, each at what its row stands at.
abbrev pub ProbesAreTaken : Type 0
ProbesAreTaken =
    (unit : List Item) (p : Program) (m : Map) (probes : List Probe)
    → typing_of unit ≡ Some p → IsDistinct (spans_in_unit unit)
    → IsDistinct (local_starts_in_unit unit) → EnclosesInUnit unit
    → AreThere (probe_rows (rows_of (instrumented m p))) probes
    → AreTaken unit (rows_of (instrumented m p)) probes

-- No two declarations in the blocks of a text start at one byte.
abbrev pub LocalsAreApart : Type 0
LocalsAreApart =
    (d : Dialect) (tokens : List Tok) (unit : List Item)
    → FollowFrom 0 tokens → IsTree d tokens unit → IsDistinct (local_starts_in_unit unit)
