-- Probes that are put back.
use Rattle.std.specs.Prelude.{◌≡◌, ℕ, ◌≤◌, List, Ok}
use Rattle.mc_limits.specs.Limits.{most_bits}
use Rattle.reread_pieces.specs.declared.placed.Placed.{Placed}
use Rattle.mc_typed.specs.Sound.{IsSound}
use Rattle.mc_typed.specs.Tree.{Program}
use Rattle.mc_probe.specs.Erase.{erase}
use Rattle.mc_probe.specs.Maps.{Map, IsMap}
use Rattle.mc_probe.specs.Table.{instrumented}
use Rattle.mc_probe.specs.Tree as p
use Rattle.mc_probe.specs.WellFormed.{FitFunctions}
use Rattle.reread_law_rows.specs.inserted.Rows.{rows_of}
use Rattle.reread_law_rows.specs.inserted.Seats.{ArePlaced}
use Rattle.reread_put_back.specs.Back.{put_back}
use Rattle.reread_law_texts.specs.apart.Distinct.{IsDistinct}
use Rattle.reread_law_probes.specs.put.Places.{places_of}
use Rattle.reread_law_probes.specs.put.Conversions.{ConversionsStand}
use Rattle.reread_law_probes.specs.put.Ends.{EndsBelow}
use Rattle.reread_law_probes.specs.put.Takes.{TakesAll}

-- No two integer expressions that are evaluated stand at one place. Each counted statement and
-- declaration, each label, absent `default`, `return` and entry has its probe, and each other probe
-- stands where the walk that puts probes back looks for it. Each probe names a register of its
-- function. The number of bits is the least that is above all bits which the probes name or reach,
-- and at most 65,536.
pub record IsReadBack (tree : p.Tree) : Type 0 where
  pub apart : IsDistinct (places_of tree)
  pub takes : TakesAll tree
  pub fits : FitFunctions tree.program.functions
  pub ends : EndsBelow tree.bits tree
  pub least : (n : ℕ) → EndsBelow n tree → tree.bits ≤ n
  pub few : tree.bits ≤ most_bits

-- The probes of such a tree, put back into the program under it, give the tree.
abbrev pub ProbesArePutBack : Type 0
ProbesArePutBack =
    (tree : p.Tree) (placed : List Placed)
    → IsReadBack tree → ArePlaced (rows_of tree) placed
    → put_back (erase tree.program) placed ≡ Ok tree

-- ---- the probes of the table

-- All bits that the probes of a tree name or reach are below its number of bits, and no lesser
-- number is above them all.
pub record IsCounted (tree : p.Tree) : Type 0 where
  pub ends : EndsBelow tree.bits tree
  pub least : (n : ℕ) → EndsBelow n tree → tree.bits ≤ n

-- The probes that the table puts on a program, put back into it.
abbrev pub TablesArePutBack : Type 0
TablesArePutBack =
    (program : Program) (m : Map) (placed : List Placed)
    → IsSound program → ConversionsStand program → IsMap m
    → IsDistinct (places_of (instrumented m program)) → IsCounted (instrumented m program)
    → ArePlaced (rows_of (instrumented m program)) placed
    → put_back program placed ≡ Ok (instrumented m program)
