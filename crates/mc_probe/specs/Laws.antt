-- What follows from the definitions.
use Rattle.std.specs.Prelude.{◌≡◌, ◌↔◌, List, length}
use Rattle.mc_span.specs.declared.span.Span.{Span}
use Rattle.mc_cond.specs.Tree.{Tree}
use Rattle.mc_typed.specs.Tree as typed
use Rattle.mc_typed.specs.Sound.{IsSound}
use Rattle.mc_typed.specs.Views.{Parts}
use Rattle.mc_typed.specs.Views as plain
use Rattle.mc_probe.specs.declared.bit_map.BitMap.{BitMap}
use Rattle.mc_probe.specs.BitMaps.{map_of}
use Rattle.mc_steps.specs.Points.{Points, points_before}
use Rattle.mc_probe.specs.Obligations.{exit_spans, statement_spans, label_spans}
use Rattle.mc_probe.specs.Maps.{IsMap}
use Rattle.mc_probe.specs.Same.{IsSame}
use Rattle.mc_typed.specs.declared.functions.Function.{Function}
use Rattle.mc_probe.specs.Views.{function_of, program_of}
use Rattle.mc_probe.specs.Erase.{erase, erase_function}
use Rattle.mc_probe.specs.Bare.{bare_tree}
use Rattle.mc_probe.specs.WellFormed.{IsWellFormed}

-- a map keeps what a map has to keep
abbrev pub MapsAreKept : Type 0
MapsAreKept = (m : BitMap) → IsMap (map_of m)

-- the relation of the map's trees is equality
abbrev pub SameTreesAreEqual : Type 0
SameTreesAreEqual = (a b : Tree) → IsSame a b ↔ (a ≡ b)

-- the probes taken away, a tree is the program that typed programs stand for
abbrev pub TreesEraseToPrograms : Type 0
TreesEraseToPrograms = (parts : Parts) → erase (program_of parts) ≡ plain.program_of parts

abbrev pub FunctionsErase : Type 0
FunctionsErase = (f : Function) → erase_function (function_of f) ≡ plain.function_of f

-- as many statements, exits and labels are listed as are numbered
pub record AreCounted (ss xs ls : List Span) (q : Points) : Type 0 where
  pub statements : length ss ≡ q.statements
  pub exits : length xs ≡ q.exits
  pub labels : length ls ≡ q.labels

-- The numbers of the events of a program end where its lists of places end.
abbrev pub EventsAreListed : Type 0
EventsAreListed = (p : typed.Program) →
    AreCounted (statement_spans p) (exit_spans p) (label_spans p)
    (points_before p.functions (length p.functions))

-- a tree without probes is its program, and well-formed
abbrev pub BareTreesErase : Type 0
BareTreesErase = (p : typed.Program) → erase (bare_tree p).program ≡ p

abbrev pub BareTreesAreWellFormed : Type 0
BareTreesAreWellFormed = (p : typed.Program) → IsSound p → IsWellFormed (bare_tree p)
