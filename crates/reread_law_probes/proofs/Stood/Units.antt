-- The places of functions and whole units.
use Rattle.std.proofs.Common.{ℕ, List, []}
use Rattle.mc_tree.specs.Tree.{Item}
use Rattle.mc_typed.specs.Tree as typed
use Rattle.mc_steps.specs.Points.{Points, no_points}
use Rattle.mc_probe.specs.Maps.{Map}
use Rattle.mc_probe.specs.Table.{put_functions}
use Rattle.reread_law_probes.specs.put.Places.{in_functions}
use Rattle.laws_types.specs.SourceUnits.{AreFunctionsOf, ProgramsHaveTheirSource}
use Rattle.laws_types.specs.SourceUnits as of
use Rattle.reread_law_probes.specs.stood.Laws.{ProgramsStandApart}
use Rattle.reread_law_probes.specs.stood.Stands.{stands_in_unit}
use Rattle.reread_law_probes.proofs.Stood.Counted.{Within, nothing, apart_within}
use Rattle.reread_law_probes.proofs.Stood.Bodies.{items, skipped_declaration}

functions : (m : Map) {unit : List Item} {fs : List typed.Function} → AreFunctionsOf unit fs → (number decisions : ℕ) (points : Points)
    → Within [] (in_functions (put_functions m number decisions points fs) []) (stands_in_unit unit)
functions m of.no_functions number decisions points = nothing
functions m (of.declared {d = d} h) number decisions points = skipped_declaration d (functions m h number decisions points)
functions m (of.defined h l) number decisions points =
    items m decisions h.items 0 _ (functions m l _ _ _)

pub units_apart : ProgramsHaveTheirSource → ProgramsStandApart
units_apart source unit p m e distinct = apart_within (functions m (source unit p e) 0 0 no_points) distinct
