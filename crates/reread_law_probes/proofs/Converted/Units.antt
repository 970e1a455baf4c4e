-- Functions and whole units.
use Rattle.std.proofs.Common.{List}
use Rattle.mc_tree.specs.Tree.{Item}
use Rattle.mc_typed.specs.Sound.{AreFunctions, scope_of, outermost}
use Rattle.mc_typed.specs.Tree.{Function, Program}
use Rattle.reread_law_probes.specs.put.Conversions.{ConvertsFunctions}
use Rattle.laws_types.specs.Exact.{AreExactFunctions, UnitsAreExact}
use Rattle.laws_types.specs.SourceUnits.{AreFunctionsOf, ProgramsHaveTheirSource}
use Rattle.laws_types.specs.SourceUnits as of
use Rattle.reread_law_probes.specs.converted.Laws.{ImpliedConversionsStand}
use Rattle.reread_law_probes.proofs.Converted.Bodies.{items}

functions_stand : (p : Program) {unit : List Item} {fs : List Function} → AreFunctionsOf unit fs
    → AreExactFunctions fs → AreFunctions p fs → ConvertsFunctions fs
functions_stand p of.no_functions x s = tt
functions_stand p (of.declared h) x s = functions_stand p h x s
functions_stand p (of.defined {f = f} h l) x s =
    (items (scope_of p f) h.items outermost x.0 s.0.body, functions_stand p l x.1 s.1)

pub units_stand : ProgramsHaveTheirSource → UnitsAreExact → ImpliedConversionsStand
units_stand source exact unit p e sound =
    functions_stand p (source unit p e) (exact unit p e) sound.functions
