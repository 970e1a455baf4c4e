-- The rows of functions and whole units.
use Rattle.std.proofs.Common.{◌≡◌, ℕ, ◌==◌, Bool, true, false, if◌then◌else◌, List, [], ◌∷◌, Some, None}
use Rattle.mc_span.specs.declared.span.Span.{Span}
use Rattle.mc_lex.specs.Tokens.{Tok}
use Rattle.mc_tree.specs.Tree.{Name, BlockItems, Item}
use Rattle.mc_typed.specs.Tree as typed
use Rattle.mc_steps.specs.Points.{Points, no_points, all_complete}
use Rattle.mc_probe.specs.Maps.{Map}
use Rattle.mc_probe.specs.Tree as p
use Rattle.mc_probe.specs.Table.{put_function, put_functions, instrumented}
use Rattle.reread_pieces.specs.declared.piece.What.TheVariants as what
use Rattle.reread_law_rows.specs.inserted.Rows.{Row, exit_row, rows_in_function, rows_in_functions, rows_of}
use Rattle.laws_types.specs.SourceUnits.{IsFunctionOf, AreFunctionsOf, ProgramsHaveTheirSource}
use Rattle.laws_types.specs.SourceUnits as of
use Rattle.reread_law_rows.specs.fitting.Fitting.{FitInBlock, FitInUnit}
use Rattle.reread_law_rows.specs.carried.Laws.{RowsFit}
use Rattle.reread_law_rows.proofs.Carried.Sitting.{Sit, none, some, all_fit}
use Rattle.reread_law_rows.proofs.Carried.Bodies.{items}

registers_row : (ts : List Tok) (f : p.Function) (b : Bool) {mine : List Row} → Sit ts mine
    → Sit ts (if b then mine else record { what = what.Registers f.registers; span = f.name_span; end = f.closing.end } ∷ mine)
registers_row ts f true t = t
registers_row ts f false t = some tt t

left_row : (ts : List Tok) (f : p.Function) (b : Bool) (n : ℕ) {mine : List Row} → Sit ts mine → Sit ts (exit_row f (if b then Some n else None) mine)
left_row ts f true n t = some tt t
left_row ts f false n t = t

function : (ts : List Tok) (m : Map) {name : Name} {body : BlockItems} {span : Span} {f : typed.Function} → IsFunctionOf name body span f → FitInBlock ts body
    → (number decisions : ℕ) (points : Points) {mine : List Row} → Sit ts mine → Sit ts (rows_in_function (put_function m number decisions points f) mine)
function ts m {f = f} h k number decisions points t =
    let g = put_function m number decisions points f in
    registers_row ts g (g.registers == 0) (some tt (items ts m decisions h.items k 0 _ (left_row ts g (all_complete f.body) _ t)))

functions : (ts : List Tok) (m : Map) {unit : List Item} {fs : List typed.Function} → AreFunctionsOf unit fs → FitInUnit ts unit → (number decisions : ℕ) (points : Points)
    → Sit ts (rows_in_functions (put_functions m number decisions points fs) [])
functions ts m of.no_functions k number decisions points = none
functions ts m (of.declared h) k number decisions points = functions ts m h k.1 number decisions points
functions ts m (of.defined h l) k number decisions points =
    function ts m h k.0 number decisions points (functions ts m l k.1 _ _ _)

pub unit_fits : ProgramsHaveTheirSource → RowsFit
unit_fits source ts unit p m e k = all_fit ts (rows_of (instrumented m p)) (functions ts m (source unit p e) k 0 0 no_points)
