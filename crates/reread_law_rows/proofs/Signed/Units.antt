-- The brackets of functions and whole units.
use Rattle.std.proofs.Common.{◌≡◌, ℕ, ◌==◌, Bool, true, false, if◌then◌else◌, List, [], ◌∷◌, Some, None, refl}
use Rattle.mc_span.specs.declared.span.Span.{Span}
use Rattle.mc_tree.specs.Tree.{Name, BlockItems, Item}
use Rattle.mc_typed.specs.Tree.{Program}
use Rattle.mc_typed.specs.Tree as typed
use Rattle.types_rules.specs.Typing.{typing_of}
use Rattle.mc_steps.specs.Points.{Points, no_points, all_complete}
use Rattle.mc_probe.specs.Maps.{Map}
use Rattle.mc_probe.specs.Tree as p
use Rattle.mc_probe.specs.Table.{put_function, put_functions, instrumented}
use Rattle.reread_pieces.specs.declared.piece.What.TheVariants as what
use Rattle.reread_law_texts.specs.weave.Brackets.{Brackets}
use Rattle.reread_law_texts.specs.brackets.Signs.{Sign, signs_in_block, signs_in_unit}
use Rattle.reread_law_rows.specs.inserted.Rows.{Row, exit_row, rows_in_function, rows_in_functions, rows_of}
use Rattle.reread_law_rows.specs.inserted.Signs.{count_round, brackets_of}
use Rattle.reread_law_texts.specs.apart.Places.{spans_in_block, spans_in_unit, statement_spans_in_block, statement_spans_in_unit}
use Rattle.reread_law_texts.specs.apart.Distinct.{Each}
use Rattle.laws_types.specs.SourceUnits.{IsFunctionOf, AreFunctionsOf, ProgramsHaveTheirSource}
use Rattle.laws_types.specs.SourceUnits as of
use Rattle.reread_law_rows.specs.signed.Laws.{BracketsAreAfterTokens, BracketsAreFew, SignsAreThoseOfTheTree}
use Rattle.reread_law_rows.proofs.Signed.Signed.{Level, Signed, ended, other}
use Rattle.reread_law_rows.proofs.Signed.Silent.{silent_in_specifiers, silent_in_parameters, silent_in_declaration}
use Rattle.reread_law_rows.proofs.Signed.Bodies.{items}

registers_row : (w : Brackets) (f : p.Function) (b : Bool) {o : List Level} {own held : List Span} {mine : List Row} {ps : List Sign}
    → Signed w o own held mine ps → Signed w o own held (if b then mine else record { what = what.Registers f.registers; span = f.name_span; end = f.closing.end } ∷ mine) ps
registers_row w f true t = t
registers_row w f false t = other w _ refl refl (λ later. refl) t

left_row : (w : Brackets) (f : p.Function) (b : Bool) (n : ℕ) {o : List Level} {own held : List Span} {mine : List Row} {ps : List Sign}
    → Signed w o own held mine ps → Signed w o own held (exit_row f (if b then Some n else None) mine) ps
left_row w f true n t = other w _ refl refl (λ later. refl) t
left_row w f false n t = t

function : (w : Brackets) (m : Map) {name : Name} {body : BlockItems} {span : Span} {f : typed.Function} → IsFunctionOf name body span f → (number decisions : ℕ) (points : Points)
    → {o : List Level} {own held : List Span} {mine : List Row} {ps : List Sign}
    → Signed w o own held mine ps → Signed w o (spans_in_block body own) (statement_spans_in_block body held) (rows_in_function (put_function m number decisions points f) mine) (signs_in_block w body ps)
function w m {f = f} h number decisions points t =
    let g = put_function m number decisions points f in
    registers_row w g (g.registers == 0)
    (other w _ refl refl (λ later. refl) (items w m decisions h.items 0 _ (left_row w g (all_complete f.body) _ t)))

pub functions : (w : Brackets) (m : Map) {unit : List Item} {fs : List typed.Function} → AreFunctionsOf unit fs → (number decisions : ℕ) (points : Points)
    → Signed w [] (spans_in_unit unit) (statement_spans_in_unit unit) (rows_in_functions (put_functions m number decisions points fs) []) (signs_in_unit w unit)
functions w m of.no_functions number decisions points = ended w
functions w m (of.declared {d = d} h) number decisions points = silent_in_declaration w d (functions w m h number decisions points)
functions w m (of.defined {words = words} {given = given} h l) number decisions points =
    silent_in_specifiers w words (silent_in_parameters w given (function w m h number decisions points (functions w m l _ _ _)))

-- ---- whole texts

as_counted : (rows : List Row) (own : List Span) → Each (λ s. count_round s rows ≡ count_round s rows) own
as_counted rows [] = tt
as_counted rows (s ∷ own) = (refl, as_counted rows own)

rows_signed : ProgramsHaveTheirSource → (unit : List Item) (p : Program) (m : Map) → typing_of unit ≡ Some p
    → Signed (brackets_of (rows_of (instrumented m p))) [] (spans_in_unit unit) (statement_spans_in_unit unit) (rows_of (instrumented m p))
    (signs_in_unit (brackets_of (rows_of (instrumented m p))) unit)
rows_signed source unit p m e = functions (brackets_of (rows_of (instrumented m p))) m (source unit p e) 0 0 no_points

pub unit_signs : ProgramsHaveTheirSource → SignsAreThoseOfTheTree
unit_signs source unit p m e distinct =
    (rows_signed source unit p m e).same tt
    (record {
      distinct = distinct;
      parentheses = as_counted (rows_of (instrumented m p)) (spans_in_unit unit);
      braces = λ s e. e;
    })

pub unit_few : ProgramsHaveTheirSource → BracketsAreFew
unit_few source unit p m e distinct = (rows_signed source unit p m e).few distinct

pub unit_late : ProgramsHaveTheirSource → BracketsAreAfterTokens
unit_late source unit p m e places statements =
    let all = rows_signed source unit p m e in (all.late places, all.braces_late statements)
