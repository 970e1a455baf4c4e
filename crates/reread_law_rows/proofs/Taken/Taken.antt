-- Probes that stand where the rows of the table do are all placed.
use Rattle.std.proofs.Common.{◌≡◌, Bool, List, [], ◌∷◌, ◌++◌, map, Some, refl, sym, ap, ap₂, subst, ◌∙◌}
use Rattle.mc_tree.specs.Tree.{Item}
use Rattle.reread_probes.specs.declared.probe.Probe.{Probe}
use Rattle.reread_probes.specs.Walks.{Walk, start, answer_of, answer}
use Rattle.reread_probes.specs.Statements.{walk_items}
use Rattle.mc_steps.specs.Points.{no_points}
use Rattle.reread_law_texts.specs.weave.Brackets.{Brackets}
use Rattle.reread_law_texts.specs.weave.Trees.{bracketed_unit}
use Rattle.mc_probe.specs.Table.{instrumented}
use Rattle.reread_law_rows.specs.inserted.Rows.{Row, rows_of}
use Rattle.reread_law_rows.specs.inserted.Signs.{brackets_of}
use Rattle.reread_law_rows.specs.inserted.Seats.{probe_rows, AreThere, placed_rows, Seat, seat_of_row, seat_of}
use Rattle.reread_law_texts.specs.apart.Places.{spans_in_unit}
use Rattle.reread_law_texts.specs.apart.Distinct.{IsDistinct}
use Rattle.reread_law_texts.specs.apart.Enclosed.{EnclosesInUnit}
use Rattle.laws_types.specs.SourceUnits.{ProgramsHaveTheirSource}
use Rattle.reread_law_rows.specs.taken.Locals.{local_starts_in_unit}
use Rattle.reread_law_rows.specs.taken.Laws.{AreTaken, ProbesAreTaken}
use Rattle.reread_law_rows.proofs.Taken.Puts.{PutsUnit}
use Rattle.reread_law_rows.proofs.Taken.Claims.{unit_claims}
use Rattle.reread_law_rows.proofs.Taken.Steps.{Holds}
use Rattle.reread_law_rows.proofs.Taken.Counts.{unit_counts}
use Rattle.reread_law_rows.proofs.Taken.Where.{unit_places}
use Rattle.reread_law_rows.proofs.Taken.Right.{claims_right}
use Rattle.reread_law_rows.proofs.Taken.Sorted.{unit_starts}
use Rattle.reread_law_rows.proofs.Taken.WalkedStatements.{unit_walked}
use Rattle.reread_law_rows.proofs.Taken.Statements.{unit_puts}

none_left : (probes : List Probe) → AreThere [] probes → probes ≡ []
none_left [] h = refl
none_left (q ∷ probes) h = absurd h

nothing_more : {A : Type 0} (xs : List A) → xs ++ [] ≡ xs
nothing_more [] = refl
nothing_more (x ∷ xs) = ap (λ ys. x ∷ ys) (nothing_more xs)

all_taken : {w : Brackets} {all : List Seat} (walk : Walk) → Holds w all [] [] walk
    → (answer walk ≡ Some walk.placed) × (map seat_of walk.placed ≡ all)
all_taken walk h = (
  ap₂ (λ (b : Bool) (ps : List Probe). answer_of b ps walk.placed) h.fits (none_left walk.left h.there),
  sym (nothing_more (map seat_of walk.placed)) ∙ h.placed,
)

taken : (unit : List Item) (rows : List Row) (probes : List Probe) → PutsUnit unit rows
    → IsDistinct (spans_in_unit unit) → IsDistinct (local_starts_in_unit unit) → EnclosesInUnit unit
    → AreThere (probe_rows rows) probes → AreTaken unit rows probes
taken unit rows probes p distinct apart enclosed there =
    let w = brackets_of rows in
    let walk = walk_items (bracketed_unit w unit) (start probes) in
    let begun : Holds w (map seat_of_row (placed_rows rows)) rows (unit_claims p) (start probes) = record {
      there = there;
      fits = refl;
      placed = refl;
      claims = claims_right w (unit_claims p) (subst (λ all. IsDistinct all) (sym (unit_places p)) distinct)
          (unit_counts p) (unit_starts p apart);
      braces = λ s e. e;
    } in
    let done = all_taken walk (unit_walked p (start probes) enclosed begun) in
    (walk.placed, done.0, done.1)

pub probes_are_taken : ProgramsHaveTheirSource → ProbesAreTaken
probes_are_taken source unit p m probes typing distinct apart enclosed there =
    taken unit (rows_of (instrumented m p)) probes (unit_puts m (source unit p typing) 0 0 no_points) distinct apart enclosed there
