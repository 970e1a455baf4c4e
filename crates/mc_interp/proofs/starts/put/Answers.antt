use Rattle.std.proofs.Common.{◌≡◌, ℕ, ◌+◌, ◌≤◌, ℤ, Bool, true, if◌then◌else◌, List, [], ◌∷◌, ◌++◌, length, replicate, sym, ap, ◌∙◌, arith, Option, Some, None}
use Rattle.std.specs.Prelude.{slice_set}
use Rattle.std.proofs.lemmas.Bool.Decides.{nat_tests}
use Rattle.std.proofs.lemmas.Int.{to_z-of_z}
use Rattle.std.proofs.lemmas.List.{set_at}
use mir.Syntax.{w128}
use Rattle.mc_cells.specs.Rows.{Row, base_of, entered, fits, with_cells}
use Rattle.mc_interp.proofs.Placed.{some_eq}
use Rattle.mc_interp.proofs.starts.put.Goals as goal

one_fits : (row : Row) → length row.cells + 1 ≤ row.limit → fits row 1 ≡ true
one_fits row room = grind (arith, nat_tests)

abbrev none : Option ℤ
none = None

put_more : (row : Row) (at : ℕ) (v : Option ℤ) (mid new : Row) → length row.cells + 1 ≤ row.limit → Some at ≡ base_of row 1 → mid ≡ entered row 1 →
    new ≡ with_cells mid (slice_set mid.cells at v) → new ≡ with_cells row (row.cells ++ v ∷ [])
put_more row at v mid new room base is put =
    let f : fits row 1 ≡ true = one_fits row room in
    let b : at ≡ length row.cells = some_eq at (length row.cells) (base ∙ ap (λ (b : Bool). if b then Some (length row.cells) else None) f) in
    let m : mid ≡ with_cells row (row.cells ++ none ∷ []) = is ∙ ap (λ (b : Bool). if b then with_cells row (row.cells ++ replicate 1 none) else row) f in
    put ∙ ap (λ (r : Row). with_cells r (slice_set r.cells at v)) m ∙ ap (λ (l : List (Option ℤ)). with_cells row l) (set_at row.cells none [] v at (sym b))

pub returns-in-Some : goal.returns-in-Some
returns-in-Some c =
    put_more c.args.cells.now c.in-Some.at (Some c.args.value) c.enter.new.self c.set.new.self c.requires c.in-Some.ensures.base c.enter.ensures.cells
    (rw (to_z-of_z w128 c.args.value c.ranges.value) at c.set.ensures)
