-- What each change of the row that is kept makes of the cells in use.
use Rattle.std.proofs.Common.{◌≡◌, ℕ, ◌+◌, ◌<◌, ◌≤◌, ℤ, List, ◌++◌, length, map, take, replicate, set, Option, None, if◌then◌else◌, nat_le, le-leb, true, sym, ap, subst, ◌∙◌, arith}
use Rattle.std.proofs.lemmas.List.{length-map}
use Rattle.mc_cells.specs.Rows.{Row, with_cells, filled, moved, left, fits, entered}
use Rattle.mc_cells.specs.steps.Kept.{number_of}
use Rattle.mc_cells.specs.declared.cell.Cell.{Cell}
use Rattle.mc_cells.proofs.Lists.{length_begun, length_more, take_front, seen_set, seen_filled, seen_moved, seen_entered, seen_left}

abbrev pub row_of : List Cell → ℕ → ℕ → Row
row_of cells used limit = record { cells = map number_of (take used cells); limit = limit }

in_use : (cells : List Cell) (used limit : ℕ) (row : Row) → used ≤ length cells →
    row_of cells used limit ≡ row → length row.cells ≡ used
in_use cells used limit row h e =
    sym (ap (λ (r : Row). length r.cells) e) ∙ length-map (take used cells) number_of ∙ length_begun cells used h

-- other cells, as many in use
changed : (old new : List Cell) (used limit : ℕ) (row : Row) (change : List (Option ℤ) → List (Option ℤ)) →
    row_of old used limit ≡ row →
    map number_of (take used new) ≡ change (map number_of (take used old)) →
    row_of new used limit ≡ with_cells row (change row.cells)
changed old new used limit row change e h =
    ap (λ (cells : List (Option ℤ)). record { cells = cells; limit = limit }) h
    ∙ ap (λ (r : Row). with_cells r (change r.cells)) e

pub set_row : (cells : List Cell) (used limit at : ℕ) (cell : Cell) (value : Option ℤ) (row : Row) →
    used ≤ length cells → row_of cells used limit ≡ row → number_of cell ≡ value →
    at < length row.cells →
    row_of (set cells at cell) used limit ≡ with_cells row (set row.cells at value)
set_row cells used limit at cell value row h e v l =
    let n = in_use cells used limit row h e in
    changed cells (set cells at cell) used limit row (λ xs. set xs at value) e
    (seen_set number_of cells used at cell (subst (λ k. at < k) n l)
    ∙ ap (λ x. set (map number_of (take used cells)) at x) v)

pub in_row : (cells : List Cell) (used limit : ℕ) (row : Row) (n : ℕ) → used ≤ length cells →
    row_of cells used limit ≡ row → n ≤ length row.cells → n ≤ length cells
in_row cells used limit row n h e g =
    let all = in_use cells used limit row h e in
    omega (arith, h, subst (λ k. n ≤ k) all g)

pub fill_row : (cells new : List Cell) (used limit at count : ℕ) (cell : Cell) (value : Option ℤ) (row : Row) →
    used ≤ length cells → row_of cells used limit ≡ row → number_of cell ≡ value →
    at + count ≤ length row.cells → new ≡ filled at count cell cells →
    row_of new used limit ≡ with_cells row (filled at count value row.cells)
fill_row cells new used limit at count cell value row h e v l made =
    let n = in_use cells used limit row h e in
    ap (λ xs. row_of xs used limit) made ∙
    changed cells (filled at count cell cells) used limit row (filled at count value) e
    (seen_filled number_of cells used at count cell (subst (λ k. at + count ≤ k) n l) h
    ∙ ap (λ x. filled at count x (map number_of (take used cells))) v)

pub copy_row : (cells new : List Cell) (used limit from to count : ℕ) (row : Row) →
    used ≤ length cells → row_of cells used limit ≡ row →
    from + count ≤ length row.cells → to + count ≤ length row.cells →
    new ≡ moved from to count cells → row_of new used limit ≡ with_cells row (moved from to count row.cells)
copy_row cells new used limit from to count row h e l m made =
    let n = in_use cells used limit row h e in
    ap (λ xs. row_of xs used limit) made ∙
    changed cells (moved from to count cells) used limit row (moved from to count) e
    (seen_moved number_of cells used from to count (subst (λ k. from + count ≤ k) n l) (subst (λ k. to + count ≤ k) n m) h)

grown : (cells : List Cell) (used limit count : ℕ) (cell : Cell) (row : Row) →
    used + count ≤ length cells → row_of cells used limit ≡ row → number_of cell ≡ None →
    row_of (filled used count cell cells) (used + count) limit
    ≡ with_cells row (row.cells ++ replicate count None)
grown cells used limit count cell row h e v =
    ap (λ (xs : List (Option ℤ)). record { cells = xs; limit = limit })
    (seen_entered number_of cells used count cell h
    ∙ ap (λ x. map number_of (take used cells) ++ replicate count x) v)
    ∙ ap (λ (r : Row). with_cells r (r.cells ++ replicate count None)) e

pub leave_row : (cells : List Cell) (used limit base : ℕ) (row : Row) →
    used ≤ length cells → row_of cells used limit ≡ row → base ≤ length row.cells →
    row_of cells base limit ≡ left row base
leave_row cells used limit base row h e l =
    let n = in_use cells used limit row h e in
    ap (λ (xs : List (Option ℤ)). record { cells = xs; limit = limit })
    (seen_left number_of cells used base (subst (λ k. base ≤ k) n l))
    ∙ ap (λ (r : Row). left r base) e

-- with more cells at the end
further : (cells : List Cell) (used limit more : ℕ) (cell : Cell) (row : Row) →
    used ≤ length cells → row_of cells used limit ≡ row →
    row_of (cells ++ replicate more cell) used limit ≡ row
further cells used limit more cell row h e =
    ap (λ (xs : List Cell). record { cells = map number_of xs; limit = limit })
    (take_front cells (replicate more cell) used h)
    ∙ e

-- where the cells fit
pub enter_row : (cells new : List Cell) (used limit count more : ℕ) (cell : Cell) (row : Row) →
    used ≤ length cells → used + count ≤ limit → used + count ≤ length cells + more →
    row_of cells used limit ≡ row → number_of cell ≡ None →
    new ≡ filled used count cell (cells ++ replicate more cell) →
    row_of new (used + count) limit ≡ entered row count
enter_row cells new used limit count more cell row h fit long e v made =
    let n = in_use cells used limit row h e in
    let fits_in : fits row count ≡ true =
    ap (λ k. nat_le (k + count) row.limit) n
    ∙ ap (λ (r : Row). nat_le (used + count) r.limit) (sym e)
    ∙ le-leb (used + count) limit fit
    in
    let all = length_more cells cell more in
    ap (λ xs. row_of xs (used + count) limit) made
    ∙ grown (cells ++ replicate more cell) used limit count cell row (omega (arith, long, all))
    (further cells used limit more cell row h e) v
    ∙ ap (λ b. if b then with_cells row (row.cells ++ replicate count None) else row) (sym fits_in)
