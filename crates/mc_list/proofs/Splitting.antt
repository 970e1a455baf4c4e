-- The first line of a text, and the lines after it.
use Rattle.std.proofs.Common.{◌≡◌, ◌+◌, ◌<◌, ℕ, suc, Bool, true, false, List, [], ◌∷◌, length, take, drop, map, refl, sym, ap, subst, arith}
use Rattle.std.specs.Prelude.{if◌then◌else◌}
use Rattle.mc_lex.specs.Bytes.{is_line_end}
use Rattle.mc_list.specs.Lines.{with_byte, lines_of, placed_from, stripped}
use Rattle.mc_list.specs.steps.First.{first_len}

-- by whether the first byte ends the line
by_first : (ends : Bool) (b : ℕ) (bs : List ℕ) → with_byte b (lines_of bs) ≡ (b ∷ take (first_len bs) bs) ∷ lines_of (drop (first_len bs) bs)
    → (if ends then (b ∷ []) ∷ lines_of bs else with_byte b (lines_of bs))
    ≡ take (if ends then 1 else suc (first_len bs)) (b ∷ bs) ∷ lines_of (drop (if ends then 1 else suc (first_len bs)) (b ∷ bs))
by_first true b bs e = refl
by_first false b bs e = e

split : (b : ℕ) (bs : List ℕ) → lines_of (b ∷ bs) ≡ take (first_len (b ∷ bs)) (b ∷ bs) ∷ lines_of (drop (first_len (b ∷ bs)) (b ∷ bs))
split b [] = by_first (is_line_end b) b [] refl
split b (c ∷ cs) = by_first (is_line_end b) b (c ∷ cs) (ap (with_byte b) (split c cs))

pub first_line : (bs : List ℕ) → 0 < length bs → lines_of bs ≡ take (first_len bs) bs ∷ lines_of (drop (first_len bs) bs)
first_line [] some = absurd (omega arith)
first_line (b ∷ bs) some = split b bs

-- the same of lines with their places
pub placed_line : (number start : ℕ) (bs line later : List ℕ) → 0 < length bs → line ≡ take (first_len bs) bs → later ≡ drop (first_len bs) bs
    → placed_from number start (lines_of bs) ≡ record { number = number; start = start; bytes = line } ∷ placed_from (number + 1) (start + length line) (lines_of later)
placed_line number start bs line later some is after =
    let both : lines_of bs ≡ line ∷ lines_of later = rw (is, after) (first_line bs some) in
    ap (placed_from number start) both

-- and of lines without their margins
pub stripped_line : (bs line later piece : List ℕ) → 0 < length bs → line ≡ take (first_len bs) bs → later ≡ drop (first_len bs) bs → piece ≡ drop 12 line
    → stripped bs ≡ piece ∷ stripped later
stripped_line bs line later piece some is after own =
    let both : lines_of bs ≡ line ∷ lines_of later = rw (is, after) (first_line bs some) in
    subst (λ (p : List ℕ). stripped bs ≡ p ∷ stripped later) (sym own) (ap (map (drop 12)) both)
