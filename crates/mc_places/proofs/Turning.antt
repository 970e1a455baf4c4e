-- Two bytes that begin or end a comment, and others.
use Rattle.std.proofs.Common.{◌≡◌, ◌∙◌, ◌-◌, ◌≤◌, ℕ, Bool, true, false, not, List, [], ◌∷◌, length, take, drop, get_or, refl, sym, ap, arith}
use Rattle.std.proofs.Math.Seq.{take-length}
use Rattle.std.proofs.lemmas.List.{length-drop}
use Rattle.mc_places.specs.Comments.{is_line_comment, stays_open, toggles}

pub rest_is : (n : ℕ) (bs : List ℕ) → take (length bs - n) (drop n bs) ≡ drop n bs
rest_is n bs = ap (λ (k : ℕ). take k (drop n bs)) (sym (length-drop n bs)) ∙ take-length (drop n bs)

toggled : (inside : Bool) (bs : List ℕ) → 2 ≤ length bs → is_line_comment inside (get_or bs 0 0) (get_or bs 1 0) ≡ false → toggles inside (get_or bs 0 0) (get_or bs 1 0) ≡ true → stays_open (not inside) (drop 2 bs) ≡ stays_open inside bs
toggled inside [] some line turns = absurd (omega arith)
toggled inside (a ∷ []) some line turns = absurd (omega arith)
toggled inside (a ∷ b ∷ bs) some line turns = rw (line, turns) refl

passed : (inside : Bool) (bs : List ℕ) → 2 ≤ length bs → is_line_comment inside (get_or bs 0 0) (get_or bs 1 0) ≡ false → toggles inside (get_or bs 0 0) (get_or bs 1 0) ≡ false → stays_open inside (drop 1 bs) ≡ stays_open inside bs
passed inside [] some line turns = absurd (omega arith)
passed inside (a ∷ []) some line turns = absurd (omega arith)
passed inside (a ∷ b ∷ bs) some line turns = rw (line, turns) refl

pub toggled_rest : (inside : Bool) (bs : List ℕ) → 2 ≤ length bs → is_line_comment inside (get_or bs 0 0) (get_or bs 1 0) ≡ false → toggles inside (get_or bs 0 0) (get_or bs 1 0) ≡ true
    → stays_open (not inside) (take (length bs - 2) (drop 2 bs)) ≡ stays_open inside bs
toggled_rest inside bs some line turns = ap (stays_open (not inside)) (rest_is 2 bs) ∙ toggled inside bs some line turns

pub passed_rest : (inside : Bool) (bs : List ℕ) → 2 ≤ length bs → is_line_comment inside (get_or bs 0 0) (get_or bs 1 0) ≡ false → toggles inside (get_or bs 0 0) (get_or bs 1 0) ≡ false
    → stays_open inside (take (length bs - 1) (drop 1 bs)) ≡ stays_open inside bs
passed_rest inside bs some line turns = ap (stays_open inside) (rest_is 1 bs) ∙ passed inside bs some line turns
