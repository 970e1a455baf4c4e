-- The first piece of a text, and the others.
use Rattle.std.proofs.Common.{◌≡◌, ◌∙◌, ◌<◌, ◌+◌, ◌-◌, ◌==◌, ℕ, suc, ℤ, List, [], ◌∷◌, ◌++◌, Option, Some, None, option_map, Bool, true, false, not, length, take, drop, refl, sym, ap, arith, length-drop, add-one, append_assoc}
use Rattle.std.specs.List.{prefix_len}
use Rattle.std.proofs.lemmas.List.{take_all}
use Rattle.plan_fields.specs.Numbers.{pieces_of, and_number, all_numbers}
use Rattle.plan_fields.specs.steps.Pieces.{pieces_after}

abbrev goes_on : ℕ → Bool
goes_on b = not (b == 32)

-- the bytes before the first space
abbrev front_len : List ℕ → ℕ
front_len text = prefix_len goes_on text

pub pieces_whole : (text : List ℕ) → front_len text ≡ length text → pieces_of text ≡ text ∷ []
pieces_whole [] is = refl
pieces_whole (b ∷ bs) is = by_space (b == 32) refl (pieces_whole bs)
  where
    by_space : (space : Bool) → (b == 32) ≡ space → (front_len bs ≡ length bs → pieces_of bs ≡ bs ∷ []) → pieces_of (b ∷ bs) ≡ (b ∷ bs) ∷ []
    by_space true eq later = let none : 0 ≡ suc (length bs) = rw eq at is in absurd (omega arith)
    by_space false eq later = let more : 1 + front_len bs ≡ suc (length bs) = rw eq at is in rw (eq, later (omega arith)) refl

pieces_front : (text : List ℕ) → front_len text < length text → pieces_of text ≡ take (front_len text) text ∷ pieces_of (drop (suc (front_len text)) text)
pieces_front [] short = absurd (omega arith)
pieces_front (b ∷ bs) short = by_space (b == 32) refl (pieces_front bs)
  where
    by_space : (space : Bool) → (b == 32) ≡ space → (front_len bs < length bs → pieces_of bs ≡ take (front_len bs) bs ∷ pieces_of (drop (suc (front_len bs)) bs))
        → pieces_of (b ∷ bs) ≡ take (front_len (b ∷ bs)) (b ∷ bs) ∷ pieces_of (drop (suc (front_len (b ∷ bs))) (b ∷ bs))
    by_space true eq later = rw eq refl
    by_space false eq later =
        let more : 1 + front_len bs < suc (length bs) = rw eq at short in
        let next : suc (front_len bs) ≡ 1 + front_len bs = omega arith in
        rw (eq, later (omega arith), ← next) refl

pub pieces_cut : (text : List ℕ) (at : ℕ) → at ≡ front_len text → at < length text → pieces_of text ≡ take at text ∷ pieces_of (take (length text - (at + 1)) (drop (at + 1) text))
pieces_cut text at is short = rw (take_all (length text - (at + 1)) (drop (at + 1) text) (simp length-drop (omega arith)), add-one, is) (pieces_front text (omega arith))

more_numbers : (done : List ℤ) (z : ℤ) (o : Option (List ℤ)) → option_map (λ zs. done ++ zs) (and_number (Some z) o) ≡ option_map (λ zs. (done ++ z ∷ []) ++ zs) o
more_numbers done z None = refl
more_numbers done z (Some zs) = ap Some (sym (append_assoc done (z ∷ []) zs))

-- the first piece is a number, which is put after those before it
pub next_number : (read : List ℕ → Option ℤ) (text piece : List ℕ) (later : Option (List ℕ)) (done : List ℤ) (z : ℤ) (all : Option (List ℤ))
    → pieces_of text ≡ piece ∷ pieces_after later → read piece ≡ Some z
    → option_map (λ zs. done ++ zs) (all_numbers read (pieces_of text)) ≡ all → option_map (λ zs. (done ++ z ∷ []) ++ zs) (all_numbers read (pieces_after later)) ≡ all
next_number read text piece later done z all is number whole = sym (more_numbers done z (all_numbers read (pieces_after later))) ∙ (rw (is, number) at whole)
