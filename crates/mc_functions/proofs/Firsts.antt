-- The first of some items, and those after it.
use Rattle.std.proofs.Common.{◌≡◌, ◌∙◌, ◌-◌, ◌≤◌, ℕ, List, [], ◌∷◌, length, take, drop, get_or, sym, ap, arith}
use Rattle.std.proofs.Math.Seq.{take-length}

later_is : {A : Type 0} (x : A) (xs : List A) → take (length (x ∷ xs) - 1) xs ≡ xs
later_is x xs =
    let less : length (x ∷ xs) - 1 ≡ length xs = omega arith in
    ap (λ (n : ℕ). take n xs) less ∙ take-length xs

pub first_is : {A : Type 0} (xs : List A) (x : A) → 1 ≤ length xs → x ≡ get_or xs 0 x → xs ≡ x ∷ take (length xs - 1) (drop 1 xs)
first_is [] x some is = absurd (omega arith)
first_is (y ∷ ys) x some is = ap (λ z. z ∷ ys) (sym is) ∙ ap (λ zs. x ∷ zs) (sym (later_is y ys))
