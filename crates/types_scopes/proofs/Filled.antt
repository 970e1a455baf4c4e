-- Values, filled with zeros.
use Rattle.std.proofs.Common.{◌≡◌, ◌∙◌, ◌+◌, ◌-◌, ◌≤◌, ℕ, ℤ, pos, suc, zero, List, [], ◌∷◌, ◌++◌, take, length, replicate, refl, ap, arith, append_assoc, length-append}
use Rattle.types_rules.specs.Initializers.{filled}

taken_all : (vs : List ℤ) (n : ℕ) → length vs ≤ n → take n vs ≡ vs
taken_all [] zero more = refl
taken_all [] (suc n) more = refl
taken_all (v ∷ vs) zero more = absurd (omega (arith, more))
taken_all (v ∷ vs) (suc n) more = ap (λ rest. v ∷ rest) (taken_all vs n (omega (arith, more)))

pub filled_more : (old new before vs : List ℤ) (start count total : ℕ)
    → new ≡ take total old ++ replicate (total - length old) (pos 0)
    → total ≡ length old + (count - (length old - start))
    → old ≡ before ++ vs → length before ≡ start → new ≡ before ++ filled count vs
filled_more old new before vs start count total is sum split from =
    let size : length old ≡ length before + length vs = ap length split ∙ length-append before vs in
    let missing : total - length old ≡ count - length vs = omega (arith, sum, size, from) in
    is ∙ ap (λ xs. xs ++ replicate (total - length old) (pos 0)) (taken_all old total (omega (arith, sum)))
    ∙ ap (λ n. old ++ replicate n (pos 0)) missing
    ∙ ap (λ xs. xs ++ replicate (count - length vs) (pos 0)) split
    ∙ append_assoc before vs (replicate (count - length vs) (pos 0))

pub zeros_more : (old new : List ℤ) (count total : ℕ)
    → new ≡ take total old ++ replicate (total - length old) (pos 0)
    → total ≡ length old + count → new ≡ old ++ filled count []
zeros_more old new count total is sum =
    let missing : total - length old ≡ count - 0 = omega (arith, sum) in
    is ∙ ap (λ xs. xs ++ replicate (total - length old) (pos 0)) (taken_all old total (omega (arith, sum)))
    ∙ ap (λ n. old ++ replicate n (pos 0)) missing
