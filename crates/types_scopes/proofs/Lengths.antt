-- Lengths that a type keeps.
use Rattle.std.proofs.Common.{◌≡◌, ◌∙◌, ◌+◌, ◌<◌, ◌≤◌, false, map, drop, ℕ, zero, suc, min, List, [], ◌∷◌, ◌++◌, length, take, refl, ap, arith, append_assoc}
use Rattle.types_rules.specs.Types as t
use Rattle.types_scopes.specs.Types.{kind_of}
use Rattle.types_scopes.specs.declared.types.ParameterKind.{ParameterKind}

-- what is cut off stays cut off
pub kept_more : (n : ℕ) (xs ys : List ℕ) → take n (take n xs ++ ys) ≡ take n (xs ++ ys)
kept_more zero xs ys = refl
kept_more (suc n) [] ys = refl
kept_more (suc n) (x ∷ xs) ys = ap (λ zs. x ∷ zs) (kept_more n xs ys)

cut : (r : ℕ) (ys : List ℕ) → take (min r (length ys)) ys ≡ take r ys
cut zero ys =
    let e : min 0 (length ys) ≡ 0 = omega arith in
    ap (λ k. take k ys) e
cut (suc r) [] =
    let none : List ℕ = [] in
    let e : min (suc r) 0 ≡ 0 = omega arith in
    ap (λ k. take k none) e
cut (suc r) (y ∷ ys) =
    let e : min (suc r) (suc (length ys)) ≡ suc (min r (length ys)) = omega arith in
    ap (λ k. take k (y ∷ ys)) e ∙ ap (λ zs. y ∷ zs) (cut r ys)

-- as many more as there is room for
pub added : (n r : ℕ) (xs ys : List ℕ) → r + length xs ≡ n → xs ++ take (min r (length ys)) ys ≡ take n (xs ++ ys)
added n r [] ys e = cut r ys ∙ ap (λ k. take k ys) (omega (arith, e))
added zero r (x ∷ xs) ys e = absurd (omega (arith, e))
added (suc n) r (x ∷ xs) ys e = ap (λ zs. x ∷ zs) (added n r xs ys (omega (arith, e)))

-- first the one in front, then the others, then those of the elements
pub in_turn : (n : ℕ) (front rest of : List ℕ)
    → take n (take n (front ++ rest) ++ of) ≡ take n (front ++ (rest ++ of))
in_turn n front rest of = kept_more n (front ++ rest) of ∙ ap (take n) (append_assoc front rest of)

pub take_few : (n : ℕ) (xs : List ℕ) → length (take n xs) ≤ n
take_few zero xs = omega arith
take_few (suc n) [] = omega arith
take_few (suc n) (x ∷ xs) = omega (arith, take_few n xs)

-- ---- lists of different lengths

pub short_lengths : (i : ℕ) (xs ys : List ℕ) → i < length xs → length ys < 1 → t.same_lengths (drop i xs) ys ≡ false
short_lengths zero [] ys h few = absurd (omega (arith, h))
short_lengths zero (x ∷ xs) [] h few = refl
short_lengths zero (x ∷ xs) (y ∷ ys) h few = absurd (omega (arith, few))
short_lengths (suc i) [] ys h few = absurd (omega (arith, h))
short_lengths (suc i) (x ∷ xs) ys h few = short_lengths i xs ys (omega (arith, h)) few

pub short_kinds : (i : ℕ) (xs ys : List ParameterKind) → i < length xs → length ys < 1
    → t.same_parameters (map kind_of (drop i xs)) (map kind_of ys) ≡ false
short_kinds zero [] ys h few = absurd (omega (arith, h))
short_kinds zero (x ∷ xs) [] h few = refl
short_kinds zero (x ∷ xs) (y ∷ ys) h few = absurd (omega (arith, few))
short_kinds (suc i) [] ys h few = absurd (omega (arith, h))
short_kinds (suc i) (x ∷ xs) ys h few = short_kinds i xs ys (omega (arith, h)) few
