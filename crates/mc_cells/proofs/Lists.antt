-- The cells in use are the first of the row that is kept.
use Rattle.std.proofs.Common.{◌≡◌, ℕ, zero, suc, ◌+◌, ◌-◌, ◌<◌, ◌≤◌, List, ◌∷◌, ◌++◌, length, map, take, drop, replicate, set, refl, sym, ap, subst, ◌∙◌, arith}
use Rattle.std.proofs.lemmas.Grind.{common_steps}
use Rattle.std.proofs.lemmas.Option.{gets}
use Rattle.std.proofs.lemmas.List.{map-set, take-take, drop-take, take-map, drop-map, map-append, length-replicate, take-replicate}
use Rattle.std.proofs.lemmas.List.Edits.{fill_from_more}
use Rattle.std.proofs.Math.Seq.{take-set-lt, take-append-add}
use Rattle.mc_cells.specs.Rows.{filled, moved}

pub refilled : {A : Type 0} (xs ys : List A) (n : ℕ) → length xs ≡ n → length ys ≡ length xs →
    take n (ys ++ drop (length ys) xs) ≡ ys
refilled xs ys n h e = grind (arith, common_steps, gets)

-- what a change of all of a row makes of it
pub put_back : {A : Type 0} (xs ys zs : List A) (n : ℕ) → n ≡ length xs → ys ≡ zs →
    length zs ≡ length xs → take n (ys ++ drop (length ys) xs) ≡ zs
put_back xs ys zs n h e g =
    refilled xs ys n (sym h) (ap length e ∙ g) ∙ e

pub length_filled : {A : Type 0} (xs : List A) (at k : ℕ) (y : A) → at + k ≤ length xs →
    length (filled at k y xs) ≡ length xs
length_filled xs at k y h = grind (arith, common_steps, gets)

pub length_moved : {A : Type 0} (xs : List A) (from to k : ℕ) → from + k ≤ length xs →
    to + k ≤ length xs → length (moved from to k xs) ≡ length xs
length_moved xs from to k h g = grind (arith, common_steps, gets)

pub filled_more : {A : Type 0} (xs : List A) (at i : ℕ) (y : A) → at + i < length xs →
    set (filled at i y xs) (at + i) y ≡ filled at (i + 1) y xs
filled_more xs at i y h =
    ap (λ ys. set (take at xs ++ ys ++ drop (at + i) xs) (at + i) y) (sym (take-replicate i i y (omega arith)))
    ∙ fill_from_more xs at i y h
    ∙ ap (λ ys. take at xs ++ ys ++ drop (at + (i + 1)) xs) (take-replicate (i + 1) (i + 1) y (omega arith))

pub filled_none : {A : Type 0} (xs : List A) (at : ℕ) (y : A) → xs ≡ filled at 0 y xs
filled_none xs at y = grind (arith, common_steps, gets)

pub begun : {A : Type 0} (xs ys : List A) (n k : ℕ) → length ys ≡ k → n + k ≤ length xs →
    take (n + k) (take n xs ++ ys ++ drop (n + k) xs) ≡ take n xs ++ ys
begun xs ys n k e h = grind (arith, common_steps, gets)

pub length_begun : {A : Type 0} (xs : List A) (n : ℕ) → n ≤ length xs → length (take n xs) ≡ n
length_begun xs n h = grind (arith, common_steps, gets)

pub take_front : {A : Type 0} (xs ys : List A) (n : ℕ) → n ≤ length xs → take n (xs ++ ys) ≡ take n xs
take_front xs ys n h = grind (arith, common_steps, gets)

pub length_more : {A : Type 0} (xs : List A) (x : A) (n : ℕ) → length (xs ++ replicate n x) ≡ length xs + n
length_more xs x n = grind (arith, common_steps, gets)

pub length_part : {A : Type 0} (xs : List A) (from k : ℕ) → from + k ≤ length xs →
    length (take k (drop from xs)) ≡ k
length_part xs from k h = grind (arith, common_steps, gets)

length_front : {A : Type 0} (xs ys : List A) (at k : ℕ) → length ys ≡ k → at ≤ length xs →
    length (take at xs ++ ys) ≡ at + k
length_front xs ys at k e h = grind (arith, common_steps, gets)

-- what is put into the first n is put into the whole
spliced_before : {A : Type 0} (xs ys : List A) (at k m : ℕ) → length ys ≡ k → at ≤ length xs →
    take (at + k + m) (take at xs ++ ys ++ drop (at + k) xs)
    ≡ take at (take (at + k + m) xs) ++ ys ++ drop (at + k) (take (at + k + m) xs)
spliced_before xs ys at k m e h =
    let front = length_front xs ys at k e h in
    let whole = take-append-add (take at xs ++ ys) (drop (at + k) xs) m in
    subst (λ n. take (n + m) (take at xs ++ ys ++ drop (at + k) xs) ≡ take at xs ++ ys ++ take m (drop (at + k) xs)) front whole
    ∙ ap (λ zs. take at xs ++ ys ++ zs) (sym (drop-take (at + k) m xs))
    ∙ ap (λ zs. zs ++ ys ++ drop (at + k) (take (at + k + m) xs)) (sym (take-take at (at + k + m) xs (omega arith)))

pub spliced : {A : Type 0} (xs ys : List A) (n at k : ℕ) → length ys ≡ k → at + k ≤ n →
    n ≤ length xs →
    take n (take at xs ++ ys ++ drop (at + k) xs)
    ≡ take at (take n xs) ++ ys ++ drop (at + k) (take n xs)
spliced xs ys n at k e h g =
    let same : at + k + (n - (at + k)) ≡ n = omega arith in
    subst (λ l. take l (take at xs ++ ys ++ drop (at + k) xs) ≡ take at (take l xs) ++ ys ++ drop (at + k) (take l xs)) same
    (spliced_before xs ys at k (n - (at + k)) e (omega arith))

pub part : {A : Type 0} (xs : List A) (n from k : ℕ) → from + k ≤ n →
    take k (drop from (take n xs)) ≡ take k (drop from xs)
part xs n from k h =
    let same : from + (n - from) ≡ n = omega arith in
    subst (λ l. take k (drop from (take l xs)) ≡ take k (drop from xs)) same
    (ap (take k) (drop-take from (n - from) xs) ∙ take-take k (n - from) (drop from xs) (omega arith))

-- ---- and the same of what the cells stand for

module _ {A B : Type 0} (f : A → B) where
  pub map-replicate : (n : ℕ) (y : A) → map f (replicate n y) ≡ replicate n (f y)
  map-replicate zero y = refl
  map-replicate (suc n) y = ap (λ xs. f y ∷ xs) (map-replicate n y)

  pub seen_set : (xs : List A) (n at : ℕ) (y : A) → at < n →
      map f (take n (set xs at y)) ≡ set (map f (take n xs)) at (f y)
  seen_set xs n at y h =
      ap (map f) (take-set-lt n xs at y h) ∙ map-set f (take n xs) at y

  pub seen_spliced : (xs ys : List A) (n at k : ℕ) → length ys ≡ k → at + k ≤ n → n ≤ length xs →
      map f (take n (take at xs ++ ys ++ drop (at + k) xs))
      ≡ take at (map f (take n xs)) ++ map f ys ++ drop (at + k) (map f (take n xs))
  seen_spliced xs ys n at k e h g =
      ap (map f) (spliced xs ys n at k e h g)
      ∙ map-append f (take at (take n xs) ++ ys) (drop (at + k) (take n xs))
      ∙ ap (λ zs. zs ++ map f (drop (at + k) (take n xs))) (map-append f (take at (take n xs)) ys)
      ∙ ap (λ zs. zs ++ map f ys ++ map f (drop (at + k) (take n xs))) (sym (take-map f at (take n xs)))
      ∙ ap (λ zs. take at (map f (take n xs)) ++ map f ys ++ zs) (sym (drop-map f (at + k) (take n xs)))

  pub seen_filled : (xs : List A) (n at k : ℕ) (y : A) → at + k ≤ n → n ≤ length xs →
      map f (take n (filled at k y xs)) ≡ filled at k (f y) (map f (take n xs))
  seen_filled xs n at k y h g =
      seen_spliced xs (replicate k y) n at k (length-replicate k y) h g
      ∙ ap (λ zs. take at (map f (take n xs)) ++ zs ++ drop (at + k) (map f (take n xs))) (map-replicate k y)

  pub seen_moved : (xs : List A) (n from to k : ℕ) → from + k ≤ n → to + k ≤ n → n ≤ length xs →
      map f (take n (moved from to k xs)) ≡ moved from to k (map f (take n xs))
  seen_moved xs n from to k h i g =
      seen_spliced xs (take k (drop from xs)) n to k (length_part xs from k (omega arith)) i g
      ∙ ap (λ zs. take to (map f (take n xs)) ++ zs ++ drop (to + k) (map f (take n xs)))
      (ap (map f) (sym (part xs n from k h)) ∙ sym (take-map f k (drop from (take n xs))) ∙ ap (take k) (sym (drop-map f from (take n xs))))

  pub seen_entered : (xs : List A) (n k : ℕ) (y : A) → n + k ≤ length xs →
      map f (take (n + k) (filled n k y xs)) ≡ map f (take n xs) ++ replicate k (f y)
  seen_entered xs n k y h =
      ap (map f) (begun xs (replicate k y) n k (length-replicate k y) h)
      ∙ map-append f (take n xs) (replicate k y)
      ∙ ap (λ zs. map f (take n xs) ++ zs) (map-replicate k y)

  pub seen_left : (xs : List A) (n base : ℕ) → base ≤ n →
      map f (take base xs) ≡ take base (map f (take n xs))
  seen_left xs n base h =
      ap (map f) (sym (take-take base n xs h)) ∙ sym (take-map f base (take n xs))
