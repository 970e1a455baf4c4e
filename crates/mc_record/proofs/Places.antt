-- The names of the left record, from the last one back.
use Rattle.std.proofs.Common.{◌≡◌, ◌∙◌, ◌<◌, ◌+◌, ◌-◌, ◌≤◌, ℕ, List, [], ◌∷◌, ◌++◌, length, take, drop, get_or, Some, None, refl, sym, ap, arith, append_assoc}
use Rattle.std.specs.Prelude.{if◌then◌else◌}
use Rattle.std.proofs.lemmas.List.{append-nil, drop_all, drop_at, take_more, take_all}
use Rattle.std.specs.Str.{bytes_eq}
use Rattle.mc_record.specs.Merged.{place_from, place_of, same_from}

-- the last of some elements, and those before it
pub last_apart : {X : Type 0} (xs : List X) (d : X) → 1 ≤ length xs → take (length xs - 1) xs ++ get_or xs (length xs - 1) d ∷ [] ≡ xs
last_apart xs d some =
    let less : length xs - 1 < length xs = omega arith in
    let next : (length xs - 1) + 1 ≡ length xs = omega arith in
    sym (take_more xs (length xs - 1) d less) ∙ ap (λ n. take n xs) next ∙ take_all (length xs) xs (omega arith)

pub none_after : {X : Type 0} (xs : List X) → xs ++ drop (length xs) xs ≡ xs
none_after xs = ap (λ ys. xs ++ ys) (drop_all (length xs) xs (omega arith)) ∙ append-nil xs

-- one element fewer stands before, and one more after
pub one_back : {X : Type 0} (all front left : List X) (x : X) → front ++ x ∷ [] ≡ left → left ++ drop (length left) all ≡ all
    → (front ++ drop (length front) all ≡ all) × (drop (length front) all ≡ x ∷ drop (length left) all)
one_back all front left x is whole =
    let joined : front ++ (x ∷ drop (length left) all) ≡ all = sym (append_assoc front (x ∷ []) (drop (length left) all)) ∙ ap (λ ys. ys ++ drop (length left) all) is ∙ whole in
    let cut : drop (length front) all ≡ x ∷ drop (length left) all = sym (ap (drop (length front)) joined) ∙ drop_at front (x ∷ drop (length left) all) (length front) refl in
    (ap (λ ys. front ++ ys) cut ∙ joined, cut)

-- the place of a name, before those of the others
pub place_before : (q : List ℕ) (k n : ℕ) (name : List ℕ) (names : List (List ℕ)) → n ≡ k + 1 → (if bytes_eq name q then Some k else place_from n names q) ≡ place_from k (name ∷ names) q
place_before q k n name names is = rw is refl

-- ---- a name of the right record

pub found_here : (left : List (List ℕ)) (k place : ℕ) (name : List ℕ) (right : List (List ℕ)) → place_of left name ≡ Some place → same_from left k (name ∷ right) ≡ Some (place, k)
found_here left k place name right is = rw is refl

pub found_later : (left : List (List ℕ)) (k : ℕ) (name : List ℕ) (right : List (List ℕ)) → place_of left name ≡ None → same_from left k (name ∷ right) ≡ same_from left (k + 1) right
found_later left k name right is = rw is refl
