-- The obligations that are placed by their ids, from the last one back.
use Rattle.std.proofs.Common.{◌≡◌, ◌∙◌, ◌<◌, ◌+◌, ◌-◌, ◌≤◌, ℕ, suc, List, [], ◌∷◌, ◌++◌, length, take, drop, get_or, Bool, true, false, Option, Some, None, option_map, Ok, Err, if◌then◌else◌, refl, sym, ap, subst, arith, append_assoc}
use Rattle.std.proofs.lemmas.List.{append-nil, drop_all, drop_at, take_more, take_all}
use Rattle.std.specs.Str.{bytes_eq}
use Rattle.mc_oblige.specs.Ids.{id_text}
use Rattle.mc_oblige.specs.Texts.{text_at}
use Rattle.mc_oblige.specs.declared.obligation.Obligation.{Obligation}
use Rattle.mc_justify.specs.Entries.{Entry}
use Rattle.mc_justify.specs.Faults.{Fault, Quote}
use Rattle.mc_justify.specs.Justifications.{obligation_named, position_for}

pub none_after : {X : Type 0} (xs : List X) → xs ++ drop (length xs) xs ≡ xs
none_after xs = ap (λ ys. xs ++ ys) (drop_all (length xs) xs (omega arith)) ∙ append-nil xs

-- the last of some elements, and those before it
pub last_apart : {X : Type 0} (xs : List X) (d : X) → 1 ≤ length xs → take (length xs - 1) xs ++ get_or xs (length xs - 1) d ∷ [] ≡ xs
last_apart xs d some =
    let less : length xs - 1 < length xs = omega arith in
    let next : (length xs - 1) + 1 ≡ length xs = omega arith in
    sym (take_more xs (length xs - 1) d less) ∙ ap (λ n. take n xs) next ∙ take_all (length xs) xs (omega arith)

-- one element fewer stands before, and one more after
pub one_back : {X : Type 0} (all front left : List X) (x : X) → front ++ x ∷ [] ≡ left → left ++ drop (length left) all ≡ all
    → (front ++ drop (length front) all ≡ all) × (drop (length front) all ≡ x ∷ drop (length left) all)
one_back all front left x is whole =
    let joined : front ++ (x ∷ drop (length left) all) ≡ all = sym (append_assoc front (x ∷ []) (drop (length left) all)) ∙ ap (λ ys. ys ++ drop (length left) all) is ∙ whole in
    let cut : drop (length front) all ≡ x ∷ drop (length left) all = sym (ap (drop (length front)) joined) ∙ drop_at front (x ∷ drop (length left) all) (length front) refl in
    (ap (λ ys. front ++ ys) cut ∙ joined, cut)

picked : (same : Bool) (k : ℕ) (o : Obligation) (later : Option (ℕ × Obligation))
    → (if same then Some k else option_map (λ found. found.0) later) ≡ option_map (λ found. found.0) (if same then Some (k, o) else later)
picked true k o later = refl
picked false k o later = refl

-- the id of the first obligation, before those of the others
pub by_id : (q : List ℕ) (k n : ℕ) (o : Obligation) (os : List Obligation) → n ≡ k + 1
    → (if bytes_eq (id_text o.id) q then Some k else option_map (λ found. found.0) (obligation_named q n os)) ≡ option_map (λ found. found.0) (obligation_named q k (o ∷ os))
by_id q k n o os is = rw is (picked (bytes_eq (id_text o.id) q) k o (obligation_named q (k + 1) os))

-- a position that an id has is that of an obligation
pub named_there : (q : List ℕ) (k : ℕ) (os : List Obligation) (n : ℕ) (d : Obligation) → option_map (λ found. found.0) (obligation_named q k os) ≡ Some n
    → (k ≤ n) × (n < k + length os) × (obligation_named q k os ≡ Some (n, get_or os (n - k) d))
named_there q k [] n d is = absurd (cc is)
named_there q k (o ∷ os) n d is = by_same (bytes_eq (id_text o.id) q) refl is (named_there q (k + 1) os n d)
  where
    by_same : (same : Bool) → bytes_eq (id_text o.id) q ≡ same → option_map (λ found. found.0) (if same then Some (k, o) else obligation_named q (k + 1) os) ≡ Some n
        → (option_map (λ found. found.0) (obligation_named q (k + 1) os) ≡ Some n
        → (k + 1 ≤ n) × (n < k + 1 + length os) × (obligation_named q (k + 1) os ≡ Some (n, get_or os (n - (k + 1)) d)))
        → (k ≤ n) × (n < k + length (o ∷ os)) × (obligation_named q k (o ∷ os) ≡ Some (n, get_or (o ∷ os) (n - k) d))
    by_same true same e later =
        let first : k ≡ n = cc e in
        let place : n - k ≡ 0 = omega arith in
        (omega arith, omega arith, rw (same, place, first) refl)
    by_same false same e later =
        let found = later e in
        let place : n - k ≡ suc (n - (k + 1)) = omega arith in
        (omega arith, omega arith, rw (same, place) found.2)

-- the same from the first position on
pub named_first : (q : List ℕ) (os : List Obligation) (n : ℕ) (d : Obligation) → option_map (λ found. found.0) (obligation_named q 0 os) ≡ Some n → obligation_named q 0 os ≡ Some (n, get_or os n d)
named_first q os n d is =
    let place : n - 0 ≡ n = omega arith in
    (named_there q 0 os n d is).2 ∙ ap (λ i. Some (n, get_or os i d)) place

pub named_below : (q : List ℕ) (os : List Obligation) (n : ℕ) → option_map (λ found. found.0) (obligation_named q 0 os) ≡ Some n → n < length os
named_below q [] n is = absurd (cc is)
named_below q (o ∷ os) n is =
    let below = (named_there q 0 (o ∷ os) n o is).1 in
    omega arith

-- an obligation that is found stands in the list
pub found_below : (q : List ℕ) (os : List Obligation) (n : ℕ) (o : Obligation) → obligation_named q 0 os ≡ Some (n, o) → n < length os
found_below q os n o is = named_below q os n (ap (option_map (λ found. found.0)) is)

-- a position is that of an obligation
pub position_below : (source q : List ℕ) (obligations : List Obligation) (n : ℕ) (entry : Entry) (k : ℕ) → position_for source n entry (obligation_named q 0 obligations) ≡ Ok k → k < length obligations
position_below source q obligations n entry k is = by_found (obligation_named q 0 obligations) refl is
  where
    by_quote : (same : Bool) (i : ℕ) (f : Fault) → (if same then Ok i else Err f) ≡ Ok k → i ≡ k
    by_quote true i f e = cc
    by_quote false i f e = absurd (cc e)

    by_found : (found : Option (ℕ × Obligation)) → obligation_named q 0 obligations ≡ found → position_for source n entry found ≡ Ok k → k < length obligations
    by_found None at e = absurd (cc e)
    by_found (Some (i, o)) at e =
        let same = by_quote (bytes_eq (text_at o.span source) entry.quote) i (Quote n (text_at o.span source) entry.quote) e in
        subst (λ m. m < length obligations) same (found_below q obligations i o at)
