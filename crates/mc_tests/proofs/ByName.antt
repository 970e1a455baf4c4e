-- The functions that are numbered, from the last one back.
use Rattle.std.proofs.Common.{◌≡◌, ◌∙◌, ◌<◌, ◌+◌, ◌-◌, ◌≤◌, ℕ, suc, List, [], ◌∷◌, ◌++◌, length, map, take, drop, get_or, Bool, true, false, Option, Some, None, option_map, if◌then◌else◌, refl, sym, ap, arith, append_assoc}
use Rattle.std.proofs.lemmas.List.{append-nil, drop_all, drop_at, take_more, take_all}
use Rattle.std.specs.Str.{bytes_eq}
use Rattle.mc_typed.specs.declared.functions.Function.{Function}
use Rattle.mc_typed.specs.Tree as t
use Rattle.mc_typed.specs.Views.{function_of}
use Rattle.name_table.specs.Tables.{Named, last_of, later_or}
use Rattle.mc_tests.specs.Lines.{function_named}

-- the last of some elements, and those before it
pub last_apart : {X : Type 0} (xs : List X) (d : X) → 1 ≤ length xs → take (length xs - 1) xs ++ get_or xs (length xs - 1) d ∷ [] ≡ xs
last_apart xs d some =
    let less : length xs - 1 < length xs = omega arith in
    let next : (length xs - 1) + 1 ≡ length xs = omega arith in
    sym (take_more xs (length xs - 1) d less) ∙ ap (λ n. take n xs) next ∙ take_all (length xs) xs (omega arith)

-- what the last entry of a name means after one more entry
pub last_more : (q : List ℕ) (es : List (Named ℕ)) (e : Named ℕ) → last_of q (es ++ e ∷ []) ≡ (if bytes_eq e.name q then Some e.meaning else last_of q es)
last_more q [] e = refl
last_more q (other ∷ es) e = rw (last_more q es e) (by_test (bytes_eq e.name q) (last_of q es))
  where
    by_test : (same : Bool) (o : Option ℕ) → later_or (if same then Some e.meaning else o) (if bytes_eq other.name q then Some other.meaning else None)
        ≡ (if same then Some e.meaning else later_or o (if bytes_eq other.name q then Some other.meaning else None))
    by_test true o = refl
    by_test false o = refl

pub none_after : {X : Type 0} (xs : List X) → xs ++ drop (length xs) xs ≡ xs
none_after xs = ap (λ ys. xs ++ ys) (drop_all (length xs) xs (omega arith)) ∙ append-nil xs

-- one element fewer stands before, and one more after
pub one_back : {X : Type 0} (all front left : List X) (x : X) → front ++ x ∷ [] ≡ left → left ++ drop (length left) all ≡ all
    → (front ++ drop (length front) all ≡ all) × (drop (length front) all ≡ x ∷ drop (length left) all)
one_back all front left x is whole =
    let joined : front ++ (x ∷ drop (length left) all) ≡ all = sym (append_assoc front (x ∷ []) (drop (length left) all)) ∙ ap (λ ys. ys ++ drop (length left) all) is ∙ whole in
    let cut : drop (length front) all ≡ x ∷ drop (length left) all = sym (ap (drop (length front)) joined) ∙ drop_at front (x ∷ drop (length left) all) (length front) refl in
    (ap (λ ys. front ++ ys) cut ∙ joined, cut)

picked : (same : Bool) (k : ℕ) (f : t.Function) (later : Option (ℕ × t.Function))
    → (if same then Some k else option_map (λ found. found.0) later) ≡ option_map (λ found. found.0) (if same then Some (k, f) else later)
picked true k f later = refl
picked false k f later = refl

-- the name of the first function, before those of the others
pub by_name : (q : List ℕ) (k n : ℕ) (f : Function) (fs : List Function) → n ≡ k + 1
    → (if bytes_eq f.name.now q then Some k else option_map (λ found. found.0) (function_named q n (map function_of fs))) ≡ option_map (λ found. found.0) (function_named q k (map function_of (f ∷ fs)))
by_name q k n f fs is = rw is (picked (bytes_eq f.name.now q) k (function_of f) (function_named q (k + 1) (map function_of fs)))

-- a number that a name has is that of a function
pub named_there : (q : List ℕ) (k : ℕ) (fs : List Function) (n : ℕ) (d : Function) → option_map (λ found. found.0) (function_named q k (map function_of fs)) ≡ Some n
    → (k ≤ n) × (n < k + length fs) × (function_named q k (map function_of fs) ≡ Some (n, function_of (get_or fs (n - k) d)))
named_there q k [] n d is = absurd (cc is)
named_there q k (f ∷ fs) n d is = by_same (bytes_eq f.name.now q) refl is (named_there q (k + 1) fs n d)
  where
    by_same : (same : Bool) → bytes_eq f.name.now q ≡ same → option_map (λ found. found.0) (if same then Some (k, function_of f) else function_named q (k + 1) (map function_of fs)) ≡ Some n
        → (option_map (λ found. found.0) (function_named q (k + 1) (map function_of fs)) ≡ Some n
        → (k + 1 ≤ n) × (n < k + 1 + length fs) × (function_named q (k + 1) (map function_of fs) ≡ Some (n, function_of (get_or fs (n - (k + 1)) d))))
        → (k ≤ n) × (n < k + length (f ∷ fs)) × (function_named q k (map function_of (f ∷ fs)) ≡ Some (n, function_of (get_or (f ∷ fs) (n - k) d)))
    by_same true same e later =
        let first : k ≡ n = cc e in
        let place : n - k ≡ 0 = omega arith in
        (omega arith, omega arith, rw (same, place, first) refl)
    by_same false same e later =
        let found = later e in
        let place : n - k ≡ suc (n - (k + 1)) = omega arith in
        (omega arith, omega arith, rw (same, place) found.2)

-- the same where no function is at hand to stand for one that is missing
pub named_below : (q : List ℕ) (k : ℕ) (fs : List Function) (n : ℕ) → option_map (λ found. found.0) (function_named q k (map function_of fs)) ≡ Some n → n < k + length fs
named_below q k [] n is = absurd (cc is)
named_below q k (f ∷ fs) n is = (named_there q k (f ∷ fs) n f is).1
