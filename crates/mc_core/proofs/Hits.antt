-- The pairs that a worker has hit, step by step.
use Rattle.std.proofs.Common.{◌≡◌, ℕ, suc, ◌+◌, ◌-◌, ◌<◌, ◌≤◌, List, [], ◌∷◌, ◌++◌, length, get_or, take, sym, refl, ap, ◌∙◌, subst, arith, append_assoc}
use Rattle.std.specs.Prelude.{◌==◌, ◌&&◌, slice_index, All, Contains, flat_map}
use Rattle.std.proofs.lemmas.List.{take_all, take_more, map_push, append-nil, length-map, get_or-map}
use Rattle.std.proofs.lemmas.List.Sums.{get_or-le-sum_by}
use Rattle.std.proofs.lemmas.List.Elements.{All-append, All-map, All-head, All-tail, All-nil, All-take, All-contains_itself}
use Rattle.mc_core.specs.Schedule.{script_of}
use Rattle.mc_core.specs.Counts.{marks}
use Rattle.mc_core.specs.Progress.{pairs_of, hits_of}
use Rattle.mc_core.proofs.Sums.{tally, sum_flat_map, in_is_marked}

-- a claim hits nothing
pub hits_claim : (scripts : List (List ℕ)) (xs : List ℕ) (t : ℕ) → hits_of scripts (xs ++ t ∷ []) (length (script_of scripts t)) ≡ hits_of scripts xs 0
hits_claim scripts [] t = let n : ℕ = length (script_of scripts t) in let none : n - n ≡ 0 = omega arith in ap (λ (k : ℕ). pairs_of t (take k (script_of scripts t))) none
hits_claim scripts (x ∷ []) t =
    let n : ℕ = length (script_of scripts t) in
    let none : n - n ≡ 0 = omega arith in
    let m : ℕ = length (script_of scripts x) in
    let all : m - 0 ≡ m = omega arith in
    ap (λ (k : ℕ). pairs_of x (script_of scripts x) ++ pairs_of t (take k (script_of scripts t))) none
    ∙ append-nil (pairs_of x (script_of scripts x))
    ∙ ap (λ (s : List ℕ). pairs_of x s) (sym (take_all (m - 0) (script_of scripts x) (omega arith)))
hits_claim scripts (x ∷ y ∷ ys) t = ap (λ (l : List (ℕ × ℕ)). pairs_of x (script_of scripts x) ++ l) (hits_claim scripts (y ∷ ys) t)

abbrev last : List ℕ → ℕ
last xs = slice_index xs (length xs - 1)

last_tail : (x y : ℕ) (ys : List ℕ) → last (x ∷ y ∷ ys) ≡ last (y ∷ ys)
last_tail x y ys = let e : length (x ∷ y ∷ ys) - 1 ≡ suc (length (y ∷ ys) - 1) = omega arith in ap (λ (k : ℕ). get_or (x ∷ y ∷ ys) k 0) e

-- a hit appends one pair
pub hits_hit : (scripts : List (List ℕ)) (xs : List ℕ) (r : ℕ) → 0 < length xs → r + 1 ≤ length (script_of scripts (last xs))
    → hits_of scripts xs r ≡ hits_of scripts xs (r + 1) ++ (slice_index (script_of scripts (last xs)) (length (script_of scripts (last xs)) - (r + 1)), last xs) ∷ []
hits_hit scripts [] r some less = absurd (omega arith)
hits_hit scripts (x ∷ []) r some less =
    let s : List ℕ = script_of scripts x in
    let k : ℕ = length s - (r + 1) in
    let e : length s - r ≡ k + 1 = omega arith in
    ap (λ (n : ℕ). pairs_of x (take n s)) e ∙ ap (pairs_of x) (take_more s k 0 (omega arith)) ∙ map_push (λ (b : ℕ). (b, x)) (take k s) (get_or s k 0)
hits_hit scripts (x ∷ y ∷ ys) r some less =
    let e = last_tail x y ys in
    let less' : r + 1 ≤ length (script_of scripts (last (y ∷ ys))) = subst (λ (t : ℕ). r + 1 ≤ length (script_of scripts t)) e less in
    let h = hits_hit scripts (y ∷ ys) r (omega arith) less' in
    subst (λ (t : ℕ). hits_of scripts (x ∷ y ∷ ys) r ≡ hits_of scripts (x ∷ y ∷ ys) (r + 1) ++ (slice_index (script_of scripts t) (length (script_of scripts t) - (r + 1)), t) ∷ []) (sym e)
    (ap (λ (l : List (ℕ × ℕ)). pairs_of x (script_of scripts x) ++ l) h ∙ sym (append_assoc (pairs_of x (script_of scripts x)) (hits_of scripts (y ∷ ys) (r + 1)) _))

-- where nothing remains, all bits of all claimed tests are hit
pub hits_all : (scripts : List (List ℕ)) (xs : List ℕ) → hits_of scripts xs 0 ≡ flat_map (λ t. pairs_of t (script_of scripts t)) xs
hits_all scripts [] = refl
hits_all scripts (x ∷ []) = let m : ℕ = length (script_of scripts x) in
    ap (λ (s : List ℕ). pairs_of x s) (take_all (m - 0) (script_of scripts x) (omega arith)) ∙ sym (append-nil (pairs_of x (script_of scripts x)))
hits_all scripts (x ∷ y ∷ ys) = ap (λ (l : List (ℕ × ℕ)). pairs_of x (script_of scripts x) ++ l) (hits_all scripts (y ∷ ys))

-- a pair that is hit is a bit of its script under a claimed test
abbrev pub IsOfScript : List (List ℕ) → (ℕ → Type 0) → ℕ × ℕ → Type 0
IsOfScript scripts Test h = Test h.1 × Contains (script_of scripts h.1) h.0

pairs_are : (scripts : List (List ℕ)) (Test : ℕ → Type 0) (t : ℕ) (s : List ℕ) → Test t → All (Contains (script_of scripts t)) s → All (IsOfScript scripts Test) (pairs_of t s)
pairs_are scripts Test t s is_test all = All-map (IsOfScript scripts Test) (λ (b : ℕ). (b, t)) s (λ k d less. (is_test, all k d less))

pub hits_are : (scripts : List (List ℕ)) (Test : ℕ → Type 0) (xs : List ℕ) (r : ℕ) → All Test xs → All (IsOfScript scripts Test) (hits_of scripts xs r)
hits_are scripts Test [] r all = All-nil (IsOfScript scripts Test)
hits_are scripts Test (x ∷ []) r all =
    let s : List ℕ = script_of scripts x in
    pairs_are scripts Test x (take (length s - r) s) (All-head Test x [] all) (All-take (Contains s) (length s - r) s (All-contains_itself s))
hits_are scripts Test (x ∷ y ∷ ys) r all =
    All-append (IsOfScript scripts Test) (pairs_of x (script_of scripts x)) (hits_of scripts (y ∷ ys) r)
    (pairs_are scripts Test x (script_of scripts x) (All-head Test x (y ∷ ys) all) (All-contains_itself (script_of scripts x)))
    (hits_are scripts Test (y ∷ ys) r (All-tail Test x (y ∷ ys) all))

-- a bit of a script is among the pairs of its test
pub pair_of : (b t : ℕ) (s : List ℕ) → Contains s b → Contains (pairs_of t s) (b, t)
pair_of b t s c = (c.0, subst (λ (n : ℕ). c.0 < n) (sym (length-map s (λ (x : ℕ). (x, t)))) c.1, get_or-map (λ (x : ℕ). (x, t)) s c.0 b (b, t) c.1 ∙ ap (λ (x : ℕ). (x, t)) c.2)

-- where nothing remains, each bit of each claimed test is hit
pub hit_of_claimed : (scripts : List (List ℕ)) (xs : List ℕ) (b t : ℕ) → Contains xs t → Contains (script_of scripts t) b → 0 < marks b t (hits_of scripts xs 0)
hit_of_claimed scripts xs b t claimed c =
    let sum = sum_flat_map (λ (h : ℕ × ℕ). tally ((h.0 == b) && (h.1 == t))) (λ (u : ℕ). pairs_of u (script_of scripts u)) xs in
    let one = get_or-le-sum_by (λ (u : ℕ). marks b t (pairs_of u (script_of scripts u))) xs claimed.0 t claimed.1 in
    let here : marks b t (pairs_of (get_or xs claimed.0 t) (script_of scripts (get_or xs claimed.0 t))) ≡ marks b t (pairs_of t (script_of scripts t)) = ap (λ (u : ℕ). marks b t (pairs_of u (script_of scripts u))) claimed.2 in
    let marked = in_is_marked b t (pairs_of t (script_of scripts t)) (pair_of b t (script_of scripts t) c) in
    let all : marks b t (hits_of scripts xs 0) ≡ marks b t (flat_map (λ u. pairs_of u (script_of scripts u)) xs) = ap (marks b t) (hits_all scripts xs) in
    omega arith
