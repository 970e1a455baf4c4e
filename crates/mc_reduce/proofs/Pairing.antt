-- Pairs of seen paths, and of some of them.
use Rattle.std.proofs.Common.{◌≡◌, ◌+◌, ◌-◌, ◌<◌, ℕ, zero, suc, Option, Some, None, List, [], ◌∷◌, length, drop, get_or, take, refl, sym, subst, ◌∙◌, arith}
use Rattle.std.specs.Prelude.{All, Contains, IfSome}
use Rattle.std.specs.List.Sorted.{IsStrictlyIncreasing}
use Rattle.std.proofs.lemmas.List.{length-drop, get_or-drop, take_rest}
use Rattle.std.proofs.lemmas.List.Elements.{All-contains, All-drop}
use Rattle.mc_cond.specs.Tree.{Tree}
use Rattle.mc_pairs.specs.Pairs.{IsChosen}
use Rattle.report_options.specs.declared.mode.Mode.{Mode}
use Rattle.mc_oblige.specs.Evidence.{pairs_of}
use Rattle.mc_reduce.specs.steps.Bits.{HasPairOn}

-- ---- those from a place on

later_rises : (n : ℕ) (xs : List ℕ) → IsStrictlyIncreasing xs → IsStrictlyIncreasing (drop n xs)
later_rises n xs up k lt =
    let len = length-drop n xs in
    let same : n + k + 1 ≡ n + (k + 1) = omega arith in
    let one : get_or (drop n xs) k 0 ≡ get_or xs (n + k) 0 = get_or-drop n xs k 0 in
    let next : get_or (drop n xs) (k + 1) 0 ≡ get_or xs (n + k + 1) 0 =
    get_or-drop n xs (k + 1) 0 ∙ subst (λ (i : ℕ). get_or xs i 0 ≡ get_or xs (n + k + 1) 0) same refl in
    let rise = up (n + k) (omega (arith, lt, len)) in
    omega (arith, one, next, rise)

in_later : (n : ℕ) (xs : List ℕ) (x : ℕ) → Contains (drop n xs) x → Contains xs x
in_later n xs x h =
    let len = length-drop n xs in
    let lt = h.1 in
    (n + h.0, omega (arith, lt, len), sym (get_or-drop n xs h.0 x) ∙ h.2)

-- as the code writes them
abbrev pub rest : ℕ → List ℕ → List ℕ
rest n xs = take (length xs - n) (drop n xs)

pub rest_rises : (n : ℕ) (xs : List ℕ) → IsStrictlyIncreasing xs → IsStrictlyIncreasing (rest n xs)
rest_rises n xs up = subst (λ (ys : List ℕ). IsStrictlyIncreasing ys) (sym (take_rest xs n)) (later_rises n xs up)

pub rest_fits : (P : ℕ → Type 0) (n : ℕ) (xs : List ℕ) → All P xs → All P (rest n xs)
rest_fits P n xs all = subst (λ (ys : List ℕ). All P ys) (sym (take_rest xs n)) (All-drop P n xs all)

in_rest : (n : ℕ) (xs : List ℕ) (x : ℕ) → Contains (rest n xs) x → Contains xs x
in_rest n xs x h = in_later n xs x (subst (λ (ys : List ℕ). Contains ys x) (take_rest xs n) h)

-- ---- two of them

pub two_rise : (low high : ℕ) → low < high → IsStrictlyIncreasing (low ∷ high ∷ [])
two_rise low high up zero lt = up
two_rise low high up (suc k) lt = absurd (omega (arith, lt))

in_two_at : (low high : ℕ) (xs : List ℕ) (x : ℕ) → Contains xs low → Contains xs high → (i : ℕ) → i < length (low ∷ high ∷ []) → get_or (low ∷ high ∷ []) i x ≡ x → Contains xs x
in_two_at low high xs x one other zero lt e = subst (λ (y : ℕ). Contains xs y) e one
in_two_at low high xs x one other (suc zero) lt e = subst (λ (y : ℕ). Contains xs y) e other
in_two_at low high xs x one other (suc (suc k)) lt e = absurd (omega (arith, lt))

in_two : (low high : ℕ) (xs : List ℕ) (x : ℕ) → Contains xs low → Contains xs high → Contains (low ∷ high ∷ []) x → Contains xs x
in_two low high xs x one other h = in_two_at low high xs x one other h.0 h.1 h.2

pub two_fit : (P : ℕ → Type 0) (low high : ℕ) (xs : List ℕ) → All P xs → Contains xs low → Contains xs high → All P (low ∷ high ∷ [])
two_fit P low high xs all one other zero d lt = All-contains P xs low all one
two_fit P low high xs all one other (suc zero) d lt = All-contains P xs high all other
two_fit P low high xs all one other (suc (suc k)) d lt = absurd (omega (arith, lt))

-- ---- pairs

module _ (mode : Mode) (tree : Tree) (k : ℕ) where
  -- a pair of some paths is one of more
  more_pair : (on also : ℕ → Type 0) → ((p : ℕ) → on p → also p) → HasPairOn on mode tree k → HasPairOn also mode tree k
  more_pair on also more h = record {
    first = h.first;
    second = h.second;
    first_on = more h.first h.first_on;
    second_on = more h.second h.second_on;
    paired = h.paired;
  }

  -- one of those from a place on is one of all
  pub rest_some : {X : Type 0} → (n : ℕ) (xs : List ℕ) (o : Option X) → IfSome o (λ _. HasPairOn (Contains (rest n xs)) mode tree k) → IfSome o (λ _. HasPairOn (Contains xs) mode tree k)
  rest_some n xs None h = h
  rest_some n xs (Some x) h = more_pair (Contains (rest n xs)) (Contains xs) (in_rest n xs) h

  pub two_some : {X : Type 0} → (low high : ℕ) (xs : List ℕ) (o : Option X) → Contains xs low → Contains xs high → IfSome o (λ _. HasPairOn (Contains (low ∷ high ∷ [])) mode tree k) → IfSome o (λ _. HasPairOn (Contains xs) mode tree k)
  two_some low high xs None one other h = h
  two_some low high xs (Some x) one other h = more_pair (Contains (low ∷ high ∷ [])) (Contains xs) (λ y. in_two low high xs y one other) h

  pub chosen_is_pair : (xs : List ℕ) (first second : ℕ) → IsChosen (pairs_of mode tree k) tree xs k first second → HasPairOn (Contains xs) mode tree k
  chosen_is_pair xs first second h = record {
    first = first;
    second = second;
    first_on = h.first_seen;
    second_on = h.second_seen;
    paired = record {
      v = h.paired.v;
      w = h.paired.w;
      first_path = h.paired.first_path;
      second_path = h.paired.second_path;
      shown = h.paired.shown.2;
    };
  }
