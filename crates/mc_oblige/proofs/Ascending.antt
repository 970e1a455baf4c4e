-- Evaluated paths speak of the events that stand, and of nothing else; and there is one list of them.
use Rattle.std.proofs.Common.{◌≡◌, ℕ, ◌<◌, List, [], ◌∷◌, length, sym, subst, ◌∙◌, refl, arith, inl, inr, ◌⊎◌}
use Rattle.std.specs.Prelude.{◌↔◌, suc, zero, Contains, AllPairs}
use Rattle.mc_cond.specs.Tree.{Tree}
use Rattle.mc_steps.specs.Events.{Event}
use Rattle.mc_probe.specs.Maps.{Map}
use Rattle.mc_oblige.specs.declared.evaluated.EvaluatedPath.{EvaluatedPath}
use Rattle.mc_oblige.specs.Evidence.{IsEvaluated}
use Rattle.mc_oblige.specs.Evaluated.{IsBefore, IsEvaluatedPath, AreEvaluated}
use Rattle.mc_oblige.proofs.Alike.{least, evaluated}

-- ---- same events, same paths

module _ (stands standing : Event → ℕ → Type 0) (same : (e : Event) (t : ℕ) → stands e t ↔ standing e t) (m : Map) where
  other_way : (e : Event) (t : ℕ) → standing e t ↔ stands e t
  other_way e t = ((same e t).1, (same e t).0)

  evaluated_path : (e : EvaluatedPath) → IsEvaluatedPath stands m e → IsEvaluatedPath standing m e
  evaluated_path e h =
      let tree : Tree = h.mapped.decision.tree in
      record {
        mapped = h.mapped;
        known = h.known;
        least = least (IsEvaluated stands e.decision tree e.path) (IsEvaluated standing e.decision tree e.path) e.test (evaluated stands standing same e.decision tree e.path) h.least;
      }

pub same_paths : (stands standing : Event → ℕ → Type 0) → ((e : Event) (t : ℕ) → stands e t ↔ standing e t) → (m : Map) (es : List EvaluatedPath)
    → AreEvaluated stands m es → AreEvaluated standing m es
same_paths stands standing same m es h = record {
  ascending = h.ascending;
  each = λ e. (
    λ c. evaluated_path stands standing same m e ((h.each e).0 c),
    λ is. (h.each e).1 (evaluated_path standing stands (other_way stands standing same m) m e is),
  );
}

-- ---- one ascending list

never_before : (a : EvaluatedPath) → IsBefore a a → ⊥
never_before a h = elim h [ inl less ↦ absurd (omega arith) | inr less ↦ absurd (let l = less.1 in omega arith) ]

not_both : (a b : EvaluatedPath) → IsBefore a b → IsBefore b a → ⊥
not_both a b h g = elim h [
  | inl less ↦ elim g [ inl more ↦ absurd (omega arith) | inr more ↦ absurd (let same = more.0 in omega arith) ]
  | inr less ↦ elim g [
    | inl more ↦ absurd (let same = less.0 in omega arith)
    | inr more ↦ absurd (let x = less.1 in let y = more.1 in omega arith)
  ]
]

in_nil : (x : EvaluatedPath) → Contains [] x → ⊥
in_nil x c = absurd (let lt = c.1 in omega arith)

-- what the list has is its first entry or comes later
cons_cases : (x : EvaluatedPath) (xs : List EvaluatedPath) (y : EvaluatedPath) → Contains (x ∷ xs) y → (x ≡ y) ⊎ Contains xs y
cons_cases x xs y (zero, within, at) = inl at
cons_cases x xs y (suc k, within, at) = inr (k, (let lt : suc k < length (x ∷ xs) = within in omega arith), at)

in_cons : (x : EvaluatedPath) (xs : List EvaluatedPath) (y : EvaluatedPath) → Contains xs y → Contains (x ∷ xs) y
in_cons x xs y c = (suc c.0, (let lt = c.1 in omega arith), c.2)

first_in : (x : EvaluatedPath) (xs : List EvaluatedPath) → Contains (x ∷ xs) x
first_in x xs = (0, omega arith, refl)

tail_ascends : (x : EvaluatedPath) (xs : List EvaluatedPath) → AllPairs IsBefore (x ∷ xs) → AllPairs IsBefore xs
tail_ascends x xs h i j d lt within = h (suc i) (suc j) d (omega arith) (omega arith)

first_before : (x : EvaluatedPath) (xs : List EvaluatedPath) (y : EvaluatedPath) → AllPairs IsBefore (x ∷ xs) → Contains xs y → IsBefore x y
first_before x xs y h c =
    let P : EvaluatedPath → Type 0 = λ z. IsBefore x z in
    let lt = c.1 in
    subst P c.2 (h 0 (suc c.0) y (omega arith) (omega arith))

abbrev Within : List EvaluatedPath → List EvaluatedPath → Type 0
Within xs ys = (e : EvaluatedPath) → Contains xs e → Contains ys e

first_same : (x : EvaluatedPath) (xs : List EvaluatedPath) (y : EvaluatedPath) (ys : List EvaluatedPath)
    → AllPairs IsBefore (x ∷ xs) → AllPairs IsBefore (y ∷ ys) → Within (x ∷ xs) (y ∷ ys) → Within (y ∷ ys) (x ∷ xs) → x ≡ y
first_same x xs y ys up also into back =
    elim (cons_cases y ys x (into x (first_in x xs))) [
      | inl same ↦ sym same
      | inr later ↦ elim (cons_cases x xs y (back y (first_in y ys))) [
        | inl same ↦ same
        | inr other ↦ absurd (not_both x y (first_before x xs y up other) (first_before y ys x also later))
      ]
    ]

tail_within : (x : EvaluatedPath) (xs : List EvaluatedPath) (y : EvaluatedPath) (ys : List EvaluatedPath)
    → x ≡ y → AllPairs IsBefore (x ∷ xs) → Within (x ∷ xs) (y ∷ ys) → Within xs ys
tail_within x xs y ys same up into e c =
    elim (cons_cases y ys e (into e (in_cons x xs e c))) [
      | inl first ↦
          (let P : EvaluatedPath → Type 0 = λ z. IsBefore x z in
          absurd (never_before x (subst P (sym (same ∙ first)) (first_before x xs e up c))))
      | inr later ↦ later
    ]

one_ascending : (xs ys : List EvaluatedPath) → AllPairs IsBefore xs → AllPairs IsBefore ys → Within xs ys → Within ys xs → xs ≡ ys
one_ascending [] [] up also into back = refl
one_ascending [] (y ∷ ys) up also into back = absurd (in_nil y (back y (first_in y ys)))
one_ascending (x ∷ xs) [] up also into back = absurd (in_nil x (into x (first_in x xs)))
one_ascending (x ∷ xs) (y ∷ ys) up also into back =
    let same = first_same x xs y ys up also into back in
    let rest =
    one_ascending xs ys (tail_ascends x xs up) (tail_ascends y ys also)
    (tail_within x xs y ys same up into) (tail_within y ys x xs (sym same) also back) in
    λ i. same i ∷ rest i

pub one_list_of_paths : (stands : Event → ℕ → Type 0) (m : Map) (es fs : List EvaluatedPath)
    → AreEvaluated stands m es → AreEvaluated stands m fs → es ≡ fs
one_list_of_paths stands m es fs h g =
    one_ascending es fs h.ascending g.ascending
    (λ e c. (g.each e).1 ((h.each e).0 c))
    (λ e c. (h.each e).1 ((g.each e).0 c))
