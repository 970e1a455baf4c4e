-- Vectors with equal answers before a condition, and the order of their paths.
use Rattle.std.proofs.Common.{◌≡◌, ℕ, zero, suc, ◌-◌, ◌<◌, ◌≤◌, true, false, Some, List, [], ◌∷◌, refl, sym, ap, ◌∙◌, subst, arith, inl, inr}
use Rattle.std.specs.Prelude.{slice_get}
use Rattle.std.proofs.lemmas.Bool.{cases_lt}
use Rattle.mc_cond.specs.Tree.{Tree, IsNumbered}
use Rattle.mc_cond.specs.Order.{Answer, rank, IsBefore}
use Rattle.mc_cond.specs.Vectors.{Evaluation}
use Rattle.mc_paths.specs.Paths.{IsPath, IsInUse, path_of}
use Rattle.mc_paths.proofs.Numbers.{vector_once, vector_order}
use Rattle.mc_pairs.specs.Pairs.{ArePaired, HasInfluenceAs, turned}
use Rattle.mc_pairs.proofs.Influential.{used}
use Rattle.mc_unique.specs.Laws.{AlikeBefore}
use Rattle.mc_unique.specs.Unique.{IsUniquePair}
use Rattle.mc_unique.specs.steps.Prefixes.{AreAlike}
use Rattle.mc_unique.proofs.Pairs.{pair_prefix, first_influence, second_influence}

-- equal answers before place k
Alike : ℕ → List Answer → List Answer → Type 0
Alike k xs ys = (j : ℕ) → j < k → slice_get xs j ≡ slice_get ys j

less_self : (x y : Answer) → x ≡ y → rank x < rank y → ⊥
less_self x y e h = let P : Answer → ℕ = λ z. rank z in let f : rank x ≡ rank y = ap P e in omega (arith, f, h)

-- between two lists with equal answers before k stand such lists alone
lists_between : (xs ys zs : List Answer) (k : ℕ) → IsBefore xs ys → IsBefore ys zs → Alike k xs zs → Alike k xs ys
unfolding Alike
lists_between [] ys zs k h i e j lt = absurd h
lists_between (x ∷ xs) [] zs k h i e j lt = absurd h
lists_between (x ∷ xs) (y ∷ ys) [] k h i e j lt = absurd i
lists_between (x ∷ xs) (y ∷ ys) (z ∷ zs) k h i e j lt =
    let head : Some x ≡ Some z = e 0 (omega (arith, lt)) in
    let same : x ≡ z = cc in
    let P : Answer → ℕ = λ a. rank a in
    let ranks : rank x ≡ rank z = ap P same in
    elim h [
      | inl less ↦ absurd (elim i [ inl more ↦ let f : ⊥ = omega (arith, less, more, ranks) in f | inr rest ↦ less_self x y (same ∙ sym rest.0) less ])
      | inr first ↦ elim i [
        | inl more ↦ absurd (less_self y z (sym first.0 ∙ same) more)
        | inr second ↦ at_place x y xs ys zs k first.0 (lists_between xs ys zs (k - 1) first.1 second.1 (λ m low. e (suc m) (omega (arith, low)))) j lt
      ]
    ]
  where
    at_place : (x y : Answer) (xs ys zs : List Answer) (k : ℕ) → x ≡ y → Alike (k - 1) xs ys → (j : ℕ) → j < k → slice_get (x ∷ xs) j ≡ slice_get (y ∷ ys) j
    at_place x y xs ys zs k same rest zero lt = ap Some same
    at_place x y xs ys zs k same rest (suc j) lt = rest j (omega (arith, lt))

-- with equal answers before k, true stands before false
lists_ahead : (xs ys : List Answer) (k : ℕ) → slice_get xs k ≡ Some (Some true) → slice_get ys k ≡ Some (Some false) → Alike k xs ys → IsBefore xs ys
unfolding Alike
lists_ahead [] ys k f g e = cc
lists_ahead (x ∷ xs) [] k f g e = cc
lists_ahead (x ∷ xs) (y ∷ ys) zero f g e =
    let on : x ≡ Some true = cc in
    let off : y ≡ Some false = cc in
    let P : Answer → ℕ = λ a. rank a in
    let low : rank x ≡ 0 = ap P on in
    let high : rank y ≡ 1 = ap P off in
    inl (omega (arith, low, high))
lists_ahead (x ∷ xs) (y ∷ ys) (suc k) f g e =
    let head : Some x ≡ Some y = e 0 (omega arith) in
    let same : x ≡ y = cc in
    inr (same, lists_ahead xs ys k f g (λ j lt. e (suc j) (omega (arith, lt))))

module _ (t : Tree) (k : ℕ) where
  pub only : (path : ℕ) (v w : Evaluation) → IsPath t path v → IsPath t path w → v ≡ w
  only path v w p q = vector_once t v w p.vector q.vector (p.number ∙ sym q.number)

  -- in the order of the paths
  before : (p q : ℕ) (v w : Evaluation) → IsPath t p v → IsPath t q w → p < q → IsBefore v.answers w.answers
  before p q v w x y lt = (vector_order t v w x.vector y.vector).0 (omega (arith, lt, x.number, y.number))

  pub alike_follow : (p q r : ℕ) → AreAlike t k p q → AreAlike t k q r → AreAlike t k p r
  alike_follow p q r x y =
      let same : y.v ≡ x.w = only q y.v x.w y.first_path x.second_path in
      let P : Evaluation → Type 0 = λ u. AlikeBefore k u y.w in
      let more : AlikeBefore k x.w y.w = subst P same y.alike in
      record { v = x.v; w = y.w; first_path = x.first_path; second_path = y.second_path; alike = λ j lt. x.alike j lt ∙ more j lt }

  pub between_used : (p q r : ℕ) → IsInUse t q → p ≤ q → q ≤ r → AreAlike t k p r → AreAlike t k p q
  unfolding Alike
  between_used p q r (v, is) low high x =
      elim (cases_lt p q) [
        | inl less ↦ elim (cases_lt q r) [
          | inl more ↦
              record {
                v = x.v;
                w = v;
                first_path = x.first_path;
                second_path = is;
                alike = lists_between x.v.answers v.answers x.w.answers k (before p q x.v v x.first_path is less) (before q r v x.w is x.second_path more) x.alike;
              }
          | inr not_less ↦ (let P : ℕ → Type 0 = λ n. AreAlike t k p n in let same : r ≡ q = omega (arith, high, not_less) in subst P same x)
        ]
        | inr not_less ↦
            (let same : p ≡ q = omega (arith, low, not_less) in
            let P : ℕ → Type 0 = λ n. IsPath t n x.v in
            record { v = x.v; w = x.v; first_path = x.first_path; second_path = subst P same x.first_path; alike = λ j lt. refl })
      ]

  pub alike_between : (p q r : ℕ) → HasInfluenceAs t k true q → p ≤ q → q ≤ r → AreAlike t k p r → AreAlike t k p q
  alike_between p q r on low high x = between_used p q r (used t k q true on) low high x

  pub alike_ahead : (p q : ℕ) → HasInfluenceAs t k true p → HasInfluenceAs t k false q → AreAlike t k p q → p < q
  unfolding Alike
  alike_ahead p q on off x =
      let P : Evaluation → Type 0 = λ u. slice_get u.answers k ≡ Some (Some true) in
      let Q : Evaluation → Type 0 = λ u. slice_get u.answers k ≡ Some (Some false) in
      let first : slice_get x.v.answers k ≡ Some (Some true) = subst P (only p on.v x.v on.is_path x.first_path) on.answer in
      let second : slice_get x.w.answers k ≡ Some (Some false) = subst Q (only q off.v x.w off.is_path x.second_path) off.answer in
      let less : path_of t x.v < path_of t x.w = (vector_order t x.v x.w x.first_path.vector x.second_path.vector).1 (lists_ahead x.v.answers x.w.answers k first second x.alike) in
      omega (arith, less, x.first_path.number, x.second_path.number)

  -- pairs of paths
  module _ (n : IsNumbered t) (p q : ℕ) (x : ArePaired (turned k (IsUniquePair t k)) t p q) where
    pub first_of : HasInfluenceAs t k true p
    first_of = record { v = x.v; is_path = x.first_path; answer = x.shown.0; influence = first_influence t k x.v x.w n x.first_path.vector x.second_path.vector x.shown.2 }

    pub second_of : HasInfluenceAs t k false q
    second_of = record { v = x.w; is_path = x.second_path; answer = x.shown.1; influence = second_influence t k x.v x.w n x.first_path.vector x.second_path.vector x.shown.2 }

    pub alike_of : AreAlike t k p q
    alike_of = record { v = x.v; w = x.w; first_path = x.first_path; second_path = x.second_path; alike = pair_prefix t k x.v x.w n x.first_path.vector x.second_path.vector x.shown.2 }
