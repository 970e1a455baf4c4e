-- The vectors that stand before one.
use Rattle.std.proofs.Common.{◌≡◌, ℕ, zero, suc, ◌<◌, ◌≤◌, ◌⊎◌, inl, inr, List, [], ◌∷◌, ◌++◌, length, length-append, refl, sym, ◌∙◌, subst, arith, get_or}
use Rattle.std.specs.Prelude.{◌↔◌, AllPairs, Contains}
use mathlib.Core.Logic.{dite}
use native.Mathlib.Decide.{dec_lt}
use Rattle.std.proofs.lemmas.List.Elements.{Contains-append_left, Contains-append_right, Contains-append_cases, Contains-get_or}
use Rattle.std.proofs.lemmas.List.Quantifiers.{all_pairs_push}
use Rattle.mc_cond.specs.Tree.{Tree, IsShort, IsNumberedFrom}
use Rattle.mc_cond.specs.Order.{IsBefore}
use Rattle.mc_cond.specs.Vectors.{Evaluation, IsVector}
use Rattle.mc_paths.specs.Paths.{count_of, increments, path_of, IsPath}
use Rattle.mc_paths.specs.steps.Descent.{descent}
use Rattle.mc_paths.specs.Laws.{AreBefore}
use Rattle.mc_paths.proofs.Reaching.{seen}
use Rattle.mc_paths.proofs.Numbers.{vector_below, vector_once, vector_order, descent_path}

abbrev pub Order : Evaluation → Evaluation → Type 0
Order x y = IsBefore x.answers y.answers

-- the vectors whose numbers are below n, in order
pub record AreBelow (t : Tree) (n : ℕ) (vectors : List Evaluation) : Type 0 where
  pub many : length vectors ≡ n
  pub ordered : AllPairs Order vectors
  pub exact : (w : Evaluation) → Contains vectors w ↔ (IsVector t w × (path_of t w < n))

only_one : (v w : Evaluation) → Contains (v ∷ []) w → v ≡ w
only_one v w (zero, lt, e) = e
only_one v w (suc k, lt, e) = absurd (omega (arith, lt))

in_none : (w : Evaluation) → Contains [] w → ⊥
in_none w (k, lt, e) = absurd (omega (arith, lt))

module _ (t : Tree) (n : ℕ) (vs : List Evaluation) (v : Evaluation) (old : AreBelow t n vs) (new : IsPath t n v) where
  one_more : AreBelow t (suc n) (vs ++ v ∷ [])
  one_more = record {
    many = length-append vs (v ∷ []) ∙ omega (arith, old.many);
    ordered = all_pairs_push Order vs v old.ordered (λ k d lt.
        let here = (old.exact (get_or vs k d)).0 (Contains-get_or vs k d lt) in
        (vector_order t (get_or vs k d) v here.0 new.vector).0 (omega (arith, here.1, new.number)));
    exact = λ w. (λ c. found w (Contains-append_cases vs (v ∷ []) w c), λ h. finds w h.0 h.1 (below_or w h.1));
  } where
    found : (w : Evaluation) → (Contains vs w ⊎ Contains (v ∷ []) w) → IsVector t w × (path_of t w < suc n)
    found w (inl c) = let h = (old.exact w).0 c in (h.0, omega (arith, h.1))
    found w (inr c) =
        let P : Evaluation → Type 0 = λ u. IsVector t u × (path_of t u < suc n) in
        subst P (only_one v w c) (new.vector, omega (arith, new.number))

    below_or : (w : Evaluation) → path_of t w < suc n → (path_of t w < n) ⊎ (path_of t w ≡ n)
    below_or w lt = dite (dec_lt (path_of t w) n) (λ less. inl less) (λ no. inr (omega arith))

    finds : (w : Evaluation) → IsVector t w → path_of t w < suc n → ((path_of t w < n) ⊎ (path_of t w ≡ n)) → Contains (vs ++ v ∷ []) w
    finds w is lt (inl less) = Contains-append_left vs (v ∷ []) w ((old.exact w).1 (is, less))
    finds w is lt (inr last) =
        let same : v ≡ w = vector_once t v w new.vector is (new.number ∙ sym last) in
        let P : Evaluation → Type 0 = λ u. Contains (v ∷ []) u in
        Contains-append_right vs (v ∷ []) w (subst P same (0, omega arith, refl))

pub first_vectors : (t : Tree) → IsShort t → IsNumberedFrom 0 t → (n : ℕ) → n ≤ count_of t → (vs : List Evaluation) × AreBelow t n vs
first_vectors t short is zero le =
    ([], record { many = refl; ordered = λ i j d lt within. absurd (omega (arith, within)); exact = λ w. (λ c. absurd (in_none w c), λ h. absurd (omega (arith, h.1))) })
first_vectors t short is (suc n) le =
    let before = first_vectors t short is n (omega (arith, le)) in
    let v = seen (descent t (increments t) n) in
    (before.0 ++ v ∷ [], one_more t n before.0 v before.1 (descent_path t n short is (omega (arith, le))))

pub vectors_before : (t : Tree) (v : Evaluation) → IsShort t → IsNumberedFrom 0 t → IsVector t v → (vs : List Evaluation) × AreBefore t v vs × (length vs ≡ path_of t v)
vectors_before t v short is vector =
    let (vs, h) = first_vectors t short is (path_of t v) (omega (arith, vector_below t v vector)) in (
      vs,
      record {
        ordered = h.ordered;
        exact = λ w. (λ c. let at = (h.exact w).0 c in (at.0, (vector_order t w v at.0 vector).0 at.1), λ p. (h.exact w).1 (p.0, (vector_order t w v p.0 vector).1 p.1));
      },
      h.many,
    )
