-- A condition that changes the outcome on a completion of a vector is evaluated in it.
use Rattle.std.proofs.Common.{◌≡◌, ◌≢◌, ℕ, ◌<◌, Bool, Option, Some, None, sym, ap, subst, refl, ◌∙◌}
use Rattle.std.specs.Prelude.{slice_get}
use Rattle.std.proofs.lemmas.Option.{slice_get_within}
use Rattle.mc_cond.specs.Tree.{Tree, size, IsNumbered}
use Rattle.mc_cond.specs.Vectors.{Row, Evaluation, truth_of, IsVector, IsCompletion}
use Rattle.mc_cond.proofs.Completions.{completion_outcome}
use Rattle.mc_cond.proofs.Lengths.{length_vector}

-- a row that is like a completion but at a condition that was not evaluated is a completion
other_completion : (t : Tree) (k : ℕ) (v : Evaluation) (a b : Row) → IsVector t v → IsCompletion v a
    → ((j : ℕ) → j < size t → j ≢ k → a j ≡ b j) → ((x : Bool) → slice_get v.answers k ≢ Some (Some x)) → IsCompletion v b
other_completion t k v a b is fits alike out j x e =
    let below : j < size t = let P : ℕ → Type 0 = λ n. j < n in subst P (length_vector t v is) (slice_get_within v.answers j (Some x) e) in
    let other : j ≢ k = λ same. out x (let P : ℕ → Type 0 = λ n. slice_get v.answers n ≡ Some (Some x) in subst P same e) in
    sym (alike j below other) ∙ fits j x e

evaluated_by : (t : Tree) (k : ℕ) (v : Evaluation) (a b : Row) → IsNumbered t → IsVector t v → IsCompletion v a
    → ((j : ℕ) → j < size t → j ≢ k → a j ≡ b j) → truth_of t a ≢ truth_of t b
    → (answer : Option (Option Bool)) → slice_get v.answers k ≡ answer → slice_get v.answers k ≡ Some (Some (a k))
evaluated_by t k v a b n is fits alike changes (Some (Some x)) e = e ∙ ap (λ y. Some (Some y)) (sym (fits k x e))
evaluated_by t k v a b n is fits alike changes (Some None) e =
    absurd (changes (completion_outcome t v a n.in_order is fits ∙ sym (completion_outcome t v b n.in_order is (other_completion t k v a b is fits alike (λ x f. let g : Some None ≡ Some (Some x) = sym e ∙ f in cc)))))
evaluated_by t k v a b n is fits alike changes None e =
    absurd (changes (completion_outcome t v a n.in_order is fits ∙ sym (completion_outcome t v b n.in_order is (other_completion t k v a b is fits alike (λ x f. let g : None ≡ Some (Some x) = sym e ∙ f in cc)))))

-- where a completion and a row that is like it at each other condition have different outcomes, k is evaluated
pub evaluated_where : (t : Tree) (k : ℕ) (v : Evaluation) (a b : Row) → IsNumbered t → IsVector t v → IsCompletion v a
    → ((j : ℕ) → j < size t → j ≢ k → a j ≡ b j) → truth_of t a ≢ truth_of t b → slice_get v.answers k ≡ Some (Some (a k))
evaluated_where t k v a b n is fits alike changes = evaluated_by t k v a b n is fits alike changes (slice_get v.answers k) refl
