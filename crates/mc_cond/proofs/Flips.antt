-- Influence by what a flip reaches.
use Rattle.std.proofs.Common.{◌≡◌, ◌≢◌, ℕ, ◌<◌, Bool, true, false, not, Option, Some, None, arith, sym, ap, subst, refl, ◌∙◌, inl, inr}
use Rattle.std.specs.Prelude.{◌↔◌, slice_get, if◌then◌else◌}
use Rattle.mc_cond.specs.Tree.{Tree, size, IsNumbered}
use Rattle.mc_cond.specs.Vectors.{Row, Evaluation, truth_of, flipped, evaluated, IsVector, IsCompletion}
use Rattle.mc_cond.specs.Influence.{FlipChanges, HasInfluence}
use Rattle.mc_cond.specs.steps.Reach.{reaches, is_on, filled}
use Rattle.mc_cond.proofs.Completions.{Fits, fits_from, from_fits, completion_vector}
use Rattle.mc_cond.proofs.Evaluated.{evaluated_where}
use Rattle.mc_cond.proofs.Operands.{flip_at}
use Rattle.mc_cond.proofs.Reaching.{Moves, moves_where, reaches_where, never_own}

pub other_value : (x y : Bool) → x ≢ y → y ≡ not x
other_value true true h = absurd (h refl)
other_value true false h = refl
other_value false true h = refl
other_value false false h = absurd (h refl)

-- influence is a move
completion_fits : (v : Evaluation) (row : Row) → IsCompletion v row → Fits 0 v.answers row
completion_fits v row h = fits_from v.answers 0 row (λ j x e. ap row (omega arith) ∙ h j x e)

fits_completion : (v : Evaluation) (row : Row) → Fits 0 v.answers row → IsCompletion v row
fits_completion v row f j x e = ap row (omega arith) ∙ from_fits v.answers 0 row f j x e

pub moves_by : (t : Tree) (k : ℕ) (v : Evaluation) → HasInfluence t k v → Moves (truth_of t) 0 v.answers k
moves_by t k v h =
    record { row = h.row; fits = completion_fits v h.row h.completion; changes = other_value (truth_of t h.row) (truth_of t (flipped k h.row)) (λ e. h.changes (sym e)) }

pub influence_by : (t : Tree) (k : ℕ) (v : Evaluation) → Moves (truth_of t) 0 v.answers k → HasInfluence t k v
influence_by t k v s =
    record { row = s.row; completion = fits_completion v s.row s.fits; changes = λ e. never_own (truth_of t s.row) (sym e ∙ s.changes) }

-- what was not evaluated taken as false is a completion
is_on_at : (x : Option (Option Bool)) (y : Bool) → x ≡ Some (Some y) → is_on x ≡ y
is_on_at (Some (Some x)) y e = cc
is_on_at (Some None) y e = cc
is_on_at None y e = cc

pub filled_completes : (v : Evaluation) → IsCompletion v (filled v)
filled_completes v j x e = is_on_at (slice_get v.answers j) x e

pub filled_vector : (t : Tree) (v : Evaluation) → IsNumbered t → IsVector t v → evaluated t (filled v) ≡ v
filled_vector t v n is = completion_vector t v (filled v) n.in_order is (filled_completes v)

pub influence_exact : (t : Tree) (k : ℕ) (v : Evaluation) → IsNumbered t → IsVector t v → (reaches t (filled v) k ≡ true) ↔ HasInfluence t k v
influence_exact t k v n is =
    let P : Evaluation → Type 0 = λ w. Moves (truth_of t) 0 w.answers k in
    let same : evaluated t (filled v) ≡ v = filled_vector t v n is in (
      λ h. influence_by t k v (subst P same (moves_where t 0 (filled v) k n.in_order h)),
      λ h. reaches_where t 0 (filled v) k n.in_order (subst P (sym same) (moves_by t k v h)),
    )

bit_says : (b : Bool) (n : ℕ) → n ≡ (if b then 1 else 0) → (n ≡ 1) ↔ (b ≡ true)
bit_says true n e = (λ h. refl, λ h. e)
bit_says false n e = (λ h. let f : 0 ≡ 1 = sym e ∙ h in cc, λ h. cc)

pub bit_exact : (t : Tree) (k : ℕ) (v : Evaluation) (bit : ℕ) → IsNumbered t → IsVector t v → bit ≡ (if reaches t (filled v) k then 1 else 0) → (bit ≡ 1) ↔ HasInfluence t k v
bit_exact t k v bit n is e =
    let says : (bit ≡ 1) ↔ (reaches t (filled v) k ≡ true) = bit_says (reaches t (filled v) k) bit e in
    let exact : (reaches t (filled v) k ≡ true) ↔ HasInfluence t k v = influence_exact t k v n is in
    (λ h. exact.0 (says.0 h), λ h. says.1 (exact.1 h))

-- a condition with influence is evaluated
unlike_flipped : (t : Tree) (k : ℕ) (a : Row) (j : ℕ) → j < size t → j ≢ k → a j ≡ flipped k a j
unlike_flipped t k a j below other = elim (flip_at k a j) [ inl same ↦ absurd (other same.0) | inr still ↦ sym still.1 ]

pub evaluated_with : (t : Tree) (k : ℕ) (v : Evaluation) (a : Row) → IsNumbered t → IsVector t v → IsCompletion v a → FlipChanges t k a → slice_get v.answers k ≡ Some (Some (a k))
evaluated_with t k v a n is fits changes = evaluated_where t k v a (flipped k a) n is fits (unlike_flipped t k a) (λ e. changes (sym e))
