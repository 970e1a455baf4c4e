-- A vector has an answer for each condition.
use Rattle.std.proofs.Common.{◌≡◌, ℕ, ◌<◌, length, ap, sym, subst, ◌∙◌}
use Rattle.mc_cond.specs.Tree.{Tree, size}
use Rattle.mc_cond.specs.Vectors.{Evaluation, IsVector}
use Rattle.mc_cond.proofs.Rows.{length_answers}

pub length_vector : (t : Tree) (v : Evaluation) → IsVector t v → length v.answers ≡ size t
length_vector t v (row, e) = let P : Evaluation → ℕ = λ w. length w.answers in sym (ap P e) ∙ length_answers t row

pub below_length : (t : Tree) (v : Evaluation) (k : ℕ) → IsVector t v → k < size t → k < length v.answers
below_length t v k is h = let P : ℕ → Type 0 = λ n. k < n in subst P (sym (length_vector t v is)) h
