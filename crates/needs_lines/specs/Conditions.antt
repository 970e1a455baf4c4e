-- The lines of the conditions of a decision, with the values that a need asks of them.
use Rattle.std.specs.Prelude.{ℕ, ◌+◌, None, List, [], ◌∷◌, codes, flat_map, slice_index_or}
use Rattle.std.specs.List.{concat}
use Rattle.mc_cond.specs.Tree.{Tree}
use Rattle.mc_cond.specs.Vectors.{Evaluation}
use Rattle.mc_span.specs.declared.span.Span.{Span}
use Rattle.source_excerpt.specs.Excerpts.{bytes_at, one_line}
use Rattle.needed_paths.specs.declared.need.Need.{Need}
use Rattle.needed_paths.specs.declared.need.Need.TheVariants.{Vector, Beside, Both}
use Rattle.evidence_texts.specs.Vectors.{vector_at}
use Rattle.evidence_texts.specs.Words.{answer_byte}
use Rattle.needs_lines.specs.Needed.{newline}

-- the vectors that are asked for: one, or two
abbrev pub asked_vectors : Tree → Need → List Evaluation
asked_vectors tree (Vector path) = vector_at tree path ∷ []
asked_vectors tree (Beside path partner test) = vector_at tree path ∷ []
asked_vectors tree (Both first second) = vector_at tree first ∷ vector_at tree second ∷ []

-- the value of condition k in each of them
abbrev pub values_text : List Evaluation → ℕ → List ℕ
values_text vectors k =
    flat_map (λ v. 32 ∷ answer_byte (slice_index_or v.answers k None) ∷ []) vectors

-- the values, and the text of the condition on one line
abbrev pub condition_line : List ℕ → List Evaluation → ℕ → Span → List ℕ
condition_line source vectors k span =
    concat (codes " " ∷ values_text vectors k ∷ codes " " ∷ one_line (bytes_at source span)
    ∷ newline
    ∷ [])

-- of conditions numbered from k
abbrev pub condition_lines : List ℕ → List Evaluation → ℕ → List Span → List (List ℕ)
condition_lines source vectors k [] = []
condition_lines source vectors k (span ∷ spans) =
    condition_line source vectors k span ∷ condition_lines source vectors (k + 1) spans
