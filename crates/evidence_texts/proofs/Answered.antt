-- One more answer of a vector.
use Rattle.std.proofs.Common.{◌≡◌, ◌∙◌, ◌+◌, ◌++◌, ℕ, Bool, Option, Some, List, [], ◌∷◌, map, take, ap, sym, append_assoc}
use Rattle.std.specs.Prelude.{slice_get}
use Rattle.std.proofs.lemmas.List.{take_more, map-append}
use Rattle.std.proofs.lemmas.Option.{get_or_from_slice_get, slice_get_within}
use Rattle.evidence_texts.specs.Words.{answer_byte}

pub answers_more : (answers : List (Option Bool)) (k : ℕ) (a : Option Bool) → slice_get answers k ≡ Some a → map answer_byte (take (k + 1) answers) ≡ map answer_byte (take k answers) ++ answer_byte a ∷ []
answers_more answers k a is =
    ap (map answer_byte) (take_more answers k a (slice_get_within answers k a is) ∙ ap (λ (y : Option Bool). take k answers ++ y ∷ []) (get_or_from_slice_get answers k a a is))
    ∙ map-append answer_byte (take k answers) (a ∷ [])

pub pushed : (new old initial : List ℕ) (answers : List (Option Bool)) (k : ℕ) (a : Option Bool) (b : ℕ) → slice_get answers k ≡ Some a → b ≡ answer_byte a → new ≡ old ++ b ∷ [] → old ≡ initial ++ map answer_byte (take k answers) → new ≡ initial ++ map answer_byte (take (k + 1) answers)
pushed new old initial answers k a b is value push was =
    push
    ∙ ap (λ (x : ℕ). old ++ x ∷ []) value
    ∙ ap (λ (xs : List ℕ). xs ++ answer_byte a ∷ []) was
    ∙ append_assoc initial (map answer_byte (take k answers)) (answer_byte a ∷ [])
    ∙ ap (λ (xs : List ℕ). initial ++ xs) (sym (answers_more answers k a is))
