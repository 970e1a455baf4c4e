-- How a vector is written.
use Rattle.std.specs.Prelude.{ℕ, Bool, true, false, Some, None, List, [], ◌∷◌, ◌++◌, map, codes}
use Rattle.mc_cond.specs.Order.{Answer}
use Rattle.mc_cond.specs.Vectors.{Evaluation}

-- `T`, `F`, and `-` for a condition that was not evaluated
abbrev pub truth_byte : Bool → ℕ
truth_byte true = 84
truth_byte false = 70

abbrev pub answer_byte : Answer → ℕ
answer_byte (Some truth) = truth_byte truth
answer_byte None = 45

-- the answers in the order of the conditions, then the outcome
abbrev pub vector_text : Evaluation → List ℕ
vector_text v = map answer_byte v.answers ++ codes "=" ++ truth_byte v.outcome ∷ []
