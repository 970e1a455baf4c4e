-- The vector of a path, by its number.
use Rattle.std.specs.Prelude.{ℕ, zero, suc, Bool, true, false, ◌==◌, List, [], ◌∷◌, ◌++◌, map, find, unwrap_or}
use Rattle.mc_cond.specs.Tree.{Tree, size}
use Rattle.mc_cond.specs.Vectors.{Evaluation, row_of, evaluated}
use Rattle.mc_paths.specs.Paths.{path_of, all_false}

-- the rows of a truth table of n conditions: each choice of an answer for each of them
abbrev pub rows : ℕ → List (List Bool)
rows zero = [] ∷ []
rows (suc n) = map (λ row. true ∷ row) (rows n) ++ map (λ row. false ∷ row) (rows n)

-- the vectors of a decision: what evaluation gives on each row
abbrev pub vectors_of : Tree → List Evaluation
vectors_of t = map (λ row. evaluated t (row_of row)) (rows (size t))

-- The vector of a path is the one with its number. A law says that a number in use has one.
abbrev pub vector_at : Tree → ℕ → Evaluation
vector_at t path = unwrap_or (find (λ v. path_of t v == path) (vectors_of t)) (all_false t)
