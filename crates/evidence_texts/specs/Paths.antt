-- The vectors of the paths of a decision, as texts.
use Rattle.std.specs.Prelude.{ℕ, Option, Some, None, List, [], ◌∷◌, codes}
use Rattle.std.specs.List.{concat}
use Rattle.mc_paths.specs.Paths.{IsInUse}
use Rattle.mc_probe.specs.Maps.{Mapped}
use Rattle.evidence_texts.specs.Words.{vector_text}
use Rattle.evidence_texts.specs.Vectors.{vector_at}

-- the decision has a path of this number
abbrev pub HasPath : Option Mapped → ℕ → Type 0
HasPath None path = ⊥
HasPath (Some m) path = IsInUse m.decision.tree path

-- the vector of a path of the decision
abbrev pub path_vector : Option Mapped → ℕ → List ℕ
path_vector None path = []
path_vector (Some m) path = vector_text (vector_at m.decision.tree path)

-- the same after a blank
abbrev pub path_text : Option Mapped → ℕ → List ℕ
path_text None path = []
path_text (Some m) path = concat (codes " " ∷ path_vector (Some m) path ∷ [])
