-- The lines of mutants from what the code has of their changes.
use Rattle.std.specs.Prelude.{ℕ, ◌+◌, List, [], ◌∷◌, Option}
use Rattle.mutate_lines.specs.Lines.{mutant_line}
use Rattle.mutate_lines.specs.Seen.{told_of}
use Rattle.mutate_lines.specs.declared.change.ChangeLine.{ChangeLine}

abbrev pub each_given : (names : List (List ℕ)) → (number : ℕ) → List ChangeLine → List (Option ℕ)
    → List (List ℕ)
each_given names number (change ∷ changes) (killer ∷ killers) =
    mutant_line names number (told_of change) killer
    ∷ each_given names (number + 1) changes killers
each_given names number _ _ = []
