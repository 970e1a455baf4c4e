-- What the code has of the changes is what is told of them.
use Rattle.std.proofs.Common.{◌≡◌, ◌+◌, ℕ, List, [], ◌∷◌, map, Option, refl, ap}
use Rattle.mutate_lines.specs.Lines.{each_line, mutant_line}
use Rattle.mutate_lines.specs.Seen.{told_of}
use Rattle.mutate_lines.specs.declared.change.ChangeLine.{ChangeLine}
use Rattle.mutate_lines.specs.steps.Each.{each_given}

pub same_lines : (names : List (List ℕ)) (number : ℕ) (changes : List ChangeLine) (killers : List (Option ℕ)) → each_given names number changes killers ≡ each_line names number (map told_of changes) killers
same_lines names number [] [] = refl
same_lines names number [] (k ∷ ks) = refl
same_lines names number (c ∷ cs) [] = refl
same_lines names number (c ∷ cs) (k ∷ ks) = ap (λ ls. mutant_line names number (told_of c) k ∷ ls) (same_lines names (number + 1) cs ks)
