-- The lines on mutants: what the tests noticed of each, and how many they killed.
use Rattle.std.specs.Prelude.{ℕ, ◌+◌, ◌<◌, ⊤, List, [], ◌∷◌, ◌++◌, length, Option, Some, None, codes, slice_index_or}
use Rattle.std.specs.Fmt.{decimal}
use Rattle.std.specs.List.{concat}

abbrev pub newline : List ℕ
newline = 10 ∷ []

-- what is told of the change that makes a mutant: where it is, and the word for its kind
pub record Told : Type 0 where
  pub line : ℕ
  pub column : ℕ
  pub kind : List ℕ

-- the test that kills a mutant, where one does, is one of so many
abbrev pub IsOf : (tests : ℕ) → Option ℕ → Type 0
IsOf tests None = ⊤
IsOf tests (Some test) = test < tests

abbrev pub AreOf : (tests : ℕ) → List (Option ℕ) → Type 0
AreOf tests [] = ⊤
AreOf tests (killer ∷ killers) = IsOf tests killer × AreOf tests killers

-- the test that kills a mutant, by its name, or that none does
abbrev pub outcome_text : (names : List (List ℕ)) → Option ℕ → List ℕ
outcome_text names None = codes " survived"
outcome_text names (Some test) = codes " killed by " ++ slice_index_or names test []

-- the mutant with this number, what is changed in it and where, and what the tests come to
abbrev pub mutant_line : (names : List (List ℕ)) → (number : ℕ) → Told → Option ℕ → List ℕ
mutant_line names number told killer =
    concat (codes "M" ∷ decimal number ∷ codes " " ∷ decimal told.line ∷ codes ":"
    ∷ decimal told.column ∷ codes " " ∷ told.kind ∷ outcome_text names killer ∷ newline ∷ [])

-- a line for each mutant, numbered from this one on
abbrev pub each_line : (names : List (List ℕ)) → (number : ℕ) → List Told → List (Option ℕ)
    → List (List ℕ)
each_line names number (told ∷ changes) (killer ∷ killers) =
    mutant_line names number told killer ∷ each_line names (number + 1) changes killers
each_line names number _ _ = []

-- how many mutants some test kills, and how many none does
abbrev pub killed_of : List (Option ℕ) → ℕ
killed_of [] = 0
killed_of (None ∷ killers) = killed_of killers
killed_of (Some test ∷ killers) = 1 + killed_of killers

abbrev pub survived_of : List (Option ℕ) → ℕ
survived_of [] = 0
survived_of (None ∷ killers) = 1 + survived_of killers
survived_of (Some test ∷ killers) = survived_of killers

abbrev pub sum_line : List (Option ℕ) → List ℕ
sum_line killers =
    concat (codes "mutants killed " ∷ decimal (killed_of killers) ∷ codes " survived "
    ∷ decimal (survived_of killers) ∷ codes " of " ∷ decimal (length killers) ∷ newline ∷ [])

-- the lines of all mutants, and the sums
abbrev pub mutant_lines : (names : List (List ℕ)) → List Told → List (Option ℕ)
    → List (List ℕ)
mutant_lines names changes killers = each_line names 1 changes killers ++ sum_line killers ∷ []
