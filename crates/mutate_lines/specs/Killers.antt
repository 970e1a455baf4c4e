-- Which test kills each mutant: the least, where one does.
use Rattle.std.specs.Prelude.{ℕ, ◌+◌, ◌*◌, ◌<◌, List, [], ◌∷◌, Option, Some, None, ⊤}
use Rattle.mc_core.specs.Matrix.{Holds, MatrixView}

-- the least of so many tests that kill a mutant, or none where none does
abbrev pub IsKiller : (kills : ℕ → Type 0) → (tests : ℕ) → Option ℕ → Type 0
IsKiller kills tests None = (test : ℕ) → test < tests → ¬ kills test
IsKiller kills tests (Some test) =
    (test < tests) × (kills test × ((before : ℕ) → before < test → ¬ kills before))

-- those of the mutants from this one on, where each test kills these mutants
abbrev pub AreKillers : (kills : (mutant test : ℕ) → Type 0) → (tests mutant : ℕ) → List (Option ℕ)
    → Type 0
AreKillers kills tests mutant [] = ⊤
AreKillers kills tests mutant (killer ∷ killers) =
    IsKiller (kills mutant) tests killer × AreKillers kills tests (mutant + 1) killers

-- In a matrix of one bit the item that is recorded for a mutant and a test, both numbered from 0:
-- those of a mutant stand together, in the order of so many tests.
abbrev pub item : (tests mutant test : ℕ) → ℕ
item tests mutant test = mutant * tests + test

-- it is recorded that the test kills the mutant
abbrev pub IsRecorded : MatrixView → (tests mutant test : ℕ) → Type 0
IsRecorded m tests mutant test = Holds m 0 (item tests mutant test)
