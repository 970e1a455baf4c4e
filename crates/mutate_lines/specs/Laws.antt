-- What follows from the definitions.
use Rattle.std.specs.Prelude.{◌≡◌, ℕ, ◌+◌, List, Option, length}
use Rattle.mc_core.specs.Matrix.{MatrixView}
use Rattle.mutate_lines.specs.Killers.{AreKillers, IsRecorded}
use Rattle.mutate_lines.specs.Lines.{killed_of, survived_of}

-- a matrix has one list of the tests that kill so many mutants
abbrev pub KillersAreOne : Type 0
KillersAreOne =
    (m : MatrixView) (tests from : ℕ) (ks ls : List (Option ℕ)) → length ks ≡ length ls
    → AreKillers (IsRecorded m tests) tests from ks → AreKillers (IsRecorded m tests) tests from ls
    → ks ≡ ls

-- each mutant is killed or survives
abbrev pub AllAreTold : Type 0
AllAreTold =
    (killers : List (Option ℕ)) → killed_of killers + survived_of killers ≡ length killers
