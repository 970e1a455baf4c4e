-- Lists of least tests, by the numbers of bits or of paths.
use Rattle.std.specs.Prelude.{◌≡◌, ℕ, ◌+◌, ◌<◌, ◌≤◌, ◌↔◌, ◌⊎◌, min, Bool, Option, Some, None, List, [], ◌∷◌, ◌++◌, length, slice_index_or, All, Contains}
use Rattle.std.specs.List.Sorted.{IsStrictlyIncreasing}
use Rattle.mc_cond.specs.Tree.{Tree}
use Rattle.mc_cond.specs.Vectors.{Evaluation}
use Rattle.mc_paths.specs.Paths.{IsPath, IsInUse}
use Rattle.mc_core.specs.Matrix.{MatrixView, Holds}
use Rattle.mc_oblige.specs.declared.verdict.Evidence.{Evidence}
use Rattle.mc_oblige.specs.declared.verdict.Evidence.TheVariants.{Absent, One}
use Rattle.mc_oblige.specs.Evidence.{IsLeast}

-- the least test for which it is so, or none where it is so for no test
abbrev pub IsLeastIf : (ℕ → Type 0) → Option ℕ → Type 0
IsLeastIf is None = (t : ℕ) → ¬ is t
IsLeastIf is (Some t) = IsLeast is t

-- the least tests of the bits from `from` on
pub record AreLeast (x : MatrixView) (from : ℕ) (tests : List (Option ℕ)) : Type 0 where
  pub each : (i : ℕ) → i < length tests →
      IsLeastIf (Holds x (from + i)) (slice_index_or tests i None)

abbrev pub evidence_of : Option ℕ → Evidence
evidence_of None = Absent
evidence_of (Some test) = One test

-- the list has this test at the place
abbrev pub IsAt : List (Option ℕ) → ℕ → ℕ → Type 0
IsAt tests path test = slice_index_or tests path None ≡ Some test

-- the test of a number: that of its bit where the number is in use, and none where it is idle
abbrev pub IsTestOf : Tree → ℕ → Option ℕ → Option ℕ → Type 0
IsTestOf t path bit test =
    (IsInUse t path × (test ≡ bit)) ⊎ ((¬ IsInUse t path) × (test ≡ None))

-- those of the first n numbers, from those of their bits
pub record AreTestsOf (t : Tree) (bits : List (Option ℕ)) (n : ℕ) (tests : List (Option ℕ))
    : Type 0 where
  pub count : length tests ≡ n
  pub each : (path : ℕ) → path < n →
      IsTestOf t path (slice_index_or bits path None) (slice_index_or tests path None)

-- each number that has a test is in use
abbrev pub AreInUse : Tree → List (Option ℕ) → Type 0
AreInUse t tests = (path test : ℕ) → IsAt tests path test → IsInUse t path

-- the vector of the path has this outcome
pub record HasOutcome (t : Tree) (outcome : Bool) (path : ℕ) : Type 0 where
  pub vector : Evaluation
  pub is_path : IsPath t path vector
  pub same : vector.outcome ≡ outcome

-- the least number that one of the first n paths shows, or none
abbrev pub IsLeastBelow : (ℕ → ℕ → Type 0) → ℕ → Option ℕ → Type 0
IsLeastBelow shows n None = (p t : ℕ) → p < n → ¬ shows p t
IsLeastBelow shows n (Some t) =
    ((p : ℕ) × (p < n) × shows p t) × ((p u : ℕ) → p < n → shows p u → t ≤ u)

abbrev pub lesser_of : Option ℕ → Option ℕ → Option ℕ
lesser_of None b = b
lesser_of (Some x) None = Some x
lesser_of (Some x) (Some y) = Some (min x y)

-- the path has a test, and the outcome
abbrev pub HasTest : Tree → List (Option ℕ) → Bool → ℕ → ℕ → Type 0
HasTest t tests outcome path test = IsAt tests path test × HasOutcome t outcome path

-- those of the first n paths that have a test, in ascending order
pub record AreSeenBelow (tests : List (Option ℕ)) (n : ℕ) (seen : List ℕ) : Type 0 where
  pub ascending : IsStrictlyIncreasing seen
  pub below : All (λ path. path < n) seen
  pub each : (path : ℕ) → Contains seen path ↔ ((path < n) × ((test : ℕ) × IsAt tests path test))

-- the seen paths, with the next one where it has a test
abbrev pub seen_with : Option ℕ → ℕ → List ℕ → List ℕ
seen_with None path seen = seen
seen_with (Some test) path seen = seen ++ path ∷ []
