-- A step of the proofs: it follows the code, and no public clause rests on it.
-- Least tests and marks, which stand at the bits of vectors. The bits of a decision's paths begin
-- at its base.
use Rattle.std.specs.Prelude.{◌≡◌, ℕ, ◌+◌, ◌<◌, Bool, true, false, Option, Some, None, is_some, List, map, length, get_or, slice_get, Contains}
use Rattle.mc_paths.specs.Paths.{count_of}
use Rattle.mc_probe.specs.Maps.{Mapped, Map}
use Rattle.mc_oblige.specs.declared.evaluated.EvaluatedPath.{EvaluatedPath}

abbrev pub IsMarked : List Bool → ℕ → ℕ → Type 0
IsMarked marks base path = get_or marks (base + path) false ≡ true

-- a mark at each bit that has a test
abbrev pub marks_in : List (Option ℕ) → List Bool
marks_in tests = map is_some tests

abbrev pub HasTestAt : List (Option ℕ) → ℕ → ℕ → Type 0
HasTestAt tests bit test = get_or tests bit None ≡ Some test

-- a path of the decision is marked
pub record IsMarkedIn (m : Map) (marks : List Bool) (d path : ℕ) : Type 0 where
  pub mapped : Mapped
  pub known : slice_get m.decisions d ≡ Some mapped
  pub below : path < count_of mapped.decision.tree
  pub marked : IsMarked marks mapped.base path

-- the decision has a path of this number
pub record IsPathIn (m : Map) (e : EvaluatedPath) : Type 0 where
  pub mapped : Mapped
  pub known : slice_get m.decisions e.decision ≡ Some mapped
  pub below : e.path < count_of mapped.decision.tree

abbrev pub entry_of : ℕ → ℕ → ℕ → EvaluatedPath
entry_of d path test = record { decision = d; path = path; test = test }

-- the tests that stand at the bits are those of the evaluated paths
pub record AreTestsIn (m : Map) (evaluated : List EvaluatedPath) (tests : List (Option ℕ))
    : Type 0 where
  pub count : length tests ≡ m.bits
  pub sound : (d path test : ℕ) (mapped : Mapped) → slice_get m.decisions d ≡ Some mapped →
      path < count_of mapped.decision.tree → HasTestAt tests (mapped.base + path) test →
      Contains evaluated (entry_of d path test)
  pub whole : (d path test : ℕ) (mapped : Mapped) → slice_get m.decisions d ≡ Some mapped →
      Contains evaluated (entry_of d path test) →
      (t : ℕ) × HasTestAt tests (mapped.base + path) t
