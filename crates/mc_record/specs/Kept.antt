-- What is kept of the run of some tests.
use Rattle.std.specs.Prelude.{◌≡◌, ◌≢◌, ◌≤◌, ℕ, Bool, true, not, ◌&&◌, List, [], ◌∷◌, length, All}
use Rattle.std.specs.List.{list_all, list_any}
use Rattle.std.specs.Str.{bytes_eq}
use Rattle.mc_limits.specs.Limits.{most_bits, most_tests, most_words}
use Rattle.mc_core.specs.Matrix.{MatrixView}
use Rattle.mc_core.specs.Shape.{word_count}
use Rattle.csv_records.specs.Names.{is_name}
use Rattle.mc_typed.specs.declared.plans.Ending.TheVariants.{Returned}
use Rattle.mc_typed.specs.declared.plans.TestState.{TestState}
use Rattle.mc_typed.specs.declared.plans.TestState.TheVariants.{Ended}

-- the SHA-256 of the source, the name and the state of each test, and which bits were hit under it
pub record Kept : Type 0 where
  pub digest : List ℕ
  pub names : List (List ℕ)
  pub states : List TestState
  pub matrix : MatrixView

-- no name stands twice
abbrev pub are_distinct : List (List ℕ) → Bool
are_distinct [] = true
are_distinct (name ∷ names) = not (list_any (bytes_eq name) names) && are_distinct names

-- each test has a name of its own and a state, and the limits are kept; a test in which each call
-- returned has passed or failed
pub record IsKept (k : Kept) : Type 0 where
  pub names : length k.names ≡ k.matrix.shape.tests
  pub states : length k.states ≡ k.matrix.shape.tests
  pub named : list_all is_name k.names ≡ true
  pub distinct : are_distinct k.names ≡ true
  pub judged : All (λ s. s ≢ Ended Returned) k.states
  pub few_bits : k.matrix.shape.bits ≤ most_bits
  pub few_tests : k.matrix.shape.tests ≤ most_tests
  pub few_words : word_count k.matrix.shape ≤ most_words
