-- Two records of one source, joined.
use Rattle.std.specs.Prelude.{◌≡◌, ◌↔◌, ℕ, ◌+◌, List, [], ◌∷◌, ◌++◌, Option, Some, None, if◌then◌else◌, nat_lt}
use Rattle.std.specs.Str.{bytes_eq}
use Rattle.mc_limits.specs.Limits.{most_tests, most_words}
use Rattle.mc_core.specs.Matrix.{Holds}
use Rattle.mc_core.specs.Merged.{both_shapes, words_of_both, HoldsEither}
use Rattle.mc_record.specs.Kept.{Kept}
use Rattle.mc_record.specs.declared.pair_fault.PairFault.{PairFault}
use Rattle.mc_record.specs.declared.pair_fault.PairFault.TheVariants as fault

-- the place of the first of these names that is this one; they are numbered from k
abbrev pub place_from : ℕ → List (List ℕ) → List ℕ → Option ℕ
place_from k [] name = None
place_from k (n ∷ names) name =
    if bytes_eq n name then Some k else place_from (k + 1) names name

abbrev pub place_of : List (List ℕ) → List ℕ → Option ℕ
place_of names name = place_from 0 names name

abbrev pub same_or : ℕ → Option ℕ → Option (ℕ × ℕ) → Option (ℕ × ℕ)
same_or k (Some left) later = Some (left, k)
same_or k None later = later

-- the first of the right names that stands among the left ones, as its place on the left and its
-- place on the right; the right ones are numbered from k
abbrev pub same_from : List (List ℕ) → ℕ → List (List ℕ) → Option (ℕ × ℕ)
same_from left k [] = None
same_from left k (name ∷ right) =
    same_or k (place_of left name) (same_from left (k + 1) right)

abbrev pub same_test : List (List ℕ) → List (List ℕ) → Option (ℕ × ℕ)
same_test left right = same_from left 0 right

abbrev pub size_fault : Kept → Kept → Option PairFault
size_fault left right =
    if nat_lt most_tests (left.matrix.shape.tests + right.matrix.shape.tests)
    then Some (fault.Limit (left.matrix.shape.tests + right.matrix.shape.tests))
    else if nat_lt most_words (words_of_both left.matrix right.matrix)
    then Some (fault.TooLarge (words_of_both left.matrix right.matrix)) else None

abbrev pub fault_or : Option (ℕ × ℕ) → Option PairFault → Option PairFault
fault_or (Some (left, right)) later = Some (fault.SameTest left right)
fault_or None later = later

-- a name in both comes before too many tests, and these before too many words
abbrev pub pair_fault : Kept → Kept → Option PairFault
pair_fault left right = fault_or (same_test left.names right.names) (size_fault left right)

-- the tests of the left one, followed by those of the right one, each with its state and its bits
pub record IsMerged (left right both : Kept) : Type 0 where
  pub digest : both.digest ≡ left.digest
  pub names : both.names ≡ left.names ++ right.names
  pub states : both.states ≡ left.states ++ right.states
  pub shape : both.matrix.shape ≡ both_shapes left.matrix.shape right.matrix.shape
  pub pairs : (b t : ℕ) →
      Holds both.matrix b t ↔ HoldsEither left.matrix right.matrix b t
