-- What follows from the definitions of the counts.
use Rattle.std.specs.Prelude.{◌≡◌, ℕ, ◌≤◌, ◌↔◌, ◌&&◌, List, length}
use Rattle.mc_oblige.specs.declared.verdict.VerdictState.{VerdictState}
use Rattle.mc_functions.specs.declared.counts.Counts.{Counts}
use Rattle.mc_functions.specs.declared.kind.Kind.{Kind}
use Rattle.mc_functions.specs.Kinds.{kind_of, same_kind}
use Rattle.mc_functions.specs.Counts.{counted, of_kind, of_verdict, percentage, total}
use Rattle.mc_functions.specs.Standing.{StandsIn, function_of}
use Rattle.mc_functions.specs.Measured.{Measured, is_counted, names_of, row_of}
use Rattle.mc_functions.specs.Sums.{sum_below}

-- a place stands in one function, which is the one that is counted
abbrev pub StandsInOne : Type 0
StandsInOne =
    (names : List ℕ) (at : ℕ) → 1 ≤ length names →
    StandsIn names (function_of names at) at
    × ((k : ℕ) → StandsIn names k at → k ≡ function_of names at)

-- the counts of a kind over all functions are those of the kind among all that is counted
abbrev pub FunctionsAreAll : Type 0
FunctionsAreAll =
    (m : Measured) (kind : Kind) (state : VerdictState) → 1 ≤ length (names_of m) →
    sum_below (length (names_of m)) (λ k. of_verdict state (of_kind kind (row_of m k)))
    ≡ counted (λ o. is_counted m o && same_kind kind (kind_of o.id)) state m.obligations m.verdicts

-- 100 % are met exactly where all are
abbrev pub FullIsAllMet : Type 0
FullIsAllMet = (c : Counts) → 1 ≤ total c → (percentage c ≡ 100) ↔ (c.met ≡ total c)
