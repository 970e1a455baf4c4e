-- What is counted of a measured program.
use Rattle.std.specs.Prelude.{ℕ, Bool, true, not, ◌&&◌, ◌==◌, List, count_by, Option, Some, None}
use Rattle.mc_typed.specs.declared.plans.TestState.{TestState}
use Rattle.mc_oblige.specs.declared.obligation.Obligation.{Obligation}
use Rattle.mc_oblige.specs.declared.verdict.Verdict.{Verdict}
use Rattle.mc_places.specs.Origins.{stands_in}
use Rattle.mc_functions.specs.declared.counts.Counts.{Counts}
use Rattle.mc_functions.specs.declared.row.Row.{Row}
use Rattle.mc_functions.specs.declared.kind.Kind.{Kind}
use Rattle.mc_functions.specs.declared.kind.Kind.TheVariants.{Entries, Exits, Statements, Labels, Outcomes, Conditions}
use Rattle.mc_functions.specs.Kinds.{kind_of, same_kind}
use Rattle.mc_functions.specs.Counts.{counts_of}
use Rattle.mc_functions.specs.Standing.{function_of, name_places}

-- the preprocessed source, its obligations with a verdict for each, how the tests ended, and the
-- file whose obligations are counted, or none for all
pub record Measured : Type 0 where
  pub source : List ℕ
  pub obligations : List Obligation
  pub verdicts : List Verdict
  pub states : List TestState
  pub file : Option (List ℕ)

abbrev pub in_file : List ℕ → Option (List ℕ) → ℕ → Bool
in_file source None at = true
in_file source (Some name) at = stands_in source name at

-- the obligation is one of those that are counted
abbrev pub is_counted : Measured → Obligation → Bool
is_counted m o = in_file m.source m.file o.span.start

-- it stands in function k, and is of this kind
abbrev pub is_in : List ℕ → ℕ → Kind → Obligation → Bool
is_in names k kind o = function_of names o.span.start == k && same_kind kind (kind_of o.id)

abbrev pub names_of : Measured → List ℕ
names_of m = name_places m.obligations

abbrev pub kind_counts : Measured → ℕ → Kind → Counts
kind_counts m k kind =
    counts_of (λ o. is_counted m o && is_in (names_of m) k kind o) m.obligations m.verdicts

-- the counts of function k
abbrev pub row_of : Measured → ℕ → Row
row_of m k =
    record {
      entries = kind_counts m k Entries;
      exits = kind_counts m k Exits;
      statements = kind_counts m k Statements;
      labels = kind_counts m k Labels;
      outcomes = kind_counts m k Outcomes;
      conditions = kind_counts m k Conditions;
    }

-- of all obligations that are counted, and how many others there are
abbrev pub all_counts : Measured → Counts
all_counts m = counts_of (is_counted m) m.obligations m.verdicts

abbrev pub elsewhere : Measured → ℕ
elsewhere m = count_by (λ o. not (is_counted m o)) m.obligations
