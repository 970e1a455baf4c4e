-- Rows to which obligations are added one after the other.
use Rattle.std.specs.Prelude.{◌≡◌, ℕ, ◌+◌, ◌<◌, ◌==◌, if◌then◌else◌, List, length, slice_index_or}
use Rattle.mc_oblige.specs.declared.verdict.VerdictState.{VerdictState}
use Rattle.mc_oblige.specs.declared.verdict.VerdictState.TheVariants.{Met, Justified, Stale, Missing}
use Rattle.mc_functions.specs.declared.counts.Counts.{Counts}
use Rattle.mc_functions.specs.declared.row.Row.{Row}
use Rattle.mc_functions.specs.declared.kind.Kind.{Kind}
use Rattle.mc_functions.specs.declared.kind.Kind.TheVariants.{Entries, Exits, Statements, Labels, Outcomes, Conditions}
use Rattle.mc_functions.specs.Measured.{Measured, names_of, row_of}

abbrev pub no_counts : Counts
no_counts = record { met = 0; justified = 0; stale = 0; missing = 0 }

abbrev pub no_row : Row
no_row =
    record {
      entries = no_counts;
      exits = no_counts;
      statements = no_counts;
      labels = no_counts;
      outcomes = no_counts;
      conditions = no_counts;
    }

abbrev pub one_more : VerdictState → Counts → Counts
one_more Met c = record c { met = c.met + 1 }
one_more Justified c = record c { justified = c.justified + 1 }
one_more Stale c = record c { stale = c.stale + 1 }
one_more Missing c = record c { missing = c.missing + 1 }

abbrev pub with_one : Kind → VerdictState → Row → Row
with_one Entries s r = record r { entries = one_more s r.entries }
with_one Exits s r = record r { exits = one_more s r.exits }
with_one Statements s r = record r { statements = one_more s r.statements }
with_one Labels s r = record r { labels = one_more s r.labels }
with_one Outcomes s r = record r { outcomes = one_more s r.outcomes }
with_one Conditions s r = record r { conditions = one_more s r.conditions }

-- the row of function k, after one obligation in `function`
abbrev pub added : ℕ → Kind → VerdictState → ℕ → Row → Row
added function kind state k row = if function == k then with_one kind state row else row

pub record AreEmpty (count : ℕ) (rows : List Row) : Type 0 where
  pub whole : length rows ≡ count
  pub each : (k : ℕ) → k < count → slice_index_or rows k no_row ≡ no_row

-- these are the counts of the functions
pub record AreRows (m : Measured) (rows : List Row) : Type 0 where
  pub whole : length rows ≡ length (names_of m)
  pub each : (k : ℕ) → k < length rows → slice_index_or rows k no_row ≡ row_of m k
