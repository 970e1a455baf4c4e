-- What sets and tables know.
use Rattle.std.specs.Prelude.{◌≡◌, ℕ, ℤ, Bool, List, map}
use Rattle.std.specs.BTreeSet.{BTreeSet, contains_by}
use Rattle.std.specs.Ordering.{int_cmp}
use Rattle.name_table.specs.Tables.{Named, last_of}
use Rattle.types_rules.specs.Scopes.{place_from}
use Rattle.types_rules.specs.Statements.{has_value}

-- each name has the number of its first place
abbrev pub AreNumbered : List (Named ℕ) → Type 0
AreNumbered numbers = (q : List ℕ) → last_of q numbers ≡ place_from 0 q (map (λ e. e.name) numbers)

abbrev pub is_in : BTreeSet ℤ → ℤ → Bool
is_in sorted v = contains_by (int_cmp v) sorted

-- a set of the values of a list
abbrev pub AreSorted : List ℤ → BTreeSet ℤ → Type 0
AreSorted values sorted = (v : ℤ) → is_in sorted v ≡ has_value v values
