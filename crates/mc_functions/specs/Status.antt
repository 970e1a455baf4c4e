-- The status of the counts.
use Rattle.std.specs.Prelude.{ℕ, Bool, true, false, ◌&&◌, ◌==◌, if◌then◌else◌}
use Rattle.std.specs.List.{list_all}
use Rattle.mc_typed.specs.declared.plans.TestState.{TestState}
use Rattle.mc_typed.specs.declared.plans.TestState.TheVariants.{Pass, Fail, Ended}
use Rattle.mc_functions.specs.declared.counts.Counts.{Counts}
use Rattle.mc_functions.specs.Measured.{Measured, all_counts}

abbrev pub passed : TestState → Bool
passed Pass = true
passed Fail = false
passed (Ended why) = false

-- none is missing or stale
abbrev pub is_settled : Counts → Bool
is_settled c = c.stale == 0 && c.missing == 0

-- 0 where all tests passed and none of the obligations that are counted is missing or stale, else 1
abbrev pub status_of : Measured → ℕ
status_of m = if list_all passed m.states && is_settled (all_counts m) then 0 else 1
