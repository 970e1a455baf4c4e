-- What the missing obligations of a program need.
use Rattle.std.specs.Prelude.{List, Option}
use Rattle.needed_paths.specs.declared.need.Need.{Need}
use Rattle.needed_paths.specs.declared.wanted.Wanted.{Wanted}

-- for each obligation in order what it needs, and the vectors that all of them together need
pub record Needs : Type 0 where
  pub each : List (Option Need)
  pub wanted : List Wanted
