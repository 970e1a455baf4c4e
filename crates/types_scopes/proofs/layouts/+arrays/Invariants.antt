use Rattle.std.proofs.Common.{length}
use Rattle.types_scopes.proofs.layouts.+arrays.Given as goal

abbrev pub decreases-arrays : goal.decreases-arrays
decreases-arrays l = length l.lengths.now
