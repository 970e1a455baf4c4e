use Rattle.std.proofs.Common.{◌≡◌, ◌||◌, length}
use Rattle.types_rules.specs.Declarators.{has_absent}
use Rattle.types_declarations.specs.Declarations.{written}
use Rattle.types_declarations.proofs.declarators.has_absent.Given as goal

abbrev pub invariant-loop-left : goal.invariant-loop-left
invariant-loop-left l = (l.found || has_absent (written l.left)) ≡ has_absent (written l.fn.lengths)

abbrev pub decreases-loop-left : goal.decreases-loop-left
decreases-loop-left l = length l.left
