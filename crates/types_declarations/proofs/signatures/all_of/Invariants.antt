-- The kinds so far, with those still to come, are those of all parameters.
use Rattle.std.proofs.Common.{◌≡◌, ◌++◌, map, length, option_map}
use Rattle.types_rules.specs.Declarations as w
use Rattle.types_declarations.specs.Declarations.{kind_found, kinds_of}
use Rattle.types_declarations.proofs.signatures.all_of.Given as goal

abbrev pub invariant-loop-left : goal.invariant-loop-left
invariant-loop-left l =
    option_map (λ others. kinds_of l.all ++ others) (w.all_of (map kind_found l.left))
    ≡ w.all_of (map kind_found l.fn.kinds)

abbrev pub decreases-loop-left : goal.decreases-loop-left
decreases-loop-left l = length l.left
