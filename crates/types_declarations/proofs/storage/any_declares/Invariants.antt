use Rattle.std.proofs.Common.{◌≡◌, ◌||◌, map, length}
use Rattle.mc_tree.specs.Views.{specifier_of, specifiers_from}
use Rattle.types_rules.specs.Declarations as w
use Rattle.types_declarations.proofs.storage.any_declares.Given as goal

abbrev pub invariant-loop-left : goal.invariant-loop-left
invariant-loop-left l =
    (l.found || w.any_declares (specifiers_from (map specifier_of l.left)))
    ≡ w.any_declares (specifiers_from (map specifier_of l.fn.specifiers))

abbrev pub decreases-loop-left : goal.decreases-loop-left
decreases-loop-left l = length l.left
