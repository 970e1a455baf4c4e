use Rattle.std.proofs.Common.{◌≡◌, ◌≤◌, ◌+◌, map, length}
use Rattle.mc_tree.specs.Views.{specifier_of, specifiers_from}
use Rattle.types_rules.specs.Types as t
use Rattle.types_declarations.proofs.specifier_types.count.Given as goal

abbrev pub invariant-loop-left : goal.invariant-loop-left
invariant-loop-left l = record {
  counted : l.count + t.count l.fn.word (specifiers_from (map specifier_of l.left))
      ≡ t.count l.fn.word (specifiers_from (map specifier_of l.fn.specifiers));
  few : l.count + length l.left ≤ length l.fn.specifiers;
}

abbrev pub decreases-loop-left : goal.decreases-loop-left
decreases-loop-left l = length l.left
