use Rattle.std.proofs.Common.{◌≡◌, ◌≤◌, ◌+◌, drop, length, map}
use Rattle.mc_tree.specs.Views.{specifier_of, specifiers_from}
use Rattle.mc_grammar.specs.Counts as spec
use Rattle.parse_expressions.specs.Counted.{counts_of, total}
use Rattle.parse_expressions.proofs.allowed.counted.Given as goal

abbrev pub decreases-loop-before : goal.decreases-loop-before
decreases-loop-before l = l.before

abbrev pub invariant-loop-before : goal.invariant-loop-before
invariant-loop-before l =
    (counts_of l.counts ≡ spec.counts (specifiers_from (map specifier_of (drop l.before l.all))))
    × (total (counts_of l.counts) + l.before ≤ length l.all)
