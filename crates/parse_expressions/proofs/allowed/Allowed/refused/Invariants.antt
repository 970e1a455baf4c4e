use Rattle.std.proofs.Common.{◌≡◌, ◌≤◌, ◌+◌, length, map}
use Rattle.mc_tree.specs.Views.{specifier_of}
use Rattle.mc_grammar.specs.Counts as spec
use Rattle.parse_expressions.specs.Counted.{counts_of, refused_in, total}
use Rattle.parse_expressions.proofs.allowed.Allowed.refused.Given as goal

abbrev pub decreases-loop-left : goal.decreases-loop-left
decreases-loop-left l = length l.left

abbrev pub invariant-loop-left : goal.invariant-loop-left
invariant-loop-left l =
    (refused_in l.self spec.nothing (map specifier_of l.all) ≡ refused_in l.self (counts_of l.counts) (map specifier_of l.left))
    × (total (counts_of l.counts) + length l.left ≤ length l.all)
