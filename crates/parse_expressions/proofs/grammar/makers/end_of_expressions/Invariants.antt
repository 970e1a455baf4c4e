use Rattle.std.proofs.Common.{◌≡◌, drop, map}
use Rattle.mc_tree.specs.Views.{expression_of, expressions_from}
use Rattle.mc_grammar.specs.Places as places
use Rattle.parse_expressions.proofs.grammar.makers.end_of_expressions.Given as goal

abbrev pub invariant-loop-one : goal.invariant-loop-one
invariant-loop-one l =
    places.end_of_expressions l.end (expressions_from (map expression_of (drop l.one-index l.all)))
    ≡ places.end_of_expressions l.fn.before (expressions_from (map expression_of l.all))
