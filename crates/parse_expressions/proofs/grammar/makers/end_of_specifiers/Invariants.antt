use Rattle.std.proofs.Common.{◌≡◌, drop, map}
use Rattle.mc_tree.specs.Views.{specifier_of, specifiers_from}
use Rattle.mc_grammar.specs.Places as places
use Rattle.parse_expressions.proofs.grammar.makers.end_of_specifiers.Given as goal

abbrev pub invariant-loop-one : goal.invariant-loop-one
invariant-loop-one l =
    places.end_of_specifiers l.end (specifiers_from (map specifier_of (drop l.one-index l.all)))
    ≡ places.end_of_specifiers l.fn.before (specifiers_from (map specifier_of l.all))
