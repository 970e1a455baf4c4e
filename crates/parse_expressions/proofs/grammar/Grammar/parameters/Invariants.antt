use Rattle.std.proofs.Common.{◌≡◌, ◌≤◌, ◌-◌, [], max}
use Rattle.laws_grammar.specs.Lists.{comma_list, listed}
use Rattle.laws_grammar.specs.Specifiers as spec
use Rattle.laws_grammar.specs.Rooms.{reading}
use Rattle.parse_cursor.specs.Cursors.{left_of}
use Rattle.parse_expressions.specs.Parts.{high_parameters, parameters_of}
use Rattle.parse_expressions.proofs.grammar.Grammar.parameters.Given as goal

abbrev pub invariant-loop-turn : goal.invariant-loop-turn
invariant-loop-turn g l =
    (listed (λ turns. comma_list turns (spec.parameter_of (reading l.self.room)) []) (left_of l.fn.tokens)
    ≡ comma_list (l._turn-end - l._turn) (spec.parameter_of (reading l.self.room)) (parameters_of l.all) (left_of l.tokens))
    × (l.tallest ≡ max l.fn.tallest (high_parameters (parameters_of l.all)))
    × (l.tallest ≤ l.self.room - 1)
