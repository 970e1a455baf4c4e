use Rattle.std.proofs.Common.{◌≡◌, [], map, ◌+◌, ◌-◌, ◌*◌}
use Rattle.mc_tree.specs.Units.{initializer_of}
use Rattle.laws_grammar.specs.Declarations as spec
use Rattle.laws_grammar.specs.Lists.{braced_list, listed}
use Rattle.parse_cursor.specs.Cursors.{left_of}
use Rattle.parse_expressions.proofs.initializers.+initializers.Given as goal

abbrev pub decreases-initializer : goal.decreases-initializer
decreases-initializer l = 2 * l.room

abbrev pub decreases-initializers : goal.decreases-initializers
decreases-initializers l = 2 * l.room + 1

abbrev pub invariant-initializers-loop-turn : goal.invariant-initializers-loop-turn
invariant-initializers-loop-turn l =
    listed (λ turns. braced_list turns (spec.initializer_of l.room) []) (left_of l.fn.tokens)
    ≡ braced_list (l._turn-end - l._turn) (spec.initializer_of l.room) (map initializer_of l.all.items) (left_of l.tokens)
