use Rattle.std.proofs.Common.{◌≡◌, ◌≤◌, ◌-◌}
use Rattle.laws_grammar.specs.Expressions as spec
use Rattle.parse_cursor.specs.Cursors.{left_of}
use Rattle.parse_expressions.proofs.grammar.unary.stars.Given as goal

abbrev pub invariant-loop-turn : goal.invariant-loop-turn
invariant-loop-turn l =
    (spec.stars_of l.fn.before (left_of l.fn.tokens) ≡ spec.stars_loop (l._turn-end - l._turn) l.count l.end (left_of l.tokens))
    × (l.count ≤ l._turn)
