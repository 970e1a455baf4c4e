use Rattle.std.proofs.Common.{◌≡◌, ◌≤◌, ◌-◌}
use Rattle.laws_grammar.specs.Expressions as spec
use Rattle.laws_grammar.specs.Rooms.{reading}
use Rattle.parse_cursor.specs.Cursors.{left_of}
use Rattle.parse_cursor.specs.Rules.{level_of}
use Rattle.parse_expressions.specs.Given.{IsHigh, tree_of}
use Rattle.parse_expressions.proofs.grammar.Grammar.operations.Given as goal

abbrev pub invariant-loop-turn : goal.invariant-loop-turn
invariant-loop-turn g l =
    (spec.operations_of (reading l.self.room) l.self.room (level_of l.level) (tree_of l.fn.first) (left_of l.fn.tokens)
    ≡ spec.operations_loop (l._turn-end - l._turn) (reading l.self.room) l.self.room (level_of l.level) (tree_of l.left) (left_of l.tokens))
    × IsHigh l.left × (l.left.height ≤ l.self.room)
