use Rattle.std.proofs.Common.{◌≡◌, ◌≤◌, ◌-◌}
use Rattle.laws_grammar.specs.Expressions as spec
use Rattle.laws_grammar.specs.Rooms.{reading}
use Rattle.parse_cursor.specs.Cursors.{left_of}
use Rattle.parse_expressions.specs.Given.{IsHigh, tree_of}
use Rattle.parse_expressions.proofs.grammar.Grammar.postfix.Given as goal

abbrev pub invariant-loop-turn : goal.invariant-loop-turn
invariant-loop-turn g l =
    (spec.postfix_of (reading l.self.room) l.self.room (left_of l.fn.tokens)
    ≡ spec.suffixes_loop (l._turn-end - l._turn) (reading l.self.room) l.self.room (tree_of l.base) (left_of l.tokens))
    × IsHigh l.base × (l.base.height ≤ l.self.room)
