use Rattle.std.proofs.Common.{◌≡◌, ◌≤◌, length}
use Rattle.laws_grammar.specs.Expressions as spec
use Rattle.mc_grammar.specs.steps.Parsers.{and_then}
use Rattle.laws_grammar.specs.Rooms.{reading}
use Rattle.parse_cursor.specs.Cursors.{left_of}
use Rattle.parse_cursor.specs.Rules.{levels_of}
use Rattle.parse_expressions.specs.Given.{IsHigh, tree_of}
use Rattle.parse_expressions.proofs.grammar.Grammar.climb.Given as goal

abbrev pub decreases-loop-later : goal.decreases-loop-later
decreases-loop-later g l = length l.later

abbrev pub invariant-loop-later : goal.invariant-loop-later
invariant-loop-later g l =
    (and_then (spec.cast_of (reading l.self.room) l.self.room (left_of l.fn.tokens)) (spec.climb (reading l.self.room) l.self.room (levels_of l.fn.levels))
    ≡ spec.climb (reading l.self.room) l.self.room (levels_of l.later) (tree_of l.left) (left_of l.tokens))
    × IsHigh l.left × (l.left.height ≤ l.self.room)
