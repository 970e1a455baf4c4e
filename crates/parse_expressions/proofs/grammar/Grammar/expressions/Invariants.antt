use Rattle.std.proofs.Common.{◌≡◌, ◌≤◌, ◌-◌}
use Rattle.mc_grammar.specs.Nonterminal as n
use Rattle.laws_grammar.specs.Expressions as spec
use Rattle.laws_grammar.specs.Lists.{comma_list}
use Rattle.laws_grammar.specs.Rooms.{reading}
use Rattle.parse_cursor.specs.Cursors.{left_of}
use Rattle.parse_expressions.specs.Given.{IsAllHigh, trees_of}
use Rattle.parse_expressions.proofs.grammar.Grammar.expressions.Given as goal

abbrev pub invariant-loop-turn : goal.invariant-loop-turn
invariant-loop-turn g l =
    (spec.expressions_after (reading l.self.room) (trees_of l.fn.all) (left_of l.fn.tokens)
    ≡ comma_list (l._turn-end - l._turn) ((reading l.self.room).expression n.assign) (trees_of l.all) (left_of l.tokens))
    × IsAllHigh l.all
    × (l.all.height ≤ l.self.room - 1)
