use Rattle.std.proofs.Common.{◌≡◌, ◌≤◌, ◌-◌, map, max}
use Rattle.mc_tree.specs.Views.{array_length_of, lengths_from}
use Rattle.mc_tree.specs.Height.{height_lengths}
use Rattle.laws_grammar.specs.Specifiers as spec
use Rattle.laws_grammar.specs.Rooms.{reading}
use Rattle.parse_cursor.specs.Cursors.{left_of}
use Rattle.parse_expressions.proofs.grammar.Grammar.lengths.Given as goal

abbrev pub invariant-loop-turn : goal.invariant-loop-turn
invariant-loop-turn g l =
    (spec.lengths_of (reading l.self.room) l.fn.before (left_of l.fn.tokens)
    ≡ spec.lengths_loop (l._turn-end - l._turn) (reading l.self.room) (map array_length_of l.all.items) l.end (left_of l.tokens))
    × (l.tallest ≡ max l.fn.tallest (height_lengths (lengths_from (map array_length_of l.all.items))))
    × (l.tallest ≤ l.self.room - 1)
