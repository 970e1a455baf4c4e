use Rattle.std.proofs.Common.{◌≡◌, ◌≤◌, ◌-◌, map}
use Rattle.mc_tree.specs.Views.{specifier_of}
use Rattle.laws_grammar.specs.Specifiers as spec
use Rattle.laws_grammar.specs.Rooms.{reading}
use Rattle.parse_cursor.specs.Cursors.{left_of}
use Rattle.parse_expressions.specs.Parts.{all_specifiers_of, high_specifiers}
use Rattle.parse_expressions.proofs.grammar.Grammar.all_specifiers.Given as goal

abbrev pub invariant-loop-turn : goal.invariant-loop-turn
invariant-loop-turn g l =
    (all_specifiers_of (reading l.self.room) l.self.room (left_of l.fn.tokens)
    ≡ spec.specifiers_loop (l._turn-end - l._turn) (reading l.self.room) l.self.room l.has_type (map specifier_of l.all.items) (left_of l.tokens))
    × (l.height ≡ high_specifiers (map specifier_of l.all.items))
    × (l.height ≤ l.self.room)
