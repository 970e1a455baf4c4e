use Rattle.std.proofs.Common.{◌≡◌, ◌≤◌, ◌-◌, [], max}
use Rattle.mc_grammar.specs.Words.{sees_specifiers}
use Rattle.laws_grammar.specs.Lists.{some_list, listed}
use Rattle.laws_grammar.specs.Specifiers as spec
use Rattle.laws_grammar.specs.Rooms.{reading}
use Rattle.parse_cursor.specs.Cursors.{left_of}
use Rattle.parse_expressions.specs.Parts.{high_members, members_of}
use Rattle.parse_expressions.proofs.grammar.Grammar.members.Given as goal

abbrev pub invariant-loop-turn : goal.invariant-loop-turn
invariant-loop-turn g l =
    (listed (λ turns. some_list turns sees_specifiers (spec.struct_member_of (reading l.self.room)) []) (left_of l.fn.tokens)
    ≡ some_list (l._turn-end - l._turn) sees_specifiers (spec.struct_member_of (reading l.self.room)) (members_of l.all) (left_of l.tokens))
    × (l.tallest ≡ max l.fn.tallest (high_members (members_of l.all)))
    × (l.tallest ≤ l.self.room - 1)
