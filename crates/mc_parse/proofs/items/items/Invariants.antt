use Rattle.std.proofs.Common.{◌≡◌, ◌-◌}
use Rattle.mc_tree.specs.Units.{items_of}
use Rattle.mc_grammar.specs.steps.Next.{ended}
use Rattle.laws_grammar.specs.Items as spec
use Rattle.laws_grammar.specs.Lists.{until_list}
use Rattle.parse_cursor.specs.Cursors.{left_of}
use Rattle.mc_parse.proofs.items.items.Given as goal

abbrev pub invariant-loop-turn : goal.invariant-loop-turn
invariant-loop-turn l =
    spec.unit_of l.room (left_of l.fn.tokens)
    ≡ until_list (l._turn-end - l._turn) ended (spec.item_of l.room) (items_of l.all.items) (left_of l.tokens)
