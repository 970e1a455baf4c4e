use Rattle.mc_parse.proofs.statements.+statements.Given as goal
use Rattle.std.proofs.Common.{◌≡◌, ◌+◌, ◌*◌, ◌-◌, [], map, codes}
use Rattle.mc_tree.specs.Units.{block_item_of}
use Rattle.mc_grammar.specs.Words.{sees}
use Rattle.laws_grammar.specs.Lists.{listed, until_list}
use Rattle.laws_grammar.specs.Statements as spec
use Rattle.parse_cursor.specs.Cursors.{left_of}

-- a statement is read with less room than its block or what is not a block
abbrev pub decreases-statement : goal.decreases-statement
decreases-statement l = 4 * l.room

abbrev pub decreases-choice : goal.decreases-choice
decreases-choice l = 4 * l.room + 1

abbrev pub decreases-do_loop : goal.decreases-do_loop
decreases-do_loop l = 4 * l.room + 1

abbrev pub decreases-other_than_block : goal.decreases-other_than_block
decreases-other_than_block l = 4 * l.room + 2

abbrev pub decreases-blocks::block_item : goal.decreases-blocks::block_item
decreases-blocks::block_item l = 4 * l.room + 1

abbrev pub decreases-blocks::block_items : goal.decreases-blocks::block_items
decreases-blocks::block_items l = 4 * l.room + 2

abbrev pub decreases-blocks::compound : goal.decreases-blocks::compound
decreases-blocks::compound l = 4 * l.room + 3

abbrev pub invariant-blocks::block_items-loop-turn : goal.invariant-blocks::block_items-loop-turn
invariant-blocks::block_items-loop-turn l =
    listed (λ turns. until_list turns (sees (codes "}")) (spec.block_item_of l.room (spec.statement_of l.room)) []) (left_of l.fn.tokens)
    ≡ until_list (l._turn-end - l._turn) (sees (codes "}")) (spec.block_item_of l.room (spec.statement_of l.room)) (map block_item_of l.all.items) (left_of l.tokens)
