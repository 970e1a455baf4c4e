-- What the functions that read statements return.
use Rattle.std.specs.Prelude.{map, Box}
use Rattle.std.specs.declared.alloc.Global.{Global}
use Rattle.mc_span.specs.declared.span.Span.{Span}
use Rattle.mc_tree.specs.Tree as tree
use Rattle.mc_tree.specs.declared.statements.for_start.ForStart.{ForStart}
use Rattle.mc_tree.specs.Views.{name_of}
use Rattle.mc_tree.specs.declared.units.item.Item.{Item}
use Rattle.mc_tree.specs.Units.{block_item_of, item_of, option_of, start_of, value_of}
use Rattle.laws_grammar.specs.Statements as spec
use Rattle.mc_parse.specs.declared.statements.blocks.Block.{Block}
use Rattle.mc_parse.specs.declared.statements.ends.Tested.{Tested}
use Rattle.mc_parse.specs.declared.statements.openings.Opening as code
use Rattle.mc_parse.specs.declared.statements.openings.Opening.TheVariants as opening
use Rattle.mc_parse.specs.declared.statements.parts.Headed.{Headed}
use Rattle.mc_parse.specs.steps.Fronts.{Opening}
use Rattle.mc_parse.specs.steps.Fronts as fronts

abbrev pub block_of : Block → spec.Block
block_of b = record { items = map block_item_of b.items.items; span = b.span }

-- what stands before a statement that is a part
abbrev pub seen_opening : code.Opening → Opening
seen_opening (opening.Label name) = fronts.Label (name_of name)
seen_opening (opening.Case label value) = fronts.Case label (value_of value)
seen_opening (opening.Default label) = fronts.Default label
seen_opening (opening.Switch first value) = fronts.Switch first (value_of value)
seen_opening (opening.While first test) = fronts.While first (value_of test)
seen_opening (opening.For first start test step) =
    fronts.For first (start_of start.value) (option_of test) (option_of step)

-- the same on the heap
abbrev pub opening_of : Box code.Opening Global → Opening
opening_of one = seen_opening one.value

-- the first part of a `for` on the heap
abbrev pub heap_start_of : Box ForStart Global → tree.ForStart
heap_start_of start = start_of start.value

abbrev pub seen_test : Tested → tree.Expression × Span
seen_test tested = (value_of tested.test, tested.last)

abbrev pub seen_head : Headed → Span × tree.Expression
seen_head head = (head.first, value_of head.test)

-- an external declaration on the heap
abbrev pub heap_item_of : Box Item Global → tree.Item
heap_item_of one = item_of one.value
