-- What a unit of the program stands for, from initializers up.
use Rattle.std.specs.Prelude.{List, [], ◌∷◌, Box, Option, option_map, map}
use Rattle.std.specs.declared.alloc.Global.{Global}
use Rattle.mc_tree.specs.declared.expressions.expression.Expression.{Expression}
use Rattle.mc_tree.specs.declared.declarations.initializer.Initializer.{Initializer}
use Rattle.mc_tree.specs.declared.declarations.initializer.Initializer.TheOpen.{Initializer-F}
use Rattle.mc_tree.specs.declared.declarations.initializer.Initializer.TheFolds.{fold-Initializer}
use Rattle.mc_tree.specs.declared.declarations.init_declarator.InitDeclarator.{InitDeclarator}
use Rattle.mc_tree.specs.declared.declarations.init_declarator.InitDeclarator.TheVariants as init
use Rattle.mc_tree.specs.declared.declarations.declaration.Declaration.{Declaration}
use Rattle.mc_tree.specs.declared.statements.for_start.ForStart.{ForStart}
use Rattle.mc_tree.specs.declared.statements.for_start.ForStart.TheVariants as start
use Rattle.mc_tree.specs.declared.statements.statement.Statement.{Statement}
use Rattle.mc_tree.specs.declared.statements.block_item.BlockItem.{BlockItem}
use Rattle.mc_tree.specs.declared.statements.block_item.BlockItem.TheOpen.{Statement-F, BlockItem-F}
use Rattle.mc_tree.specs.declared.statements.block_item.BlockItem.TheFolds.{fold-Statement, fold-BlockItem}
use Rattle.mc_tree.specs.declared.units.item.Item.{Item}
use Rattle.mc_tree.specs.declared.units.item.Item.TheVariants as item
use Rattle.mc_tree.specs.Views.{name_of, expression_of, declarator_of, specifier_of, specifiers_from}
use Rattle.mc_tree.specs.Tree as tree

-- an expression on the heap, and one that may be left out
abbrev pub value_of : Box Expression Global → tree.Expression
value_of value = expression_of value.value

abbrev pub option_of : Option (Box Expression Global) → Option tree.Expression
option_of = option_map value_of

abbrev pub initializers_from : List tree.Initializer → tree.Initializers
initializers_from [] = tree.no_initializers
initializers_from (one ∷ rest) = tree.initializers one (initializers_from rest)

-- one node, with the tree of each part in its place
abbrev pub node_initializer : Initializer-F tree.Initializer → tree.Initializer
node_initializer (Initializer-F.Single value) = tree.Single (value_of value)
node_initializer (Initializer-F.Braced items span) = tree.Braced (initializers_from items.items)
    span

abbrev pub initializer_of : Initializer → tree.Initializer
initializer_of = fold-Initializer tree.Initializer node_initializer

abbrev pub init_declarator_of : InitDeclarator → tree.InitDeclarator
init_declarator_of (init.Bare declarator) = tree.bare (declarator_of declarator)
init_declarator_of (init.Initialized declarator value) =
    tree.initialized (declarator_of declarator) (initializer_of value)

abbrev pub declaration_of : Declaration → tree.Declaration
declaration_of d = tree.declaration (specifiers_from (map specifier_of d.specifiers.items))
    (map init_declarator_of d.declarators.items) d.span

abbrev pub start_of : ForStart → tree.ForStart
start_of (start.Local declaration) = tree.StartsLocal (declaration_of declaration)
start_of (start.Expression value) = tree.StartsExpression (option_of value)

-- an item of a block stands for the function that puts it before those after it
abbrev pub block_from : List (tree.BlockItems → tree.BlockItems) → tree.BlockItems
block_from [] = tree.no_block_items
block_from (one ∷ rest) = one (block_from rest)

abbrev pub node_block_item : BlockItem-F (tree.BlockItems → tree.BlockItems) tree.Statement
    → tree.BlockItems
    → tree.BlockItems
node_block_item (BlockItem-F.Local declaration) = tree.local (declaration_of declaration)
node_block_item (BlockItem-F.Statement one) = tree.statement one.value

abbrev pub node_statement : Statement-F (tree.BlockItems → tree.BlockItems) tree.Statement
    → tree.Statement
node_statement (Statement-F.Compound items span) = tree.Compound (block_from items.items) span
node_statement (Statement-F.Null span) = tree.Null span
node_statement (Statement-F.Expression value span) =
    tree.ExpressionStatement (value_of value) span
node_statement (Statement-F.If test chosen span) = tree.If (value_of test) chosen.value span
node_statement (Statement-F.IfElse test chosen other span) =
    tree.IfElse (value_of test) chosen.value other.value span
node_statement (Statement-F.Switch value body span) = tree.Switch (value_of value) body.value span
node_statement (Statement-F.While test body span) = tree.While (value_of test) body.value span
node_statement (Statement-F.DoWhile body test span) = tree.DoWhile body.value (value_of test) span
node_statement (Statement-F.For start test step body span) =
    tree.For (start_of start.value) (option_of test) (option_of step)
    body.value span
node_statement (Statement-F.Case value label body span) =
    tree.Case (value_of value) label body.value span
node_statement (Statement-F.Default label body span) = tree.Default label body.value span
node_statement (Statement-F.Label name body span) = tree.Label (name_of name) body.value span
node_statement (Statement-F.Goto name span) = tree.Goto (name_of name) span
node_statement (Statement-F.Break span) = tree.Break span
node_statement (Statement-F.Continue span) = tree.Continue span
node_statement (Statement-F.Return value span) = tree.Return (option_of value) span

abbrev pub statement_of : Statement → tree.Statement
statement_of = fold-Statement (tree.BlockItems → tree.BlockItems) tree.Statement node_block_item
    node_statement

abbrev pub block_item_of : BlockItem → tree.BlockItems → tree.BlockItems
block_item_of = fold-BlockItem (tree.BlockItems → tree.BlockItems) tree.Statement node_block_item
    node_statement

abbrev pub item_of : Item → tree.Item
item_of (item.Declared declaration) = tree.Declared (declaration_of declaration)
item_of (item.Defined specifiers declarator body span) =
    tree.Defined (specifiers_from (map specifier_of specifiers.items)) (declarator_of declarator)
    (block_from (map block_item_of body.items)) span

abbrev pub items_of : List Item → List tree.Item
items_of items = map item_of items
