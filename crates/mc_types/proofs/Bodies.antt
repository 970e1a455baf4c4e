-- What each tree of the program stands for: an equation for each form of initializers, statements
-- and items of a block.
use Rattle.std.proofs.Common.{◌≡◌, Option, Vec, Box, Global, map, sym, ap, ◌∙◌}
use Rattle.mc_span.specs.declared.span.Span.{Span}
use Rattle.mc_tree.specs.declared.identifier.Identifier.{Identifier}
use Rattle.mc_tree.specs.declared.expressions.expression.Expression.{Expression}
use Rattle.mc_tree.specs.declared.declarations.declaration.Declaration.{Declaration}
use Rattle.mc_tree.specs.declared.declarations.initializer.Initializer.{Initializer}
use Rattle.mc_tree.specs.declared.declarations.initializer.Initializer.TheVariants as initializer
use Rattle.mc_tree.specs.declared.declarations.initializer.Initializer.TheOpen.{Initializer-F}
use Rattle.mc_tree.specs.declared.declarations.initializer.Initializer.TheFolds.{fold-roll-Initializer}
use Rattle.mc_tree.specs.declared.statements.for_start.ForStart.{ForStart}
use Rattle.mc_tree.specs.declared.statements.statement.Statement.{Statement}
use Rattle.mc_tree.specs.declared.statements.statement.Statement.TheVariants as statement
use Rattle.mc_tree.specs.declared.statements.block_item.BlockItem.{BlockItem}
use Rattle.mc_tree.specs.declared.statements.block_item.BlockItem.TheVariants as block_item
use Rattle.mc_tree.specs.declared.statements.block_item.BlockItem.TheOpen.{Statement-F, BlockItem-F}
use Rattle.mc_tree.specs.declared.statements.block_item.BlockItem.TheFolds.{fold-roll-Statement, fold-roll-BlockItem}
use Rattle.mc_tree.specs.Views.{name_of, expression_of}
use Rattle.mc_tree.specs.Units.{block_from, block_item_of, declaration_of, initializer_of, initializers_from, node_block_item, node_initializer, node_statement, option_of, start_of, statement_of}
use Rattle.mc_tree.specs.Tree as t

pub statement_of-Compound : (all : Vec BlockItem Global) (span : Span) → statement_of (statement.Compound all span) ≡ t.Compound (block_from (map block_item_of all.items)) span
statement_of-Compound all span = ap statement_of (sym (statement.rolls-Compound all span)) ∙ fold-roll-Statement (t.BlockItems → t.BlockItems) t.Statement node_block_item node_statement (Statement-F.Compound all span)

pub statement_of-Null : (span : Span) → statement_of (statement.Null span) ≡ t.Null span
statement_of-Null span = ap statement_of (sym (statement.rolls-Null span)) ∙ fold-roll-Statement (t.BlockItems → t.BlockItems) t.Statement node_block_item node_statement (Statement-F.Null span)

pub statement_of-Expression : (a : Box Expression Global) (span : Span) → statement_of (statement.Expression a span) ≡ t.ExpressionStatement (expression_of a.value) span
statement_of-Expression a span = ap statement_of (sym (statement.rolls-Expression a span)) ∙ fold-roll-Statement (t.BlockItems → t.BlockItems) t.Statement node_block_item node_statement (Statement-F.Expression a span)

pub statement_of-If : (a : Box Expression Global) (s : Box Statement Global) (span : Span) → statement_of (statement.If a s span) ≡ t.If (expression_of a.value) (statement_of s.value) span
statement_of-If a s span = ap statement_of (sym (statement.rolls-If a s span)) ∙ fold-roll-Statement (t.BlockItems → t.BlockItems) t.Statement node_block_item node_statement (Statement-F.If a s span)

pub statement_of-IfElse : (a : Box Expression Global) (s : Box Statement Global) (u : Box Statement Global) (span : Span) → statement_of (statement.IfElse a s u span) ≡ t.IfElse (expression_of a.value) (statement_of s.value) (statement_of u.value) span
statement_of-IfElse a s u span = ap statement_of (sym (statement.rolls-IfElse a s u span)) ∙ fold-roll-Statement (t.BlockItems → t.BlockItems) t.Statement node_block_item node_statement (Statement-F.IfElse a s u span)

pub statement_of-Switch : (a : Box Expression Global) (s : Box Statement Global) (span : Span) → statement_of (statement.Switch a s span) ≡ t.Switch (expression_of a.value) (statement_of s.value) span
statement_of-Switch a s span = ap statement_of (sym (statement.rolls-Switch a s span)) ∙ fold-roll-Statement (t.BlockItems → t.BlockItems) t.Statement node_block_item node_statement (Statement-F.Switch a s span)

pub statement_of-While : (a : Box Expression Global) (s : Box Statement Global) (span : Span) → statement_of (statement.While a s span) ≡ t.While (expression_of a.value) (statement_of s.value) span
statement_of-While a s span = ap statement_of (sym (statement.rolls-While a s span)) ∙ fold-roll-Statement (t.BlockItems → t.BlockItems) t.Statement node_block_item node_statement (Statement-F.While a s span)

pub statement_of-DoWhile : (s : Box Statement Global) (a : Box Expression Global) (span : Span) → statement_of (statement.DoWhile s a span) ≡ t.DoWhile (statement_of s.value) (expression_of a.value) span
statement_of-DoWhile s a span = ap statement_of (sym (statement.rolls-DoWhile s a span)) ∙ fold-roll-Statement (t.BlockItems → t.BlockItems) t.Statement node_block_item node_statement (Statement-F.DoWhile s a span)

pub statement_of-For : (start : Box ForStart Global) (a : Option (Box Expression Global)) (b : Option (Box Expression Global)) (s : Box Statement Global) (span : Span) → statement_of (statement.For start a b s span) ≡ t.For (start_of start.value) (option_of a) (option_of b) (statement_of s.value) span
statement_of-For start a b s span = ap statement_of (sym (statement.rolls-For start a b s span)) ∙ fold-roll-Statement (t.BlockItems → t.BlockItems) t.Statement node_block_item node_statement (Statement-F.For start a b s span)

pub statement_of-Case : (a : Box Expression Global) (label : Span) (s : Box Statement Global) (span : Span) → statement_of (statement.Case a label s span) ≡ t.Case (expression_of a.value) label (statement_of s.value) span
statement_of-Case a label s span = ap statement_of (sym (statement.rolls-Case a label s span)) ∙ fold-roll-Statement (t.BlockItems → t.BlockItems) t.Statement node_block_item node_statement (Statement-F.Case a label s span)

pub statement_of-Default : (label : Span) (s : Box Statement Global) (span : Span) → statement_of (statement.Default label s span) ≡ t.Default label (statement_of s.value) span
statement_of-Default label s span = ap statement_of (sym (statement.rolls-Default label s span)) ∙ fold-roll-Statement (t.BlockItems → t.BlockItems) t.Statement node_block_item node_statement (Statement-F.Default label s span)

pub statement_of-Label : (n : Identifier) (s : Box Statement Global) (span : Span) → statement_of (statement.Label n s span) ≡ t.Label (name_of n) (statement_of s.value) span
statement_of-Label n s span = ap statement_of (sym (statement.rolls-Label n s span)) ∙ fold-roll-Statement (t.BlockItems → t.BlockItems) t.Statement node_block_item node_statement (Statement-F.Label n s span)

pub statement_of-Goto : (n : Identifier) (span : Span) → statement_of (statement.Goto n span) ≡ t.Goto (name_of n) span
statement_of-Goto n span = ap statement_of (sym (statement.rolls-Goto n span)) ∙ fold-roll-Statement (t.BlockItems → t.BlockItems) t.Statement node_block_item node_statement (Statement-F.Goto n span)

pub statement_of-Break : (span : Span) → statement_of (statement.Break span) ≡ t.Break span
statement_of-Break span = ap statement_of (sym (statement.rolls-Break span)) ∙ fold-roll-Statement (t.BlockItems → t.BlockItems) t.Statement node_block_item node_statement (Statement-F.Break span)

pub statement_of-Continue : (span : Span) → statement_of (statement.Continue span) ≡ t.Continue span
statement_of-Continue span = ap statement_of (sym (statement.rolls-Continue span)) ∙ fold-roll-Statement (t.BlockItems → t.BlockItems) t.Statement node_block_item node_statement (Statement-F.Continue span)

pub statement_of-Return : (a : Option (Box Expression Global)) (span : Span) → statement_of (statement.Return a span) ≡ t.Return (option_of a) span
statement_of-Return a span = ap statement_of (sym (statement.rolls-Return a span)) ∙ fold-roll-Statement (t.BlockItems → t.BlockItems) t.Statement node_block_item node_statement (Statement-F.Return a span)

pub block_item_of-Local : (d : Declaration) → block_item_of (block_item.Local d) ≡ t.local (declaration_of d)
block_item_of-Local d = ap block_item_of (sym (block_item.rolls-Local d)) ∙ fold-roll-BlockItem (t.BlockItems → t.BlockItems) t.Statement node_block_item node_statement (BlockItem-F.Local d)

pub block_item_of-Statement : (s : Box Statement Global) → block_item_of (block_item.Statement s) ≡ t.statement (statement_of s.value)
block_item_of-Statement s = ap block_item_of (sym (block_item.rolls-Statement s)) ∙ fold-roll-BlockItem (t.BlockItems → t.BlockItems) t.Statement node_block_item node_statement (BlockItem-F.Statement s)

pub initializer_of-Single : (a : Box Expression Global) → initializer_of (initializer.Single a) ≡ t.Single (expression_of a.value)
initializer_of-Single a = ap initializer_of (sym (initializer.rolls-Single a)) ∙ fold-roll-Initializer t.Initializer node_initializer (Initializer-F.Single a)

pub initializer_of-Braced : (all : Vec Initializer Global) (span : Span) → initializer_of (initializer.Braced all span) ≡ t.Braced (initializers_from (map initializer_of all.items)) span
initializer_of-Braced all span = ap initializer_of (sym (initializer.rolls-Braced all span)) ∙ fold-roll-Initializer t.Initializer node_initializer (Initializer-F.Braced all span)
