-- What the nodes of a tree of the program stand for: an equation for each that has several parts.
use Rattle.std.proofs.Common.{◌≡◌, ◌<◌, ℕ, false, List, [], ◌∷◌, length, arith, Option, Vec, Box, Global, map, refl, sym, ap, ◌∙◌}
use Rattle.std.proofs.lemmas.Grind.{common_steps}
use Rattle.mc_span.specs.declared.span.Span.{Span}
use Rattle.mc_tree.specs.declared.declarations.array_length.ArrayLength.TheVariants as bracket
use Rattle.mc_tree.specs.declared.declarations.member.Member.{Member}
use Rattle.mc_tree.specs.declared.declarations.parameter.Parameter.{Parameter}
use Rattle.mc_tree.specs.declared.declarations.specifier.Specifier.{Specifier}
use Rattle.mc_tree.specs.declared.expressions.assignment_operator.AssignmentOperator.{AssignmentOperator}
use Rattle.mc_tree.specs.declared.expressions.binary_operator.BinaryOperator.{BinaryOperator}
use Rattle.mc_tree.specs.declared.expressions.expression.Expression.{Expression}
use Rattle.mc_tree.specs.declared.expressions.expression.Expression.TheVariants as code
use Rattle.mc_tree.specs.declared.declarations.array_length.ArrayLength.TheOpen.{ArrayLength-F, Expression-F}
use Rattle.mc_tree.specs.declared.declarations.array_length.ArrayLength.TheFolds.{fold-roll-ArrayLength, fold-roll-Expression, fold_out-Member, fold_out-Parameter}
use Rattle.mc_tree.specs.Views.{array_length_of, declarator_of, declarators_from, expression_of, lengths_from, member_of, parameter_of, tag_of, specifier_of, specifiers_from, node_length, node_declarator, node_enumerator, node_specifier, node_expression, node_member, node_parameter}
use Rattle.mc_tree.specs.Tree as t
use Rattle.mc_tree.specs.declared.declarations.declaration.Declaration.{Declaration}
use Rattle.mc_tree.specs.declared.statements.for_start.ForStart.{ForStart}
use Rattle.mc_tree.specs.declared.statements.statement.Statement.{Statement}
use Rattle.mc_tree.specs.declared.statements.statement.Statement.TheVariants as statement
use Rattle.mc_tree.specs.declared.statements.block_item.BlockItem.{BlockItem}
use Rattle.mc_tree.specs.declared.statements.block_item.BlockItem.TheVariants as block_item
use Rattle.mc_tree.specs.declared.statements.block_item.BlockItem.TheOpen.{Statement-F, BlockItem-F}
use Rattle.mc_tree.specs.declared.statements.block_item.BlockItem.TheFolds.{fold-roll-Statement, fold-roll-BlockItem, fold_out-BlockItem}
use Rattle.mc_tree.specs.Units.{block_from, block_item_of, declaration_of, node_block_item, node_statement, option_of, start_of, statement_of}
use Rattle.reread_probes.specs.Statements.{is_empty}

-- ---- expressions

pub expression_of-Parenthesized : (a : Box Expression Global) (span : Span) → expression_of (code.Parenthesized a span) ≡ t.Parenthesized (expression_of a.value) span
expression_of-Parenthesized a span = ap expression_of (sym (code.rolls-Parenthesized a span)) ∙ fold-roll-Expression (t.ArrayLengths → t.ArrayLengths) t.Declarator t.Enumerator t.Specifier t.Expression t.StructMember t.Parameter node_length node_declarator node_enumerator node_specifier node_expression node_member node_parameter (Expression-F.Parenthesized a span)

pub expression_of-Index : (a b : Box Expression Global) (span : Span) → expression_of (code.Index a b span) ≡ t.Index (expression_of a.value) (expression_of b.value) span
expression_of-Index a b span = ap expression_of (sym (code.rolls-Index a b span)) ∙ fold-roll-Expression (t.ArrayLengths → t.ArrayLengths) t.Declarator t.Enumerator t.Specifier t.Expression t.StructMember t.Parameter node_length node_declarator node_enumerator node_specifier node_expression node_member node_parameter (Expression-F.Index a b span)

pub expression_of-Cast : (s : Vec Specifier Global) (stars : ℕ) (type_span : Span) (a : Box Expression Global) (span : Span) → expression_of (code.Cast s stars type_span a span) ≡ t.Cast (t.type_name (specifiers_from (map specifier_of s.items)) stars type_span) (expression_of a.value) span
expression_of-Cast s stars type_span a span = ap expression_of (sym (code.rolls-Cast s stars type_span a span)) ∙ fold-roll-Expression (t.ArrayLengths → t.ArrayLengths) t.Declarator t.Enumerator t.Specifier t.Expression t.StructMember t.Parameter node_length node_declarator node_enumerator node_specifier node_expression node_member node_parameter (Expression-F.Cast s stars type_span a span)

pub expression_of-Binary : (o : BinaryOperator) (a b : Box Expression Global) (span : Span) → expression_of (code.Binary o a b span) ≡ t.Binary o (expression_of a.value) (expression_of b.value) span
expression_of-Binary o a b span = ap expression_of (sym (code.rolls-Binary o a b span)) ∙ fold-roll-Expression (t.ArrayLengths → t.ArrayLengths) t.Declarator t.Enumerator t.Specifier t.Expression t.StructMember t.Parameter node_length node_declarator node_enumerator node_specifier node_expression node_member node_parameter (Expression-F.Binary o a b span)

pub expression_of-Conditional : (a b c : Box Expression Global) (span : Span) → expression_of (code.Conditional a b c span) ≡ t.Conditional (expression_of a.value) (expression_of b.value) (expression_of c.value) span
expression_of-Conditional a b c span = ap expression_of (sym (code.rolls-Conditional a b c span)) ∙ fold-roll-Expression (t.ArrayLengths → t.ArrayLengths) t.Declarator t.Enumerator t.Specifier t.Expression t.StructMember t.Parameter node_length node_declarator node_enumerator node_specifier node_expression node_member node_parameter (Expression-F.Conditional a b c span)

pub expression_of-Assignment : (o : AssignmentOperator) (a b : Box Expression Global) (span : Span) → expression_of (code.Assignment o a b span) ≡ t.Assignment o (expression_of a.value) (expression_of b.value) span
expression_of-Assignment o a b span = ap expression_of (sym (code.rolls-Assignment o a b span)) ∙ fold-roll-Expression (t.ArrayLengths → t.ArrayLengths) t.Declarator t.Enumerator t.Specifier t.Expression t.StructMember t.Parameter node_length node_declarator node_enumerator node_specifier node_expression node_member node_parameter (Expression-F.Assignment o a b span)

pub member_of-parts : (m : Member) → member_of m ≡ t.member (specifiers_from (map specifier_of m.specifiers.items)) (declarators_from (map declarator_of m.declarators.items)) m.span
member_of-parts m = fold_out-Member (t.ArrayLengths → t.ArrayLengths) t.Declarator t.Enumerator t.Specifier t.Expression t.StructMember t.Parameter node_length node_declarator node_enumerator node_specifier node_expression node_member node_parameter m

pub parameter_of-parts : (p : Parameter) → parameter_of p ≡ t.parameter (specifiers_from (map specifier_of p.specifiers.items)) p.stars (tag_of p.name) (lengths_from (map array_length_of p.lengths.items)) p.span
parameter_of-parts p = fold_out-Parameter (t.ArrayLengths → t.ArrayLengths) t.Declarator t.Enumerator t.Specifier t.Expression t.StructMember t.Parameter node_length node_declarator node_enumerator node_specifier node_expression node_member node_parameter p

pub array_length_of-Given : (a : Box Expression Global) → array_length_of (bracket.Given a) ≡ t.given_length (expression_of a.value)
array_length_of-Given a = ap array_length_of (sym (bracket.rolls-Given a)) ∙ fold-roll-ArrayLength (t.ArrayLengths → t.ArrayLengths) t.Declarator t.Enumerator t.Specifier t.Expression t.StructMember t.Parameter node_length node_declarator node_enumerator node_specifier node_expression node_member node_parameter (ArrayLength-F.Given a)

pub ruleset expressions = (common_steps, expression_of-Parenthesized, expression_of-Index, expression_of-Cast, expression_of-Binary, expression_of-Conditional, expression_of-Assignment)

pub ruleset declarations = (common_steps, member_of-parts, parameter_of-parts, array_length_of-Given)

-- ---- statements

pub statement_of-If : (a : Box Expression Global) (s : Box Statement Global) (span : Span) → statement_of (statement.If a s span) ≡ t.If (expression_of a.value) (statement_of s.value) span
statement_of-If a s span = ap statement_of (sym (statement.rolls-If a s span)) ∙ fold-roll-Statement (t.BlockItems → t.BlockItems) t.Statement node_block_item node_statement (Statement-F.If a s span)

pub statement_of-IfElse : (a : Box Expression Global) (s u : Box Statement Global) (span : Span) → statement_of (statement.IfElse a s u span) ≡ t.IfElse (expression_of a.value) (statement_of s.value) (statement_of u.value) span
statement_of-IfElse a s u span = ap statement_of (sym (statement.rolls-IfElse a s u span)) ∙ fold-roll-Statement (t.BlockItems → t.BlockItems) t.Statement node_block_item node_statement (Statement-F.IfElse a s u span)

pub statement_of-Switch : (a : Box Expression Global) (s : Box Statement Global) (span : Span) → statement_of (statement.Switch a s span) ≡ t.Switch (expression_of a.value) (statement_of s.value) span
statement_of-Switch a s span = ap statement_of (sym (statement.rolls-Switch a s span)) ∙ fold-roll-Statement (t.BlockItems → t.BlockItems) t.Statement node_block_item node_statement (Statement-F.Switch a s span)

pub statement_of-While : (a : Box Expression Global) (s : Box Statement Global) (span : Span) → statement_of (statement.While a s span) ≡ t.While (expression_of a.value) (statement_of s.value) span
statement_of-While a s span = ap statement_of (sym (statement.rolls-While a s span)) ∙ fold-roll-Statement (t.BlockItems → t.BlockItems) t.Statement node_block_item node_statement (Statement-F.While a s span)

pub statement_of-DoWhile : (s : Box Statement Global) (a : Box Expression Global) (span : Span) → statement_of (statement.DoWhile s a span) ≡ t.DoWhile (statement_of s.value) (expression_of a.value) span
statement_of-DoWhile s a span = ap statement_of (sym (statement.rolls-DoWhile s a span)) ∙ fold-roll-Statement (t.BlockItems → t.BlockItems) t.Statement node_block_item node_statement (Statement-F.DoWhile s a span)

pub statement_of-For : (start : Box ForStart Global) (a b : Option (Box Expression Global)) (s : Box Statement Global) (span : Span) → statement_of (statement.For start a b s span) ≡ t.For (start_of start.value) (option_of a) (option_of b) (statement_of s.value) span
statement_of-For start a b s span = ap statement_of (sym (statement.rolls-For start a b s span)) ∙ fold-roll-Statement (t.BlockItems → t.BlockItems) t.Statement node_block_item node_statement (Statement-F.For start a b s span)

pub statement_of-Case : (a : Box Expression Global) (label : Span) (s : Box Statement Global) (span : Span) → statement_of (statement.Case a label s span) ≡ t.Case (expression_of a.value) label (statement_of s.value) span
statement_of-Case a label s span = ap statement_of (sym (statement.rolls-Case a label s span)) ∙ fold-roll-Statement (t.BlockItems → t.BlockItems) t.Statement node_block_item node_statement (Statement-F.Case a label s span)

pub statement_of-Default : (label : Span) (s : Box Statement Global) (span : Span) → statement_of (statement.Default label s span) ≡ t.Default label (statement_of s.value) span
statement_of-Default label s span = ap statement_of (sym (statement.rolls-Default label s span)) ∙ fold-roll-Statement (t.BlockItems → t.BlockItems) t.Statement node_block_item node_statement (Statement-F.Default label s span)

pub statement_of-Compound : (b : Vec BlockItem Global) (span : Span) → statement_of (statement.Compound b span) ≡ t.Compound (block_from (map block_item_of b.items)) span
statement_of-Compound b span = ap statement_of (sym (statement.rolls-Compound b span)) ∙ fold-roll-Statement (t.BlockItems → t.BlockItems) t.Statement node_block_item node_statement (Statement-F.Compound b span)

pub statement_of-Return : (a : Option (Box Expression Global)) (span : Span) → statement_of (statement.Return a span) ≡ t.Return (option_of a) span
statement_of-Return a span = ap statement_of (sym (statement.rolls-Return a span)) ∙ fold-roll-Statement (t.BlockItems → t.BlockItems) t.Statement node_block_item node_statement (Statement-F.Return a span)

pub block_item_of-Local : (d : Declaration) → block_item_of (block_item.Local d) ≡ t.local (declaration_of d)
block_item_of-Local d = ap block_item_of (sym (block_item.rolls-Local d)) ∙ fold-roll-BlockItem (t.BlockItems → t.BlockItems) t.Statement node_block_item node_statement (BlockItem-F.Local d)

pub block_item_of-Statement : (s : Box Statement Global) → block_item_of (block_item.Statement s) ≡ t.statement (statement_of s.value)
block_item_of-Statement s = ap block_item_of (sym (block_item.rolls-Statement s)) ∙ fold-roll-BlockItem (t.BlockItems → t.BlockItems) t.Statement node_block_item node_statement (BlockItem-F.Statement s)

pub ruleset statements = (common_steps, statement_of-If, statement_of-IfElse, statement_of-Switch, statement_of-While, statement_of-DoWhile, statement_of-For, statement_of-Case, statement_of-Default, statement_of-Compound, statement_of-Return)

pub ruleset block_items = (common_steps, block_item_of-Local, block_item_of-Statement)

-- ---- a block without items

first_layer : (l : BlockItem-F (t.BlockItems → t.BlockItems) t.Statement) (rest : t.BlockItems) → is_empty (node_block_item l rest) ≡ false
first_layer (BlockItem-F.Local d) rest = refl
first_layer (BlockItem-F.Statement s) rest = refl

pub item_stands : (x : BlockItem) (rest : t.BlockItems) → is_empty (block_item_of x rest) ≡ false
item_stands x rest =
    ap (λ (g : t.BlockItems → t.BlockItems). is_empty (g rest)) (fold_out-BlockItem (t.BlockItems → t.BlockItems) t.Statement node_block_item node_statement x)
    ∙ first_layer _ rest

pub some_items : (xs : List BlockItem) → 0 < length xs → is_empty (block_from (map block_item_of xs)) ≡ false
some_items [] h = absurd (omega (arith, h))
some_items (x ∷ xs) h = item_stands x (block_from (map block_item_of xs))

pub ruleset blocks = (common_steps, item_stands, some_items)
