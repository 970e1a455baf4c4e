-- Trees of short texts. A place is given by the bytes of the text.
use Rattle.std.specs.Prelude.{ℕ, ◌+◌, true, false, List, [], ◌∷◌, Option, Some, None, codes}
use Rattle.mc_span.specs.declared.span.Span.{Span}
use Rattle.mc_tree.specs.declared.expressions.assignment_operator.AssignmentOperator.TheVariants as assign
use Rattle.mc_tree.specs.declared.declarations.specifier_word.SpecifierWord.{SpecifierWord}
use Rattle.mc_tree.specs.declared.declarations.specifier_word.SpecifierWord.TheVariants as word
use Rattle.mc_tree.specs.Tree.{BlockItems, Declaration, Declarator, Expression, InitDeclarator, Item, Name, Parameters, Specifier, Specifiers, Statement}
use Rattle.mc_tree.specs.Tree as tree
use Rattle.subset_forms.specs.declared.outside.Outside.{Outside}
use Rattle.subset_forms.specs.declared.form.Form.{Form}
use Rattle.mc_subset.specs.Forms.{first_outside}
use Rattle.mc_subset.specs.Nodes.{nodes_of_statement, nodes_of_unit}
use Rattle.subset_forms.specs.declared.context.Standing.TheVariants as standing

abbrev pub span : ℕ → ℕ → Span
span from to = record { start = from; end = to }

-- the answer for a whole source, and for a statement of a function's body
abbrev pub of_unit : List Item → Option Outside
of_unit items = first_outside (nodes_of_unit items)

abbrev pub of_statement : Statement → Option Outside
of_statement s = first_outside (nodes_of_statement standing.Elsewhere s)

abbrev pub outside : Form → ℕ → ℕ → Option Outside
outside form from to = Some (record { form = form; span = span from to })

-- the names and constants of the samples are single bytes
abbrev pub name : List ℕ → ℕ → Name
name text at = record { text = text; span = span at (at + 1) }

abbrev pub a : ℕ → Expression
a at = tree.Named (name (codes "a") at)

abbrev pub one : ℕ → Expression
one at = tree.Constant 1 true false 0 (span at (at + 1))

-- `a=1`
abbrev pub assigned : ℕ → Expression
assigned at = tree.Assignment assign.Assign (a at) (one (at + 2)) (span at (at + 3))

abbrev pub with_commas : Expression → Expression → ℕ → ℕ → Expression
with_commas left right from to = tree.Comma
    (tree.expressions left (tree.expressions right tree.no_expressions))
    (span from to)

abbrev pub word_at : SpecifierWord → ℕ → ℕ → Specifiers → Specifiers
word_at w from to rest = tree.specifiers (tree.Word w (span from to)) rest

-- `int`
abbrev pub int_at : ℕ → Specifiers
int_at at = word_at word.Int at (at + 3) tree.no_specifiers

-- a name of one byte, without `*` and brackets
abbrev pub object_at : ℕ → Declarator
object_at at = tree.object 0 (name (codes "a") at) tree.no_lengths (span at (at + 1))

-- a function's name of one byte, and its parameters
abbrev pub function_at : ℕ → Parameters → ℕ → Declarator
function_at at all to = tree.function 0 (name (codes "f") at) all (span at to)

-- a text that is one declaration
abbrev pub declared : Specifiers → List InitDeclarator → ℕ → List Item
declared s ds to = tree.Declared (tree.declaration s ds (span 0 to)) ∷ []

-- `void f(void){` and `}` round what begins at byte 13
abbrev pub in_function : BlockItems → ℕ → List Item
in_function b to =
    tree.Defined (word_at word.Void 0 4 tree.no_specifiers)
    (function_at 5 (tree.Void (span 6 12)) 12) b
    (span 0 to) ∷ []

-- `struct{int a;}` and `struct{const int a;}`
abbrev pub structure_with : Specifiers → ℕ → ℕ → Specifiers
structure_with s at place =
    let all = tree.declarators (object_at place) tree.no_declarators in
    tree.specifiers
    (tree.Structure None (tree.members (tree.member s all (span (at + 7) (place + 2)))
    tree.no_members)
    (span at (place + 3)))
    tree.no_specifiers

abbrev pub structure : ℕ → Specifiers
structure at = structure_with (int_at (at + 7)) at (at + 11)

abbrev pub structure_of_const : Specifiers
structure_of_const = structure_with (word_at word.Const 7 12 (int_at 13)) 0 17

-- `;`, and `case 1:` before a statement
abbrev pub null : ℕ → Statement
null at = tree.Null (span at (at + 1))

abbrev pub case_at : ℕ → Statement → ℕ → Statement
case_at at s to = tree.Case (one (at + 5)) (span at (at + 7)) s (span at to)

-- `switch(a)` before a compound statement, and before any other
abbrev pub switch_of : BlockItems → ℕ → Statement
switch_of b to = tree.Switch (a 7) (tree.Compound b (span 9 to)) (span 0 to)

abbrev pub alone : Statement → BlockItems
alone s = tree.statement s tree.no_block_items

-- `for(` with these three parts, and `);` with the `;` at this byte
abbrev pub for_of : Expression → Expression → Expression → ℕ → Statement
for_of first second third at = tree.For (tree.StartsExpression (Some first)) (Some second)
    (Some third)
    (null at) (span 0 (at + 1))

-- `(enum{a})1`
abbrev pub enumeration_cast : ℕ → Expression
enumeration_cast at =
    tree.Cast (tree.type_name
    (tree.specifiers
    (tree.Enumeration None (tree.enumerators (tree.enumerator (name (codes "a") (at + 6)))
    tree.no_enumerators) (span (at + 1) (at + 8))) tree.no_specifiers) 0 (span (at + 1) (at + 8)))
    (one (at + 9)) (span at (at + 10))
