-- Where the rows of the table stand in a tree: a rule for each alternative of the grammar. Of
-- `Puts a rows later`, these are the rows of a before later ones.
use Rattle.std.proofs.Common.{◌≡◌, ℕ, ℤ, Bool, true, false, List, [], ◌∷◌, Option, Some, None}
use Rattle.mc_span.specs.declared.span.Span.{Span}
use Rattle.mc_tree.specs.declared.expressions.unary_operator.UnaryOperator.{UnaryOperator}
use Rattle.mc_tree.specs.declared.expressions.step_operator.StepOperator.{StepOperator}
use Rattle.mc_tree.specs.declared.expressions.binary_operator.BinaryOperator.{BinaryOperator}
use Rattle.mc_tree.specs.declared.expressions.assignment_operator.AssignmentOperator.{AssignmentOperator}
use Rattle.mc_tree.specs.Tree.{Name, Expression, Expressions, TypeName, Specifiers, Declarator, Initializer, Initializers, InitDeclarator, Declaration, ForStart, Statement, BlockItems, Item, name_of, span_of, span_of_statement}
use Rattle.mc_tree.specs.Tree as tree
use Rattle.mc_typed.specs.declared.probes.Probe.{Probe}
use Rattle.reread_pieces.specs.declared.piece.What.{What}
use Rattle.reread_pieces.specs.declared.piece.What.TheVariants as what
use Rattle.reread_probes.specs.Probes.{is_probe}
use Rattle.reread_probes.specs.Statements.{is_counted_local, span_of_declaration, lacks_default}
use Rattle.reread_law_rows.specs.inserted.Rows.{Row, row, row_of_probe}

-- ---- expressions

-- some probes round an expression, the innermost first, and their ends
abbrev pub opens : List Probe → Span → List Row → List Row
opens [] at rows = rows
opens (q ∷ qs) at rows = opens qs at (row (row_of_probe q) at rows)

abbrev pub ends : List Probe → Span → List Row → List Row
ends [] at later = later
ends (q ∷ qs) at later = row what.OperandEnd at (ends qs at later)

mutual
  -- inside the probes that stand round it
  pub data Bare : Expression → List Row → List Row → Type 0 where
    named : {name : Name} {later : List Row} → Bare (tree.Named name) later later
    constant : {v longs : ℕ} {decimal unsigned : Bool} {span : Span} {later : List Row}
        → Bare (tree.Constant v decimal unsigned longs span) later later
    character : {v : ℤ} {span : Span} {later : List Row} → Bare (tree.Character v span) later later
    call : {name : Name} {given : Expressions} {span : Span} {rows later : List Row}
        → PutsAll given rows later → Bare (tree.Call name given span) rows later
    call_without : {name : Name} {given : Expressions} {span : Span} {later : List Row}
        → Bare (tree.Call name given span) later later
    index : {a b : Expression} {span : Span} {rows mid later : List Row}
        → Puts a rows mid → Puts b mid later → Bare (tree.Index a b span) rows later
    member : {a : Expression} {name : Name} {span : Span} {rows later : List Row}
        → Puts a rows later → Bare (tree.Member a name span) rows later
    step_after : {operator : StepOperator} {a : Expression} {span : Span} {rows later : List Row}
        → Puts a rows later → Bare (tree.PostfixStep operator a span) rows later
    step_before : {operator : StepOperator} {a : Expression} {span : Span} {rows later : List Row}
        → Puts a rows later → Bare (tree.PrefixStep operator a span) rows later
    unary : {operator : UnaryOperator} {a : Expression} {span : Span} {rows later : List Row}
        → Puts a rows later → Bare (tree.Unary operator a span) rows later
    cast : {type : TypeName} {a : Expression} {span : Span} {rows later : List Row}
        → Puts a rows later → Bare (tree.Cast type a span) rows later
    binary : {operator : BinaryOperator} {a b : Expression} {span : Span} {rows mid later : List Row}
        → Puts a rows mid → Puts b mid later → Bare (tree.Binary operator a b span) rows later
    conditional : {a b c : Expression} {span : Span} {rows first second later : List Row}
        → Puts a rows first → Puts b first second → Puts c second later
        → Bare (tree.Conditional a b c span) rows later

  pub data Puts : Expression → List Row → List Row → Type 0 where
    bare : {a : Expression} {rows later : List Row} (qs : List Probe)
        → Bare a rows (ends qs (span_of a) later) → Puts a (opens qs (span_of a) rows) later
    inside : {a : Expression} {span : Span} {rows later : List Row}
        → Puts a rows later → Puts (tree.Parenthesized a span) rows later
    assignment : {operator : AssignmentOperator} {a b : Expression} {span : Span}
        {rows mid later : List Row}
        → Puts a rows mid → Puts b mid later → Puts (tree.Assignment operator a b span) rows later
    comma : {all : Expressions} {span : Span} {rows later : List Row}
        → PutsAll all rows later → Puts (tree.Comma all span) rows later

  pub data PutsAll : Expressions → List Row → List Row → Type 0 where
    no_expressions : {later : List Row} → PutsAll tree.no_expressions later later
    expressions : {a : Expression} {rest : Expressions} {rows mid later : List Row}
        → Puts a rows mid → PutsAll rest mid later → PutsAll (tree.expressions a rest) rows later

-- ---- declarations

mutual
  pub data PutsInitial : Initializer → List Row → List Row → Type 0 where
    single : {a : Expression} {rows later : List Row}
        → Puts a rows later → PutsInitial (tree.Single a) rows later
    braced : {all : Initializers} {span : Span} {rows later : List Row}
        → PutsInitials all rows later → PutsInitial (tree.Braced all span) rows later
    initial_without : {i : Initializer} {later : List Row} → PutsInitial i later later

  pub data PutsInitials : Initializers → List Row → List Row → Type 0 where
    no_initials : {later : List Row} → PutsInitials tree.no_initializers later later
    initials : {one : Initializer} {rest : Initializers} {rows mid later : List Row}
        → PutsInitial one rows mid → PutsInitials rest mid later
        → PutsInitials (tree.initializers one rest) rows later

pub data PutsDeclarators : List InitDeclarator → List Row → List Row → Type 0 where
  no_declarators : {later : List Row} → PutsDeclarators [] later later
  declared : {d : Declarator} {rest : List InitDeclarator} {rows later : List Row}
      → PutsDeclarators rest rows later → PutsDeclarators (tree.bare d ∷ rest) rows later
  initialized : {d : Declarator} {value : Initializer} {rest : List InitDeclarator}
      {rows mid later : List Row}
      → PutsInitial value rows mid → PutsDeclarators rest mid later
      → PutsDeclarators (tree.initialized d value ∷ rest) rows later

pub data PutsDeclaration : Declaration → List Row → List Row → Type 0 where
  declaration : {words : Specifiers} {ds : List InitDeclarator} {span : Span}
      {rows later : List Row}
      → PutsDeclarators ds rows later → PutsDeclaration (tree.declaration words ds span) rows later
  declaration_without : {d : Declaration} {later : List Row} → PutsDeclaration d later later

-- ---- statements

pub data PutsOptional : Option Expression → List Row → List Row → Type 0 where
  nothing : {later : List Row} → PutsOptional None later later
  something : {a : Expression} {rows later : List Row}
      → Puts a rows later → PutsOptional (Some a) rows later

pub data PutsStart : ForStart → List Row → List Row → Type 0 where
  starts_local : {d : Declaration} {rows later : List Row}
      → PutsDeclaration d rows later → PutsStart (tree.StartsLocal d) rows later
  starts_expression : {a : Option Expression} {rows later : List Row}
      → PutsOptional a rows later → PutsStart (tree.StartsExpression a) rows later

-- the `default` that a `switch` lacks
pub data PutsDefault : Statement → List Row → List Row → Type 0 where
  no_default : {s : Statement} {later : List Row}
      → lacks_default s ≡ false → PutsDefault s later later
  absent_default : {s : Statement} {r b : ℕ} {later : List Row}
      → lacks_default s ≡ true
      → PutsDefault s (row (what.Default r b) (span_of_statement s) later) later

mutual
  -- a counted statement inside the braces round it
  pub data PutsInside : Statement → List Row → List Row → Type 0 where
    null : {span : Span} {later : List Row} → PutsInside (tree.Null span) later later
    effect : {a : Expression} {span : Span} {rows later : List Row}
        → Puts a rows later → PutsInside (tree.ExpressionStatement a span) rows later
    if_only : {a : Expression} {s : Statement} {span : Span} {rows mid later : List Row}
        → Puts a rows mid → PutsStatement s mid later → PutsInside (tree.If a s span) rows later
    if_else : {a : Expression} {s u : Statement} {span : Span} {rows first second later : List Row}
        → Puts a rows first → PutsStatement s first second → PutsStatement u second later
        → PutsInside (tree.IfElse a s u span) rows later
    switch : {a : Expression} {s : Statement} {span : Span} {rows mid later : List Row}
        → Puts a rows mid → PutsStatement s mid later → PutsInside (tree.Switch a s span) rows later
    while : {a : Expression} {s : Statement} {span : Span} {rows mid later : List Row}
        → Puts a rows mid → PutsStatement s mid later → PutsInside (tree.While a s span) rows later
    do_while : {a : Expression} {s : Statement} {span : Span} {rows mid later : List Row}
        → PutsStatement s rows mid → Puts a mid later
        → PutsInside (tree.DoWhile s a span) rows later
    for : {start : ForStart} {a b : Option Expression} {s : Statement} {span : Span}
        {rows first second third later : List Row}
        → PutsStart start rows first → PutsOptional a first second → PutsOptional b second third
        → PutsStatement s third later → PutsInside (tree.For start a b s span) rows later
    break : {span : Span} {later : List Row} → PutsInside (tree.Break span) later later
    continue : {span : Span} {later : List Row} → PutsInside (tree.Continue span) later later
    return_nothing : {span : Span} {b : ℕ} {later : List Row}
        → PutsInside (tree.Return None span)
        (row (what.Return b) span (row what.ReturnEnd span later)) later
    return_value : {a : Expression} {span : Span} {b : ℕ} {rows later : List Row}
        → Puts a rows (row (what.ValueEnd b) span later)
        → PutsInside (tree.Return (Some a) span) (row what.Value span rows) later

  pub data PutsStatement : Statement → List Row → List Row → Type 0 where
    compound : {b : BlockItems} {span : Span} {rows later : List Row}
        → PutsBlock b rows later → PutsStatement (tree.Compound b span) rows later
    counted : {s : Statement} {bit : ℕ} {rows mid later : List Row}
        → PutsInside s rows mid
        → PutsDefault s mid (row what.StatementEnd (span_of_statement s) later)
        → PutsStatement s (row (what.Statement bit) (span_of_statement s) rows) later
    case_label : {a : Expression} {label span : Span} {s : Statement} {r b : ℕ}
        {rows later : List Row}
        → PutsStatement s rows later
        → PutsStatement (tree.Case a label s span) (row (what.Label r b) label rows) later
    default_label : {label span : Span} {s : Statement} {r b : ℕ} {rows later : List Row}
        → PutsStatement s rows later
        → PutsStatement (tree.Default label s span) (row (what.Label r b) label rows) later

  pub data PutsBlock : BlockItems → List Row → List Row → Type 0 where
    no_items : {later : List Row} → PutsBlock tree.no_block_items later later
    counted_local : {d : Declaration} {rest : BlockItems} {bit : ℕ} {rows mid later : List Row}
        → is_counted_local d ≡ true → PutsDeclaration d rows mid → PutsBlock rest mid later
        → PutsBlock (tree.local d rest) (row (what.Declaration bit) (span_of_declaration d) rows)
        later
    local : {d : Declaration} {rest : BlockItems} {rows mid later : List Row}
        → PutsDeclaration d rows mid → PutsBlock rest mid later
        → PutsBlock (tree.local d rest) rows later
    statement : {s : Statement} {rest : BlockItems} {rows mid later : List Row}
        → PutsStatement s rows mid → PutsBlock rest mid later
        → PutsBlock (tree.statement s rest) rows later

-- ---- functions and units

-- what belongs to a whole function
abbrev pub whole : What → Span → ℕ → List Row → List Row
whole w name end later = record { what = w; span = name; end = end } ∷ later

pub data PutsRegisters : Span → ℕ → List Row → List Row → Type 0 where
  no_registers : {name : Span} {end b : ℕ} {later : List Row}
      → PutsRegisters name end (whole (what.Entry b) name end later) later
  registers : {name : Span} {end n b : ℕ} {later : List Row}
      → PutsRegisters name end (whole (what.Registers n) name end (whole (what.Entry b) name end later))
      later

abbrev pub is_exit : What → Bool
is_exit (what.Exit b) = true
is_exit w = false

-- no row, or one that is not the exit of another function
abbrev pub BeginsAnew : List Row → Type 0
BeginsAnew [] = Unit {0}
BeginsAnew (r ∷ rows) = (is_probe r.what ≡ true) × (is_exit r.what ≡ false)

pub data PutsExit : Span → ℕ → List Row → List Row → Type 0 where
  no_exit : {name : Span} {end : ℕ} {later : List Row} → PutsExit name end later later
  exit : {name : Span} {end b : ℕ} {later : List Row}
      → PutsExit name end (whole (what.Exit b) name end later) later

pub data PutsUnit : List Item → List Row → Type 0 where
  no_functions : PutsUnit [] []
  declared_item : {d : Declaration} {rest : List Item} {rows : List Row}
      → PutsUnit rest rows → PutsUnit (tree.Declared d ∷ rest) rows
  defined : {words : Specifiers} {d : Declarator} {b : BlockItems} {span : Span}
      {rest : List Item} {rows body after later : List Row}
      → PutsRegisters (name_of d).span span.end rows body → PutsBlock b body after
      → PutsExit (name_of d).span span.end after later → BeginsAnew later → PutsUnit rest later
      → PutsUnit (tree.Defined words d b span ∷ rest) rows
