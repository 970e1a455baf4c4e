-- The walk over initializers, declarations, statements and items, and the probes of a whole text.
use Rattle.std.specs.Prelude.{ℕ, ◌==◌, Bool, true, false, not, ◌&&◌, ◌||◌, List, [], ◌∷◌, Option}
use Rattle.std.specs.Prelude.{Some, None, if◌then◌else◌}
use Rattle.mc_span.specs.declared.span.Span.{Span}
use Rattle.mc_tree.specs.declared.declarations.specifier_word.SpecifierWord.TheVariants as word
use Rattle.mc_tree.specs.Tree.{Specifier, Specifiers, Declarator, Initializer, Initializers}
use Rattle.mc_tree.specs.Tree.{InitDeclarator, Declaration, ForStart, Statement, BlockItems, Item}
use Rattle.mc_tree.specs.Tree.{name_of, span_of_statement}
use Rattle.mc_tree.specs.Tree as tree
use Rattle.reread_pieces.specs.declared.placed.Placed.{Placed}
use Rattle.reread_pieces.specs.Pieces.{Mark}
use Rattle.reread_probes.specs.declared.counted.Counted.{Counted}
use Rattle.reread_probes.specs.declared.spot.Spot.TheVariants as spot
use Rattle.reread_probes.specs.Probes.{probes}
use Rattle.reread_probes.specs.Walks.{Walk, start, stands, refused, passed_if, may_take, must_take}
use Rattle.reread_probes.specs.Walks.{answer}
use Rattle.reread_probes.specs.Expressions.{walk_expression, walk_specifiers, walk_declarator}

-- ---- initializers and declarations

abbrev mutual
  pub walk_initializer : Initializer → Walk → Walk
  walk_initializer (tree.Single a) w = walk_expression a w
  walk_initializer (tree.Braced all span) w = walk_initializers all w

  pub walk_initializers : Initializers → Walk → Walk
  walk_initializers tree.no_initializers w = w
  walk_initializers (tree.initializers one rest) w =
      walk_initializers rest (walk_initializer one w)

abbrev pub walk_init_declarator : InitDeclarator → Walk → Walk
walk_init_declarator (tree.bare d) w = walk_declarator d w
walk_init_declarator (tree.initialized d value) w =
    walk_initializer value (walk_declarator d w)

abbrev pub walk_init_declarators : List InitDeclarator → Walk → Walk
walk_init_declarators [] w = w
walk_init_declarators (d ∷ ds) w = walk_init_declarators ds (walk_init_declarator d w)

abbrev pub walk_declaration : Declaration → Walk → Walk
walk_declaration (tree.declaration s ds span) w =
    walk_init_declarators ds (walk_specifiers s w)

abbrev pub is_static : Specifier → Bool
is_static (tree.Word word.Static span) = true
is_static _ = false

abbrev pub has_static : Specifiers → Bool
has_static tree.no_specifiers = false
has_static (tree.specifiers s rest) = is_static s || has_static rest

abbrev pub is_initialized : InitDeclarator → Bool
is_initialized (tree.initialized d value) = true
is_initialized (tree.bare d) = false

abbrev pub initializes : List InitDeclarator → Bool
initializes [] = false
initializes (d ∷ ds) = is_initialized d || initializes ds

-- A declaration in a block is counted where it initializes an object each time that it is reached
-- (C17 6.2.4, 6.8).
abbrev pub is_counted_local : Declaration → Bool
is_counted_local (tree.declaration s ds span) = not (has_static s) && initializes ds

abbrev pub span_of_declaration : Declaration → Span
span_of_declaration (tree.declaration s ds span) = span

abbrev pub take_local : Span → Walk → Walk
take_local span w = may_take (spot.Declaration span.start) span w

abbrev pub enter_local : Declaration → Walk → Walk
enter_local d w = if is_counted_local d then take_local (span_of_declaration d) w else w

-- ---- statements

abbrev pub walk_optional : Option tree.Expression → Walk → Walk
walk_optional None w = w
walk_optional (Some a) w = walk_expression a w

-- A declaration at the start of a `for` is not counted.
abbrev pub walk_start : ForStart → Walk → Walk
walk_start (tree.StartsLocal d) w = walk_declaration d w
walk_start (tree.StartsExpression a) w = walk_optional a w

abbrev pub walk_parts : ForStart → Option tree.Expression → Option tree.Expression → Walk → Walk
walk_parts first a b w = walk_optional b (walk_optional a (walk_start first w))

-- whether `default` is among the labels of a statement (C17 6.8.1)
abbrev pub is_default : Statement → Bool
is_default (tree.Default label s span) = true
is_default (tree.Case a label s span) = is_default s
is_default (tree.Label name s span) = is_default s
is_default _ = false

abbrev pub default_among : BlockItems → Bool
default_among tree.no_block_items = false
default_among (tree.local d rest) = default_among rest
default_among (tree.statement s rest) = is_default s || default_among rest

-- whether the body of a `switch` has one directly
abbrev pub has_default : Statement → Bool
has_default (tree.Compound b span) = default_among b
has_default s = is_default s

abbrev pub lacks_default : Statement → Bool
lacks_default (tree.Switch a s span) = not (has_default s)
lacks_default _ = false

-- A counted statement is not compound, and no label (C17 6.8).
abbrev pub is_counted : Statement → Bool
is_counted (tree.Compound b span) = false
is_counted (tree.Case a label s span) = false
is_counted (tree.Default label s span) = false
is_counted (tree.Label name s span) = false
is_counted _ = true

abbrev pub counted : Statement → Option Counted
counted s =
    if is_counted s
    then Some (record { span = span_of_statement s; lacks_default = lacks_default s }) else None

abbrev pub is_empty : BlockItems → Bool
is_empty tree.no_block_items = true
is_empty (tree.local d rest) = false
is_empty (tree.statement s rest) = false

-- Where the token after `MCDC_H ( b ) ;` is a typedef name and `*` follows it, the pieces cannot
-- tell a declaration from a product, so this block of the source is read as a probe's.
abbrev pub counted_local : Declaration → Option Counted
counted_local d =
    if is_counted_local d
    then Some (record { span = span_of_declaration d; lacks_default = false }) else None

-- what the braces of a probe enclose: one counted statement, and nothing after it
abbrev pub counted_first : BlockItems → Option Counted
counted_first tree.no_block_items = None
counted_first (tree.local d rest) = counted_local d
counted_first (tree.statement s rest) = if is_empty rest then counted s else None

-- A brace of the source starts before what it encloses, that of a probe where this starts.
abbrev pub starts_at : ℕ → BlockItems → Bool
starts_at at tree.no_block_items = false
starts_at at (tree.local d rest) = (span_of_declaration d).start == at
starts_at at (tree.statement s rest) = (span_of_statement s).start == at

abbrev pub enter_counted : Option Counted → Walk → Walk
enter_counted None w = refused w
enter_counted (Some c) w = must_take (spot.Statement c.span.start) c.span w

abbrev pub enter_braces : BlockItems → Span → Walk → Walk
enter_braces b span w = if starts_at span.start b then enter_counted (counted_first b) w else w

-- after a `switch` without `default`
abbrev pub take_default : Counted → Walk → Walk
take_default c w = if c.lacks_default then may_take (spot.Default c.span.end) c.span w else w

abbrev pub leave_counted : Option Counted → Walk → Walk
leave_counted None w = w
leave_counted (Some c) w = take_default c w

abbrev pub leave_braces : BlockItems → Span → Walk → Walk
leave_braces b span w = if starts_at span.start b then leave_counted (counted_first b) w else w

abbrev pub take_label : Span → Walk → Walk
take_label label w = may_take (spot.Label label.end) label w

-- whether what a probe inserts in place of `return` stands at the start of a statement
abbrev pub keeps_value : Span → Walk → Bool
keeps_value span w = stands (spot.Value span.start) w.left

abbrev pub leave_value : Bool → Span → Walk → Walk
leave_value kept span w = if kept then must_take spot.ValueEnd span w else w

abbrev pub walk_value : tree.Expression → Span → Walk → Walk
walk_value a span w =
    leave_value (keeps_value span w) span
    (walk_expression a (passed_if (keeps_value span w) w))

abbrev pub walk_return : Option tree.Expression → Span → Walk → Walk
walk_return None span w = may_take (spot.Return span.start) span w
walk_return (Some a) span w = walk_value a span w

abbrev mutual
  pub walk_statement : Statement → Walk → Walk
  walk_statement (tree.Compound b span) w =
      leave_braces b span (walk_block b (enter_braces b span w))
  walk_statement (tree.Null span) w = w
  walk_statement (tree.ExpressionStatement a span) w = walk_expression a w
  walk_statement (tree.If a s span) w = walk_statement s (walk_expression a w)
  walk_statement (tree.IfElse a s u span) w =
      walk_statement u (walk_statement s (walk_expression a w))
  walk_statement (tree.Switch a s span) w = walk_statement s (walk_expression a w)
  walk_statement (tree.While a s span) w = walk_statement s (walk_expression a w)
  walk_statement (tree.DoWhile s a span) w = walk_expression a (walk_statement s w)
  walk_statement (tree.For first a b s span) w = walk_statement s (walk_parts first a b w)
  walk_statement (tree.Case a label s span) w =
      walk_statement s (take_label label (walk_expression a w))
  walk_statement (tree.Default label s span) w = walk_statement s (take_label label w)
  walk_statement (tree.Label name s span) w = walk_statement s w
  walk_statement (tree.Goto name span) w = w
  walk_statement (tree.Break span) w = w
  walk_statement (tree.Continue span) w = w
  walk_statement (tree.Return a span) w = walk_return a span w

  pub walk_block : BlockItems → Walk → Walk
  walk_block tree.no_block_items w = w
  walk_block (tree.local d rest) w = walk_block rest (walk_declaration d (enter_local d w))
  walk_block (tree.statement s rest) w = walk_block rest (walk_statement s w)

-- ---- items

-- the registers and the entry of a function with this name, which ends at `end`
abbrev pub enter_body : Span → ℕ → Walk → Walk
enter_body name end w = may_take (spot.Entry end) name (may_take (spot.Registers end) name w)

-- and its exit
abbrev pub leave_body : Span → ℕ → Walk → Walk
leave_body name end w = may_take (spot.Exit end) name w

abbrev pub walk_body : Span → ℕ → BlockItems → Walk → Walk
walk_body name end b w = leave_body name end (walk_block b (enter_body name end w))

abbrev pub walk_item : Item → Walk → Walk
walk_item (tree.Declared d) w = walk_declaration d w
walk_item (tree.Defined s d b span) w =
    walk_body (name_of d).span span.end b (walk_declarator d (walk_specifiers s w))

abbrev pub walk_items : List Item → Walk → Walk
walk_items [] w = w
walk_items (i ∷ is) w = walk_items is (walk_item i w)

-- ---- a whole text

-- The probes of a text with these pieces, whose tokens without probes have this tree: each at what
-- it stands at. There are none where a probe stands where the table puts no such one.
abbrev pub placements : List Mark → List Item → Option (List Placed)
placements ms is = answer (walk_items is (start (probes ms)))
