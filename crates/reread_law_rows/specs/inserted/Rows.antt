-- What the table inserts into the text of a program with probes, in the order of the text: each row
-- with the place of what it stands at. Of a row that encloses something, its end is a row too.
use Rattle.std.specs.Prelude.{ℕ, ◌==◌, List, [], ◌∷◌, Option, Some, None, if◌then◌else◌}
use Rattle.mc_span.specs.declared.span.Span.{Span}
use Rattle.mc_typed.specs.declared.probes.Mark.{Mark}
use Rattle.mc_typed.specs.declared.probes.Probe.{Probe}
use Rattle.mc_typed.specs.declared.probes.Probe.TheVariants as probe
use Rattle.mc_typed.specs.Tree.{span_of}
use Rattle.mc_probe.specs.Erase.{erase_expression}
use Rattle.mc_probe.specs.Tree as p
use Rattle.reread_pieces.specs.declared.piece.What.{What}
use Rattle.reread_pieces.specs.declared.piece.What.TheVariants as what

-- A row, and the place of what it stands at: the counted statement, the counted declaration, the
-- expression; the label; for an absent `default` the `switch`; for the exit of a `return` its
-- statement; and the name of the function for what belongs to a whole function. `end` is where the
-- place ends, and of what belongs to a whole function where the function ends.
pub record Row : Type 0 where
  pub what : What
  pub span : Span
  pub end : ℕ

-- The rows of a part of a tree, before those that follow.
abbrev pub Rows : Type 0
Rows = List Row → List Row

abbrev pub no_rows : Rows
no_rows later = later

abbrev pub row : What → Span → Rows
row w span later = record { what = w; span = span; end = span.end } ∷ later

-- ---- expressions: a probe stands round its operand

abbrev pub row_of_probe : Probe → What
row_of_probe (probe.Decision r base) = what.Decision r base
row_of_probe (probe.Condition r on_true on_false) = what.Condition r on_true on_false
row_of_probe (probe.Switch r) = what.Switch r

-- where an expression stands
abbrev pub extent : p.Expression → Span
extent e = span_of (erase_expression e)

abbrev mutual
  pub rows_in_place : p.Place → Rows
  rows_in_place (p.Local slot span) later = later
  rows_in_place (p.Static slot span) later = later
  rows_in_place (p.Parameter array stride index span) later = rows index later
  rows_in_place (p.Item array n stride index span) later =
      rows_in_place array (rows index later)
  rows_in_place (p.Member structure i offset span) later = rows_in_place structure later

  pub rows : p.Expression → Rows
  rows (p.Constant v a span) later = later
  rows (p.Read place a) later = rows_in_place place later
  rows (p.Unary operator a e span) later = rows e later
  rows (p.Convert a written e span) later = rows e later
  rows (p.Not e span) later = rows e later
  rows (p.Binary operator a e f span) later = rows e (rows f later)
  rows (p.Logic operator e f span) later = rows e (rows f later)
  rows (p.Choice e f g a span) later = rows e (rows f (rows g later))
  rows (p.Call k a) later = rows_in_call k later
  rows (p.Input span) later = later
  rows (p.Probe q e) later =
      row (row_of_probe q) (extent e) (rows e (row what.OperandEnd (extent e) later))

  pub rows_in_structure : p.StructureValue → Rows
  rows_in_structure (p.Stored place) later = rows_in_place place later
  rows_in_structure (p.Returned k) later = rows_in_call k later

  pub rows_in_call : p.FunctionCall → Rows
  rows_in_call (p.call f given result span) later = rows_in_arguments given later

  pub rows_in_argument : p.Argument → Rows
  rows_in_argument (p.NumberArgument e) later = rows e later
  rows_in_argument (p.StructureArgument value copy) later = rows_in_structure value later
  rows_in_argument (p.ArrayArgument place n) later = rows_in_place place later
  rows_in_argument (p.AgainArgument array span) later = later

  pub rows_in_arguments : p.Arguments → Rows
  rows_in_arguments p.no_arguments later = later
  rows_in_arguments (p.arguments a rest) later = rows_in_argument a (rows_in_arguments rest later)

-- ---- effects and initializers

abbrev pub rows_in_effect : p.Effect → Rows
rows_in_effect (p.Assign target a e span) later = rows_in_place target (rows e later)
rows_in_effect (p.Update target a operator common e span) later =
    rows_in_place target (rows e later)
rows_in_effect (p.Copy target value n span) later =
    rows_in_place target (rows_in_structure value later)
rows_in_effect (p.NumberEffect e whole) later = rows e later
rows_in_effect (p.StructureEffect value whole) later = rows_in_structure value later
rows_in_effect (p.CallEffect k) later = rows_in_call k later
rows_in_effect (p.Output e span) later = rows e later
rows_in_effect (p.ChoiceEffect e a b span) later =
    rows e (rows_in_effect a (rows_in_effect b later))
rows_in_effect (p.Discard a span) later = rows_in_effect a later

abbrev pub rows_in_effects : List p.Effect → Rows
rows_in_effects [] later = later
rows_in_effects (a ∷ rest) later = rows_in_effect a (rows_in_effects rest later)

abbrev mutual
  pub rows_in_initializer : p.Initializer → Rows
  rows_in_initializer (p.NumberInitializer e) later = rows e later
  rows_in_initializer (p.StructureInitializer value n) later = rows_in_structure value later
  rows_in_initializer (p.ListInitializer items n) later = rows_in_initializers items later
  rows_in_initializer (p.ZeroInitializer e n) later = rows e later

  pub rows_in_initializers : p.Initializers → Rows
  rows_in_initializers p.no_initializers later = later
  rows_in_initializers (p.initializers i rest) later =
      rows_in_initializer i (rows_in_initializers rest later)

abbrev pub rows_in_initial : Option p.Initializer → Rows
rows_in_initial None later = later
rows_in_initial (Some i) later = rows_in_initializer i later

abbrev pub rows_in_declarators : List p.Declarator → Rows
rows_in_declarators [] later = later
rows_in_declarators (d ∷ rest) later = rows_in_initial d.value (rows_in_declarators rest later)

-- ---- statements

abbrev pub rows_in_start : p.ForStart → Rows
rows_in_start (p.StartEffects effects) later = rows_in_effects effects later
rows_in_start (p.StartDeclaration declarators) later = rows_in_declarators declarators later

abbrev pub rows_in_optional : Option p.Expression → Rows
rows_in_optional None later = later
rows_in_optional (Some e) later = rows e later

abbrev pub rows_in_value : p.ReturnValue → Rows
rows_in_value p.ReturnNothing later = later
rows_in_value (p.ReturnNumber e) later = rows e later
rows_in_value (p.ReturnStructure value n) later = rows_in_structure value later

-- a counted statement in its braces
abbrev pub counted : Option ℕ → Span → Rows → Rows
counted None span inside later = inside later
counted (Some b) span inside later =
    row (what.Statement b) span (inside (row what.StatementEnd span later))

abbrev pub counted_declaration : Option ℕ → Span → Rows
counted_declaration None span later = later
counted_declaration (Some b) span later = row (what.Declaration b) span later

abbrev pub label : Option Mark → Span → Rows
label None span later = later
label (Some m) span later = row (what.Label m.register m.bit) span later

abbrev pub absent_default : Option Mark → Span → Rows
absent_default None span later = later
absent_default (Some m) span later = row (what.Default m.register m.bit) span later

-- a `return` with its exit
abbrev pub with_exit : ℕ → Span → p.ReturnValue → Rows
with_exit b span p.ReturnNothing later =
    row (what.Return b) span (row what.ReturnEnd span later)
with_exit b span value later =
    row what.Value span (rows_in_value value (row (what.ValueEnd b) span later))

abbrev pub rows_in_return : Option ℕ → Span → p.ReturnValue → Rows
rows_in_return None span value later = rows_in_value value later
rows_in_return (Some b) span value later = with_exit b span value later

abbrev mutual
  pub rows_in_statement : p.Statement → Rows
  rows_in_statement (p.Compound items span) later = rows_in_statements items later
  rows_in_statement (p.Label v span mark) later = label mark span later
  rows_in_statement (p.Declaration declarators span bit) later =
      counted_declaration bit span (rows_in_declarators declarators later)
  rows_in_statement (p.Null span bit) later = counted bit span no_rows later
  rows_in_statement (p.EffectStatement a span bit) later =
      counted bit span (rows_in_effect a) later
  rows_in_statement (p.If e s keyword span bit) later =
      counted bit span (λ later. rows e (rows_in_statement s later)) later
  rows_in_statement (p.IfElse e s u keyword span bit) later =
      counted bit span
      (λ later. rows e (rows_in_statement s (rows_in_statement u later))) later
  rows_in_statement (p.Switch e items keyword span bit absent) later =
      counted bit span
      (λ later. rows e (rows_in_statements items (absent_default absent span later))) later
  rows_in_statement (p.For start test step s keyword span bit) later =
      counted bit span
      (λ later. rows_in_start start (rows_in_optional test (rows_in_effects step
      (rows_in_statement s later)))) later
  rows_in_statement (p.DoWhile s e keyword span bit) later =
      counted bit span (λ later. rows_in_statement s (rows e later)) later
  rows_in_statement (p.Break span bit) later = counted bit span no_rows later
  rows_in_statement (p.Continue span bit) later = counted bit span no_rows later
  rows_in_statement (p.Return value span bit exit) later =
      counted bit span (rows_in_return exit span value) later

  pub rows_in_statements : p.Statements → Rows
  rows_in_statements p.no_statements later = later
  rows_in_statements (p.statements s rest) later =
      rows_in_statement s (rows_in_statements rest later)

-- ---- functions and programs

abbrev pub of_function : p.Function → What → Rows
of_function f w later = record { what = w; span = f.name_span; end = f.closing.end } ∷ later

abbrev pub register_row : p.Function → Rows
register_row f later =
    if f.registers == 0 then later else of_function f (what.Registers f.registers) later

abbrev pub entry_row : p.Function → Option ℕ → Rows
entry_row f None later = later
entry_row f (Some b) later = of_function f (what.Entry b) later

abbrev pub exit_row : p.Function → Option ℕ → Rows
exit_row f None later = later
exit_row f (Some b) later = of_function f (what.Exit b) later

abbrev pub rows_in_function : p.Function → Rows
rows_in_function f later =
    register_row f (entry_row f f.entry (rows_in_statements f.body (exit_row f f.exit later)))

abbrev pub rows_in_functions : List p.Function → Rows
rows_in_functions [] later = later
rows_in_functions (f ∷ rest) later = rows_in_function f (rows_in_functions rest later)

-- the rows of a whole text
abbrev pub rows_of : p.Tree → List Row
rows_of tree = rows_in_functions tree.program.functions []
