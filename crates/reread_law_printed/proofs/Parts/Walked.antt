-- The rows of each part of a tree, with what the pen does there.
use Rattle.std.proofs.Common.{ℕ, List, [], ◌∷◌, Option, Some, None}
use Rattle.mc_span.specs.declared.span.Span.{Span}
use Rattle.mc_typed.specs.declared.probes.Mark.{Mark}
use Rattle.mc_typed.specs.declared.probes.Probe.{Probe}
use Rattle.mc_typed.specs.declared.probes.Probe.TheVariants as probe
use Rattle.mc_probe.specs.Tree as p
use Rattle.mc_print.specs.Pens.{Pen, ◌▸◌, nothing}
use Rattle.mc_print.specs.Insertions.{before_counted, after_counted, hit_at, label_after}
use Rattle.mc_print.specs.Texts.{write_place, write, write_structure, write_call, write_argument, write_arguments, write_effect, write_effects, write_initializer, write_initializers, write_initial, write_declarators, write_start, write_optional, write_value, write_exit, write_return, write_statement, write_statements}
use Rattle.reread_law_rows.specs.inserted.Rows.{Rows, no_rows, extent, rows_in_place, rows, rows_in_structure, rows_in_call, rows_in_argument, rows_in_arguments, rows_in_effect, rows_in_effects, rows_in_initializer, rows_in_initializers, rows_in_initial, rows_in_declarators, rows_in_start, rows_in_optional, rows_in_value, counted, counted_declaration, label, absent_default, with_exit, rows_in_return, rows_in_statement, rows_in_statements}
use Rattle.reread_law_printed.proofs.Parts.Tied.{Tied, none, alone, round, seq}
use Rattle.reread_law_printed.proofs.Parts.Tied as tied

-- ---- expressions

in_probe : (q : Probe) (e : p.Expression) → Tied (rows e) (write e) → Tied (rows (p.Probe q e)) (write (p.Probe q e))
in_probe (probe.Decision r base) e t = round _ _ (extent e) (rows e) (write e) tied.decision t
in_probe (probe.Condition r on_true on_false) e t = round _ _ (extent e) (rows e) (write e) tied.condition t
in_probe (probe.Switch r) e t = round _ _ (extent e) (rows e) (write e) tied.switch t

mutual
  in_place : (place : p.Place) → Tied (rows_in_place place) (write_place place)
  in_place (p.Local slot span) = none
  in_place (p.Static slot span) = none
  in_place (p.Parameter array stride index span) = in_expression index
  in_place (p.Item array n stride index span) = seq (in_place array) (in_expression index)
  in_place (p.Member structure i offset span) = in_place structure

  in_expression : (e : p.Expression) → Tied (rows e) (write e)
  in_expression (p.Constant v a span) = none
  in_expression (p.Read place a) = in_place place
  in_expression (p.Unary operator a e span) = in_expression e
  in_expression (p.Convert a written e span) = in_expression e
  in_expression (p.Not e span) = in_expression e
  in_expression (p.Binary operator a e f span) = seq (in_expression e) (in_expression f)
  in_expression (p.Logic operator e f span) = seq (in_expression e) (in_expression f)
  in_expression (p.Choice e f g a span) = seq (in_expression e) (seq (in_expression f) (in_expression g))
  in_expression (p.Call k a) = in_call k
  in_expression (p.Input span) = none
  in_expression (p.Probe q e) = in_probe q e (in_expression e)

  in_structure : (value : p.StructureValue) → Tied (rows_in_structure value) (write_structure value)
  in_structure (p.Stored place) = in_place place
  in_structure (p.Returned k) = in_call k

  in_call : (k : p.FunctionCall) → Tied (rows_in_call k) (write_call k)
  in_call (p.call f given result span) = in_arguments given

  in_argument : (a : p.Argument) → Tied (rows_in_argument a) (write_argument a)
  in_argument (p.NumberArgument e) = in_expression e
  in_argument (p.StructureArgument value copy) = in_structure value
  in_argument (p.ArrayArgument place n) = in_place place
  in_argument (p.AgainArgument array span) = none

  in_arguments : (all : p.Arguments) → Tied (rows_in_arguments all) (write_arguments all)
  in_arguments p.no_arguments = none
  in_arguments (p.arguments a rest) = seq (in_argument a) (in_arguments rest)

-- ---- effects and initializers

in_effect : (a : p.Effect) → Tied (rows_in_effect a) (write_effect a)
in_effect (p.Assign target a e span) = seq (in_place target) (in_expression e)
in_effect (p.Update target a operator common e span) = seq (in_place target) (in_expression e)
in_effect (p.Copy target value n span) = seq (in_place target) (in_structure value)
in_effect (p.NumberEffect e whole) = in_expression e
in_effect (p.StructureEffect value whole) = in_structure value
in_effect (p.CallEffect k) = in_call k
in_effect (p.Output e span) = in_expression e
in_effect (p.ChoiceEffect e a b span) = seq (in_expression e) (seq (in_effect a) (in_effect b))
in_effect (p.Discard a span) = in_effect a

in_effects : (all : List p.Effect) → Tied (rows_in_effects all) (write_effects all)
in_effects [] = none
in_effects (a ∷ rest) = seq (in_effect a) (in_effects rest)

mutual
  in_initializer : (i : p.Initializer) → Tied (rows_in_initializer i) (write_initializer i)
  in_initializer (p.NumberInitializer e) = in_expression e
  in_initializer (p.StructureInitializer value n) = in_structure value
  in_initializer (p.ListInitializer items n) = in_initializers items
  in_initializer (p.ZeroInitializer e n) = in_expression e

  in_initializers : (all : p.Initializers) → Tied (rows_in_initializers all) (write_initializers all)
  in_initializers p.no_initializers = none
  in_initializers (p.initializers i rest) = seq (in_initializer i) (in_initializers rest)

in_initial : (i : Option p.Initializer) → Tied (rows_in_initial i) (write_initial i)
in_initial None = none
in_initial (Some i) = in_initializer i

in_declarators : (all : List p.Declarator) → Tied (rows_in_declarators all) (write_declarators all)
in_declarators [] = none
in_declarators (d ∷ rest) = seq (in_initial d.value) (in_declarators rest)

-- ---- statements

in_start : (start : p.ForStart) → Tied (rows_in_start start) (write_start start)
in_start (p.StartEffects effects) = in_effects effects
in_start (p.StartDeclaration declarators) = in_declarators declarators

in_optional : (test : Option p.Expression) → Tied (rows_in_optional test) (write_optional test)
in_optional None = none
in_optional (Some e) = in_expression e

in_value : (value : p.ReturnValue) → Tied (rows_in_value value) (write_value value)
in_value p.ReturnNothing = none
in_value (p.ReturnNumber e) = in_expression e
in_value (p.ReturnStructure value n) = in_structure value

in_counted : (bit : Option ℕ) (span : Span) (f : Rows) (act : Pen → Pen) → Tied f act → Tied (counted bit span f) (before_counted bit span ▸ (act ▸ after_counted bit span))
in_counted None span f act t = t
in_counted (Some b) span f act t = round _ _ span f act tied.statement t

in_counted_declaration : (bit : Option ℕ) (span : Span) → Tied (counted_declaration bit span) (hit_at bit span.start)
in_counted_declaration None span = none
in_counted_declaration (Some b) span = alone _ span tied.declaration

in_label : (mark : Option Mark) (span : Span) → Tied (label mark span) (label_after mark span)
in_label None span = none
in_label (Some m) span = alone _ span tied.label

in_absent : (mark : Option Mark) (span : Span) → Tied (absent_default mark span) (label_after mark span)
in_absent None span = none
in_absent (Some m) span = alone _ span tied.absent

in_exit : (b : ℕ) (span : Span) (value : p.ReturnValue) → Tied (with_exit b span value) (write_exit b span value)
in_exit b span p.ReturnNothing = round _ _ span no_rows nothing tied.bare none
in_exit b span (p.ReturnNumber e) = round _ _ span (rows e) (write e) tied.value (in_expression e)
in_exit b span (p.ReturnStructure value n) = round _ _ span (rows_in_structure value) (write_structure value) tied.value (in_structure value)

in_return : (exit : Option ℕ) (span : Span) (value : p.ReturnValue) → Tied (rows_in_return exit span value) (write_return exit span value)
in_return None span value = in_value value
in_return (Some b) span value = in_exit b span value

mutual
  in_statement : (s : p.Statement) → Tied (rows_in_statement s) (write_statement s)
  in_statement (p.Compound items span) = in_statements items
  in_statement (p.Label v span mark) = in_label mark span
  in_statement (p.Declaration declarators span bit) = seq (in_counted_declaration bit span) (in_declarators declarators)
  in_statement (p.Null span bit) = in_counted bit span _ _ none
  in_statement (p.EffectStatement a span bit) = in_counted bit span _ _ (in_effect a)
  in_statement (p.If e s keyword span bit) = in_counted bit span _ _ (seq (in_expression e) (in_statement s))
  in_statement (p.IfElse e s u keyword span bit) = in_counted bit span _ _ (seq (in_expression e) (seq (in_statement s) (in_statement u)))
  in_statement (p.Switch e items keyword span bit absent) = in_counted bit span _ _ (seq (in_expression e) (seq (in_statements items) (in_absent absent span)))
  in_statement (p.For start test step s keyword span bit) =
      in_counted bit span _ _ (seq (in_start start) (seq (in_optional test) (seq (in_effects step) (in_statement s))))
  in_statement (p.DoWhile s e keyword span bit) = in_counted bit span _ _ (seq (in_statement s) (in_expression e))
  in_statement (p.Break span bit) = in_counted bit span _ _ none
  in_statement (p.Continue span bit) = in_counted bit span _ _ none
  in_statement (p.Return value span bit exit) = in_counted bit span _ _ (in_return exit span value)

  in_statements : (all : p.Statements) → Tied (rows_in_statements all) (write_statements all)
  in_statements p.no_statements = none
  in_statements (p.statements s rest) = seq (in_statement s) (in_statements rest)

-- the body of a function
pub tied_body : (all : p.Statements) → Tied (rows_in_statements all) (write_statements all)
tied_body all = in_statements all
