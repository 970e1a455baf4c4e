-- The instrumented text of a program with probes: the tokens of its source with what its probes
-- insert. The pen goes through the tree in the order of the text. At one place first stands what
-- ends there, the inner first, and then what starts there, the outer first.
use Rattle.std.specs.Prelude.{ℕ, List, [], ◌∷◌, Option, Some, None, codes}
use Rattle.mc_span.specs.declared.span.Span.{Span}
use Rattle.mc_lex.specs.Tokens.{Tok}
use Rattle.mc_typed.specs.Tree.{span_of}
use Rattle.mc_probe.specs.Erase.{erase_expression}
use Rattle.mc_probe.specs.Tree as p
use Rattle.mc_print.specs.Pens.{Pen, begun, ◌▸◌, nothing, upto, into_body, rest, note}
use Rattle.mc_print.specs.Insertions.{hit, opening, at, before_counted, after_counted, hit_at, label_after, put_registers, put_entry, open_value, close_value}

-- where an expression stands
abbrev pub extent : p.Expression → Span
extent e = span_of (erase_expression e)

-- ---- expressions: a probe stands round its operand

abbrev mutual
  pub write_place : p.Place → Pen → Pen
  write_place (p.Local slot span) = nothing
  write_place (p.Static slot span) = nothing
  write_place (p.Parameter array stride index span) = write index
  write_place (p.Item array n stride index span) = write_place array ▸ write index
  write_place (p.Member structure i offset span) = write_place structure

  pub write : p.Expression → Pen → Pen
  write (p.Constant v a span) = nothing
  write (p.Read place a) = write_place place
  write (p.Unary operator a e span) = write e
  write (p.Convert a written e span) = write e
  write (p.Not e span) = write e
  write (p.Binary operator a e f span) = write e ▸ write f
  write (p.Logic operator e f span) = write e ▸ write f
  write (p.Choice e f g a span) = write e ▸ write f ▸ write g
  write (p.Call k a) = write_call k
  write (p.Input span) = nothing
  write (p.Probe probe e) =
      at (extent e).start (opening probe) ▸ write e ▸ at (extent e).end (codes ")" ∷ [])

  pub write_structure : p.StructureValue → Pen → Pen
  write_structure (p.Stored place) = write_place place
  write_structure (p.Returned k) = write_call k

  pub write_call : p.FunctionCall → Pen → Pen
  write_call (p.call f given result span) = write_arguments given

  pub write_argument : p.Argument → Pen → Pen
  write_argument (p.NumberArgument e) = write e
  write_argument (p.StructureArgument value copy) = write_structure value
  write_argument (p.ArrayArgument place n) = write_place place
  write_argument (p.AgainArgument array span) = nothing

  pub write_arguments : p.Arguments → Pen → Pen
  write_arguments p.no_arguments = nothing
  write_arguments (p.arguments a rest) = write_argument a ▸ write_arguments rest

-- ---- effects and initializers

abbrev pub write_effect : p.Effect → Pen → Pen
write_effect (p.Assign target a e span) = write_place target ▸ write e
write_effect (p.Update target a operator common e span) = write_place target ▸ write e
write_effect (p.Copy target value n span) = write_place target ▸ write_structure value
write_effect (p.NumberEffect e whole) = write e
write_effect (p.StructureEffect value whole) = write_structure value
write_effect (p.CallEffect k) = write_call k
write_effect (p.Output e span) = write e
write_effect (p.ChoiceEffect e a b span) = write e ▸ write_effect a ▸ write_effect b
write_effect (p.Discard a span) = write_effect a

abbrev pub write_effects : List p.Effect → Pen → Pen
write_effects [] = nothing
write_effects (a ∷ later) = write_effect a ▸ write_effects later

abbrev mutual
  pub write_initializer : p.Initializer → Pen → Pen
  write_initializer (p.NumberInitializer e) = write e
  write_initializer (p.StructureInitializer value n) = write_structure value
  write_initializer (p.ListInitializer items n) = write_initializers items
  write_initializer (p.ZeroInitializer e n) = write e

  pub write_initializers : p.Initializers → Pen → Pen
  write_initializers p.no_initializers = nothing
  write_initializers (p.initializers i later) = write_initializer i ▸ write_initializers later

abbrev pub write_initial : Option p.Initializer → Pen → Pen
write_initial None = nothing
write_initial (Some i) = write_initializer i

abbrev pub write_declarators : List p.Declarator → Pen → Pen
write_declarators [] = nothing
write_declarators (d ∷ later) = write_initial d.value ▸ write_declarators later

-- ---- statements

abbrev pub write_start : p.ForStart → Pen → Pen
write_start (p.StartEffects effects) = write_effects effects
write_start (p.StartDeclaration declarators) = write_declarators declarators

abbrev pub write_optional : Option p.Expression → Pen → Pen
write_optional None = nothing
write_optional (Some e) = write e

abbrev pub write_value : p.ReturnValue → Pen → Pen
write_value p.ReturnNothing = nothing
write_value (p.ReturnNumber e) = write e
write_value (p.ReturnStructure value n) = write_structure value

-- a `return` and its exit
abbrev pub exit_nothing : ℕ → Span → Pen → Pen
exit_nothing b span =
    at span.start (codes "{" ∷ hit b) ▸ at span.end (codes "}" ∷ [])

abbrev pub write_exit : ℕ → Span → p.ReturnValue → Pen → Pen
write_exit b span p.ReturnNothing = exit_nothing b span
write_exit b span (p.ReturnNumber e) = open_value span ▸ write e ▸ close_value b span
write_exit b span (p.ReturnStructure value n) =
    open_value span ▸ write_structure value ▸ close_value b span

abbrev pub write_return : Option ℕ → Span → p.ReturnValue → Pen → Pen
write_return None span value = write_value value
write_return (Some b) span value = write_exit b span value

-- a counted statement stands in braces, after its probe
abbrev mutual
  pub write_statement : p.Statement → Pen → Pen
  write_statement (p.Compound items span) = write_statements items
  write_statement (p.Label v span mark) = label_after mark span
  write_statement (p.Declaration declarators span bit) =
      hit_at bit span.start ▸ write_declarators declarators
  write_statement (p.Null span bit) = before_counted bit span ▸ after_counted bit span
  write_statement (p.EffectStatement a span bit) =
      before_counted bit span ▸ write_effect a ▸ after_counted bit span
  write_statement (p.If e s keyword span bit) =
      before_counted bit span ▸ write e ▸ write_statement s ▸ after_counted bit span
  write_statement (p.IfElse e s u keyword span bit) =
      before_counted bit span ▸ write e ▸ write_statement s ▸ write_statement u
      ▸ after_counted bit span
  write_statement (p.Switch e items keyword span bit absent) =
      before_counted bit span ▸ write e ▸ write_statements items ▸ label_after absent span
      ▸ after_counted bit span
  write_statement (p.For start test step s keyword span bit) =
      before_counted bit span ▸ write_start start ▸ write_optional test ▸ write_effects step
      ▸ write_statement s ▸ after_counted bit span
  write_statement (p.DoWhile s e keyword span bit) =
      before_counted bit span ▸ write_statement s ▸ write e ▸ after_counted bit span
  write_statement (p.Break span bit) = before_counted bit span ▸ after_counted bit span
  write_statement (p.Continue span bit) = before_counted bit span ▸ after_counted bit span
  write_statement (p.Return value span bit exit) =
      before_counted bit span ▸ write_return exit span value ▸ after_counted bit span

  pub write_statements : p.Statements → Pen → Pen
  write_statements p.no_statements = nothing
  write_statements (p.statements s later) = write_statement s ▸ write_statements later

-- ---- functions and programs

abbrev pub write_front : p.Function → Pen → Pen
write_front f =
    note f.name_span.start ▸ upto f.name_span.end ▸ into_body ▸ put_registers f.registers
    ▸ put_entry f.entry

abbrev pub write_function : p.Function → Pen → Pen
write_function f =
    write_front f ▸ write_statements f.body ▸ hit_at f.exit f.closing.start

abbrev pub write_functions : List p.Function → Pen → Pen
write_functions [] = nothing
write_functions (f ∷ later) = write_function f ▸ write_functions later

abbrev pub write_all : p.Tree → Pen → Pen
write_all tree = write_functions tree.program.functions ▸ rest

-- the tokens of the instrumented text
abbrev pub text_of : List Tok → p.Tree → List (List ℕ)
text_of tokens tree = (write_all tree (begun tokens)).written
