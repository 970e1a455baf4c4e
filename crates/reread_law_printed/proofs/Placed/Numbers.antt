-- The numbers of the rows of a program are short where those of the program are.
use Rattle.std.proofs.Common.{◌≡◌, ℕ, nat_eq, Bool, true, false, cond, List, [], ◌∷◌, Option, Some, None, refl}
use Rattle.mc_span.specs.declared.span.Span.{Span}
use Rattle.reread_pieces.specs.declared.piece.What.TheVariants as what
use Rattle.mc_typed.specs.declared.probes.Mark.{Mark}
use Rattle.mc_typed.specs.declared.probes.Probe.{Probe}
use Rattle.mc_typed.specs.declared.probes.Probe.TheVariants as probe
use Rattle.mc_probe.specs.Tree as p
use Rattle.reread_law_printed.specs.spelled.Numbers.{IsShortBit, IsShortMark, IsShortProbe, ShortPlace, Short, ShortStructure, ShortCall, ShortArgument, ShortArguments, ShortEffect, ShortEffects, ShortInitializer, ShortInitializers, ShortInitial, ShortDeclarators, ShortStart, ShortTest, ShortValue, ShortStatement, ShortStatements, ShortFunction, ShortFunctions, HasShortNumbers}
use Rattle.reread_law_printed.specs.spelled.Numbers as numbers
use Rattle.reread_law_rows.specs.inserted.Rows.{Row, Rows, row_of_probe, rows_in_place, rows, rows_in_structure, rows_in_call, rows_in_argument, rows_in_arguments, rows_in_effect, rows_in_effects, rows_in_initializer, rows_in_initializers, rows_in_initial, rows_in_declarators, rows_in_start, rows_in_optional, rows_in_value, counted, counted_declaration, label, absent_default, rows_in_return, rows_in_statement, rows_in_statements, register_row, entry_row, exit_row, rows_in_functions}
use Rattle.reread_law_printed.specs.placed.Needs.{IsSaid, AreSaid}
use Rattle.reread_law_printed.specs.placed.Laws.{RowsAreSaid}

-- rows whose numbers are short, before others of which that holds
abbrev Says : Rows → Type 0
Says f = (later : List Row) → AreSaid later → AreSaid (f later)

-- ---- expressions

probe_said : (q : Probe) → IsShortProbe q → IsSaid [] (row_of_probe q)
probe_said (probe.Decision r base) h = h
probe_said (probe.Condition r on_true on_false) h = h
probe_said (probe.Switch r) h = h

mutual
  in_place : (place : p.Place) → ShortPlace place → Says (rows_in_place place)
  in_place (p.Local slot span) h later k = k
  in_place (p.Static slot span) h later k = k
  in_place (p.Parameter array stride index span) h later k = in_expression index h later k
  in_place (p.Item array n stride index span) h later k = in_place array h.0 (rows index later) (in_expression index h.1 later k)
  in_place (p.Member structure i offset span) h later k = in_place structure h later k

  in_expression : (e : p.Expression) → Short e → Says (rows e)
  in_expression (p.Constant v a span) h later k = k
  in_expression (p.Read place a) h later k = in_place place h later k
  in_expression (p.Unary operator a e span) h later k = in_expression e h later k
  in_expression (p.Convert a written e span) h later k = in_expression e h later k
  in_expression (p.Not e span) h later k = in_expression e h later k
  in_expression (p.Binary operator a e f span) h later k = in_expression e h.0 (rows f later) (in_expression f h.1 later k)
  in_expression (p.Logic operator e f span) h later k = in_expression e h.0 (rows f later) (in_expression f h.1 later k)
  in_expression (p.Choice e f g a span) h later k =
      in_expression e h.0 (rows f (rows g later)) (in_expression f h.1 (rows g later) (in_expression g h.2 later k))
  in_expression (p.Call made a) h later k = in_call made h later k
  in_expression (p.Input span) h later k = k
  in_expression (p.Probe q e) h later k = (probe_said q h.0, in_expression e h.1 _ (tt, k))

  in_structure : (value : p.StructureValue) → ShortStructure value → Says (rows_in_structure value)
  in_structure (p.Stored place) h later k = in_place place h later k
  in_structure (p.Returned made) h later k = in_call made h later k

  in_call : (call : p.FunctionCall) → ShortCall call → Says (rows_in_call call)
  in_call (p.call f given result span) h later k = in_arguments given h later k

  in_argument : (a : p.Argument) → ShortArgument a → Says (rows_in_argument a)
  in_argument (p.NumberArgument e) h later k = in_expression e h later k
  in_argument (p.StructureArgument value copy) h later k = in_structure value h later k
  in_argument (p.ArrayArgument place n) h later k = in_place place h later k
  in_argument (p.AgainArgument array span) h later k = k

  in_arguments : (all : p.Arguments) → ShortArguments all → Says (rows_in_arguments all)
  in_arguments p.no_arguments h later k = k
  in_arguments (p.arguments a rest) h later k = in_argument a h.0 (rows_in_arguments rest later) (in_arguments rest h.1 later k)

-- ---- effects and initializers

in_effect : (a : p.Effect) → ShortEffect a → Says (rows_in_effect a)
in_effect (p.Assign target a e span) h later k = in_place target h.0 (rows e later) (in_expression e h.1 later k)
in_effect (p.Update target a operator common e span) h later k = in_place target h.0 (rows e later) (in_expression e h.1 later k)
in_effect (p.Copy target value n span) h later k = in_place target h.0 (rows_in_structure value later) (in_structure value h.1 later k)
in_effect (p.NumberEffect e whole) h later k = in_expression e h later k
in_effect (p.StructureEffect value whole) h later k = in_structure value h later k
in_effect (p.CallEffect made) h later k = in_call made h later k
in_effect (p.Output e span) h later k = in_expression e h later k
in_effect (p.ChoiceEffect e a b span) h later k =
    in_expression e h.0 (rows_in_effect a (rows_in_effect b later)) (in_effect a h.1 (rows_in_effect b later) (in_effect b h.2 later k))
in_effect (p.Discard a span) h later k = in_effect a h later k

in_effects : (all : List p.Effect) → ShortEffects all → Says (rows_in_effects all)
in_effects [] h later k = k
in_effects (a ∷ rest) h later k = in_effect a h.0 (rows_in_effects rest later) (in_effects rest h.1 later k)

mutual
  in_initializer : (i : p.Initializer) → ShortInitializer i → Says (rows_in_initializer i)
  in_initializer (p.NumberInitializer e) h later k = in_expression e h later k
  in_initializer (p.StructureInitializer value n) h later k = in_structure value h later k
  in_initializer (p.ListInitializer items n) h later k = in_initializers items h later k
  in_initializer (p.ZeroInitializer e n) h later k = in_expression e h later k

  in_initializers : (all : p.Initializers) → ShortInitializers all → Says (rows_in_initializers all)
  in_initializers p.no_initializers h later k = k
  in_initializers (p.initializers i rest) h later k = in_initializer i h.0 (rows_in_initializers rest later) (in_initializers rest h.1 later k)

in_initial : (i : Option p.Initializer) → ShortInitial i → Says (rows_in_initial i)
in_initial None h later k = k
in_initial (Some i) h later k = in_initializer i h later k

in_declarators : (all : List p.Declarator) → ShortDeclarators all → Says (rows_in_declarators all)
in_declarators [] h later k = k
in_declarators (d ∷ rest) h later k = in_initial d.value h.0 (rows_in_declarators rest later) (in_declarators rest h.1 later k)

-- ---- statements

in_start : (start : p.ForStart) → ShortStart start → Says (rows_in_start start)
in_start (p.StartEffects effects) h later k = in_effects effects h later k
in_start (p.StartDeclaration declarators) h later k = in_declarators declarators h later k

in_optional : (test : Option p.Expression) → ShortTest test → Says (rows_in_optional test)
in_optional None h later k = k
in_optional (Some e) h later k = in_expression e h later k

in_value : (value : p.ReturnValue) → ShortValue value → Says (rows_in_value value)
in_value p.ReturnNothing h later k = k
in_value (p.ReturnNumber e) h later k = in_expression e h later k
in_value (p.ReturnStructure value n) h later k = in_structure value h later k

in_counted : (bit : Option ℕ) (span : Span) (f : Rows) → IsShortBit bit → Says f → Says (counted bit span f)
in_counted None span f h s later k = s later k
in_counted (Some b) span f h s later k = (h, s _ (tt, k))

in_declared : (bit : Option ℕ) (span : Span) → IsShortBit bit → Says (counted_declaration bit span)
in_declared None span h later k = k
in_declared (Some b) span h later k = (h, k)

in_label : (mark : Option Mark) (span : Span) → IsShortMark mark → Says (label mark span)
in_label None span h later k = k
in_label (Some m) span h later k = (h, k)

in_absent : (mark : Option Mark) (span : Span) → IsShortMark mark → Says (absent_default mark span)
in_absent None span h later k = k
in_absent (Some m) span h later k = (h, k)

in_return : (exit : Option ℕ) (span : Span) (value : p.ReturnValue) → IsShortBit exit → ShortValue value → Says (rows_in_return exit span value)
in_return None span value h v later k = in_value value v later k
in_return (Some b) span p.ReturnNothing h v later k = (h, (tt, k))
in_return (Some b) span (p.ReturnNumber e) h v later k = ((refl, refl), in_expression e v _ (h, k))
in_return (Some b) span (p.ReturnStructure value n) h v later k = ((refl, refl), in_structure value v _ (h, k))

mutual
  in_statement : (s : p.Statement) → ShortStatement s → Says (rows_in_statement s)
  in_statement (p.Compound items span) h later k = in_statements items h later k
  in_statement (p.Label v span mark) h later k = in_label mark span h later k
  in_statement (p.Declaration declarators span bit) h later k = in_declared bit span h.0 (rows_in_declarators declarators later) (in_declarators declarators h.1 later k)
  in_statement (p.Null span bit) h later k = in_counted bit span _ h (λ later k. k) later k
  in_statement (p.EffectStatement a span bit) h later k = in_counted bit span _ h.0 (in_effect a h.1) later k
  in_statement (p.If e s keyword span bit) h later k =
      in_counted bit span (λ later. rows e (rows_in_statement s later)) h.0 (λ later k. in_expression e h.1 (rows_in_statement s later) (in_statement s h.2 later k)) later k
  in_statement (p.IfElse e s u keyword span bit) h later k =
      in_counted bit span (λ later. rows e (rows_in_statement s (rows_in_statement u later))) h.0
      (λ later k. in_expression e h.1 (rows_in_statement s (rows_in_statement u later)) (in_statement s h.2 (rows_in_statement u later) (in_statement u h.3 later k))) later k
  in_statement (p.Switch e items keyword span bit absent) h later k =
      in_counted bit span (λ later. rows e (rows_in_statements items (absent_default absent span later))) h.0
      (λ later k. in_expression e h.1 (rows_in_statements items (absent_default absent span later)) (in_statements items h.2 (absent_default absent span later) (in_absent absent span h.3 later k))) later k
  in_statement (p.For start test step s keyword span bit) h later k =
      in_counted bit span (λ later. rows_in_start start (rows_in_optional test (rows_in_effects step (rows_in_statement s later)))) h.0
      (λ later k. in_start start h.1 (rows_in_optional test (rows_in_effects step (rows_in_statement s later)))
      (in_optional test h.2 (rows_in_effects step (rows_in_statement s later)) (in_effects step h.3 (rows_in_statement s later) (in_statement s h.4 later k)))) later k
  in_statement (p.DoWhile s e keyword span bit) h later k =
      in_counted bit span (λ later. rows_in_statement s (rows e later)) h.0 (λ later k. in_statement s h.1 (rows e later) (in_expression e h.2 later k)) later k
  in_statement (p.Break span bit) h later k = in_counted bit span _ h (λ later k. k) later k
  in_statement (p.Continue span bit) h later k = in_counted bit span _ h (λ later k. k) later k
  in_statement (p.Return value span bit exit) h later k = in_counted bit span _ h.0 (in_return exit span value h.1 h.2) later k

  in_statements : (all : p.Statements) → ShortStatements all → Says (rows_in_statements all)
  in_statements p.no_statements h later k = k
  in_statements (p.statements s rest) h later k = in_statement s h.0 (rows_in_statements rest later) (in_statements rest h.1 later k)

-- ---- functions

in_registers : (f : p.Function) → numbers.IsShort f.registers → Says (register_row f)
in_registers f h later k = by_test (nat_eq f.registers 0) refl
  where
    by_test : (b : Bool) → nat_eq f.registers 0 ≡ b
        → AreSaid (cond b later (record { what = what.Registers f.registers; span = f.name_span; end = f.closing.end } ∷ later))
    by_test true e = k
    by_test false e = ((e, h), k)

in_entry : (f : p.Function) (e : Option ℕ) → IsShortBit e → Says (entry_row f e)
in_entry f None h later k = k
in_entry f (Some b) h later k = (h, k)

in_exit : (f : p.Function) (e : Option ℕ) → IsShortBit e → Says (exit_row f e)
in_exit f None h later k = k
in_exit f (Some b) h later k = (h, k)

in_functions : (fs : List p.Function) → ShortFunctions fs → Says (rows_in_functions fs)
in_functions [] h later k = k
in_functions (f ∷ rest) h later k =
    let one : ShortFunction f = h.0 in
    in_registers f one.0 _ (in_entry f f.entry one.1 _ (in_statements f.body one.3 _ (in_exit f f.exit one.2 _ (in_functions rest h.1 later k))))

pub rows_said : RowsAreSaid
rows_said tree h = in_functions tree.program.functions h [] tt
